-- 00, demand 3: the guest's account of an IN TD is the device's; 01, IN endpoint, makes it a single claim about a completion's whole log.
-- Here: the list held, what the guest reads off a log, and the claim `Account`, over lists of any length. Assumes nothing.
use Rattle.std.specs.Prelude.{ℕ, zero, suc, ◌+◌, ◌-◌, ◌≤◌, min, ◌≡◌, Bool, true, false, not, cond, ◌&&◌, ◌||◌, List, [], ◌∷◌, ◌++◌, eqb, take, drop}
use Rattle.std.proofs.Math.Option.{Option, none, some}
use Rattle.trb.specs.Codes.{code_number}
use Rattle.trb.specs.declared.CompletionCode.TheVariants.{Success}
use Rattle.trb.specs.declared.NormalTrb.{NormalTrb}
use Rattle.trb.specs.declared.TransferTrb.{TransferTrb}
use Rattle.in_td.specs.Normals.{normal_of, normal_length, requested}
use Rattle.call_log.specs.Records.{write_kind, event_kind}
use Rattle.call_log.specs.declared.Record.{Record}

-- ---- The list held

-- 00, demand 3: sums the Normal lengths through that TRB; 01: the sum takes in the TRB at the event's address
abbrev pub through : ℕ → List TransferTrb → ℕ
through a [] = 0
through a (t ∷ ts) = normal_length t + cond (eqb t.addr a) 0 (through a ts)

-- is a TRB at address a held?
abbrev pub is_held : ℕ → List TransferTrb → Bool
is_held a [] = false
is_held a (t ∷ ts) = eqb t.addr a || is_held a ts

-- the n whole numbers from a on
abbrev pub range : ℕ → ℕ → List ℕ
range a zero = []
range a (suc n) = a ∷ range (suc a) n

abbrev pub range_of : Option NormalTrb → List ℕ
range_of none = []
range_of (some t) = range t.data_pointer t.transfer_length

-- a Normal's guest range, in whole numbers; another TRB has none
abbrev pub normal_range : TransferTrb → List ℕ
normal_range t = range_of (normal_of t.variant)

-- 01, IN endpoint: lay the Normals' guest ranges, in whole numbers, end to end in the order held: the address at position k, counted
-- from 0, is the place of the device's byte k
abbrev pub places : List TransferTrb → List ℕ
places [] = []
places (t ∷ ts) = normal_range t ++ places ts

-- 00, demand 3: held TRBs at distinct addresses
abbrev pub Apart : ℕ → List TransferTrb → Type 0
Apart a [] = Unit {0}
Apart a (t ∷ ts) = (a ≡ t.addr → ⊥) × Apart a ts

abbrev pub Distinct : List TransferTrb → Type 0
Distinct [] = Unit {0}
Distinct (t ∷ ts) = Apart t.addr ts × Distinct ts

-- 00, demand 3: with interrupt-on-short on every Normal TRB
abbrev pub IspIfNormal : Option NormalTrb → Type 0
IspIfNormal none = Unit {0}
IspIfNormal (some t) = t.interrupt_on_short ≡ true

abbrev pub IspOnNormals : List TransferTrb → Type 0
IspOnNormals [] = Unit {0}
IspOnNormals (t ∷ ts) = IspIfNormal (normal_of t.variant) × IspOnNormals ts

-- 00, demand 3: and a last TRB that is Normal with interrupt-on-completion
abbrev pub NormalWithIoc : Option NormalTrb → Type 0
NormalWithIoc none = ⊥
NormalWithIoc (some t) = t.interrupt_on_completion ≡ true

abbrev pub LastNormalWithIoc : List TransferTrb → Type 0
LastNormalWithIoc [] = ⊥
LastNormalWithIoc (t ∷ []) = NormalWithIoc (normal_of t.variant)
LastNormalWithIoc (t ∷ u ∷ ts) = LastNormalWithIoc (u ∷ ts)

-- ---- The log

abbrev pub is_write : Record → Bool
is_write r = eqb r.kind write_kind

abbrev pub is_event : Record → Bool
is_event r = eqb r.kind event_kind

-- 00, demand 3: an event without the event-data flag and with a code other than Success
abbrev pub is_unsuccessful : Record → Bool
is_unsuccessful r = is_event r && (eqb r.flag 0 && not (eqb r.code (code_number Success)))

-- is there a record that passes the test?
abbrev pub any : (Record → Bool) → List Record → Bool
any test [] = false
any test (r ∷ rs) = test r || any test rs

-- the first record that passes the test
abbrev pub first : (Record → Bool) → List Record → Option Record
first test [] = none
first test (r ∷ rs) = cond (test r) (some r) (first test rs)

-- how many records come before the first that passes the test
abbrev pub before_first : (Record → Bool) → List Record → ℕ
before_first test [] = 0
before_first test (r ∷ rs) = cond (test r) 0 (suc (before_first test rs))

-- how many records come before the last that passes the test
abbrev pub before_last : (Record → Bool) → List Record → ℕ
before_last test [] = 0
before_last test (r ∷ rs) = cond (any test rs) (suc (before_last test rs)) 0

-- 00, demand 3: the guest takes the log's first event without the event-data flag and with a code other than Success
abbrev pub relied : List Record → Option Record
relied rs = first is_unsuccessful rs

-- sums the Normal lengths through that TRB; with no such event it takes S
abbrev pub sum_for : List TransferTrb → Option Record → ℕ
sum_for ts none = requested ts
sum_for ts (some r) = through r.address ts

-- and subtracts the residual
abbrev pub residual_in : Option Record → ℕ
residual_in none = 0
residual_in (some r) = r.length

-- the guest's account
abbrev pub account : List TransferTrb → List Record → ℕ
account ts rs = sum_for ts (relied rs) - residual_in (relied rs)

-- the event relied on, if there is one, names a held TRB
abbrev pub names_held : List TransferTrb → Option Record → Bool
names_held ts none = true
names_held ts (some r) = is_held r.address ts

-- how many records come before the event relied on or, if there is none, before the last event
abbrev pub count_before : List Record → ℕ
count_before rs = cond (any is_unsuccessful rs) (before_first is_unsuccessful rs) (before_last is_event rs)

-- those records
abbrev pub before : List Record → List Record
before rs = take (count_before rs) rs

-- and the records from that event on
abbrev pub later : List Record → List Record
later rs = drop (count_before rs) rs

-- each address with its number, from k on
abbrev pub numbered : ℕ → List ℕ → List (ℕ × ℕ)
numbered k [] = []
numbered k (a ∷ rest) = (k, a) ∷ numbered (suc k) rest

-- 01, IN endpoint: a write of m bytes from start s at address a stands for byte s + i at a + i, i below m
abbrev pub stands_for : Record → List (ℕ × ℕ)
stands_for r = numbered r.start (range r.address r.length)

-- what the writes of a log stand for, in log order
abbrev pub bytes : List Record → List (ℕ × ℕ)
bytes [] = []
bytes (r ∷ rs) = cond (is_write r) (stands_for r) [] ++ bytes rs

-- the lengths of a log's writes, added up
abbrev pub write_lengths : List Record → ℕ
write_lengths [] = 0
write_lengths (r ∷ rs) = cond (is_write r) r.length 0 + write_lengths rs

-- ---- Demand 3, of a log's records, for the list held and the device's n bytes

pub record Account (n : ℕ) (ts : List TransferTrb) (rs : List Record) : Type 0 where
  -- the event relied on, if there is one, names a held TRB, and its residual is no more than the sum through that TRB
  pub held : names_held ts (relied rs) ≡ true
  pub covered : residual_in (relied rs) ≤ sum_for ts (relied rs)
  -- the guest gets exactly min(n, S)
  pub exact : account ts rs ≡ min n (requested ts)
  -- there is an event: the one relied on or, if there is none, the last
  pub has_event : any is_event rs ≡ true
  -- the writes before it are exactly the device's first min(n, S) bytes, each once, in TRB order, at its place
  pub placed : bytes (before rs) ≡ numbered 0 (take (min n (requested ts)) (places ts))
  -- no write comes later, not even of 0 bytes
  pub none_later : any is_write (later rs) ≡ false
