-- Laws of the log, by which callers reason: none of them needs the bytes of a record. Assumes nothing.
use Prim.Native.Nat.{ℕ, zero, suc, ◌+◌, ◌-◌, ◌*◌, ◌≤◌, ◌<◌}
use mathlib.Core.Path.{◌≡◌, refl, sym, ap, ◌∙◌}
use mathlib.Core.List.{List, [], ◌∷◌, ◌++◌, append_assoc}
use native.Mathlib.Omega.{arith}
use lib.ListN.{length, drop, get_or, length-append}
use lib.Seq.{drop-drop}
use Rattle.buffers.proofs.PatchLaws.{length-patch, patch-none, patch-append, drop-patch}
use Rattle.trb.specs.Limits.{record_length}
use Rattle.call_log.specs.declared.Record.{Record}
use Rattle.call_log.specs.Records.{encode, record_at}
use Rattle.call_log.specs.Logs.{encode_all, logged, records_in, AllFit}
use Rattle.call_log.proofs.RecordLaws.{decode-encode}

pub length-encode_all : (rs : List Record) → length (encode_all rs) ≡ record_length * length rs
unfolding encode_all
length-encode_all [] = refl
length-encode_all (r ∷ rs) = length-append (encode r) (encode_all rs) ∙ omega (arith, length-encode_all rs)

pub encode_all-append : (rs ss : List Record) → encode_all (rs ++ ss) ≡ encode_all rs ++ encode_all ss
unfolding encode_all
encode_all-append [] ss = refl
encode_all-append (r ∷ rs) ss = ap (λ (l : List ℕ). encode r ++ l) (encode_all-append rs ss) ∙ sym (append_assoc (encode r) (encode_all rs) (encode_all ss))

pub AllFit-append : (rs ss : List Record) → AllFit rs → AllFit ss → AllFit (rs ++ ss)
AllFit-append [] ss f g = g
AllFit-append (r ∷ rs) ss f g = (f.0, AllFit-append rs ss f.1 g)

pub length-logged : (l : List ℕ) (k : ℕ) (rs : List Record) → record_length * (k + length rs) ≤ length l → length (logged l k rs) ≡ length l
unfolding logged
length-logged l k rs h = length-patch l (record_length * k) (encode_all rs) (omega (arith, length-encode_all rs))

pub logged_none : (l : List ℕ) (k : ℕ) → logged l k [] ≡ l
unfolding logged encode_all
logged_none l k = patch-none l (record_length * k)

-- the records rs, and then ss behind them
pub logged-append : (l : List ℕ) (k : ℕ) (rs ss : List Record) → record_length * (k + length rs) ≤ length l
    → logged (logged l k rs) (k + length rs) ss ≡ logged l k (rs ++ ss)
unfolding logged
logged-append l k rs ss h =
    let at : record_length * (k + length rs) ≡ record_length * k + length (encode_all rs) = omega (arith, length-encode_all rs) in
    rw (at, patch-append l (record_length * k) (encode_all rs) (encode_all ss) (omega (arith, length-encode_all rs)), encode_all-append)

-- reading back: a log's first records
pub records_in-encode_all : (rs : List Record) (rest : List ℕ) → AllFit rs → records_in (length rs) (encode_all rs ++ rest) ≡ rs
unfolding encode_all
records_in-encode_all [] rest f = refl
records_in-encode_all (r ∷ rs) rest f = λ i. decode-encode r (encode_all rs ++ rest) f.0 i ∷ records_in-encode_all rs rest f.1 i

-- what is logged from a place on is what is read from there on
pub records_in-logged : (l : List ℕ) (k : ℕ) (rs : List Record) → record_length * k ≤ length l → AllFit rs
    → records_in (length rs) (drop (record_length * k) (logged l k rs)) ≡ rs
unfolding logged
records_in-logged l k rs h f = rw (drop-patch l (record_length * k) (encode_all rs) h) (records_in-encode_all rs _ f)

-- and the record at any place
pub record_at-logged : (l : List ℕ) (k : ℕ) (r : Record) (rs : List Record) → record_length * k ≤ length l → AllFit (r ∷ rs)
    → record_at (logged l k (r ∷ rs)) k ≡ r
unfolding record_at
record_at-logged l k r rs h f = ap (λ (l : List Record). head l) (records_in-logged l k (r ∷ rs) h f)
  where
    head : List Record → Record
    head [] = r
    head (x ∷ xs) = x

-- of n records, those from number i on are record number i and those behind it
pub records_in-next : (n i : ℕ) (l : List ℕ) → i < n
    → records_in (n - i) (drop (record_length * i) l) ≡ record_at l i ∷ records_in (n - (i + 1)) (drop (record_length * (i + 1)) l)
unfolding record_at
records_in-next n i l h =
    let left : n - i ≡ suc (n - (i + 1)) = omega arith in
    let at : record_length * i + record_length ≡ record_length * (i + 1) = omega arith in
    rw (left, drop-drop record_length (record_length * i) l, at)

-- the record at each number is the one there
pub get_or-records_in : (n i : ℕ) (l : List ℕ) (d : Record) → i < n → get_or (records_in n l) i d ≡ record_at l i
unfolding record_at
get_or-records_in zero i l d h = absurd (omega arith)
get_or-records_in (suc n) zero l d h = refl
get_or-records_in (suc n) (suc i) l d h =
    let next : record_length + record_length * i ≡ record_length * suc i = omega arith in
    get_or-records_in n i (drop record_length l) d (omega arith) ∙ rw (drop-drop (record_length * i) record_length l, next)
