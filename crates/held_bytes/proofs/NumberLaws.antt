-- Laws of a TRB by numbers: where a place has them, and that the numbers of a TRB say it. Assumes nothing.
use Prim.Native.Nat.{ℕ, ◌+◌, ◌*◌, ◌/◌, ◌%◌, ◌^◌, ◌≤◌}
use mathlib.Core.Path.{◌≡◌, refl, ap, ◌∙◌}
use mathlib.Core.Bool.{Bool, true, false}
use mathlib.Core.List.{List}
use native.Mathlib.Nat.{add-zero}
use native.Mathlib.Omega.{arith}
use lib.Dec.{eqb}
use lib.ListN.{drop, get_or}
use lib.Seq.{drop-drop, get_or-drop}
use Rattle.buffers.specs.LittleEndian.{le_field}
use Rattle.trb.specs.Limits.{max_transfer_length}
use Rattle.trb.specs.declared.TransferTrb.{TransferTrb}
use Rattle.trb.specs.declared.TransferTrbVariant.{TransferTrbVariant}
use Rattle.trb.specs.declared.TransferTrbVariant.TheVariants.{SetupStage, DataStage, StatusStage, Normal, EventData, NoOp, Isoch, Unrecognized}
use Rattle.raw_trb.specs.Fields.{bit_number}
use Rattle.held_bytes.specs.Numbers.{bit_of, flags_of, setup_value, SetupFits, trb_numbers, variant_numbers, variant_of, trb_of, numbers_of}
use Rattle.held_bytes.specs.Places.{numbers_at}
use Rattle.held_bytes.specs.declared.TrbNumbers.{TrbNumbers}

pub numbers-drop : (l : List ℕ) (at : ℕ) → numbers_at (drop at l)
    ≡ trb_numbers (get_or l (at + 20) 0) (get_or l (at + 21) 0) (le_field at 8 l) (le_field (at + 8) 8 l) (le_field (at + 16) 4 l % (max_transfer_length + 1))
numbers-drop l at = simp (drop-drop, get_or-drop, add-zero)

-- ---- Each flag of the flags

on : (b : Bool) → eqb (bit_number b) 1 ≡ b
on true = refl
on false = refl

few : (b : Bool) → bit_number b ≤ 1
few true = omega arith
few false = omega arith

module _ (y c i s m d : Bool) where
  all-few : (bit_number y ≤ 1) × ((bit_number c ≤ 1) × ((bit_number i ≤ 1) × ((bit_number s ≤ 1) × ((bit_number m ≤ 1) × (bit_number d ≤ 1)))))
  all-few = (few y, (few c, (few i, (few s, (few m, few d)))))

  flag : (weight : ℕ) (b : Bool) → flags_of y c i s m d / weight % 2 ≡ bit_number b → bit_of (flags_of y c i s m d) weight ≡ b
  flag weight b e = ap (λ (n : ℕ). eqb n 1) e ∙ on b

  pub cycle-flag : bit_of (flags_of y c i s m d) 1 ≡ y
  cycle-flag = flag 1 y (omega (arith, all-few))

  pub chain-flag : bit_of (flags_of y c i s m d) 2 ≡ c
  chain-flag = flag 2 c (omega (arith, all-few))

  pub completion-flag : bit_of (flags_of y c i s m d) 4 ≡ i
  completion-flag = flag 4 i (omega (arith, all-few))

  pub short-flag : bit_of (flags_of y c i s m d) 8 ≡ s
  short-flag = flag 8 s (omega (arith, all-few))

  pub immediate-flag : bit_of (flags_of y c i s m d) 16 ≡ m
  immediate-flag = flag 16 m (omega (arith, all-few))

  pub direction-flag : bit_of (flags_of y c i s m d) 32 ≡ d
  direction-flag = flag 32 d (omega (arith, all-few))

-- ---- The numbers of a TRB say it

said-variant : (v : TransferTrbVariant) (y : Bool) (a : ℕ) → SetupFits v → let n = variant_numbers v y a in variant_of n.kind n.flags n.value n.transfer_length ≡ v
unfolding variant_of
said-variant (SetupStage t) y a h =
    let r1 : ℕ = t.value + 2 ^ 16 * (t.index + 2 ^ 16 * t.length) in
    let r2 : ℕ = t.index + 2 ^ 16 * t.length in
    let e0 : setup_value t % 256 ≡ t.request_type = omega arith in
    let q1 : setup_value t / 2 ^ 8 ≡ t.request + 256 * r1 = omega arith in
    let e1 : setup_value t / 2 ^ 8 % 256 ≡ t.request = rw q1 (omega arith) in
    let q2 : setup_value t / 2 ^ 16 ≡ t.value + 65536 * r2 = omega arith in
    let e2 : setup_value t / 2 ^ 16 % 65536 ≡ t.value = rw q2 (omega arith) in
    let q3 : setup_value t / 2 ^ 32 ≡ t.index + 65536 * t.length = omega arith in
    let e3 : setup_value t / 2 ^ 32 % 65536 ≡ t.index = rw q3 (omega arith) in
    let q4 : setup_value t / 2 ^ 48 ≡ t.length = omega arith in
    let e4 : setup_value t / 2 ^ 48 % 65536 ≡ t.length = rw q4 (omega arith) in
    let f = completion-flag y false t.interrupt_on_completion false false false in
    λ j. SetupStage (record { request_type = e0 j; request = e1 j; value = e2 j; index = e3 j; length = e4 j; interrupt_on_completion = f j })
said-variant (DataStage t) y a h =
    let c = t.chain in
    let i = t.interrupt_on_completion in
    let s = t.interrupt_on_short in
    let m = t.immediate_data in
    let d = t.direction in
    λ j. DataStage (record {
      data_pointer = t.data_pointer;
      transfer_length = t.transfer_length;
      chain = chain-flag y c i s m d j;
      interrupt_on_completion = completion-flag y c i s m d j;
      interrupt_on_short = short-flag y c i s m d j;
      immediate_data = immediate-flag y c i s m d j;
      direction = direction-flag y c i s m d j;
    })
said-variant (StatusStage t) y a h =
    let c = t.chain in
    let i = t.interrupt_on_completion in
    let d = t.direction in
    λ j. StatusStage (record { chain = chain-flag y c i false false d j; interrupt_on_completion = completion-flag y c i false false d j; direction = direction-flag y c i false false d j })
said-variant (Normal t) y a h =
    let c = t.chain in
    let i = t.interrupt_on_completion in
    let s = t.interrupt_on_short in
    let m = t.immediate_data in
    λ j. Normal (record {
      data_pointer = t.data_pointer;
      transfer_length = t.transfer_length;
      interrupt_on_short = short-flag y c i s m false j;
      chain = chain-flag y c i s m false j;
      interrupt_on_completion = completion-flag y c i s m false j;
      immediate_data = immediate-flag y c i s m false j;
    })
said-variant (EventData t) y a h =
    let c = t.chain in
    let i = t.interrupt_on_completion in
    λ j. EventData (record { event_data = t.event_data; chain = chain-flag y c i false false false j; interrupt_on_completion = completion-flag y c i false false false j })
said-variant (NoOp t) y a h =
    let c = t.chain in
    let i = t.interrupt_on_completion in
    λ j. NoOp (record { chain = chain-flag y c i false false false j; interrupt_on_completion = completion-flag y c i false false false j })
said-variant Isoch y a h = refl
said-variant Unrecognized y a h = refl

said-cycle : (v : TransferTrbVariant) (y : Bool) (a : ℕ) → bit_of (variant_numbers v y a).flags 1 ≡ y
said-cycle (SetupStage t) y a = cycle-flag y false t.interrupt_on_completion false false false
said-cycle (DataStage t) y a = cycle-flag y t.chain t.interrupt_on_completion t.interrupt_on_short t.immediate_data t.direction
said-cycle (StatusStage t) y a = cycle-flag y t.chain t.interrupt_on_completion false false t.direction
said-cycle (Normal t) y a = cycle-flag y t.chain t.interrupt_on_completion t.interrupt_on_short t.immediate_data false
said-cycle (EventData t) y a = cycle-flag y t.chain t.interrupt_on_completion false false false
said-cycle (NoOp t) y a = cycle-flag y t.chain t.interrupt_on_completion false false false
said-cycle Isoch y a = cycle-flag y false false false false false
said-cycle Unrecognized y a = cycle-flag y false false false false false

said-addr : (v : TransferTrbVariant) (y : Bool) (a : ℕ) → (variant_numbers v y a).addr ≡ a
said-addr (SetupStage t) y a = refl
said-addr (DataStage t) y a = refl
said-addr (StatusStage t) y a = refl
said-addr (Normal t) y a = refl
said-addr (EventData t) y a = refl
said-addr (NoOp t) y a = refl
said-addr Isoch y a = refl
said-addr Unrecognized y a = refl

trb_of-numbers_of : (t : TransferTrb) → SetupFits t.variant → trb_of (numbers_of t) ≡ t
trb_of-numbers_of t h =
    let v = said-variant t.variant t.cycle_bit t.addr h in
    let a = said-addr t.variant t.cycle_bit t.addr in
    let y = said-cycle t.variant t.cycle_bit t.addr in
    λ j. record { variant = v j; addr = a j; cycle_bit = y j }

pub numbers-said : (t : TransferTrb) {r : TrbNumbers} → r ≡ numbers_of t → SetupFits t.variant → (r ≡ numbers_of t) × (trb_of r ≡ t)
numbers-said t e h = (e, ap trb_of e ∙ trb_of-numbers_of t h)
