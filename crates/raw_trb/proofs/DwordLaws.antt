-- Laws of dwords and of their fields. Assumes nothing.
use Prim.Native.Nat.{ℕ, ◌+◌, ◌*◌, ◌/◌, ◌%◌, ◌<◌, ◌≤◌, ◌^◌}
use mathlib.Core.Bool.{Bool, true, false, ◌&&◌}
use mathlib.Core.List.{List, [], ◌∷◌}
use mathlib.Core.Path.{◌≡◌, refl}
use mir.Val.{bool_byte}
use lib.Dec.{eqb, lit≤}
use native.Mathlib.Nat.{mod-eq_of_lt}
use native.Mathlib.Omega.{arith}
use borrow.Author.Tests.{eqb-true, eqb-false}
use Rattle.std.specs.Int.Bits.{bit_or, or_shifted_r}
use Rattle.buffers.proofs.LittleEndianLaws.{le_number-le_bytes}
use Rattle.trb.proofs.TestLaws.{and_left, and_right}
use Rattle.raw_trb.specs.declared.Dwords.{Dwords}
use Rattle.raw_trb.specs.Fields.{Field, bits, field_of, is_set, zero_too, all_zero, bit_number, dwords_of, bytes_of}
use Rattle.raw_trb.specs.Layouts.{pointer_low, pointer_high}
use Rattle.raw_trb.specs.Raw.{pointer_of}

-- dwords are equal by their numbers
pub dwords-eq : {a b : Dwords} → a.d0 ≡ b.d0 → a.d1 ≡ b.d1 → a.d2 ≡ b.d2 → a.d3 ≡ b.d3 → a ≡ b
dwords-eq p q r s = λ i. record { d0 = p i; d1 = q i; d2 = r i; d3 = s i }

-- each dword has 32 bits
pub record Small (d : Dwords) : Type 0 where
  pub d0 : d.d0 < 2 ^ 32
  pub d1 : d.d1 < 2 ^ 32
  pub d2 : d.d2 < 2 ^ 32
  pub d3 : d.d3 < 2 ^ 32

-- the dwords of their bytes
pub dwords_of-bytes_of : (d : Dwords) → Small d → dwords_of (bytes_of d) ≡ d
dwords_of-bytes_of d h =
    dwords-eq (le_number-le_bytes 4 d.d0 h.d0) (le_number-le_bytes 4 d.d1 h.d1) (le_number-le_bytes 4 d.d2 h.d2) (le_number-le_bytes 4 d.d3 h.d3)

-- ---- A bit

pub bit-small : (b : Bool) → bit_number b ≤ 1
bit-small true = lit≤ tt
bit-small false = lit≤ tt

pub set-bit : (n : ℕ) (b : Bool) → n ≡ bit_number b → eqb n 1 ≡ b
set-bit n true e = rw e
set-bit n false e = rw e

-- the number of a bit that is read
pub number-of-set : (k l : ℕ) (d : Dwords) → bit_number (is_set (bits k l 1) d) ≡ field_of (bits k l 1) d
number-of-set k l d = by_number (field_of (bits k l 1) d) (omega arith)
  where
    by-test : (n : ℕ) (b : Bool) → eqb n 1 ≡ b → n < 2 → bit_number b ≡ n
    by-test n true e h = omega (arith, eqb-true n 1 e)
    by-test n false e h = let f : n ≡ 1 → ⊥ = eqb-false n 1 e in omega arith

    by_number : (n : ℕ) → n < 2 → bit_number (eqb n 1) ≡ n
    by_number n h = by-test n (eqb n 1) refl h

-- a bool as a number, in code
pub byte-of-bit : (b : Bool) → bool_byte b ≡ bit_number b
byte-of-bit true = refl
byte-of-bit false = refl

-- a number that is put, by bits, above another one is added to it
pub or-above : (m k a b : ℕ) → b < 2 ^ k → a * 2 ^ k < m → bit_or b (a * 2 ^ k % m) ≡ b + a * 2 ^ k
or-above m k a b low fits = rw (mod-eq_of_lt fits, or_shifted_r a k b low) (omega arith)

-- ---- A pointer

pub pointer-low : (d : Dwords) → pointer_of d % 2 ^ 32 ≡ field_of pointer_low d
pointer-low d = omega arith

pub pointer-high : (d : Dwords) → pointer_of d / 2 ^ 32 ≡ field_of pointer_high d
pointer-high d = omega arith

-- ---- Fields that are zero

abbrev pub AllZero : List Field → Dwords → Type 0
AllZero [] d = Unit {0}
AllZero (f ∷ fs) d = (field_of f d ≡ 0) × AllZero fs d

pub all-zero : (fs : List Field) (d : Dwords) → AllZero fs d → all_zero fs d ≡ true
all-zero [] d h = refl
all-zero (f ∷ fs) d h = rw h.0 (all-zero fs d h.1)

zero-too : (b : Bool) (fs : List Field) (d : Dwords) → zero_too b fs d ≡ true → (b ≡ true) × AllZero fs d
zero-too b [] d h = (h, tt)
zero-too b (f ∷ fs) d h =
    let rest = zero-too (b && eqb (field_of f d) 0) fs d h in
    (and_left b (eqb (field_of f d) 0) rest.0, (eqb-true (field_of f d) 0 (and_right b (eqb (field_of f d) 0) rest.0), rest.1))

pub zero-all : (fs : List Field) (d : Dwords) → all_zero fs d ≡ true → AllZero fs d
zero-all fs d h = (zero-too true fs d h).1
