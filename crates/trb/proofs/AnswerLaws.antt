-- Laws of the numbers of answers, and of a call by its answer to the questions. Assumes nothing.
use Rattle.std.specs.Prelude.{Err, Ok}
use Rattle.std.specs.Result.{is_ok, is_err}
use Prim.Native.Nat.{ℕ}
use mathlib.Core.Path.{◌≡◌, refl, sym, ap, ◌∙◌}
use mathlib.Core.Bool.{Bool, true, false, true≢false}
use mathlib.Core.List.{List}
use lib.Dec.{eqb}
use Rattle.trb.specs.Answers.{number_of, is_accepted, refusal_of}
use Rattle.trb.specs.Questions.{first_no, after_questions}
use Rattle.trb.specs.Refusals.{refusal_number}
use Rattle.trb.specs.Answers.{Answer}
use Rattle.trb.specs.declared.Refusal.{Refusal}
use Rattle.trb.specs.declared.Refusal.TheVariants.{BufferTooShort, UnsoundBlock, OutOfTurn, TransferTooLong, TooManyHeld, OutsideGuestMemory, TooMuchCollected, DeviceResultMismatch, DataTooLong, MalformedLog, WriteOutOfRange, IdOutOfRange, RegionsOverlap, OutputTooShort, MalformedRow, NotACapture, NotConvertible, LinkTypesDiffer, TimesGoBackwards, ImmediateInput, NotEncodable}

-- a refusal's number stands for that refusal
pub refusal_of-number : (r : Refusal) → refusal_of (refusal_number r) ≡ r
unfolding refusal_of
refusal_of-number BufferTooShort = refl
refusal_of-number UnsoundBlock = refl
refusal_of-number OutOfTurn = refl
refusal_of-number TransferTooLong = refl
refusal_of-number TooManyHeld = refl
refusal_of-number OutsideGuestMemory = refl
refusal_of-number TooMuchCollected = refl
refusal_of-number DeviceResultMismatch = refl
refusal_of-number DataTooLong = refl
refusal_of-number MalformedLog = refl
refusal_of-number WriteOutOfRange = refl
refusal_of-number IdOutOfRange = refl
refusal_of-number RegionsOverlap = refl
refusal_of-number OutputTooShort = refl
refusal_of-number MalformedRow = refl
refusal_of-number NotACapture = refl
refusal_of-number NotConvertible = refl
refusal_of-number LinkTypesDiffer = refl
refusal_of-number TimesGoBackwards = refl
refusal_of-number ImmediateInput = refl
refusal_of-number NotEncodable = refl

-- two refusals never have one number
pub refusal_number-injective : (q r : Refusal) → refusal_number q ≡ refusal_number r → q ≡ r
refusal_number-injective q r e = sym (refusal_of-number q) ∙ ap refusal_of e ∙ refusal_of-number r

-- 0 is the number of no refusal
pub refusal_number-positive : (r : Refusal) → eqb (refusal_number r) 0 ≡ false
refusal_number-positive BufferTooShort = refl
refusal_number-positive UnsoundBlock = refl
refusal_number-positive OutOfTurn = refl
refusal_number-positive TransferTooLong = refl
refusal_number-positive TooManyHeld = refl
refusal_number-positive OutsideGuestMemory = refl
refusal_number-positive TooMuchCollected = refl
refusal_number-positive DeviceResultMismatch = refl
refusal_number-positive DataTooLong = refl
refusal_number-positive MalformedLog = refl
refusal_number-positive WriteOutOfRange = refl
refusal_number-positive IdOutOfRange = refl
refusal_number-positive RegionsOverlap = refl
refusal_number-positive OutputTooShort = refl
refusal_number-positive MalformedRow = refl
refusal_number-positive NotACapture = refl
refusal_number-positive NotConvertible = refl
refusal_number-positive LinkTypesDiffer = refl
refusal_number-positive TimesGoBackwards = refl
refusal_number-positive ImmediateInput = refl
refusal_number-positive NotEncodable = refl

pub accepted-is : (a : Answer) → is_accepted a ≡ true → a ≡ Ok tt
accepted-is (Ok tt) e = refl
accepted-is (Err r) e = absurd (true≢false (sym e))

pub refused-is : (a : Answer) → is_accepted a ≡ false → Err (refusal_of (number_of a)) ≡ a
refused-is (Ok tt) e = absurd (true≢false e)
refused-is (Err r) e = ap (λ (q : Refusal). Err q) (refusal_of-number r)

-- by what the library says of a result
pub accepted-if : (a : Answer) → is_err a ≡ false → is_accepted a ≡ true
accepted-if (Ok tt) e = refl
accepted-if (Err r) e = absurd (true≢false e)

pub refused-if : (a : Answer) → is_err a ≡ true → is_accepted a ≡ false
refused-if (Ok tt) e = absurd (true≢false (sym e))
refused-if (Err r) e = refl

pub accepted-ok : (a : Answer) → is_ok a ≡ true → is_accepted a ≡ true
accepted-ok (Ok tt) e = refl
accepted-ok (Err r) e = absurd (true≢false (sym e))

-- a call whose questions were answered so
module _ {A : Type 0} (qs : List (Bool × ℕ)) (refused : ℕ → A) (accepted : A) where
  pub answered-yes : (a : Answer) → number_of a ≡ first_no qs → is_accepted a ≡ true → after_questions qs refused accepted ≡ accepted
  answered-yes (Ok tt) e passed = rw (← e)
  answered-yes (Err r) e passed = absurd (true≢false (sym passed))

  pub answered-no : (a : Answer) → number_of a ≡ first_no qs → is_accepted a ≡ false → after_questions qs refused accepted ≡ refused (number_of a)
  answered-no (Ok tt) e failed = absurd (true≢false failed)
  answered-no (Err r) e failed = rw (← e, refusal_number-positive r)

-- every question was answered with yes
pub answered-all : (a : Answer) (qs : List (Bool × ℕ)) → number_of a ≡ first_no qs → is_accepted a ≡ true → first_no qs ≡ 0
answered-all a qs e passed = sym e ∙ ap number_of (accepted-is a passed)
