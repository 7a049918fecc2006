-- `capture_merge::length_of` meets its contract: behind each yes, the number is that of the questions left, which what the two passes found answers.
-- Assumes nothing.
use Rattle.std.proofs.Common.{◌≡◌, ◌∙◌, ◌+◌, ◌-◌, Ok, Err, Some, None, true, false, eqb, length, refl, sym, ap, arith, rules}
use borrow.Author.Tests.{eqb-true}
use Rattle.trb.specs.Answers.{refusal_of}
use Rattle.trb.specs.Questions.{first_no}
use Rattle.trb.specs.declared.Refusal.TheVariants.{NotACapture, LinkTypesDiffer, TimesGoBackwards}
use Rattle.buffers.specs.LittleEndian.{le_field}
use Rattle.buffers.proofs.LittleEndianLaws.{AllBytes-each}
use denote.Enum.Bare.{sameb}
use Rattle.capture_file.specs.contracts.LinkType.{the_type}
use Rattle.capture_file.specs.declared.LinkType.{LinkType}
use Rattle.capture_file.specs.declared.LinkType.TheVariants.{Short, Long}
use Rattle.capture_file.specs.Files.{link_number, HeadOf, whole_file}
use Rattle.capture_file.proofs.FileLaws.{file-headed, headless}
use Rattle.capture_file.proofs.SurveyLaws.{Surveyed, survey-none, survey-some}
use Rattle.capture_merge.specs.Merging.{no_growth, merged_file_bytes}
use Rattle.capture_merge.proofs.FileMerging.{length_merged}
use Rattle.capture_merge.proofs.length_of.Goals.{In_ok-first, In_ok-other, In_ok-second, After-eq}
use Rattle.capture_merge.proofs.length_of.Goals as goal

-- what was found of each file
first : (c : In_ok-first) → Surveyed no_growth c.args.a.now c.in_ok-first.first
first c = survey-some no_growth _ _ (grind arith)

second : (c : In_ok-second) → Surveyed no_growth c.args.b.now c.in_ok-second.second
second c = survey-some no_growth _ _ (grind arith)

-- the second file's link type
other : (c : In_ok-other) → HeadOf c.in_ok-other.other c.args.b.now
other c =
    let is : c.link_in.result ≡ Some c.in_ok-other.other = grind arith in
    rw is at c.link_in.ensures

-- ---- 17, of the first file and of the second

pub returns-in_err-first : goal.returns-in_err-first
unfolding first_no refusal_of
returns-in_err-first c =
    let no : whole_file no_growth c.args.a.now ≡ false = survey-none no_growth _ (grind arith) in
    let refused : c.from_residual.result ≡ Err NotACapture = grind arith in
    rw refused (record { number = rw no; answer = rw no })

pub returns-in_err-other : goal.returns-in_err-other
unfolding first_no refusal_of
returns-in_err-other c =
    let yes = (first (goal.at.returns-in_err-other c).In_ok-first).whole in
    let none : c.link_in.result ≡ None = grind arith in
    let no : whole_file no_growth c.args.b.now ≡ false = headless no_growth _ (rw none at c.link_in.ensures) in
    let refused : c.from_residual-in_err-other.result ≡ Err NotACapture = grind arith in
    rw refused (record { number = rw (yes, no); answer = rw (yes, no) })

pub returns-in_err-second : goal.returns-in_err-second
unfolding first_no refusal_of
returns-in_err-second c =
    let yes = (first (goal.at.returns-in_err-second c).In_ok-first).whole in
    let no : whole_file no_growth c.args.b.now ≡ false = survey-none no_growth _ (grind arith) in
    let refused : c.from_residual-in_err-second.result ≡ Err NotACapture = grind arith in
    rw refused (record { number = rw (yes, no); answer = rw (yes, no) })

-- ---- 19, and 20 of either file

-- two link types are the same where their numbers are
same-number : (x y : LinkType) → sameb the_type x y ≡ eqb (link_number x) (link_number y)
same-number Short Short = refl
same-number Short Long = refl
same-number Long Short = refl
same-number Long Long = refl

linked : (c : After-eq) (h : HeadOf c.in_ok-other.other c.args.b.now) → c.eq.result ≡ eqb (le_field 20 4 c.args.a.now) (le_field 20 4 c.args.b.now)
linked c h = rw (← c.requires.linked, ← h.linked) (c.eq.ensures ∙ same-number c.args.link c.in_ok-other.other)

pub returns-in_err-ask : goal.returns-in_err-ask
unfolding first_no refusal_of
returns-in_err-ask c =
    let f = (first (goal.at.returns-in_err-ask c).In_ok-first).whole in
    let s = (second (goal.at.returns-in_err-ask c).In_ok-second).whole in
    let differ = linked (goal.at.returns-in_err-ask c).After-eq (other (goal.at.returns-in_err-ask c).In_ok-other) in
    let no : eqb (le_field 20 4 c.args.a.now) (le_field 20 4 c.args.b.now) ≡ false = search rules in
    let refused : c.from_residual-in_err-ask.result ≡ Err LinkTypesDiffer = grind arith in
    rw refused (record { number = rw (f, s, no); answer = rw (f, s, no) })

pub returns-in_err-ask-2 : goal.returns-in_err-ask-2
unfolding first_no refusal_of
returns-in_err-ask-2 c =
    let f = first (goal.at.returns-in_err-ask-2 c).In_ok-first in
    let s = second (goal.at.returns-in_err-ask-2 c).In_ok-second in
    let alike = linked (goal.at.returns-in_err-ask-2 c).After-eq (other (goal.at.returns-in_err-ask-2 c).In_ok-other) in
    let same : eqb (le_field 20 4 c.args.a.now) (le_field 20 4 c.args.b.now) ≡ true = search rules in
    let asked : c.in_ok-first.first.ordered ≡ false = search rules in
    let no = sym f.ordered ∙ asked in
    let refused : c.from_residual-in_err-ask-2.result ≡ Err TimesGoBackwards = grind arith in
    rw refused (record { number = rw (f.whole, s.whole, same, no); answer = rw (f.whole, s.whole, same, no) })

pub returns-in_err-ask-3 : goal.returns-in_err-ask-3
unfolding first_no refusal_of
returns-in_err-ask-3 c =
    let f = first (goal.at.returns-in_err-ask-3 c).In_ok-first in
    let s = second (goal.at.returns-in_err-ask-3 c).In_ok-second in
    let alike = linked (goal.at.returns-in_err-ask-3 c).After-eq (other (goal.at.returns-in_err-ask-3 c).In_ok-other) in
    let same : eqb (le_field 20 4 c.args.a.now) (le_field 20 4 c.args.b.now) ≡ true = search rules in
    let asked : c.in_ok-first.first.ordered ≡ true = search rules in
    let asked' : c.in_ok-second.second.ordered ≡ false = search rules in
    let yes = sym f.ordered ∙ asked in
    let no = sym s.ordered ∙ asked' in
    let refused : c.from_residual-in_err-ask-3.result ≡ Err TimesGoBackwards = grind arith in
    rw refused (record { number = rw (f.whole, s.whole, same, yes, no); answer = rw (f.whole, s.whole, same, yes, no) })

pub overflow_sub-result : goal.overflow_sub-result
overflow_sub-result c = omega (arith, (file-headed no_growth _ (second (goal.at.overflow_sub-result c).In_ok-second).whole).long)

pub returns : goal.returns
unfolding first_no
returns c =
    let f = first (goal.at.returns c).In_ok-first in
    let s = second (goal.at.returns c).In_ok-second in
    let alike = linked (goal.at.returns c).After-eq (other (goal.at.returns c).In_ok-other) in
    let same : eqb (le_field 20 4 c.args.a.now) (le_field 20 4 c.args.b.now) ≡ true = search rules in
    let link = eqb-true _ _ same in
    let asked : c.in_ok-first.first.ordered ≡ true = search rules in
    let asked' : c.in_ok-second.second.ordered ≡ true = search rules in
    let up = sym f.ordered ∙ asked in
    let up' = sym s.ordered ∙ asked' in
    let size : length c.args.a.now + (length c.args.b.now - 24) ≡ length (merged_file_bytes c.args.a.now c.args.b.now) =
    sym
    (length_merged c.args.a.now c.args.b.now link f.whole s.whole
    (AllBytes-each c.args.a.now (λ i. omega (arith, c.shared_slice_known-1.given i)))
    (AllBytes-each c.args.b.now (λ i. omega (arith, c.shared_slice_known-2-1.given i)))) in
    record { number = rw (f.whole, s.whole, same, up, up'); answer = rw (f.whole, s.whole, same, up, up') (ap Ok size) }
