-- `in_completion::next_completion` meets its contract: a no leaves all as it was; each ending leaves what the definition says of it. Demand 3 follows from
-- what the log is. Assumes nothing.
use Prim.Native.Nat.{◌*◌, ◌≤◌}
use mathlib.Core.Path.{◌≡◌, refl, sym, ap, ◌∙◌}
use Rattle.std.specs.Prelude.{ℕ, List, Option, Ok, Err}
use native.Mathlib.Omega.{arith}
use lib.ListN.{length}
use lib.Seq.{length-take-le}
use Rattle.trb.specs.Answers.{number_of, is_accepted}
use Rattle.trb.specs.Limits.{max_held, record_length}
use Rattle.trb.specs.Questions.{first_no}
use Rattle.trb.specs.Refusals.{refusal_number}
use Rattle.trb.specs.declared.InTrbProcessingStatus.{InTrbProcessingStatus}
use Rattle.trb.specs.declared.Refusal.{Refusal}
use Rattle.trb.proofs.AnswerLaws.{refusal_of-number, answered-yes, answered-no}
use Rattle.call_log.proofs.CallLaws.{meets, meets-silent}
use Rattle.call_log.proofs.LogLaws.{logged_none}
use Rattle.in_td.specs.Td.{normals}
use Rattle.in_block.specs.Blocks.{held_of}
use Rattle.in_block.specs.Facts.{facts_of}
use Rattle.in_block.specs.Outcomes.{ending_of}
use Rattle.in_block.specs.declared.BlockFacts.{BlockFacts}
use Rattle.in_block.specs.declared.InBlock.{InBlock}
use Rattle.in_block.proofs.SoundLaws.{sound-held}
use Rattle.in_block.proofs.TestLaws.{all-counted}
use Rattle.in_questions.specs.Questions.{completion_questions}
use Rattle.in_questions.proofs.PassedLaws.{PassedCompletion, passed-completion}
use Rattle.in_endpoint.specs.Completion.{refused, transferred, completed_as, completion, Completes}
use Rattle.in_endpoint.proofs.CompletionLaws.{completed_as-by, process_td-counts, completes}
use borrow.Author.Rules.{rules}
use Rattle.in_completion.proofs.next_completion.Goals.{After-ask_completion-asked}
use Rattle.in_completion.proofs.next_completion.Goals as goal

module _ (c : After-ask_completion-asked) where
  number : number_of c.ask_completion-asked.result ≡ first_no (completion_questions (length c.args.log.now) (facts_of c.args.block) c.args.res (length c.args.data.now))
  number = rw c.facts_of-facts.ensures at c.ask_completion-asked.ensures

  -- once each question was answered with yes
  module _ (yes : c.ask_completion-asked.result ≡ Ok tt) where
    -- the answer of what is done then
    answered : 0 ≡ first_no (completion_questions (length c.args.log.now) (facts_of c.args.block) c.args.res (length c.args.data.now))
    answered = sym (ap number_of yes) ∙ number

    known : PassedCompletion (length c.args.log.now) (facts_of c.args.block) c.args.res (length c.args.data.now)
    known = passed-completion _ _ _ _ (sym answered)

    -- what the completion comes to
    ended : completion (length c.args.log.now) c.args.block c.args.res (length c.args.data.now) ≡ completed_as (ending_of c.args.block.state c.args.res (length c.args.data.now)) c.args.block
    unfolding completion
    ended =
        let b = c.args.block in
        answered-yes _ (refused b) (completed_as (ending_of b.state c.args.res (length c.args.data.now)) b) c.ask_completion-asked.result number (ap is_accepted yes)

    -- what is walked is there, and the log has room for it
    walk-held : c.args.block.held ≤ max_held
    walk-held = sound-held (facts_of c.args.block) known.sound

    walk-long : length (held_of c.args.block) ≡ c.args.block.held
    walk-long = length-take-le c.args.block.held c.args.block.trbs (omega (arith, walk-held))

    walk-room : record_length * (2 * length (held_of c.args.block)) ≤ length c.args.log.now
    walk-room = omega (arith, walk-held, walk-long, known.log-long)

    walk-normals : c.facts_of-facts.result.found.normals ≡ normals (held_of c.args.block)
    walk-normals = ap (λ (f : BlockFacts). f.found.normals) c.facts_of-facts.ensures ∙ all-counted (held_of c.args.block) (omega (arith, walk-held, walk-long))

-- a no leaves all as it was
completes-no : (l : List ℕ) (b : InBlock) (r : Option InTrbProcessingStatus) (n : ℕ) (q : Refusal) → refusal_number q ≡ first_no (completion_questions (length l) (facts_of b) r n)
    → Completes b r n l (record { answer = Err q; records = 0; block = b }) l
unfolding completion
completes-no l b r n q numbered =
    completes l l b r n _ numbered
    (meets (answered-no _ (refused b) (completed_as (ending_of b.state r n) b) (Err q) numbered refl)
    (record { state = ap (λ (x : Refusal). record { answer = Err x; records = 0; block = b }) (sym (refusal_of-number q)); log = sym (logged_none l 0); fits = tt }))

pub returns-in-Err : goal.returns-in-Err
returns-in-Err c =
    let s = c.args in
    completes-no s.log.now s.block s.res (length s.data.now) c.in-Err.refusal (sym (ap number_of c.in-Err.is) ∙ number (goal.at.returns-in-Err c).After-ask_completion-asked)

pub overflow_cast-data : goal.overflow_cast-data
overflow_cast-data c = let k = (known (goal.at.overflow_cast-data c).After-ask_completion-asked c.in-Ok.is).short in search rules

pub returns-in-KeepCollecting : goal.returns-in-KeepCollecting
returns-in-KeepCollecting c =
    let s = c.args in
    let b = s.block in
    let k = (goal.at.returns-in-KeepCollecting c).After-ask_completion-asked in
    completes s.log.now _ b s.res (length s.data.now) _ (answered k c.in-Ok.is)
    (meets (ended k c.in-Ok.is ∙ completed_as-by b (sym c.ending_of-ending.ensures ∙ c.in-KeepCollecting.is)) (meets-silent 0 s.log.now refl))

pub process_td-processed-requires : goal.process_td-processed-requires
process_td-processed-requires c =
    let k = (goal.at.process_td-processed-requires c).After-ask_completion-asked in
    rw c.held_of-trbs.ensures (record { normals = walk-normals k c.in-Ok.is; room = walk-room k c.in-Ok.is })

pub returns-in-Transfer : goal.returns-in-Transfer
unfolding transferred
returns-in-Transfer c =
    let s = c.args in
    let b = s.block in
    let k = (goal.at.returns-in-Transfer c).After-ask_completion-asked in
    let p = rw c.held_of-trbs.ensures at c.process_td-processed.ensures in
    completes s.log.now _ b s.res (length s.data.now) _ (answered k c.in-Ok.is)
    (meets (ended k c.in-Ok.is ∙ completed_as-by b (sym c.ending_of-ending.ensures ∙ c.in-Transfer.is))
    (record {
      state = rw (c.empty.ensures, p.state, c.td_of-td.ensures, process_td-counts);
      log = rw (p.log, c.td_of-td.ensures);
      fits = rw c.td_of-td.ensures at p.fits;
    }))

pub report_unsupported-requires : goal.report_unsupported-requires
report_unsupported-requires c = (known (goal.at.report_unsupported-requires c).After-ask_completion-asked c.in-Ok.is).log-long

pub returns-in-ReportUnsupported : goal.returns-in-ReportUnsupported
returns-in-ReportUnsupported c =
    let s = c.args in
    let b = s.block in
    let k = (goal.at.returns-in-ReportUnsupported c).After-ask_completion-asked in
    let p = c.report_unsupported.ensures in
    completes s.log.now _ b s.res (length s.data.now) _ (answered k c.in-Ok.is)
    (meets (ended k c.in-Ok.is ∙ completed_as-by b (sym c.ending_of-ending.ensures ∙ c.in-ReportUnsupported.is))
    (record { state = rw c.empty-in-ReportUnsupported.ensures; log = p.log; fits = p.fits }))
