-- `control_in_place::accept_trb` meets its contract: it logs, collects and stores by one outcome. Assumes nothing.
use mathlib.Core.Path.{◌∙◌}
use mathlib.Core.Bool.{cond}
use mathlib.Core.List.{[]}
use Rattle.buffers.specs.Patch.{patch}
use lib.ListN.{length}
use Rattle.held_bytes.specs.Numbers.{trb_of}
use Rattle.guest_memory.specs.Lent.{seen}
use Rattle.control_block.specs.Facts.{facts_of}
use Rattle.control_transfer.specs.Data.{bytes_of}
use Rattle.control_transfer.specs.Transfers.{collects, collectable}
use Rattle.control_questions.proofs.SubmissionLaws.{Passed}
use Rattle.control_bytes.specs.Layout.{block_of}
use Rattle.control_in_place.proofs.AcceptLaws.{pass, holdable}
use Rattle.control_in_place.proofs.accept_trb.Goals.{Start}
use Rattle.control_in_place.proofs.accept_trb.Goals as goal

passed : (s : Start) → let a = s.args in Passed (length a.log.now) (length a.collect.now) (facts_of (block_of a.block.now)) a.outcome (trb_of a.t.numbers)
passed s = let a = s.args in pass a.log.now a.collect.now a.block.now (trb_of a.t.numbers) (seen a.memory.now) a.outcome s.requires

pub log_submission-records-requires : goal.log_submission-records-requires
log_submission-records-requires c = (c.requires.long, ((passed (goal.at.log_submission-records-requires c).Start).log-long, (passed (goal.at.log_submission-records-requires c).Start).held))

pub collect_data-requires : goal.collect_data-requires
collect_data-requires c =
    let old = c.transfer-transfer.ensures in
    ((passed (goal.at.collect_data-requires c).Start).collect-long, (λ j. collectable c.args.outcome (old j).direction (old j).collected (c.args.t.by_kind j)) ∙ (passed (goal.at.collect_data-requires c).Start).size)

pub take_trb-requires : goal.take_trb-requires
take_trb-requires c =
    let a = c.args in
    record { block_length_in_bounds = (c.requires.long, ((passed (goal.at.take_trb-requires c).Start).held, (passed (goal.at.take_trb-requires c).Start).collected)); holdable = holdable a.log.now a.collect.now a.block.now (trb_of a.t.numbers) (seen a.memory.now) a.outcome c.requires }

pub returns : goal.returns
returns c =
    let old = c.transfer-transfer.ensures in
    record {
      log = c.log_submission-records.ensures;
      collect = c.collect_data.ensures ∙ (λ j. patch c.args.collect.now (old j).collected (cond (collects c.args.outcome (old j).direction) (bytes_of (seen c.args.memory.now) (c.args.t.by_kind j)) []));
      becomes = c.take_trb.ensures;
    }
