-- The log of an IN TD, TRB by TRB, before any Normal was short. Assumes nothing.
use Prim.Native.Nat.{ℕ, ◌+◌, ◌-◌, ◌<◌, ◌≤◌}
use mathlib.Core.Path.{◌≡◌, refl, ap, ◌∙◌}
use mathlib.Core.Bool.{true, false}
use mathlib.Core.List.{List, [], ◌∷◌, ◌++◌}
use mathlib.Core.Option.{none}
use lib.ListN.{length}
use Rattle.trb.specs.declared.NormalTrb.{NormalTrb}
use Rattle.trb.specs.declared.TransferTrb.{TransferTrb}
use Rattle.trb.specs.declared.TransferTrbVariant.TheVariants.{Normal}
use Rattle.call_log.specs.Calls.{Out, silent}
use Rattle.call_log.specs.Records.{when}
use Rattle.call_log.specs.declared.Record.{Record}
use Rattle.td_part.specs.Parts.{edtla_after}
use Rattle.td_part.specs.declared.TdProcessingState.TheVariants.{Default, ShortTransfer}
use Rattle.walks.specs.Walk.{join, walk}
use Rattle.walks.proofs.WalkLaws.{walk-stopped, walk-records}
use Rattle.in_td.specs.Td.{process_trb, ended}
use Rattle.in_td.specs.declared.InTd.{InTd}
use Rattle.in_td.specs.declared.TdProcessed.{TdProcessed}
use Rattle.in_td.proofs.TdLaws.{td_walker}
use Rattle.in_td.specs.Normals.{normal_of}
use Rattle.account.specs.Guest.{is_write, is_unsuccessful, any}
use Rattle.account.specs.Strict.{failure_result}
use Rattle.account.proofs.GuestLaws.{any_append}
use Rattle.account.proofs.StepLaws.{reached, Passed, passed-step, left_from, full_write, full_records, failed_event, Fails, Failed, full-step, failed-step, missing, short_due, short_write, short_event, Shortened, short-step, Later, later-step}

-- the walk from p on
abbrev pub walk_from : InTd → TdProcessed → List TransferTrb → Out TdProcessed
walk_from td p ts = walk (process_trb td) ended p ts

-- its records
abbrev records_from : InTd → TdProcessed → List TransferTrb → List Record
records_from td p ts = (walk_from td p ts).records

-- from the device's byte `start` on, before any Normal was short
abbrev pub log_from : InTd → ℕ → ℕ → ℕ → ℕ → List TransferTrb → List Record
log_from td start edtla count left ts = records_from td (reached start edtla Default count left) ts

-- after a short Normal nothing is written
later-writeless : (td : InTd) (short : ℕ) (p : TdProcessed) (ts : List TransferTrb) → p.progress.state ≡ ShortTransfer short → any is_write (records_from td p ts) ≡ false
later-writeless td short =
    walk-records (process_trb td) ended (λ (p : TdProcessed). p.progress.state ≡ ShortTransfer short) (λ (rs : List Record). any is_write rs ≡ false)
    refl
    (λ rs ss f g. any_append is_write rs ss ∙ rw (f, g))
    (λ p t h. let l : Later short (process_trb td p t) = later-step td short p h t in (l.writeless, l.next))

-- the log of a TRB of another kind, and of those behind it
pub record OtherLog (td : InTd) (start left : ℕ) (ts : List TransferTrb) (rs : List Record) : Type 0 where
  pub edtla : ℕ
  pub count : ℕ
  pub own : List Record
  pub log : rs ≡ own ++ log_from td start edtla count left ts
  pub quiet : any is_unsuccessful own ≡ false
  pub writeless : any is_write own ≡ false

-- the log of a short Normal, and of those behind it
pub record ShortLog (td : InTd) (start : ℕ) (m : NormalTrb) (a : ℕ) (rs : List Record) : Type 0 where
  pub behind : List Record
  pub log : rs ≡ short_write td start m ∷ (when (short_due td.status m) (short_event td start m a) ++ behind)
  pub writeless : any is_write behind ≡ false

module _ (td : InTd) (start edtla count left : ℕ) where
  pub log-none : log_from td start edtla count left [] ≡ []
  unfolding walk
  log-none = refl

  module _ (t : TransferTrb) (ts : List TransferTrb) where
    abbrev now : TdProcessed
    now = reached start edtla Default count left

    pub walk-next : walk_from td now (t ∷ ts) ≡ join (process_trb td now t) (walk_from td (process_trb td now t).state ts)
    unfolding walk
    walk-next = refl

    log-cons : log_from td start edtla count left (t ∷ ts) ≡ (process_trb td now t).records ++ records_from td (process_trb td now t).state ts
    unfolding walk
    log-cons = refl

    pub other-log : normal_of t.variant ≡ none → OtherLog td start left ts (log_from td start edtla count left (t ∷ ts))
    other-log other =
        let w : Passed now (process_trb td now t) = passed-step td now t other in
        record {
          edtla = w.edtla;
          count = w.count;
          own = (process_trb td now t).records;
          log = rw (log-cons, w.next);
          quiet = w.quiet;
          writeless = w.writeless;
        }

    module _ (m : NormalTrb) (kind : t.variant ≡ Normal m) where
      pub full-log : Fails td left false → m.transfer_length ≤ left_from td start
          → log_from td start edtla count left (t ∷ ts)
          ≡ full_records td start m t.addr
          ++ log_from td (start + m.transfer_length) (edtla_after edtla m.transfer_length) (count + length (full_records td start m t.addr)) (left - 1) ts
      full-log goes h = rw (log-cons, full-step td start edtla count left t m kind goes h)

      pub full-walk : Fails td left false → m.transfer_length ≤ left_from td start
          → walk_from td now (t ∷ ts)
          ≡ join (process_trb td now t)
          (walk_from td (reached (start + m.transfer_length) (edtla_after edtla m.transfer_length) Default (count + length (full_records td start m t.addr)) (left - 1)) ts)
      full-walk goes h = rw (walk-next, full-step td start edtla count left t m kind goes h)

      -- nothing comes behind a Normal at which the transfer fails
      module _ (fails : Fails td left true) (h : m.transfer_length ≤ left_from td start) where
        failed : Failed td start t m (process_trb td now t)
        failed = failed-step td start edtla count left t m kind fails h

        failed-walk : walk_from td now (t ∷ ts) ≡ join (process_trb td now t) (silent (process_trb td now t).state)
        failed-walk = walk-next ∙ ap (join (process_trb td now t)) (walk-stopped (td_walker td) (process_trb td now t).state ts failed.over)

        pub failed-log : log_from td start edtla count left (t ∷ ts) ≡ full_write td start m ∷ failed_event td t.addr ∷ []
        failed-log = ap (λ (o : Out TdProcessed). o.records) failed-walk ∙ rw failed.records

        pub failed-result : (walk_from td now (t ∷ ts)).state.result ≡ failure_result td.status t.addr t.cycle_bit
        failed-result = ap (λ (o : Out TdProcessed). o.state.result) failed-walk ∙ failed.result

      pub short-log : left_from td start < m.transfer_length → ShortLog td start m t.addr (log_from td start edtla count left (t ∷ ts))
      short-log h =
          let o : Out TdProcessed = process_trb td now t in
          let s : Shortened td start m t.addr o = short-step td start edtla count left t m kind h in
          record {
            behind = records_from td o.state ts;
            log = rw (log-cons, s.records);
            writeless = later-writeless td (missing td start m) o.state ts s.next;
          }
