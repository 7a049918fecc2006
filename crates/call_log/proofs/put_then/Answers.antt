-- `log::put_then` meets its contract: the second record stands behind the first. Assumes nothing.
use mathlib.Core.List.{[], ◌∷◌}
use Rattle.call_log.proofs.LogLaws.{logged-append}
use borrow.Author.Rules.{rules}
use Rattle.call_log.proofs.put_then.Goals as goal

pub returns : goal.returns
returns c =
    let w = c.put_when.ensures in
    let p = c.put_record.ensures in
    let s = c.args in
    record {
      state = search rules;
      log = rw (w.log, p.log) (logged-append s.log.now s.count (s.first ∷ []) _ (search rules));
      fits = (p.fits.0, w.fits);
    }
