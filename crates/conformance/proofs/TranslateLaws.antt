-- Laws of the translation: the events and the writes of a log, record by record. Assumes nothing.
use Prim.Native.Nat.{ℕ}
use mathlib.Core.Path.{◌≡◌, refl, sym}
use mathlib.Core.Bool.{Bool, true, false, cond}
use mathlib.Core.List.{List, [], ◌∷◌, ◌++◌, append_assoc}
use lib.Dec.{eqb}
use Rattle.trb.specs.Codes.{code_number}
use Rattle.trb.specs.declared.CompletionCode.{CompletionCode}
use Rattle.trb.specs.declared.EndpointId.{EndpointId}
use Rattle.trb.specs.declared.SlotId.{SlotId}
use Rattle.call_log.specs.Records.{write_kind, event_kind, transfer_event, when}
use Rattle.call_log.specs.declared.Record.{Record}
use Rattle.standard.specs.Xhci.{event_if, Delivery, delivery, deliver_if}
use Rattle.standard.specs.Xhci as xhci
use Rattle.conformance.specs.Translate.{event_of, told, wrote}

pub told-append : (rs ss : List Record) → told (rs ++ ss) ≡ told rs ++ told ss
told-append [] ss = refl
told-append (r ∷ rs) ss = by_kind (eqb r.kind event_kind) (told-append rs ss)
  where
    by_kind : (b : Bool) → told (rs ++ ss) ≡ told rs ++ told ss → cond b (event_of r ∷ told (rs ++ ss)) (told (rs ++ ss)) ≡ cond b (event_of r ∷ told rs) (told rs) ++ told ss
    by_kind true h = rw h
    by_kind false h = h

pub wrote-append : (rs ss : List Record) → wrote (rs ++ ss) ≡ wrote rs ++ wrote ss
wrote-append [] ss = refl
wrote-append (r ∷ rs) ss = by_kind (eqb r.kind write_kind) (wrote-append rs ss)
  where
    ds : List Delivery
    ds = deliver_if r.length (delivery r.address r.length r.start)

    by_kind : (b : Bool) → wrote (rs ++ ss) ≡ wrote rs ++ wrote ss → cond b (ds ++ wrote (rs ++ ss)) (wrote (rs ++ ss)) ≡ cond b (ds ++ wrote rs) (wrote rs) ++ wrote ss
    by_kind true h = rw h (sym (append_assoc ds (wrote rs) (wrote ss)))
    by_kind false h = h

-- an event where it is due, and the records behind it
module _ (address length : ℕ) (code : CompletionCode) (e : EndpointId) (s : SlotId) (rs : List Record) where
  pub told-when : (due flag : Bool) → told (when due (transfer_event address length code flag e s) ++ rs)
      ≡ event_if due (xhci.transfer_event (code_number code) flag address length) ++ told rs
  told-when true true = refl
  told-when true false = refl
  told-when false flag = refl

  pub wrote-when : (due flag : Bool) → wrote (when due (transfer_event address length code flag e s) ++ rs) ≡ wrote rs
  wrote-when true flag = refl
  wrote-when false flag = refl
