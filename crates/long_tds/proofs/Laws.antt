-- 02, R-5: what holds of a TD by the number of its TRBs, for any number, and for 64 and 512. Assumes nothing.
use Prim.Native.Nat.{ℕ, ◌+◌, ◌*◌, ◌<◌, ◌≤◌, ◌^◌}
use mathlib.Core.Path.{◌≡◌, refl}
use mathlib.Core.Bool.{true}
use mathlib.Core.List.{List}
use native.Mathlib.Nat.{mul-le-mul_left}
use native.Mathlib.Omega.{arith}
use lib.Dec.{lit<}
use lib.ListN.{length}
use Rattle.trb.specs.Limits.{max_transfer_length}
use Rattle.trb.specs.declared.TransferTrb.{TransferTrb}
use Rattle.walks.specs.All.{all}
use Rattle.walks.proofs.WalkLaws.{length-walk}
use Rattle.td_part.specs.Parts.{edtla_after, at_start}
use Rattle.in_td.specs.Td.{normals, process_trb, process_td, in_td, ended, unprocessed}
use Rattle.in_td.specs.declared.InTd.{InTd}
use Rattle.in_td.specs.declared.TdProcessed.{TdProcessed}
use Rattle.in_td.proofs.TdLaws.{td_walker}
use Rattle.account.proofs.Accounted.{accounted}
use Rattle.control_chain.specs.Chain.{realize_trb, realize_chain, never}
use Rattle.control_chain.specs.declared.ControlTd.{ControlTd}
use Rattle.long_tds.specs.ByCount.{fitting, Bounded, OfTds}
use Rattle.long_tds.proofs.PartLaws.{in-turn, chain-turn}
use Rattle.long_tds.proofs.WalkLaws.{walk-bounded}

-- an IN TD
pub td-bounded : (td : InTd) (ts : List TransferTrb) → all fitting ts ≡ true → Bounded (length ts) at_start (process_td td ts).state.progress (process_td td ts).records
td-bounded td ts h = walk-bounded (process_trb td) ended (λ (p : TdProcessed). p.progress) (in-turn td) (unprocessed (normals ts)) ts h refl

-- a control chain, either way
pub chain-bounded : (td : ControlTd) (ts : List TransferTrb) → all fitting ts ≡ true → Bounded (length ts) at_start (realize_chain td ts).state (realize_chain td ts).records
chain-bounded td ts h = walk-bounded (realize_trb td) never (λ w. w) (chain-turn td) at_start ts h refl

-- ---- IN TDs by their number of TRBs

pub of-tds : (m : ℕ) → OfTds m
of-tds m = record {
  account = λ e s mode st n ts few distinct isp last. accounted e s mode st n ts distinct isp last;
  records = λ e s mode st n ts few. omega (arith, length-walk (td_walker (in_td e s mode st n)) (unprocessed (normals ts)) ts (record { within = omega arith }));
  residuals = λ e s mode st n ts few h. (td-bounded (in_td e s mode st n) ts h).residuals;
}

pub of-64 : OfTds 64
of-64 = of-tds 64

pub of-512 : OfTds 512
of-512 = of-tds 512

-- ---- The EDTLA

-- among m TRBs that move fewer than 2^24 bytes in all, the EDTLA is the plain sum: adding the bytes of one that has fewer than m before it does not wrap
module _ (m : ℕ) (few : max_transfer_length * m < 2 ^ 24) (before : List TransferTrb) (more : length before < m) (fit : all fitting before ≡ true) (n : ℕ) (short : n ≤ max_transfer_length) where
  below : (edtla : ℕ) → edtla ≤ max_transfer_length * length before → edtla_after edtla n ≡ edtla + n
  below edtla h = omega (arith, mul-le-mul_left max_transfer_length (more-than more))
    where
      more-than : length before < m → length before + 1 ≤ m
      more-than h = omega arith

  pub plain-td : (td : InTd) → edtla_after (process_td td before).state.progress.edtla n ≡ (process_td td before).state.progress.edtla + n
  plain-td td = below (process_td td before).state.progress.edtla (omega (arith, (td-bounded td before fit).edtla))

  pub plain-chain : (td : ControlTd) → edtla_after (realize_chain td before).state.edtla n ≡ (realize_chain td before).state.edtla + n
  plain-chain td = below (realize_chain td before).state.edtla (omega (arith, (chain-bounded td before fit).edtla))

-- 01, What is ported: within 64 TRBs of 131,071 bytes plain addition is meant
pub plain-64 : (before : List TransferTrb) → length before < 64 → all fitting before ≡ true → (n : ℕ) → n ≤ max_transfer_length
    → (td : InTd) → edtla_after (process_td td before).state.progress.edtla n ≡ (process_td td before).state.progress.edtla + n
plain-64 = plain-td 64 (lit< tt)
