-- Laws of writing text: one part behind another, and what a loop has left to write. Assumes nothing.
use Prim.Native.Nat.{ℕ, ◌+◌, ◌<◌, ◌≤◌}
use mathlib.Core.Path.{◌≡◌, refl, sym, ◌∙◌}
use mathlib.Core.List.{List, [], ◌++◌}
use native.Mathlib.Nat.{add-zero}
use native.Mathlib.Omega.{arith}
use lib.ListN.{length, length-append}
use Rattle.buffers.specs.Patch.{patch}
use Rattle.buffers.proofs.PatchLaws.{patch-none, patch-append}
use Rattle.text.specs.declared.Text.{Text}
use Rattle.text.specs.Wrote.{HasRoom, Wrote}

pub wrote-none : {t : Text} → HasRoom 0 t → Wrote 0 t [] t
wrote-none {t = t} h = record {
  bytes = sym (patch-none t.bytes.now t.end);
  end = sym (add-zero t.end);
  within = omega arith;
  size = refl;
  fits = omega (arith, h);
  same = refl;
}

-- the bytes vs, and then ws behind them
pub wrote-append : {a b : ℕ} {t t' u : Text} {vs ws : List ℕ} → Wrote a t vs t' → Wrote b t' ws u → Wrote (a + b) t (vs ++ ws) u
wrote-append {t = t} {vs = vs} {ws = ws} p q =
    let fits : t.end + length vs ≤ length t.bytes.now = omega (arith, p.fits, p.end, p.size) in
    record {
      bytes = rw (q.bytes, p.bytes, p.end) (patch-append t.bytes.now t.end vs ws fits);
      end = omega (arith, p.end, q.end, length-append vs ws);
      within = omega (arith, p.within, q.within, length-append vs ws);
      size = q.size ∙ p.size;
      fits = q.fits;
      same = q.same ∙ p.same;
    }

pub wrote-within : {a b : ℕ} {t u : Text} {vs : List ℕ} → a ≤ b → Wrote a t vs u → Wrote b t vs u
wrote-within h p = record { bytes = p.bytes; end = p.end; within = omega (arith, p.within); size = p.size; fits = p.fits; same = p.same }

-- no more than the bytes themselves
pub wrote-exact : {a : ℕ} {t u : Text} {vs : List ℕ} → Wrote a t vs u → Wrote (length vs) t vs u
wrote-exact p = record { bytes = p.bytes; end = p.end; within = omega arith; size = p.size; fits = p.fits; same = p.same }

-- of a loop that writes vs behind the text t₀, and has come to the text t: the bytes rest are left
pub record Remaining (t₀ : Text) (vs : List ℕ) (t : Text) (rest : List ℕ) : Type 0 where
  pub bytes : patch t.bytes.now t.end rest ≡ patch t₀.bytes.now t₀.end vs
  pub end : t.end + length rest ≡ t₀.end + length vs
  pub size : length t.bytes.now ≡ length t₀.bytes.now
  pub room : t₀.end + length vs ≤ length t₀.bytes.now
  pub same : t.bytes.ghost_name ≡ t₀.bytes.ghost_name

pub remaining-all : (t : Text) (vs : List ℕ) → t.end + length vs ≤ length t.bytes.now → Remaining t vs t vs
remaining-all t vs h = record { bytes = refl; end = refl; size = refl; room = h; same = refl }

pub remaining-less : {a : ℕ} {t₀ t u : Text} {vs : List ℕ} (ws rest : List ℕ) → Remaining t₀ vs t (ws ++ rest) → Wrote a t ws u → Remaining t₀ vs u rest
remaining-less {t = t} ws rest p w =
    let fits : t.end + length ws ≤ length t.bytes.now = omega (arith, w.fits, w.end, w.size) in
    record {
      bytes = rw (w.bytes, w.end, patch-append t.bytes.now t.end ws rest fits) p.bytes;
      end = omega (arith, w.end, p.end, length-append ws rest);
      size = w.size ∙ p.size;
      room = p.room;
      same = w.same ∙ p.same;
    }

-- where a byte is left, there is room for it
pub remaining-room : {t₀ t : Text} {vs rest : List ℕ} → Remaining t₀ vs t rest → 0 < length rest → HasRoom 1 t
remaining-room p h = omega (arith, p.end, p.size, p.room)

pub remaining-none : {most : ℕ} {t₀ t : Text} {vs : List ℕ} → length vs ≤ most → Remaining t₀ vs t [] → Wrote most t₀ vs t
remaining-none {t = t} h p = record {
  bytes = sym (patch-none t.bytes.now t.end) ∙ p.bytes;
  end = omega (arith, p.end);
  within = h;
  size = p.size;
  fits = omega (arith, p.end, p.size, p.room);
  same = p.same;
}
