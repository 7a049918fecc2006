-- `text::Text::put_char` meets its contract: a byte that is set is a patch of one byte. Assumes nothing.
use Prim.Native.Nat.{◌<◌}
use mathlib.Core.Path.{refl}
use native.Mathlib.Omega.{arith}
use lib.ListN.{length, length-set}
use Rattle.buffers.proofs.PatchLaws.{set-patch}
use Rattle.text.proofs.Text.put_char.Goals as goal

pub returns : goal.returns
returns c =
    let t = c.args.self in
    let inside : t.now.end < length t.now.bytes.now = omega (arith, c.requires) in
    record {
      bytes = set-patch t.now.bytes.now t.now.end c.args.character inside;
      end = refl;
      within = omega arith;
      size = length-set t.now.bytes.now t.now.end c.args.character;
      fits = omega (arith, length-set t.now.bytes.now t.now.end c.args.character);
      same = refl;
    }
