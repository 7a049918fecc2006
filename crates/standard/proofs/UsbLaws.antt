-- Laws of the setup packet and of data packets: a packet's bytes give its fields back, and a transfer moves fewer bytes than it has room for
-- just where a short packet ends it. Assumes nothing.
use Prim.Native.Nat.{ℕ, ◌+◌, ◌*◌, ◌/◌, ◌%◌, ◌≤◌, ◌<◌}
use mathlib.Core.Path.{◌≡◌, refl}
use mathlib.Core.Bool.{true, false≢true}
use mathlib.Core.List.{List}
use native.Mathlib.Omega.{arith}
use Rattle.standard.specs.Usb.{Setup, setup_of, setup_bytes, Packets, filled, full, rest, short, total, ends_short}

word_bytes : (w : ℕ) → w % 256 + 256 * (w / 256) ≡ w
word_bytes w = omega arith

pub setup_of-setup_bytes : (s : Setup) → setup_of (setup_bytes s) ≡ s
setup_of-setup_bytes s = rw (word_bytes s.w_value, word_bytes s.w_index, word_bytes s.w_length)

pub total-≤-room : {max room : ℕ} {ks : List ℕ} → Packets max room ks → total ks ≤ room
total-≤-room filled = omega arith
total-≤-room (full p) = omega (arith, total-≤-room p)
total-≤-room (rest h) = omega arith
total-≤-room (short h g) = omega arith

pub ends_short-total-< : {max room : ℕ} {ks : List ℕ} (p : Packets max room ks) → ends_short p ≡ true → total ks < room
ends_short-total-< filled h = absurd (false≢true h)
ends_short-total-< (full p) h = omega (arith, ends_short-total-< p h)
ends_short-total-< (rest g) h = absurd (false≢true h)
ends_short-total-< (short k g) h = omega arith

pub total-<-ends_short : {max room : ℕ} {ks : List ℕ} (p : Packets max room ks) → total ks < room → ends_short p ≡ true
total-<-ends_short filled h = absurd (omega arith)
total-<-ends_short (full p) h = total-<-ends_short p (omega arith)
total-<-ends_short (rest g) h = absurd (omega arith)
total-<-ends_short (short k g) h = refl
