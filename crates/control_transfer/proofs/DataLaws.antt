-- Laws of a TRB's data: its bytes are as many as it counts for. Assumes nothing.
use Rattle.std.proofs.Common.{◌≡◌, ℕ, zero, suc, ◌/◌, ◌%◌, ◌≤◌, Bool, true, false, List, ◌∷◌, length, take, refl, ap, arith}
use Rattle.buffers.specs.LittleEndian.{le_bytes}
use Rattle.buffers.proofs.LittleEndianLaws.{length-le_bytes}
use Rattle.guest_memory.specs.Places.{Memory, regions_of}
use Rattle.guest_memory.proofs.PlaceLaws.{length-inside}
use Rattle.control_transfer.specs.declared.TrbData.{TrbData}
use Rattle.control_transfer.specs.Data.{size_of, in_reach, bytes_of}

-- the low bytes of more bytes
pub take-le_bytes : (n m x : ℕ) → n ≤ m → take n (le_bytes m x) ≡ le_bytes n x
take-le_bytes zero m x h = refl
take-le_bytes (suc n) zero x h = let z : ◌≡◌ {A = ℕ} 0 1 = omega arith in cc
take-le_bytes (suc n) (suc m) x h = ap (λ (l : List ℕ). x % 256 ∷ l) (take-le_bytes n m (x / 256) (omega arith))

-- where question 6 is answered yes, OUT data has as many bytes as it counts for
pub length-bytes_of : (m : Memory) (d : TrbData) → in_reach false d (regions_of m) ≡ true → length (bytes_of m d) ≡ size_of d
unfolding in_reach bytes_of
length-bytes_of m d reach = by d.immediate_data refl
  where
    by : (immediate : Bool) → d.immediate_data ≡ immediate → length (bytes_of m d) ≡ size_of d
    by true e = rw e (length-le_bytes _ _)
    by false e = rw e (length-inside m d.data_pointer d.transfer_length (rw e at reach))
