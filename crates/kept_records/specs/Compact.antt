-- 02, R-9: first drop writes of 0 bytes, then join neighbouring writes, from the front. Assumes nothing.
use Rattle.std.specs.Prelude.{ℕ, ◌+◌, ◌^◌, Bool, ◌&&◌, cond, List, [], ◌∷◌, eqb, ltb}
use Rattle.call_log.specs.declared.Record.{Record}
use Rattle.call_log.specs.Records.{decode, write_kind}
use Rattle.kept_records.specs.Rows.{with_length}

-- 02, R-9: a write of 0 bytes
unfoldable pub empty_write : Record → Bool
empty_write r = eqb r.kind write_kind && eqb r.length 0

-- 02, R-9: write records of the same endpoint and slot
unfoldable pub same_endpoint_writes : Record → Record → Bool
same_endpoint_writes p q =
    eqb p.kind write_kind && (eqb q.kind write_kind && (eqb p.endpoint_id.0 q.endpoint_id.0 && eqb p.slot_id.0 q.slot_id.0))

-- 02, R-9: the second goes on where the first ends, in guest address and in data start, both as whole numbers
unfoldable pub goes_on : Record → Record → Bool
goes_on p q = eqb (p.address + p.length) q.address && eqb (p.start + p.length) q.start

-- 02, R-9: the joined length is below 2^32
abbrev pub length_end : ℕ
length_end = 2 ^ 32

-- 02, R-9: is the second to be joined to the first?
unfoldable pub joins : Record → Record → Bool
joins p q = same_endpoint_writes p q && (goes_on p q && ltb (p.length + q.length) length_end)

-- 02, R-9: a joined record keeps the first one's other bytes
unfoldable pub joined : List ℕ → List ℕ → List ℕ
joined p q = with_length ((decode p).length + (decode q).length) p

-- the rows without writes of 0 bytes
abbrev pub without_empty : List (List ℕ) → List (List ℕ)
without_empty [] = []
without_empty (r ∷ rs) = cond (empty_write (decode r)) (without_empty rs) (r ∷ without_empty rs)

-- 02, R-9: joining goes from the front; p is the row that those behind it may join
abbrev pub join_from : List ℕ → List (List ℕ) → List (List ℕ)
join_from p [] = p ∷ []
join_from p (q ∷ rs) = cond (joins (decode p) (decode q)) (join_from (joined p q) rs) (p ∷ join_from q rs)

abbrev pub join_all : List (List ℕ) → List (List ℕ)
join_all [] = []
join_all (r ∷ rs) = join_from r rs

-- 02, R-9: the rows that are kept
unfoldable pub compacted : List (List ℕ) → List (List ℕ)
compacted rs = join_all (without_empty rs)

-- 02, R-9: requests and events
abbrev pub other_rows : List (List ℕ) → List (List ℕ)
other_rows [] = []
other_rows (r ∷ rs) = cond (eqb (decode r).kind write_kind) (other_rows rs) (r ∷ other_rows rs)
