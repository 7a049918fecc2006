-- A log that is well formed may be cut into pieces of whole records: each is well formed, and their lines, joined, are the log's. Both are read off its
-- rows, which are those of the pieces. The lines are also those that the log printer prints. Assumes nothing.
use Prim.Native.Nat.{ℕ, zero, suc, ◌+◌, ◌*◌, ◌/◌, ◌%◌}
use mathlib.Core.Bool.{Bool, true, false, ◌&&◌}
use mathlib.Core.Path.{◌≡◌, refl, sym, ap, ◌∙◌}
use mathlib.Core.List.{List, [], ◌∷◌, ◌++◌, map, append_assoc, map-append}
use native.Mathlib.Nat.{zero-add}
use native.Mathlib.Omega.{arith}
use lib.Dec.{eqb, lit≤}
use lib.ListN.{length, take, drop, length-append, length-drop}
use lib.Seq.{take-append-le, drop-append-le}
use borrow.Author.Tests.{eq-eqb, eqb-true}
use Rattle.trb.specs.Limits.{record_length}
use Rattle.trb.proofs.TestLaws.{and_left, and_right}
use Rattle.call_log.specs.declared.Record.{Record}
use Rattle.call_log.specs.Records.{decode}
use Rattle.log_check.specs.WellFormed.{kind_known, kinds_known, well_formed}
use Rattle.log_text.specs.Lines.{line_of, lines_in}
use Rattle.log_print.specs.LogText.{printable, log_text}
use Rattle.carry_out.specs.Writes.{records_of}
use Rattle.kept_records.specs.Rows.{rows_in, rows_of, bytes_of}
use Rattle.log_compact.proofs.RowLaws.{decode-take, take-drop-take}
use Rattle.compact_laws.proofs.LogLaws.{records_of-rows_of}
use Rattle.stored_logs.specs.Stored.{lines_of}
use Rattle.log_pieces.specs.Pieces.{AllWhole, InPieces}

-- ---- Lists

bytes_of-append : (xs ys : List (List ℕ)) → bytes_of (xs ++ ys) ≡ bytes_of xs ++ bytes_of ys
bytes_of-append [] ys = refl
bytes_of-append (x ∷ xs) ys = ap (λ (l : List ℕ). x ++ l) (bytes_of-append xs ys) ∙ sym (append_assoc x (bytes_of xs) (bytes_of ys))

and_assoc : (x y z : Bool) → (x && (y && z)) ≡ ((x && y) && z)
and_assoc true y z = refl
and_assoc false y z = refl

kinds_known-append : (rs ss : List Record) → kinds_known (rs ++ ss) ≡ (kinds_known rs && kinds_known ss)
kinds_known-append [] ss = refl
kinds_known-append (r ∷ rs) ss =
    ap (λ (t : Bool). kind_known r.kind && t) (kinds_known-append rs ss) ∙ and_assoc (kind_known r.kind) (kinds_known rs) (kinds_known ss)

-- ---- Rows

rows_in-joined : (m n : ℕ) (a b : List ℕ) → length a ≡ record_length * m → rows_in (m + n) (a ++ b) ≡ rows_in m a ++ rows_in n b
rows_in-joined zero n [] b h = ap (λ (k : ℕ). rows_in k b) (zero-add n)
rows_in-joined zero n (x ∷ a) b h = absurd (omega (arith, h))
rows_in-joined (suc m) n a b h =
    let count : suc m + n ≡ suc (m + n) = omega arith in
    let left : length (drop record_length a) ≡ record_length * m = simp length-drop (omega (arith, h)) in
    ap (λ (k : ℕ). rows_in k (a ++ b)) count
    ∙ (λ i. take-append-le record_length a b (omega (arith, h)) i ∷ rows_in (m + n) (drop-append-le record_length a b (omega (arith, h)) i))
    ∙ ap (λ (rs : List (List ℕ)). take record_length a ∷ rs) (rows_in-joined m n (drop record_length a) b left)

rows_of-joined : (a b : List ℕ) → length a % record_length ≡ 0 → rows_of (a ++ b) ≡ rows_of a ++ rows_of b
rows_of-joined a b h =
    let count : length (a ++ b) / record_length ≡ length a / record_length + length b / record_length = omega (arith, h, length-append a b) in
    ap (λ (k : ℕ). rows_in k (a ++ b)) count ∙ rows_in-joined (length a / record_length) (length b / record_length) a b (omega (arith, h))

-- ---- Lines

line_of-take : (l : List ℕ) → line_of (take record_length l) ≡ line_of l
unfolding line_of
line_of-take l = rw (decode-take l, take-drop-take 8 24 record_length l (lit≤ tt))

lines_in-rows_in : (n : ℕ) (l : List ℕ) → lines_in n l ≡ bytes_of (map line_of (rows_in n l))
unfolding lines_in
lines_in-rows_in zero l = refl
lines_in-rows_in (suc n) l = λ i. sym (line_of-take l) i ++ lines_in-rows_in n (drop record_length l) i

lines_of-rows_of : (l : List ℕ) → lines_of l ≡ bytes_of (map line_of (rows_of l))
unfolding lines_of
lines_of-rows_of l = lines_in-rows_in (length l / record_length) l

lines_of-joined : (a b : List ℕ) → length a % record_length ≡ 0 → lines_of (a ++ b) ≡ lines_of a ++ lines_of b
lines_of-joined a b h =
    lines_of-rows_of (a ++ b)
    ∙ ap (λ (rs : List (List ℕ)). bytes_of (map line_of rs)) (rows_of-joined a b h)
    ∙ ap bytes_of (map-append line_of (rows_of a) (rows_of b))
    ∙ bytes_of-append (map line_of (rows_of a)) (map line_of (rows_of b))
    ∙ (λ i. sym (lines_of-rows_of a) i ++ sym (lines_of-rows_of b) i)

-- ---- Question 10

module _ (a b : List ℕ) (h : length a % record_length ≡ 0) (ok : well_formed (a ++ b) ≡ true) where
  whole : length (a ++ b) % record_length ≡ 0
  unfolding well_formed
  whole = eqb-true (length (a ++ b) % record_length) 0 (and_left (eqb (length (a ++ b) % record_length) 0) (kinds_known (records_of (a ++ b))) ok)

  known : (kinds_known (records_of a) && kinds_known (records_of b)) ≡ true
  unfolding well_formed
  known =
      (λ i. kinds_known (records_of-rows_of a i) && kinds_known (records_of-rows_of b i))
      ∙ sym (kinds_known-append (map decode (rows_of a)) (map decode (rows_of b)))
      ∙ ap kinds_known (sym (map-append decode (rows_of a) (rows_of b)) ∙ ap (map decode) (sym (rows_of-joined a b h)) ∙ sym (records_of-rows_of (a ++ b)))
      ∙ and_right (eqb (length (a ++ b) % record_length) 0) (kinds_known (records_of (a ++ b))) ok

  well_formed-first : well_formed a ≡ true
  unfolding well_formed
  well_formed-first = rw (eq-eqb (length a % record_length) 0 h) (and_left (kinds_known (records_of a)) (kinds_known (records_of b)) known)

  well_formed-rest : well_formed b ≡ true
  unfolding well_formed
  well_formed-rest =
      rw (eq-eqb (length b % record_length) 0 (omega (arith, h, whole, length-append a b))) (and_right (kinds_known (records_of a)) (kinds_known (records_of b)) known)

-- ---- Pieces

pub in_pieces : (ps : List (List ℕ)) → AllWhole ps → well_formed (bytes_of ps) ≡ true → InPieces ps
unfolding lines_of lines_in
in_pieces [] w ok = record { formed = tt; text = refl }
in_pieces (p ∷ ps) w ok =
    let rest = in_pieces ps w.1 (well_formed-rest p (bytes_of ps) w.0 ok) in
    record {
      formed = (well_formed-first p (bytes_of ps) w.0 ok, rest.formed);
      text = ap (λ (l : List ℕ). lines_of p ++ l) rest.text ∙ sym (lines_of-joined p (bytes_of ps) w.0);
    }

-- ---- The log printer

-- a log that is printed at all has these lines
pub log_text-lines_of : (log : List ℕ) → printable log ≡ true → log_text log ≡ lines_of log
unfolding log_text lines_of
log_text-lines_of log e = rw e
