-- What a step over the lines of an input finds. Assumes nothing.
use Rattle.std.specs.Prelude.{ℕ, ◌+◌, ◌-◌, ◌≤◌, ◌<◌, ◌≡◌, cond, List, [], ltb, length, take, drop}
use Rattle.script_lines.specs.Lines.{first_line}
use Rattle.script_lines.specs.declared.input.Input.{Input}
use Rattle.script_lines.specs.declared.Found.{Found}
use Rattle.script_lines.specs.declared.Found.TheVariants.{Line, Piece, End, Unfinished}
use Rattle.script_lines.specs.declared.Refilled.{Refilled}
use Rattle.script_lines.specs.declared.Refilled.TheVariants as refilled

-- so many bytes are read and not yet taken
abbrev pub left : Input → ℕ
left i = i.filled - i.from

-- what was left stands at the front
pub record MovedToFront (i i' : Input) : Type 0 where
  pub start : i'.from ≡ 0
  pub count : i'.filled ≡ left i
  pub bytes : take (left i) i'.bytes.now ≡ take (left i) (drop i.from i.bytes.now)
  pub size : length i'.bytes.now ≡ length i.bytes.now
  pub same : i'.bytes.ghost_name ≡ i.bytes.ghost_name

-- bytes may stand behind those that were read before
pub record ReadBehind (i i' : Input) : Type 0 where
  pub start : i'.from ≡ i.from
  pub more : i.filled ≤ i'.filled
  pub bytes : take i.filled i'.bytes.now ≡ take i.filled i.bytes.now

-- those behind the first n
abbrev pub bytes_behind : ℕ → Input → List ℕ
bytes_behind n i = drop n (take i.filled i.bytes.now)

-- the input has ended: a line is unfinished where n of its bytes are held
abbrev pub at_end : ℕ → Refilled
at_end n = cond (ltb 0 n) refilled.Unfinished refilled.End

-- what is found where no line was
abbrev pub found_of : Refilled → Found
found_of refilled.Piece = Piece
found_of refilled.End = End
found_of refilled.Unfinished = Unfinished

-- in a buffer of n bytes, the line lies in it
abbrev pub LineInside : Found → ℕ → Type 0
LineInside (Line from end) n = (from ≤ end) × (end ≤ n)
LineInside Piece n = Unit {0}
LineInside End n = Unit {0}
LineInside Unfinished n = Unit {0}

-- a line was found: the bytes from index from up to the first line feed. The input is as it was, and goes on behind the line feed
pub record LineTaken (i : Input) (from end : ℕ) (i' : Input) : Type 0 where
  pub input : i'.bytes.now ≡ i.bytes.now
  pub start : from ≡ i.from
  pub line : end ≡ from + length (first_line (drop from (take i.filled i.bytes.now)))
  pub ended : end < i.filled
  pub next : i'.from ≡ end + 1
  pub bytes : i'.filled ≡ i.filled

-- a piece of input was read behind the bytes that were left, which stand at the front
pub record PieceRead (i i' : Input) : Type 0 where
  pub start : i'.from ≡ 0
  pub front : take (left i) i'.bytes.now ≡ take (left i) (drop i.from i.bytes.now)
  pub more : left i < i'.filled

-- what was read behind the bytes that were left: where nothing was, they are unfinished, if there are any
abbrev pub Refills : Refilled → Input → Input → Type 0
Refills refilled.Piece i i' = PieceRead i i'
Refills refilled.End i i' = i.from ≡ i.filled
Refills refilled.Unfinished i i' = i.from < i.filled

-- the bytes that were read behind n bytes that were left
abbrev pub refill_bytes : Refilled → ℕ → Input → List ℕ
refill_bytes refilled.Piece n i' = bytes_behind n i'
refill_bytes refilled.End n i' = []
refill_bytes refilled.Unfinished n i' = []

-- the same of a step
abbrev pub found_bytes : Found → ℕ → Input → List ℕ
found_bytes (Line from end) n i' = []
found_bytes Piece n i' = bytes_behind n i'
found_bytes End n i' = []
found_bytes Unfinished n i' = []

-- what a step found
abbrev pub Finds : Found → Input → Input → Type 0
Finds (Line from end) i i' = LineTaken i from end i'
Finds Piece i i' = PieceRead i i'
Finds End i i' = i.from ≡ i.filled
Finds Unfinished i i' = i.from < i.filled

pub record NextLine (i : Input) (f : Found) (i' : Input) : Type 0 where
  pub inside : LineInside f (length i'.bytes.now)
  pub finds : Finds f i i'
