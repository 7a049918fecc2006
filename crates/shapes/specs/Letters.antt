-- 02, R-10: the letters of a shape, each a kind of TRB and its chain bit. Assumes nothing.
use Rattle.std.specs.Prelude.{ℕ, true, false, List, [], ◌∷◌}
use Rattle.phase_table.specs.Leads.{Entry}
use Rattle.phase_table.specs.declared.TrbKind.{TrbKind}
use Rattle.phase_table.specs.declared.TrbKind.TheVariants as kind

-- 02: s Setup, d Data, n Normal, e Event Data, t Status; capitals D, N, E, T where chained
pub data Letter : Type 0 where
  D : Letter
  E : Letter
  N : Letter
  T : Letter
  d : Letter
  e : Letter
  n : Letter
  s : Letter
  t : Letter

abbrev pub Word : Type 0
Word = List Letter

-- the letters by byte value
abbrev pub letters : List Letter
letters = D ∷ E ∷ N ∷ T ∷ d ∷ e ∷ n ∷ s ∷ t ∷ []

abbrev pub chained : TrbKind → Entry
chained k = record { kind = k; chain = true }

abbrev pub unchained : TrbKind → Entry
unchained k = record { kind = k; chain = false }

-- what the phase table reads of a letter
abbrev pub letter_entry : Letter → Entry
letter_entry D = chained kind.DataStage
letter_entry E = chained kind.EventData
letter_entry N = chained kind.Normal
letter_entry T = chained kind.StatusStage
letter_entry d = unchained kind.DataStage
letter_entry e = unchained kind.EventData
letter_entry n = unchained kind.Normal
letter_entry s = unchained kind.SetupStage
letter_entry t = unchained kind.StatusStage

abbrev pub byte_of : Letter → ℕ
byte_of D = 68
byte_of E = 69
byte_of N = 78
byte_of T = 84
byte_of d = 100
byte_of e = 101
byte_of n = 110
byte_of s = 115
byte_of t = 116
