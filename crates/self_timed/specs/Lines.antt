-- The lines of acts, and the last ends in them.
use Rattle.std.specs.Prelude.{◌≡◌, ℕ, ◌<◌, length, slice_index_or, slice_set}
use Rattle.sequence_build_laws.specs.Acts.{Act, carry, run}
use Rattle.self_timed.specs.declared.line.Line.{Line}
use Rattle.self_timed.specs.declared.line.Line.TheVariants.{Operator, Medium}
use Rattle.self_timed.specs.declared.line.Ends.{Ends}

-- the line of an act
abbrev pub line_of : Act → Line
line_of (run d) = Operator d.operator
line_of (carry t) = Medium t.medium

-- one of at most 16 operators, or of at most 16 media
abbrev pub IsLine : Line → Type 0
IsLine (Operator o) = o < 16
IsLine (Medium m) = m < 16

abbrev pub last_in : Ends → Line → ℕ
last_in e (Operator o) = slice_index_or e.operators o 0
last_in e (Medium m) = slice_index_or e.media m 0

-- with one more end in a line
abbrev pub noted : Ends → Line → ℕ → Ends
noted e (Operator o) date = record { operators = slice_set e.operators o date; media = e.media }
noted e (Medium m) date = record { operators = e.operators; media = slice_set e.media m date }

-- each table has 16 entries
pub record AreTables (ends : Ends) : Type 0 where
  pub operators : length ends.operators ≡ 16
  pub media : length ends.media ≡ 16

-- nothing has ended so far
pub record AreStarted (ends : Ends) : Type 0 where
  pub tables : AreTables ends
  pub none : (l : Line) → last_in ends l ≡ 0
