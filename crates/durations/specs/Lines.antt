-- The durations that the lines of a text give.
use Rattle.std.specs.Prelude.{ℕ, ◌<◌, ◌≤◌, Bool, ◌&&◌, ◌==◌, if◌then◌else◌, List, [], ◌∷◌, Option, Some, None, All}
use Rattle.std.specs.List.{list_any}
use Rattle.std.specs.Str.{bytes_eq}
use Rattle.archi_defs.specs.declared.text.DurationLine.{DurationLine}
use Rattle.syn_base.specs.Bytes.{Bytes}

-- the ticks of the first line for the definition and the operator
abbrev pub ticks_of : List DurationLine → Bytes → ℕ → Option ℕ
ticks_of [] def o = None
ticks_of (d ∷ lines) def o = if bytes_eq d.def def && (d.operator == o) then Some d.ticks else ticks_of lines def o

-- some line is for the definition
abbrev pub is_given : List DurationLine → Bytes → Bool
is_given lines def = list_any (λ d. bytes_eq d.def def) lines

-- the most ticks of a duration
abbrev pub most_ticks : ℕ
most_ticks = 1000000000

-- a line is for one of this many operators, and lasts at most 1,000,000,000 ticks
abbrev pub IsDuration : ℕ → DurationLine → Type 0
IsDuration operators d = (d.operator < operators) × (d.ticks ≤ most_ticks)

-- each of these lines is a duration
abbrev pub AreDurations : ℕ → List DurationLine → Type 0
AreDurations operators lines = All (IsDuration operators) lines
