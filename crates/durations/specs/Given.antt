-- Durations that are found by hash, and the refusal where one is missing.
use Rattle.std.specs.Prelude.{
  ◌≡◌,
  ℕ,
  ◌<◌,
  if◌then◌else◌,
  List,
  [],
  ◌∷◌,
  length,
  slice_index_or,
  Option,
  Some,
  None,
}
use Rattle.std.specs.Str.{bytes_eq}
use Rattle.archi_defs.specs.declared.text.DurationLine.{DurationLine}
use Rattle.archi_defs.specs.Refusals.{ArchiError}
use Rattle.text_lines.specs.declared.fault.TextError.TheVariants.{Refused, Limit, OutOfMemory}
use Rattle.archi_defs.specs.declared.fault.ArchiCause.TheVariants.{NoDuration}
use Rattle.syn_base.specs.Bytes.{Bytes}
use Rattle.durations.specs.Lines.{ticks_of, AreDurations}

-- the lines of a text for this many operators
pub record Lines : Type 0 where
  pub operators : ℕ
  pub lines : List DurationLine

-- the ticks of a definition, among definitions with their ticks
abbrev pub ticks_at : List (Bytes × ℕ) → Bytes → Option ℕ
ticks_at [] def = None
ticks_at (p ∷ ps) def = if bytes_eq def p.0 then Some p.1 else ticks_at ps def

-- the first of two that is there
abbrev pub first_of : Option ℕ → Option ℕ → Option ℕ
first_of (Some t) other = Some t
first_of None other = other

-- for each operator the definitions that have a duration on it: exactly those of the lines
pub record AreFound (operators : ℕ) (found : List (List (Bytes × ℕ))) (lines : List DurationLine) : Type 0 where
  pub each : length found ≡ operators
  pub same : (def : Bytes) (o : ℕ) → o < operators → ticks_at (slice_index_or found o []) def ≡ ticks_of lines def o
  pub known : AreDurations operators lines

-- the definition is refused, unless memory ran out
abbrev pub IsRefused : ArchiError → Bytes → Type 0
IsRefused (Refused f) def = f ≡ record { line = 0; cause = NoDuration def }
IsRefused (Limit f) def = ⊥
IsRefused OutOfMemory def = Unit {0}
