-- Which durations were given.
use Rattle.std.specs.Prelude.{◌≡◌, ℕ, Bool, ◌&&◌, ◌==◌, List, [], length, slice_index_or}
use Rattle.std.specs.List.{list_any}
use Rattle.std.specs.Str.{bytes_eq}
use Rattle.archi_defs.specs.declared.text.DurationLine.{DurationLine}
use Rattle.syn_base.specs.Bytes.{Bytes}

-- a duration of the definition on the operator is among these
abbrev pub is_given : List DurationLine → Bytes → ℕ → Bool
is_given lines def o = list_any (λ d. bytes_eq d.def def && (d.operator == o)) lines

-- for each of 16 operators, the definitions that have a duration on it
pub record AreGiven (tables : List (List Bytes)) (lines : List DurationLine) : Type 0 where
  pub sixteen : length tables ≡ 16
  -- exactly those of its durations
  pub found : (def : Bytes) (o : ℕ) → list_any (bytes_eq def) (slice_index_or tables o []) ≡ is_given lines def o
