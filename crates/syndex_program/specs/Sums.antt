-- The sum of all that the actuators take.
use Rattle.std.specs.Prelude.{ℕ, ◌≤◌, ◌<◌, ℤ, List, [], length, drop, slice_index_or}
use Rattle.std.specs.List.{flat_map}
use Rattle.algo_tree.specs.Level.{all_joined}
use Rattle.algo_text.specs.Expr.{total}
use Rattle.word_rule.specs.Ended.{all_acts}
use Rattle.job_windows.specs.Windowed.{WindowsData, first_of}
use Rattle.syn_base.specs.Vectors.{Values}

-- of these rows, not brought back
abbrev pub total_of : List Values → ℤ
total_of acts = total (flat_map all_joined acts)

-- no row has more vectors than this
abbrev pub AreFew : ℕ → List Values → Type 0
AreFew most acts = (k : ℕ) → k < length acts → length (slice_index_or acts k []) ≤ most

-- of the windows that are left
abbrev pub total_left : WindowsData → ℤ
total_left w = total_of (drop (first_of w.next) (all_acts w.job))
