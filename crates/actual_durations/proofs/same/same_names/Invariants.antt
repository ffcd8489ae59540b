use Rattle.std.proofs.Common.{◌≡◌, drop}
use Rattle.std.specs.Cmp.Lexicographic.{pointwise}
use Rattle.std.specs.Str.{bytes_eq}
use Rattle.actual_durations.proofs.same.same_names.Given as goal

-- the names that are left decide
abbrev pub invariant-loop-place : goal.invariant-loop-place
invariant-loop-place l = pointwise bytes_eq (drop l.place l.stated) (drop l.place l.actual) ≡ pointwise bytes_eq l.stated l.actual
