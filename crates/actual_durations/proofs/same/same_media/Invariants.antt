use Rattle.std.proofs.Common.{◌≡◌, drop}
use Rattle.std.specs.Cmp.Lexicographic.{pointwise}
use Rattle.actual_durations.specs.Actual.{same_medium}
use Rattle.actual_durations.proofs.same.same_media.Given as goal

-- the media that are left decide
abbrev pub invariant-loop-place : goal.invariant-loop-place
invariant-loop-place l = pointwise same_medium (drop l.place l.stated) (drop l.place l.actual) ≡ pointwise same_medium l.stated l.actual
