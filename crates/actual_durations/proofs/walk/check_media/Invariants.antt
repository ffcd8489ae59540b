use Rattle.std.proofs.Common.{◌≡◌, drop}
use Rattle.actual_durations.specs.Actual.{slower_medium}
use Rattle.actual_durations.proofs.walk.check_media.Given as goal

-- the first fault is among the media that are left
abbrev pub invariant-loop-place : goal.invariant-loop-place
invariant-loop-place l = slower_medium (drop l.place l.stated) (drop l.place l.actual) ≡ slower_medium l.stated l.actual
