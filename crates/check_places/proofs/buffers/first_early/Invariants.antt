use Rattle.std.proofs.Common.{◌≡◌, drop}
use Rattle.check_places.specs.First.{first_failing}
use Rattle.check_places.specs.Buffers.{is_not_before}
use Rattle.check_places.proofs.buffers.first_early.Given as goal

-- what is left gives the first
abbrev pub invariant-loop-read : goal.invariant-loop-read
invariant-loop-read l = first_failing (is_not_before l.write) (drop l.read-index l.reads) ≡ first_failing (is_not_before l.write) l.reads
