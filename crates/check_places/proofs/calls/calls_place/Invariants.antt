use Rattle.std.proofs.Common.{◌≡◌, drop}
use Rattle.check_places.specs.First.{first_from}
use Rattle.check_places.specs.Calls.{call_place}
use Rattle.check_places.proofs.calls.calls_place.Given as goal

-- what is left gives the first
abbrev pub invariant-loop-operation : goal.invariant-loop-operation
invariant-loop-operation l = first_from (call_place l.program) l.operation (drop l.operation l.vertices) ≡ first_from (call_place l.program) 0 l.vertices
