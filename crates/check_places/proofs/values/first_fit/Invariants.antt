use Rattle.std.proofs.Common.{◌≡◌, drop}
use Rattle.check_places.specs.First.{first_from}
use Rattle.check_places.specs.Buffers.{fit_place}
use Rattle.check_places.proofs.values.first_fit.Given as goal

-- what is left gives the first
abbrev pub invariant-loop-operation : goal.invariant-loop-operation
invariant-loop-operation l = first_from (fit_place l.carried.program.now l.carried.vertices.now) l.operation
    (drop l.operation l.carried.vertices.now) ≡ first_from (fit_place l.carried.program.now l.carried.vertices.now) 0 l.carried.vertices.now
