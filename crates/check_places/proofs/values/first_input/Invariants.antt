use Rattle.std.proofs.Common.{◌≡◌, drop}
use Rattle.check_places.specs.First.{first_from}
use Rattle.check_places.specs.Buffers.{input_place}
use Rattle.check_places.proofs.values.first_input.Given as goal

-- what is left gives the first
abbrev pub invariant-loop-place : goal.invariant-loop-place
invariant-loop-place l = first_from
    (input_place l.carried.program.now l.carried.vertices.now l.call.operation l.call.sequence l.call.at l.fn.guards l.ins) l.place
    (drop l.place l.inputs) ≡ first_from
    (input_place l.carried.program.now l.carried.vertices.now l.call.operation l.call.sequence l.call.at l.fn.guards l.ins) 0 l.inputs
