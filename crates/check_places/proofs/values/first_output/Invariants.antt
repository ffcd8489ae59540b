use Rattle.std.proofs.Common.{◌≡◌, drop}
use Rattle.check_places.specs.First.{first_from}
use Rattle.check_places.specs.Buffers.{output_place}
use Rattle.check_places.proofs.values.first_output.Given as goal

-- what is left gives the first
abbrev pub invariant-loop-number : goal.invariant-loop-number
invariant-loop-number l = first_from
    (output_place l.carried.program.now l.carried.vertices.now l.call.operation l.call.sequence l.call.at l.outs) l.number
    (drop l.number l.lens) ≡ first_from (output_place l.carried.program.now l.carried.vertices.now l.call.operation l.call.sequence l.call.at l.outs) 0 l.lens
