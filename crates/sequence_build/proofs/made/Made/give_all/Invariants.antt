use Rattle.std.proofs.Common.{drop, map}
use Rattle.sequence_build_laws.specs.Acts.{copy, outputs_from}
use Rattle.sequence_build.proofs.made.Made.give_all.Given as goal
use Rattle.sequence_build.proofs.Adding.{MakesUp}

-- what is left makes the whole
abbrev pub invariant-loop-port : goal.invariant-loop-port
invariant-loop-port l = MakesUp l.vertices l.fn.self l.self
    (map (copy l.decision.operator) (outputs_from l.decision.op l.port (drop l.port l.outs)))
    (map (copy l.decision.operator) (outputs_from l.decision.op 0 l.outs))
