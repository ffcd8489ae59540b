use Rattle.std.proofs.Common.{◌≡◌, ◌++◌, drop, map}
use Rattle.sequence_build_laws.specs.Acts.{copy, outputs_from}
use Rattle.sequence_build.specs.Plain.{numbering}
use Rattle.sequence_build.proofs.site.Site.give_all.Given as goal

-- what is left makes the whole
abbrev pub invariant-loop-port : goal.invariant-loop-port
invariant-loop-port l = l.outs.items
    ++ map (numbering l.self) (map (copy l.decision.operator) (outputs_from l.decision.op l.port (drop l.port l.lens))) ≡ l.fn.outs.items
    ++ map (numbering l.self) (map (copy l.decision.operator) (outputs_from l.decision.op 0 l.lens))
