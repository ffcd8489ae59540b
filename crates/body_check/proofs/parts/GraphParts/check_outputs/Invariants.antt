use Rattle.std.proofs.Common.{◌≡◌, drop}
use Rattle.std.specs.Prelude.{None}
use Rattle.algo_rules.specs.Graphs.{open_fault}
use Rattle.body_check.specs.Parts.{of, own}
use Rattle.body_check.proofs.parts.GraphParts.check_outputs.Given as goal

abbrev pub invariant-loop-port : goal.invariant-loop-port
invariant-loop-port l =
    open_fault (of l.self) (own l.self) l.self.references.now l.self.edges.now l.self.line None (drop l.port-index l.outs)
    ≡ open_fault (of l.self) (own l.self) l.self.references.now l.self.edges.now l.self.line None l.outs
