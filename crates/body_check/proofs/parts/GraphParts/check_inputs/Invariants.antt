use Rattle.std.proofs.Common.{◌≡◌, drop}
use Rattle.std.specs.Prelude.{Some}
use Rattle.algo_rules.specs.Graphs.{open_fault}
use Rattle.body_check.specs.Parts.{of, own}
use Rattle.body_check.proofs.parts.GraphParts.check_inputs.Given as goal

abbrev pub invariant-loop-port : goal.invariant-loop-port
invariant-loop-port l =
    open_fault (of l.self) (own l.self) l.self.references.now l.self.edges.now l.reference.line (Some l.reference.name) (drop l.port-index l.ins)
    ≡ open_fault (of l.self) (own l.self) l.self.references.now l.self.edges.now l.reference.line (Some l.reference.name) l.ins
