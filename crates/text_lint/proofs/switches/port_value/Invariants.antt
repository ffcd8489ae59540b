use Rattle.std.proofs.Common.{◌≡◌, drop}
use Rattle.text_lint.specs.Algorithm.{port_value}
use Rattle.text_lint.proofs.switches.port_value.Given as goal

-- the edges that are left decide
abbrev pub invariant-loop-edge : goal.invariant-loop-edge
invariant-loop-edge l = port_value l.known l.references (drop l.edge-index l.edges) l.reference l.port ≡ port_value l.known l.references l.edges l.reference l.port
