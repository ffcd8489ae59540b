use Rattle.std.proofs.Common.{◌≡◌, drop}
use Rattle.graph_drawing.specs.FlatDrawing.{medium_to}
use Rattle.graph_drawing.proofs.placing.medium_to.Given as goal

-- the decisions that are left decide
abbrev pub invariant-loop-decision : goal.invariant-loop-decision
invariant-loop-decision l =
    medium_to (drop l.decision-index l.decisions) l.source l.operator ≡ medium_to l.decisions l.source l.operator
