use Rattle.std.proofs.Common.{◌≡◌, ◌++◌, drop}
use Rattle.graph_drawing.specs.FlatDrawing.{statements_text}
use Rattle.graph_drawing.specs.Statements.{conditions_from}
use Rattle.graph_drawing.proofs.statement.append_conditions.Given as goal

-- what is there, with the guards that are left, is the whole
abbrev pub invariant-loop-guard : goal.invariant-loop-guard
invariant-loop-guard l =
    l.out.items ++ statements_text l.decisions (conditions_from l.fn.number l.guard-index (drop l.guard-index l.guards))
    ≡ l.fn.out.items ++ statements_text l.decisions (conditions_from l.fn.number 0 l.guards)
