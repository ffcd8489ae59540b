use Rattle.std.proofs.Common.{◌≡◌, ◌++◌, drop}
use Rattle.graph_drawing.specs.FlatDrawing.{statements_text}
use Rattle.graph_drawing.specs.Statements.{statements_from}
use Rattle.graph_drawing.proofs.flat_drawing.append_vertices.Given as goal

-- what is there, with the operations that are left, is the whole
abbrev pub invariant-loop-number : goal.invariant-loop-number
invariant-loop-number l =
    l.out.items ++ statements_text l.decisions (statements_from l.number (drop l.number l.vertices))
    ≡ l.fn.out.items ++ statements_text l.decisions (statements_from 0 l.vertices)
