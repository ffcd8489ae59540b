use Rattle.std.proofs.Common.{◌≡◌, ◌++◌, drop}
use Rattle.graph_drawing.specs.FlatDrawing.{statements_text}
use Rattle.graph_drawing.specs.Statements.{inputs_from}
use Rattle.graph_drawing.proofs.statement.append_inputs.Given as goal

-- what is there, with the inputs that are left, is the whole
abbrev pub invariant-loop-place : goal.invariant-loop-place
invariant-loop-place l =
    l.out.items ++ statements_text l.decisions (inputs_from l.fn.number l.place (drop l.place l.sources))
    ≡ l.fn.out.items ++ statements_text l.decisions (inputs_from l.fn.number 0 l.sources)
