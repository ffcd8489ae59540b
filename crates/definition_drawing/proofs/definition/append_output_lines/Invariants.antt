use Rattle.std.proofs.Common.{◌≡◌, ◌++◌, drop}
use Rattle.definition_drawing.specs.Drawing.{output_lines}
use Rattle.definition_drawing.proofs.definition.append_output_lines.Given as goal

-- what is there, with the outputs that are left, is the whole
abbrev pub invariant-loop-output : goal.invariant-loop-output
invariant-loop-output l =
    l.out.items ++ output_lines (drop l.output-index l.outs)
    ≡ l.fn.out.items ++ output_lines l.outs
