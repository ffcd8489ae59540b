use Rattle.std.proofs.Common.{◌≡◌, ◌++◌, drop}
use Rattle.definition_drawing.specs.Drawing.{input_lines}
use Rattle.definition_drawing.proofs.definition.append_input_lines.Given as goal

-- what is there, with the inputs that are left, is the whole
abbrev pub invariant-loop-port : goal.invariant-loop-port
invariant-loop-port l =
    l.out.items ++ input_lines (drop l.port-index l.ports)
    ≡ l.fn.out.items ++ input_lines l.ports
