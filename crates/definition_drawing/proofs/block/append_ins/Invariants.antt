use Rattle.std.proofs.Common.{◌≡◌, ◌++◌, drop}
use Rattle.definition_drawing.specs.Drawing.{ins_text}
use Rattle.definition_drawing.proofs.block.append_ins.Given as goal

-- what is there, with the inputs that are left, is the whole
abbrev pub invariant-loop-port : goal.invariant-loop-port
invariant-loop-port l =
    l.out.items ++ ins_text l.def (drop l.port-index l.ports)
    ≡ l.fn.out.items ++ ins_text l.def l.ports
