use Rattle.std.proofs.Common.{◌≡◌, ◌++◌, drop}
use Rattle.definition_drawing.specs.Drawing.{outs_text}
use Rattle.definition_drawing.proofs.block.append_outs.Given as goal

-- what is there, with the outputs that are left, is the whole
abbrev pub invariant-loop-port : goal.invariant-loop-port
invariant-loop-port l =
    l.out.items ++ outs_text l.def (drop l.port-index l.ports)
    ≡ l.fn.out.items ++ outs_text l.def l.ports
