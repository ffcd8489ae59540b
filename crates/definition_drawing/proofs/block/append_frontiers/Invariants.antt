use Rattle.std.proofs.Common.{◌≡◌, ◌++◌, drop}
use Rattle.definition_drawing.specs.Drawing.{frontiers_text}
use Rattle.definition_drawing.proofs.block.append_frontiers.Given as goal

-- what is there, with the lines that are left, is the whole
abbrev pub invariant-loop-line : goal.invariant-loop-line
invariant-loop-line l =
    l.out.items ++ frontiers_text l.def (drop l.line-index l.lines)
    ≡ l.fn.out.items ++ frontiers_text l.def l.lines
