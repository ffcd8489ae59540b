use Rattle.std.proofs.Common.{◌≡◌, ◌++◌, drop}
use Rattle.definition_drawing.specs.Drawing.{links_text}
use Rattle.definition_drawing.proofs.block.append_links.Given as goal

-- what is there, with the edges that are left, is the whole
abbrev pub invariant-loop-edge : goal.invariant-loop-edge
invariant-loop-edge l =
    l.out.items ++ links_text l.def (drop l.edge-index l.edges)
    ≡ l.fn.out.items ++ links_text l.def l.edges
