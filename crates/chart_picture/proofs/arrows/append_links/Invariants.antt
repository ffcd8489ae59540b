use Rattle.std.proofs.Common.{◌≡◌, ◌++◌, drop, length}
use Rattle.std.specs.List.{flat_map}
use Rattle.self_timed.specs.Acts.{acts_of}
use Rattle.chart_picture.specs.Arrows.{links_from}
use Rattle.chart_picture.proofs.arrows.append_links.Given as goal

-- what is there, with the arrows from the decisions that are left, is the whole
abbrev pub invariant-loop-decision : goal.invariant-loop-decision
invariant-loop-decision l =
    l.out.items ++ flat_map (links_from l.sheet.flat.now.vertices (length l.sheet.archi.now.operators) l.sheet.scale (acts_of l.decisions)) (acts_of (drop l.decision-index l.decisions))
    ≡ l.fn.out.items ++ flat_map (links_from l.sheet.flat.now.vertices (length l.sheet.archi.now.operators) l.sheet.scale (acts_of l.decisions)) (acts_of l.decisions)
