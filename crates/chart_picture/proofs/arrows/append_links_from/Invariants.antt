use Rattle.std.proofs.Common.{◌≡◌, ◌++◌, drop, length, map}
use Rattle.std.specs.List.{flat_map}
use Rattle.self_timed.specs.Acts.{acts_of, carry}
use Rattle.chart_picture.specs.Arrows.{links_from}
use Rattle.chart_picture.proofs.arrows.append_links_from.Given as goal

-- what is there, with the arrows from the transfers that are left, is the whole
abbrev pub invariant-loop-transfer : goal.invariant-loop-transfer
invariant-loop-transfer l =
    l.out.items ++ flat_map (links_from l.sheet.flat.now.vertices (length l.sheet.archi.now.operators) l.sheet.scale (acts_of l.readers)) (map carry (drop l.transfer-index l.transfers))
    ≡ l.fn.out.items ++ flat_map (links_from l.sheet.flat.now.vertices (length l.sheet.archi.now.operators) l.sheet.scale (acts_of l.readers)) (map carry l.transfers)
