use Rattle.std.proofs.Common.{◌≡◌, ◌++◌, drop, length, map}
use Rattle.self_timed.specs.Acts.{carry}
use Rattle.chart_picture.specs.Arrows.{links_to}
use Rattle.chart_picture.proofs.arrows.append_relays.Given as goal

-- what is there, with the arrows to the transfers that are left, is the whole
abbrev pub invariant-loop-reader : goal.invariant-loop-reader
invariant-loop-reader l =
    l.out.items ++ links_to l.sheet.flat.now.vertices (length l.sheet.archi.now.operators) l.sheet.scale l.transfer (map carry (drop l.reader-index l.readers))
    ≡ l.fn.out.items ++ links_to l.sheet.flat.now.vertices (length l.sheet.archi.now.operators) l.sheet.scale l.transfer (map carry l.readers)
