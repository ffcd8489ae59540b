use Rattle.std.proofs.Common.{◌≡◌, ◌++◌, drop}
use Rattle.graph_drawing.specs.FlatDrawing.{medium_keys}
use Rattle.graph_drawing.proofs.legend.append_medium_keys.Given as goal

-- what is there, with the media that are left, is the whole
abbrev pub invariant-loop-number : goal.invariant-loop-number
invariant-loop-number l =
    l.out.items ++ medium_keys l.number (drop l.number l.media)
    ≡ l.fn.out.items ++ medium_keys 0 l.media
