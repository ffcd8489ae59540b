use Rattle.std.proofs.Common.{◌≡◌, ◌++◌, drop}
use Rattle.self_timed.specs.Acts.{acts_of}
use Rattle.chart_picture.specs.Picture.{medium_lanes}
use Rattle.chart_picture.proofs.picture.append_media.Given as goal

-- what is there, with the lanes of the media that are left, is the whole
abbrev pub invariant-loop-number : goal.invariant-loop-number
invariant-loop-number l =
    l.out.items ++ medium_lanes l.sheet.flat.now l.sheet.archi.now l.sheet.scale (acts_of l.decisions) l.number (drop l.number l.media)
    ≡ l.fn.out.items ++ medium_lanes l.sheet.flat.now l.sheet.archi.now l.sheet.scale (acts_of l.decisions) 0 l.media
