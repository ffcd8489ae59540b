use Rattle.std.proofs.Common.{◌≡◌, ◌+◌, ◌++◌, drop}
use Rattle.chart_picture.specs.DatesPicture.{medium_lanes}
use Rattle.chart_picture.proofs.board.append_media.Given as goal

-- what is there, with the lanes of the media that are left, is the whole
abbrev pub invariant-loop-number : goal.invariant-loop-number
invariant-loop-number l =
    l.out.items ++ medium_lanes l.width (l.first + l.number) (drop l.number l.media) ≡ l.fn.out.items ++ medium_lanes l.width l.first l.media
