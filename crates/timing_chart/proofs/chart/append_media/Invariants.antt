use Rattle.std.proofs.Common.{◌≡◌, ◌++◌, drop}
use Rattle.schedule.specs.Acts.{acts_of}
use Rattle.timing_chart.specs.Chart.{medium_parts, text_of}
use Rattle.timing_chart.proofs.chart.append_media.Given as goal

-- what is there, with the parts of the media that are left, is the whole
abbrev pub invariant-loop-number : goal.invariant-loop-number
invariant-loop-number l =
    l.out.items ++ text_of (medium_parts l.named.vertices.now l.named.operators.now (acts_of l.decisions) l.number (drop l.number l.media))
    ≡ l.fn.out.items ++ text_of (medium_parts l.named.vertices.now l.named.operators.now (acts_of l.decisions) 0 l.media)
