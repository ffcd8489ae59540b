use Rattle.std.proofs.Common.{◌≡◌, drop, map}
use Rattle.std.specs.List.{list_any}
use Rattle.self_timed.specs.Acts.{copy}
use Rattle.chart_picture.specs.Arrows.{brings}
use Rattle.chart_picture.proofs.arrows.are_fed.Given as goal

-- what is left decides
abbrev pub invariant-loop-source : goal.invariant-loop-source
invariant-loop-source l =
    list_any (brings l.transfer) (map (copy l.operator) (drop l.source-index l.sources)) ≡ list_any (brings l.transfer) (map (copy l.operator) l.sources)
