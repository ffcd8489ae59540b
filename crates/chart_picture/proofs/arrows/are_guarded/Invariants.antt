use Rattle.std.proofs.Common.{◌≡◌, drop, map}
use Rattle.std.specs.List.{list_any}
use Rattle.self_timed.specs.Acts.{copy}
use Rattle.chart_picture.specs.Arrows.{brings}
use Rattle.chart_picture.proofs.arrows.are_guarded.Given as goal

-- what is left decides
abbrev pub invariant-loop-guard : goal.invariant-loop-guard
invariant-loop-guard l =
    list_any (brings l.transfer) (map (copy l.operator) (map (λ d. d.source) (drop l.guard-index l.guards)))
    ≡ list_any (brings l.transfer) (map (copy l.operator) (map (λ d. d.source) l.guards))
