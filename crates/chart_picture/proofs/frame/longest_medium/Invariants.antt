use Rattle.std.proofs.Common.{◌≡◌, drop, map}
use Rattle.std.specs.Prelude.{max}
use Rattle.svg_text.specs.Axis.{longest}
use Rattle.chart_picture.proofs.frame.longest_medium.Given as goal

-- the longest so far, or of those that are left
abbrev pub invariant-loop-medium : goal.invariant-loop-medium
invariant-loop-medium l = max l.longest (longest (map (λ m. m.name) (drop l.medium-index l.media))) ≡ longest (map (λ m. m.name) l.media)
