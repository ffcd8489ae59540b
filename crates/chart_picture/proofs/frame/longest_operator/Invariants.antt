use Rattle.std.proofs.Common.{◌≡◌, drop}
use Rattle.std.specs.Prelude.{max}
use Rattle.svg_text.specs.Axis.{longest}
use Rattle.chart_picture.proofs.frame.longest_operator.Given as goal

-- the longest so far, or of those that are left
abbrev pub invariant-loop-name : goal.invariant-loop-name
invariant-loop-name l = max l.longest (longest (drop l.name-index l.operators)) ≡ longest l.operators
