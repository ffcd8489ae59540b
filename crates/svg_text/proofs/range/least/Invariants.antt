use Rattle.std.proofs.Common.{◌≡◌, drop}
use Rattle.svg_text.specs.Level.{least}
use Rattle.svg_text.proofs.range.least.Given as goal

-- what is left decides
abbrev pub invariant-loop-value : goal.invariant-loop-value
invariant-loop-value l = least l.low (drop l.value-index l.values) ≡ least l.first l.values
