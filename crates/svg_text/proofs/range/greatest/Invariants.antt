use Rattle.std.proofs.Common.{◌≡◌, drop}
use Rattle.svg_text.specs.Level.{greatest}
use Rattle.svg_text.proofs.range.greatest.Given as goal

-- what is left decides
abbrev pub invariant-loop-value : goal.invariant-loop-value
invariant-loop-value l = greatest l.high (drop l.value-index l.values) ≡ greatest l.first l.values
