use Rattle.std.proofs.Common.{◌≡◌, drop}
use Rattle.svg_text.specs.Level.{greatest_in}
use Rattle.svg_text.proofs.range.greatest_in.Given as goal

-- what is left decides
abbrev pub invariant-loop-k : goal.invariant-loop-k
invariant-loop-k l = greatest_in l.actuator l.high (drop l.k l.rows.reactions) ≡ greatest_in l.actuator l.first l.rows.reactions
