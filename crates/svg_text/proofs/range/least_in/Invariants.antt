use Rattle.std.proofs.Common.{◌≡◌, drop}
use Rattle.svg_text.specs.Level.{least_in}
use Rattle.svg_text.proofs.range.least_in.Given as goal

-- what is left decides
abbrev pub invariant-loop-k : goal.invariant-loop-k
invariant-loop-k l = least_in l.actuator l.low (drop l.k l.rows.reactions) ≡ least_in l.actuator l.first l.rows.reactions
