use Rattle.std.proofs.Common.{◌≡◌, drop, map}
use Rattle.flat_laws.specs.Lines.{in_line_order as ordered}
use Rattle.factorisation.proofs.lines.in_line_order.Given as goal

abbrev pub invariant-loop-left : goal.invariant-loop-left
invariant-loop-left l = map (λ f. f.now) l.lines.items ≡ ordered (drop l.left l.feeds)
