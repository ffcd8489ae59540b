use Rattle.std.proofs.Common.{◌≡◌, length}
use Rattle.hierarchy.proofs.level.blank.Given as goal

abbrev pub invariant-loop-number : goal.invariant-loop-number
invariant-loop-number l = length l.leds.items ≡ l.number-index
