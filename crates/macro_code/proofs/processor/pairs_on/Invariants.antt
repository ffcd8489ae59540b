use Rattle.std.proofs.Common.{◌≡◌, ◌++◌, drop}
use Rattle.macro_code.specs.Text.{pairs_on}
use Rattle.macro_code.proofs.processor.pairs_on.Given as goal

-- what is there, with what is left, is the whole
abbrev pub invariant-loop-number : goal.invariant-loop-number
invariant-loop-number l = l.numbers.items ++ pairs_on l.operator l.number (drop l.number l.pairs) ≡ pairs_on l.operator 0 l.pairs
