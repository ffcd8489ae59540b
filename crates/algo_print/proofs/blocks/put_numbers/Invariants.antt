use Rattle.std.proofs.Common.{◌≡◌, ◌++◌, drop, map}
use Rattle.std.specs.Fmt.{signed_decimal}
use Rattle.algo_print.specs.Canonical.{spaced}
use Rattle.algo_print.proofs.blocks.put_numbers.Given as goal

abbrev pub invariant-loop-value : goal.invariant-loop-value
invariant-loop-value l = l.text.items ++ spaced (map signed_decimal (drop l.value-index l.values)) ≡ l.initial.text.items ++ spaced (map signed_decimal l.values)
