use Rattle.std.proofs.Common.{◌≡◌}
use Rattle.flat_laws.specs.Guarded.{merge_sources}
use Rattle.conditioning.proofs.merges.merge_outputs.Given as goal

abbrev pub invariant-loop-output : goal.invariant-loop-output
invariant-loop-output l = l.all.items ≡ merge_sources l.cases l.output
