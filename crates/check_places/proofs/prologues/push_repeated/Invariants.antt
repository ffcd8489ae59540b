use Rattle.std.proofs.Common.{◌≡◌, ◌++◌}
use Rattle.sequence_build_laws.specs.Blocks.{repeated}
use Rattle.check_places.proofs.prologues.push_repeated.Given as goal

abbrev pub invariant-loop : goal.invariant-loop
invariant-loop l = l.pairs.items ≡ l.initial.pairs.items ++ repeated l.pair l.counter
