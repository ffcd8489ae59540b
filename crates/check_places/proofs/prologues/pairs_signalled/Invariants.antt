use Rattle.std.proofs.Common.{◌≡◌}
use Rattle.sequence_build_laws.specs.Blocks.{blocks, repeated}
use Rattle.sequence_build_laws.specs.Places.{opening_signals}
use Rattle.check_places.proofs.prologues.pairs_signalled.Given as goal

abbrev pub invariant-loop-pair : goal.invariant-loop-pair
invariant-loop-pair l = l.pairs.items ≡ blocks (λ q. repeated q (opening_signals l.program l.fn.sequence q)) l.pair
