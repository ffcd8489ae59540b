use Rattle.std.proofs.Common.{◌≡◌, ◌++◌, drop, map}
use Rattle.std.specs.Prelude.{slice_get}
use Rattle.sequence_build_laws.specs.Guarded.{operator_in}
use Rattle.sequence_build.specs.declared.pairs.Pair.{Pair}
use Rattle.sequence_build.proofs.pairs.operators_of.Given as goal

-- what is left makes the whole
abbrev pub invariant-loop-pair : goal.invariant-loop-pair
invariant-loop-pair l = l.operators.items ++ map (λ (p : Pair). operator_in (slice_get l.buffers p.buffer)) (drop l.pair-index l.pairs)
    ≡ map (λ (p : Pair). operator_in (slice_get l.buffers p.buffer)) l.pairs
