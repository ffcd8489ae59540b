use Rattle.std.proofs.Common.{◌≡◌, ◌++◌, drop, nat_eq}
use Rattle.std.specs.Prelude.{replicate}
use Rattle.std.specs.List.{flat_map}
use Rattle.sequence_build_laws.specs.declared.Instr.TheVariants.{Pre0}
use Rattle.sequence_build_laws.specs.Serial.{numbers_where}
use Rattle.sequence_build.specs.declared.pairs.Pair.{Pair}
use Rattle.sequence_build.specs.Around.{opening_with}
use Rattle.sequence_build.proofs.around.opening_of.Given as goal

-- what is left makes the whole
abbrev pub invariant-loop-pair_number : goal.invariant-loop-pair_number
invariant-loop-pair_number l = l.out.items
    ++ flat_map (λ q. replicate l.depth (Pre0 q))
    (numbers_where (λ (p : Pair). nat_eq p.reader l.sequence) l.pair_number (drop l.pair_number l.pairs)) ≡ opening_with l.depth l.sequence l.pairs
