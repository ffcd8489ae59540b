use Rattle.std.proofs.Common.{drop, map}
use Rattle.std.specs.List.{flat_map}
use Rattle.sequence_build_laws.specs.Acts.{carry, made_by}
use Rattle.sequence_build.proofs.made.Made.carry_all.Given as goal
use Rattle.sequence_build.proofs.Adding.{MakesUp}

-- what is left makes the whole
abbrev pub invariant-loop-transfer : goal.invariant-loop-transfer
invariant-loop-transfer l = MakesUp l.vertices l.fn.self l.self (flat_map (made_by l.vertices) (map carry (drop l.transfer-index l.transfers))) (flat_map (made_by l.vertices) (map carry l.transfers))
