use Rattle.std.proofs.Common.{drop, map}
use Rattle.std.specs.List.{flat_map}
use Rattle.sequence_build_laws.specs.Acts.{carry}
use Rattle.sequence_build.specs.Plain.{steps_at}
use Rattle.sequence_build.proofs.touched.Touched.carry_all.Given as goal
use Rattle.sequence_build.proofs.Touching.{NotesUp}

-- what is left makes the whole
abbrev pub invariant-loop-transfer : goal.invariant-loop-transfer
invariant-loop-transfer l = NotesUp l.fn.self l.self (flat_map (steps_at l.site) (map carry (drop l.transfer-index l.transfers))) (flat_map (steps_at l.site) (map carry l.transfers))
