use Rattle.std.proofs.Common.{◌≡◌, drop, map, vec_len}
use Rattle.std.specs.List.{flat_map}
use Rattle.sequence_build_laws.specs.Acts.{carry}
use Rattle.sequence_build.specs.Plain.{steps_at}
use Rattle.sequence_build.proofs.site.Site.carry_all.Given as goal
use Rattle.sequence_build.proofs.Adding.{ComesTo}

-- what is left makes the whole
abbrev pub invariant-loop-transfer : goal.invariant-loop-transfer
invariant-loop-transfer l = record {
  many : vec_len l.loops ≡ vec_len l.fn.loops;
  left : ComesTo l.fn.loops.items l.loops.items (flat_map (steps_at l.self) (map carry (drop l.transfer-index l.transfers))) (flat_map (steps_at l.self) (map carry l.transfers));
}
