use Rattle.std.proofs.Common.{◌≡◌, ◌∷◌, [], ◌-◌, ◌^◌, min, take}
use Rattle.std.specs.List.{flat_map, sum_by}
use Rattle.sequence_build_laws.specs.Acts.{acts_of}
use Rattle.sequence_build.specs.Plain.{steps_at}
use Rattle.sequence_build.specs.Counted.{step_micros}
use Rattle.sequence_build.proofs.counted.act_micros.Given as goal

abbrev pub invariant-loop-decision : goal.invariant-loop-decision
invariant-loop-decision l = l.total ≡ min (sum_by (λ d. step_micros l.bare (flat_map (steps_at l.site) (acts_of (d ∷ [])))) (take l.decision-index l.decisions)) (2 ^ 128 - 1)
