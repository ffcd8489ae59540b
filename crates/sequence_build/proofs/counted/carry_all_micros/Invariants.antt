use Rattle.std.proofs.Common.{◌≡◌, ◌-◌, ◌^◌, min, take}
use Rattle.std.specs.List.{sum_by}
use Rattle.sequence_build_laws.specs.Acts.{carry}
use Rattle.sequence_build.specs.Plain.{steps_at}
use Rattle.sequence_build.specs.Counted.{step_micros}
use Rattle.sequence_build.proofs.counted.carry_all_micros.Given as goal

abbrev pub invariant-loop-transfer : goal.invariant-loop-transfer
invariant-loop-transfer l = l.total ≡ min (sum_by (λ t. step_micros l.bare (steps_at l.site (carry t))) (take l.transfer-index l.transfers)) (2 ^ 128 - 1)
