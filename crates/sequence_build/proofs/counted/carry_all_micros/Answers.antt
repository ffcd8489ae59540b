use Rattle.std.proofs.Common.{ℕ, ◌-◌, ◌^◌, min, sym, ap, arith, ◌∙◌}
use Rattle.std.specs.List.{sum_by}
use Rattle.std.proofs.lemmas.List.{take_all}
use Rattle.sequence_build_laws.specs.declared.Transfer.{Transfer}
use Rattle.sequence_build_laws.specs.Acts.{carry}
use Rattle.sequence_build.specs.Counted.{step_micros}
use Rattle.sequence_build.specs.Plain.{steps_at}
use Rattle.sequence_build.proofs.Micros.{carries_are}
use Rattle.sequence_build.proofs.counted.carry_all_micros.Goals as goal

pub returns : goal.returns
returns c =
    let ts = c.args.transfers.now in
    c.loop-transfer.invariant
    ∙ ap (λ (n : ℕ). min n (2 ^ 128 - 1))
    (ap (sum_by (λ (t : Transfer). step_micros c.args.bare.now (steps_at c.args.site.now (carry t)))) (take_all c.loop-transfer.transfer-index ts (omega (arith, c.loop-transfer-test.false)))
    ∙ sym (carries_are c.args.bare.now (steps_at c.args.site.now) ts))
