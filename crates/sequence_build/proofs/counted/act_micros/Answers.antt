use Rattle.std.proofs.Common.{ℕ, [], ◌∷◌, ◌-◌, ◌^◌, min, sym, ap, arith, ◌∙◌}
use Rattle.std.specs.List.{flat_map, sum_by}
use Rattle.std.proofs.lemmas.List.{take_all}
use Rattle.sequence_build_laws.specs.declared.Decision.{Decision}
use Rattle.sequence_build_laws.specs.Acts.{acts_of}
use Rattle.sequence_build.specs.Counted.{step_micros}
use Rattle.sequence_build.specs.Plain.{steps_at}
use Rattle.sequence_build.proofs.Micros.{acts_are}
use Rattle.sequence_build.proofs.counted.act_micros.Goals as goal

pub returns : goal.returns
returns c =
    let ds = c.args.decisions.now in
    c.loop-decision.invariant
    ∙ ap (λ (n : ℕ). min n (2 ^ 128 - 1))
    (ap (sum_by (λ (d : Decision). step_micros c.args.bare.now (flat_map (steps_at c.args.site.now) (acts_of (d ∷ [])))))
    (take_all c.loop-decision.decision-index ds (omega (arith, c.loop-decision-test.false)))
    ∙ sym (acts_are c.args.bare.now (steps_at c.args.site.now) ds))
