use Rattle.std.proofs.Common.{ℕ, ◌-◌, ◌^◌, None, min, sym, ap, ◌∙◌}
use Rattle.std.specs.List.{flat_map}
use Rattle.syn_base.specs.declared.limits.LimitKind.TheVariants.{Words, MicroSteps}
use Rattle.sequence_build_laws.specs.Acts.{acts_of}
use Rattle.sequence_build.specs.Counted.{all_micros, all_words}
use Rattle.sequence_build.specs.Plain.{numbering, steps_at}
use Rattle.sequence_build.proofs.Limits.{next_decides, over}
use Rattle.sequence_build.proofs.limit.limit_by.Goals as goal
use Rattle.syn_base.specs.Limits.{above}

pub returns-in-Some : goal.returns-in-Some
returns-in-Some c =
    let p = c.args.ground.now.bare.now in
    let n = c.args.counts.now in
    let xs = acts_of c.args.decisions.now in
    over Words (all_words p n c.args.ground.now.depth (numbering c.args.site.now) xs c.args.ground.now.media)
    (above MicroSteps (min (all_micros p n c.args.ground.now.depth (flat_map (steps_at c.args.site.now) xs)) (2 ^ 128 - 1)) None) c.in-Some.fault
    (ap (λ (k : ℕ). above Words k None) (sym c.words_of.ensures) ∙ sym c.in-Some.ensures)

pub returns-in-None : goal.returns-in-None
returns-in-None c =
    let p = c.args.ground.now.bare.now in
    let n = c.args.counts.now in
    let xs = acts_of c.args.decisions.now in
    next_decides Words (all_words p n c.args.ground.now.depth (numbering c.args.site.now) xs c.args.ground.now.media)
    (above MicroSteps (min (all_micros p n c.args.ground.now.depth (flat_map (steps_at c.args.site.now) xs)) (2 ^ 128 - 1)) None)
    (ap (λ (k : ℕ). above Words k None) (sym c.words_of.ensures) ∙ sym c.in-None.ensures) c.steps_limit.result c.steps_limit.ensures
