use Rattle.std.proofs.Common.{ℕ, List, length, ap, subst, sym, ◌∙◌}
use Rattle.std.specs.List.{flat_map}
use Rattle.sequence_build_laws.specs.Acts.{acts_of}
use Rattle.sequence_build.specs.Plain.{steps_at}
use Rattle.sequence_build.specs.Touched.{Counts}
use Rattle.sequence_build.proofs.Limits.{limit_counted}
use Rattle.sequence_build.proofs.limit.limit_at.Goals as goal

pub limit_by-requires : goal.limit_by-requires
limit_by-requires c = ap (λ (l : List ℕ). length l) c.deref.ensures.value ∙ c.in_ok-counts.ensures.many ∙ c.requires

pub returns : goal.returns
returns c =
    limit_counted c.args.ground.now.bare.now c.args.site.now (acts_of c.args.decisions.now) c.args.ground.now.depth c.args.ground.now.media c.deref.result.now
    (subst (λ (l : List ℕ). Counts (length c.args.site.now.sequences.now) c.args.site.now.copies (flat_map (steps_at c.args.site.now) (acts_of c.args.decisions.now)) l) (sym c.deref.ensures.value)
    (subst (λ (n : ℕ). Counts n c.args.site.now.copies
    (flat_map (steps_at c.args.site.now) (acts_of c.args.decisions.now)) c.in_ok-counts.counts.items) c.in_ok-width.ensures.same c.in_ok-counts.ensures))
    c.limit_by.result c.limit_by.ensures
