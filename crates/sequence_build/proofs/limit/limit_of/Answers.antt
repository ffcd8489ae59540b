use Rattle.std.proofs.Common.{length, map, ◌∙◌}
use Rattle.std.specs.List.{flat_map}
use Rattle.sequence_build_laws.specs.Acts.{acts_of, made_by}
use Rattle.sequence_build.specs.Made.{buffer_of}
use Rattle.sequence_build.specs.Numbers.{place}
use Rattle.sequence_build.proofs.Covering.{covered}
use Rattle.sequence_build.proofs.Limits.{limit_told}
use Rattle.sequence_build.proofs.limit.limit_of.Goals as goal

pub limit_from-requires-clause-covered : goal.limit_from-requires-clause-covered
limit_from-requires-clause-covered c = covered c.args.flat.now c.args.archi.now c.requires.0 c.args.schedule.now c.vertices.ensures.valid c.media.ensures.valid c.requires.1

pub limit_from-requires-clause-places : goal.limit_from-requires-clause-places
limit_from-requires-clause-places c =
    c.as_slice-2.ensures.value ∙ c.in_ok-made.ensures.places ∙ (λ i. map (place (length (c.vertices.ensures.same i))) (flat_map (made_by (c.vertices.ensures.same i)) (acts_of (c.as_slice.ensures i))))

pub returns : goal.returns
returns c =
    let same = c.vertices.ensures.same in
    limit_told c.args.flat.now c.args.archi.now c.args.schedule.now c.vertices.ensures.valid c.media.ensures.valid c.depth.ensures.valid c.requires c.bare_program-bare.result
    (c.bare_program-bare.ensures ∙ c.in_ok-made.ensures.buffers ∙ (λ i. map (buffer_of (same i)) (flat_map (made_by (same i)) (acts_of (c.as_slice.ensures i)))))
    c.limit_from.result c.limit_from.ensures
