use Rattle.std.proofs.Common.{length, map, ◌∙◌}
use Rattle.std.specs.List.{flat_map}
use Rattle.sequence_build_laws.specs.Acts.{acts_of, made_by}
use Rattle.sequence_build.specs.Made.{buffer_of}
use Rattle.sequence_build.specs.Numbers.{place}
use Rattle.sequence_build.proofs.plain.plain_program.Goals as goal

pub plain_codes-requires-clause-places : goal.plain_codes-requires-clause-places
plain_codes-requires-clause-places c =
    c.as_slice-2.ensures.value ∙ c.in_ok-made.ensures.places ∙ (λ i. map (place (length (c.vertices.ensures.same i))) (flat_map (made_by (c.vertices.ensures.same i)) (acts_of (c.as_slice.ensures i))))

pub returns : goal.returns
returns c =
    let same = c.vertices.ensures.same in
    let buffers = c.new.ensures ∙ c.in_ok-made.ensures.buffers ∙ (λ i. map (buffer_of (same i)) (flat_map (made_by (same i)) (acts_of (c.as_slice.ensures i)))) in
    let pairs = c.new-3.ensures ∙ c.new-2.ensures.items in
    λ i. record { buffers = buffers i; pairs = pairs i; seqs = c.in_ok-seqs.ensures i }
