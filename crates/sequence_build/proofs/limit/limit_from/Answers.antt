use Rattle.std.proofs.Common.{List, ℕ, length, sym, ap, ◌∙◌}
use Rattle.std.proofs.lemmas.List.{length-map}
use Rattle.sequence_build_laws.specs.Serial.{copies}
use Rattle.sequence_build.specs.Numbers.{number_in, place}
use Rattle.sequence_build.proofs.Assembling.{copy_number}
use Rattle.sequence_build.proofs.Covering.{few_operations}
use Rattle.sequence_build.proofs.Limits.{limit_at_site}
use Rattle.sequence_build.proofs.limit.limit_from.Goals as goal

pub limit_at-requires : goal.limit_at-requires
limit_at-requires c = c.in_ok-copies.ensures.same ∙ sym c.requires.bare

pub returns : goal.returns
returns c =
    let g = c.args.flat.now in
    let a = c.args.archi.now in
    let s = c.args.schedule.now in
    limit_at_site g a s c.args.ground.now.bare.now _ c.as_slice-3.result.now c.args.ground.now.depth c.args.ground.now.media
    (record {
      vertices = c.vertices.ensures.same;
      names = c.as_slice.ensures.value ∙ c.in_ok-sequences.ensures;
      number = λ x.
          (λ i. number_in (length (c.vertices.ensures.same i)) (c.as_slice-2.ensures.value i) (c.in_ok-copies.ensures.same i) x)
          ∙ copy_number g a s (few_operations g c.vertices.ensures.valid) c.requires.covered c.args.places.now c.in_ok-numbers.numbers.items c.requires.places c.in_ok-numbers.ensures x;
      many = c.in_ok-copies.ensures.same ∙ ap (λ (l : List ℕ). length l) c.requires.places ∙ length-map (copies g a s) (place (length g.vertices));
      decisions = c.as_slice-3.ensures;
      depth = c.requires.depth;
      media = c.requires.media;
    })
    c.limit_at.result c.limit_at.ensures
