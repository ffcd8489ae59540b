-- The pairs of readings are those of readers.
use Rattle.std.proofs.Common.{◌≡◌, ℕ, length, not, nat_lt, ap, ◌∙◌}
use Rattle.std.specs.Prelude.{None}
use Rattle.sequence_build_laws.specs.MicroSteps.{first_of}
use Rattle.check_places.specs.declared.place.Rule.TheVariants.{FurtherPair}
use Rattle.check_places.specs.declared.place.Subject.TheVariants.{Pair}
use Rattle.check_places.specs.First.{broken, unless}
use Rattle.check_places.proofs.ByReading.{first_is, many_is}
use Rattle.check_places.proofs.pairs.pairs_place.Goals as goal

pub returns : goal.returns
returns c =
    let p = c.args.program.now in
    let here = c.as_slice.ensures.value ∙ c.requires.readings in
    let count = c.as_slice-count.ensures.value ∙ c.requires.readings in
    c.first_of.ensures
    ∙ (λ i. first_of ((c.first_pair.ensures ∙ first_is p c.as_slice.result.now here) i)
    ((c.further_place.ensures ∙ ap (λ (n : ℕ). unless (not (nat_lt n (length p.pairs))) (broken FurtherPair (Pair n) None)) (many_is p c.as_slice-count.result.now count)) i))
