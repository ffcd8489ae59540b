-- Part by part.
use Rattle.std.proofs.Common.{◌≡◌, ap, ◌∙◌}
use Rattle.sequence_build_laws.specs.MicroSteps.{first_of}
use Rattle.check_places.specs.declared.place.Rule.TheVariants.{OtherValue, UnequalLengths}
use Rattle.check_places.specs.declared.place.Subject.TheVariants.{Transfer}
use Rattle.check_places.specs.First.{broken, unless}
use Rattle.check_places.proofs.ByTable.{kept_place_is}
use Rattle.check_places.proofs.values.kept_place.Goals as goal

pub returns : goal.returns
returns c =
    c.first_of.ensures
    ∙ ((λ i. first_of
    ((c.unless.ensures ∙ (λ j. unless (c.is_as_long.ensures j) ((c.broken.ensures ∙ ap (broken UnequalLengths (Transfer c.args.medium c.args.number)) c.in_loop-spot.ensures) j))) i)
    ((c.unless-2.ensures ∙ (λ j. unless (c.carries_alike.ensures j) ((c.broken-2.ensures ∙ ap (broken OtherValue (Transfer c.args.medium c.args.number)) c.in_loop-spot.ensures) j))) i))
    ∙ kept_place_is c.args.carried.now.program.now c.args.carried.now.sources.now c.requires.sources c.args.medium c.args.number c.args.ends c.requires.here c.requires.low.1 c.requires.low.0)
