-- What is met from the buffer.
use Rattle.std.proofs.Common.{◌≡◌, ap, ◌∙◌}
use Rattle.macro_check.specs.Carrying.{is_call}
use Rattle.check_places.specs.declared.place.Rule.TheVariants.{NotMade}
use Rattle.check_places.specs.declared.place.Subject.TheVariants.{Buffer}
use Rattle.check_places.specs.First.{broken, unless}
use Rattle.check_places.proofs.ByTable.{made_place_is}
use Rattle.check_places.proofs.values.made_place.Goals as goal

pub returns : goal.returns
returns c =
    c.unless.ensures
    ∙ ((λ i. unless ((c.is_call.ensures ∙ ap is_call c.origin_in.ensures) i) ((c.broken.ensures ∙ ap (broken NotMade (Buffer c.args.buffer)) c.in_loop-spot.ensures) i))
    ∙ made_place_is c.args.carried.now.program.now c.args.carried.now.sources.now c.requires.sources c.args.buffer _ _ c.requires.within c.write_of-write.ensures.writer c.write_of-write.ensures.at)
