-- An input that is not carried is the first.
use Rattle.std.proofs.Common.{◌≡◌, ◌+◌, get_or, sym, ap, ◌∙◌}
use Rattle.sequence_build_laws.specs.declared.Source.{Source}
use Rattle.check_places.specs.declared.place.Rule.TheVariants.{OtherInput}
use Rattle.check_places.specs.declared.place.Subject.TheVariants.{Input}
use Rattle.check_places.specs.Buffers.{input_place}
use Rattle.check_places.specs.First.{broken, in_loop, unless}
use Rattle.check_places.proofs.Rests.{first_here, rest_at}
use Rattle.check_places.proofs.values.first_input.Goals as goal

pub returns-then-not-carries : goal.returns-then-not-carries
returns-then-not-carries c =
    let call = c.args.call in
    let place = c.loop-place.place in
    let none : Source = record { vertex = 0; port = 0 } in
    let no = sym c.carries.ensures ∙ c.if-not-carries.true in
    let wrong = broken OtherInput (Input call.operation (c.args.guards + place)) in
    c.broken.ensures ∙ (ap wrong c.spot_of.ensures
    ∙ (first_here (input_place c.args.carried.now.program.now c.args.carried.now.vertices.now call.operation call.sequence call.at c.args.guards c.args.ins.now) c.args.inputs.now place
    (get_or c.args.inputs.now place none) _
    (rest_at c.args.inputs.now place none c.loop-place-test.true)
    (ap (λ b. unless b (wrong (in_loop call.sequence call.at))) no)
    ∙ c.loop-place.invariant))
