use Rattle.std.proofs.Common.{get_or, length, refl}
use Rattle.macro_code.specs.declared.numbered.Numbered.{Numbered}
use Rattle.macro_code.specs.ReadText.{misnumbered}
use Rattle.macro_code.proofs.Placing.{placed_more, right_here, took}
use Rattle.macro_code.proofs.places.places_of.Goals as goal

pub loop-place-preserved : goal.loop-place-preserved
loop-place-preserved c =
    let ds = c.args.declared.now in
    let i = c.loop-place.place in
    let none : Numbered = record { number = 0; line = 0 } in
    let d : Numbered = get_or ds i none in
    let old = c.loop-place.places.items in
    let new = c.take_place.new.places.items in
    let t = took c.take_place.result old d.number i new c.if-not-take_place.false c.take_place.ensures in
    record {
      placed = placed_more ds i d none old new (length ds) c.loop-place-test.true refl c.loop-place.invariant.placed t;
      right = right_here ds i d none old new (length ds) i (misnumbered ds) c.loop-place-test.true refl c.loop-place.invariant.placed t c.loop-place.invariant.right;
    }

pub loop-place-init : goal.loop-place-init
loop-place-init c = record { placed = record { many = c.in_ok-places.ensures.many; each = λ n l. c.in_ok-places.ensures.none n }; right = refl }
