use Rattle.std.proofs.Common.{◌≡◌, ◌<◌, length, sym, subst, arith}
use Rattle.std.proofs.lemmas.Option.{slice_get-get_or}
use Rattle.sequence_build_laws.specs.MicroSteps.{transfers}
use Rattle.program_tables.specs.declared.crossings.Crossing.{Crossing}
use Rattle.macro_check.proofs.MovedBy.{crossing_here, many_here}
use Rattle.check_places.specs.Buffers.{kept_place}
use Rattle.check_places.proofs.Firsts.{none_below, some_below}
use Rattle.check_places.proofs.values.first_kept_on.Goals as goal

pub kept_place-requires-clause-here : goal.kept_place-requires-clause-here
kept_place-requires-clause-here c =
    crossing_here c.args.carried.now.program.now c.args.medium c.loop-number.number c.args.found.now _ c.requires.here
    (slice_get-get_or c.args.found.now c.loop-number.number _ c.loop-number-test.true)

pub kept_place-requires-clause-low : goal.kept_place-requires-clause-low
kept_place-requires-clause-low c =
    let p = c.args.carried.now.program.now in
    let here = crossing_here p c.args.medium c.loop-number.number c.args.found.now _ c.requires.here (slice_get-get_or c.args.found.now c.loop-number.number _ c.loop-number-test.true) in
    subst (λ (x : Crossing). (x.sent < length p.buffers) × (x.received < length p.buffers)) (sym here) (c.requires.low c.loop-number.number c.loop-number-test.true)

pub returns-in-Some : goal.returns-in-Some
returns-in-Some c =
    let p = c.args.carried.now.program.now in
    let n = many_here p c.args.medium c.args.found.now c.requires.here in
    let l = c.loop-number-test.true in
    sym (some_below (kept_place p c.args.medium) (transfers p c.args.medium) c.loop-number.number c.in-Some.place (omega arith) c.loop-number.invariant (sym c.in-Some.ensures))

pub returns : goal.returns
returns c =
    let p = c.args.carried.now.program.now in
    let n = many_here p c.args.medium c.args.found.now c.requires.here in
    let m = c.loop-number-test.false in
    sym (none_below (kept_place p c.args.medium) (transfers p c.args.medium) (λ t l. c.loop-number.invariant t (omega arith)))
