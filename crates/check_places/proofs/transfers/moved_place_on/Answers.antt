use Rattle.std.proofs.Common.{◌≡◌, sym, ap, arith, ◌∙◌, below_more}
use Rattle.std.specs.Prelude.{None}
use Rattle.std.proofs.lemmas.Option.{slice_get-get_or}
use Rattle.sequence_build_laws.specs.MicroSteps.{transfers}
use Rattle.macro_check.proofs.MovedBy.{crossing_here, many_here}
use Rattle.check_places.specs.Transfers.{moved_place, moved_place_by}
use Rattle.check_places.proofs.Firsts.{none_below, some_below}
use Rattle.check_places.proofs.transfers.moved_place_on.Goals as goal

pub returns-in-Some : goal.returns-in-Some
returns-in-Some c =
    let n = many_here c.args.program.now c.args.medium c.args.found.now c.requires in
    let l = c.loop-number-test.true in
    let here = crossing_here c.args.program.now c.args.medium c.loop-number.number c.args.found.now _ c.requires (slice_get-get_or c.args.found.now c.loop-number.number _ l) in
    sym (some_below (moved_place c.args.program.now c.args.medium) (transfers c.args.program.now c.args.medium) c.loop-number.number c.in-Some.place (omega arith) c.loop-number.invariant
    (sym (c.in-Some.ensures ∙ ap (moved_place_by c.args.program.now c.args.medium c.loop-number.number) here)))

pub loop-number-preserved : goal.loop-number-preserved
loop-number-preserved c =
    let l = c.loop-number-test.true in
    let here = crossing_here c.args.program.now c.args.medium c.loop-number.number c.args.found.now _ c.requires (slice_get-get_or c.args.found.now c.loop-number.number _ l) in
    below_more (λ t. moved_place c.args.program.now c.args.medium t ≡ None) c.loop-number.number c.loop-number.invariant
    (sym (c.in_default.ensures ∙ ap (moved_place_by c.args.program.now c.args.medium c.loop-number.number) here))

pub returns : goal.returns
returns c =
    let n = many_here c.args.program.now c.args.medium c.args.found.now c.requires in
    let m = c.loop-number-test.false in
    sym (none_below (moved_place c.args.program.now c.args.medium) (transfers c.args.program.now c.args.medium) (λ t l. c.loop-number.invariant t (omega arith)))
