use Rattle.std.proofs.Common.{length, refl, sym, arith, ◌∙◌}
use Rattle.std.proofs.lemmas.Option.{slice_get_read}
use Rattle.macro_check.proofs.MovedBy.{many_rows, row_here}
use Rattle.check_places.specs.Transfers.{first_on, moved_place}
use Rattle.check_places.proofs.Firsts.{none_below, some_below}
use Rattle.check_places.proofs.transfers.first_moved.Goals as goal

pub moved_place_on-requires : goal.moved_place_on-requires
moved_place_on-requires c =
    let there = slice_get_read c.args.found.now (length c.args.found.now) c.loop-medium.medium c.index-found-medium.result refl c.loop-medium-test.true c.index-found-medium.is in
    c.as_slice.ensures ∙ row_here c.args.program.now c.args.media c.loop-medium.medium c.args.found.now c.index-found-medium.result c.requires there

pub returns-in-Some : goal.returns-in-Some
returns-in-Some c =
    let p = c.args.program.now in
    let n = many_rows p c.args.media c.args.found.now c.requires in
    let l = c.loop-medium-test.true in
    sym (some_below (first_on p (moved_place p)) c.args.media c.loop-medium.medium c.in-Some.place (omega arith) c.loop-medium.invariant (sym c.in-Some.ensures))

pub returns : goal.returns
returns c =
    let p = c.args.program.now in
    let n = many_rows p c.args.media c.args.found.now c.requires in
    let k = c.loop-medium-test.false in
    sym (none_below (first_on p (moved_place p)) c.args.media (λ m l. c.loop-medium.invariant m (omega arith)))
