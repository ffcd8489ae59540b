use Rattle.std.proofs.Common.{length, refl, sym, arith, ◌∙◌}
use Rattle.std.proofs.lemmas.Option.{slice_get_read}
use Rattle.macro_check.proofs.MovedBy.{many_here, many_rows, row_here}
use Rattle.check_places.specs.Buffers.{kept_place}
use Rattle.check_places.specs.Transfers.{first_on}
use Rattle.check_places.proofs.Firsts.{none_below, some_below}
use Rattle.check_places.proofs.values.first_kept.Goals as goal

pub first_kept_on-requires-clause-here : goal.first_kept_on-requires-clause-here
first_kept_on-requires-clause-here c =
    let there = slice_get_read c.args.found.now (length c.args.found.now) c.loop-medium.medium c.index-found-medium.result refl c.loop-medium-test.true c.index-found-medium.is in
    c.as_slice.ensures ∙ row_here c.args.carried.now.program.now c.args.media c.loop-medium.medium c.args.found.now c.index-found-medium.result c.requires.here there

pub first_kept_on-requires-clause-low : goal.first_kept_on-requires-clause-low
first_kept_on-requires-clause-low c t l =
    let p = c.args.carried.now.program.now in
    let there = slice_get_read c.args.found.now (length c.args.found.now) c.loop-medium.medium c.index-found-medium.result refl c.loop-medium-test.true c.index-found-medium.is in
    let many = many_here p c.loop-medium.medium c.as_slice.result.now
    (c.as_slice.ensures ∙ row_here p c.args.media c.loop-medium.medium c.args.found.now c.index-found-medium.result c.requires.here there) in
    let rows = many_rows p c.args.media c.args.found.now c.requires.here in
    let k = c.loop-medium-test.true in
    (c.requires.low.sent c.loop-medium.medium t (omega arith) (omega arith), c.requires.low.received c.loop-medium.medium t (omega arith) (omega arith))

pub returns-in-Some : goal.returns-in-Some
returns-in-Some c =
    let p = c.args.carried.now.program.now in
    let n = many_rows p c.args.media c.args.found.now c.requires.here in
    let l = c.loop-medium-test.true in
    sym (some_below (first_on p (kept_place p)) c.args.media c.loop-medium.medium c.in-Some.place (omega arith) c.loop-medium.invariant (sym c.in-Some.ensures))

pub returns : goal.returns
returns c =
    let p = c.args.carried.now.program.now in
    let n = many_rows p c.args.media c.args.found.now c.requires.here in
    let k = c.loop-medium-test.false in
    sym (none_below (first_on p (kept_place p)) c.args.media (λ m l. c.loop-medium.invariant m (omega arith)))
