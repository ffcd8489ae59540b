use Rattle.std.proofs.Common.{length, sym, ap, arith}
use Rattle.check_places.specs.Buffers.{made_place}
use Rattle.check_places.proofs.Firsts.{none_below, some_below}
use Rattle.check_places.proofs.values.first_made.Goals as goal

pub returns-in-Some : goal.returns-in-Some
returns-in-Some c =
    let p = c.args.carried.now.program.now in
    let n = ap length c.as_slice-buffer-end.ensures in
    let l = c.loop-buffer-test.true in
    sym (some_below (made_place p) (length p.buffers) c.loop-buffer.buffer c.in-Some.place (omega arith) c.loop-buffer.invariant (sym c.in-Some.ensures))

pub returns : goal.returns
returns c =
    let p = c.args.carried.now.program.now in
    let n = ap length c.as_slice-buffer-end.ensures in
    let m = c.loop-buffer-test.false in
    sym (none_below (made_place p) (length p.buffers) (λ b l. c.loop-buffer.invariant b (omega arith)))
