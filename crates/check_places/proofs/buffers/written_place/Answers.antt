use Rattle.std.proofs.Common.{length, sym, ap, arith}
use Rattle.check_places.specs.Buffers.{buffer_place}
use Rattle.check_places.proofs.Firsts.{none_below, some_below}
use Rattle.check_places.proofs.buffers.written_place.Goals as goal

pub returns-in-Some : goal.returns-in-Some
returns-in-Some c =
    sym (some_below (buffer_place c.args.program.now) (length c.args.program.now.buffers) c.loop-buffer.buffer c.in-Some.place
    (let n = ap length c.as_slice-buffer-end.ensures in let l = c.loop-buffer-test.true in omega arith) c.loop-buffer.invariant (sym c.in-Some.ensures))

pub returns : goal.returns
returns c =
    sym (none_below (buffer_place c.args.program.now) (length c.args.program.now.buffers)
    (λ b l. c.loop-buffer.invariant b (let n = ap length c.as_slice-buffer-end.ensures in let m = c.loop-buffer-test.false in omega arith)))
