use Rattle.std.proofs.Common.{◌<◌, length, map, ap, arith}
use Rattle.macro_check.specs.Awaiting.{left_in, place_of}
use Rattle.std.specs.Prelude.{zero}
use Rattle.macro_check.proofs.Goes.{stops_more}
use Rattle.macro_check.proofs.running.stops.Goals as goal

pub loop-sequence-preserved : goal.loop-sequence-preserved
loop-sequence-preserved c =
    let low : c.loop-sequence.sequence < length c.args.program.now.seqs = (let n = ap length c.as_slice-sequence-end.ensures in let l = c.loop-sequence-test.true in omega arith) in
    stops_more c.args.program.now c.args.done.now c.loop-sequence.sequence (length c.args.program.now.seqs)
    (map place_of c.loop-sequence.left.items) (map place_of c.push_stop.new.left.items)
    (left_in c.args.program.now c.args.done.now zero (length c.args.program.now.seqs))
    low c.loop-sequence.invariant c.in_ok-push_stop.ensures
