use Rattle.std.proofs.Common.{◌<◌, length, ap, arith, ◌∙◌}
use Rattle.program_tables.proofs.Distinct.{one_more}
use Rattle.program_tables.proofs.readings.find_readings.Goals as goal

pub loop-buffer-preserved : goal.loop-buffer-preserved
loop-buffer-preserved c =
    let low : c.loop-buffer.buffer < length c.args.program.now.buffers = (let n = ap length c.as_slice-buffer-end.ensures in let l = c.loop-buffer-test.true in omega arith) in
    one_more c.args.program.now c.loop-buffer.buffer c.loop-buffer.list.items c.push_readings.new.out.items c.of.result.now c.of-in-loop-buffer.result.now
    c.in_ok-push_readings.ensures c.loop-buffer.invariant (c.of.ensures ∙ c.requires.writes c.loop-buffer.buffer low) (c.of-in-loop-buffer.ensures ∙ c.requires.reads c.loop-buffer.buffer low)
