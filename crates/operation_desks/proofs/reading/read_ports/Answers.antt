-- One more port.
use Rattle.std.proofs.Common.{◌+◌, ◌<◌, length, arith, ap}
use Rattle.operation_desks.proofs.ReadVectors.{reads_more, next_more}
use Rattle.operation_desks.proofs.reading.read_ports.Goals as goal
use Rattle.syn_base.specs.Vectors.{Vector}

pub loop-i-preserved : goal.loop-i-preserved
loop-i-preserved c =
    let r = c.loop-i.invariant.reads in
    let there : c.args.first + c.loop-i.i < length c.args.ins.now = let a = c.loop-i-test.true in let b = c.requires.ports in omega arith in
    let len = ap (λ (v : Vector). length v) c.vector.ensures in
    record {
      reads = reads_more c.args.registers.now.values c.args.at c.args.first c.args.ins.now c.loop-i.ins c.read_vector.new.ins c.loop-i.i
          c.loop-i.next (length c.vector.result.now) there r c.loop-i.invariant.after c.read_vector.ensures len;
      after = next_more c.args.registers.now.values c.args.at c.args.first c.args.ins.now c.loop-i.ins c.read_vector.new.ins c.loop-i.i
          c.loop-i.next (length c.vector.result.now) there r c.loop-i.invariant.after c.read_vector.ensures len;
      bound = let i = c.loop-i.invariant.bound in let b = c.vector.type_inv in let f = c.vector.auto in omega arith;
    }
