use Rattle.std.proofs.Common.{◌≡◌, ◌+◌, ◌-◌, ◌<◌, List, length, arith, ap}
use Rattle.executive_program.specs.declared.Source.{Source}
use Rattle.executive_program.specs.declared.program.Buffer.{Buffer}
use Rattle.order_check.proofs.Kept.{comes_from_buffer, comes_from_call, comes_from_nowhere}
use Rattle.order_check.proofs.carrying.carried_by.Goals as goal

pub returns-in-Made-clause-vertex : goal.returns-in-Made-clause-vertex
returns-in-Made-clause-vertex c =
    let l : 0 < length c.args.program.now.buffers - c.loop-hops._hops = let e = ap (λ (b : List Buffer). length b) c.as_slice-hops-end.ensures in let t = c.loop-hops-test.true in omega arith in
    ap (λ (z : Source). z.vertex) (comes_from_call c.args.program.now
    (length c.args.program.now.buffers - c.loop-hops._hops) c.loop-hops.at c.args.buffer c.in-Made.vertex c.in-Made.port l
    c.loop-hops.invariant c.in-Made.ensures)

pub returns-in-Made-clause-port : goal.returns-in-Made-clause-port
returns-in-Made-clause-port c =
    let l : 0 < length c.args.program.now.buffers - c.loop-hops._hops = let e = ap (λ (b : List Buffer). length b) c.as_slice-hops-end.ensures in let t = c.loop-hops-test.true in omega arith in
    ap (λ (z : Source). z.port) (comes_from_call c.args.program.now
    (length c.args.program.now.buffers - c.loop-hops._hops) c.loop-hops.at c.args.buffer c.in-Made.vertex c.in-Made.port l
    c.loop-hops.invariant c.in-Made.ensures)

pub returns-in-Nowhere-clause-vertex : goal.returns-in-Nowhere-clause-vertex
returns-in-Nowhere-clause-vertex c =
    let l : 0 < length c.args.program.now.buffers - c.loop-hops._hops = let e = ap (λ (b : List Buffer). length b) c.as_slice-hops-end.ensures in let t = c.loop-hops-test.true in omega arith in
    ap (λ (z : Source). z.vertex) (comes_from_nowhere c.args.program.now
    (length c.args.program.now.buffers - c.loop-hops._hops) c.loop-hops.at c.args.buffer l c.loop-hops.invariant c.in-Nowhere.ensures)

pub returns-in-Nowhere-clause-port : goal.returns-in-Nowhere-clause-port
returns-in-Nowhere-clause-port c =
    let l : 0 < length c.args.program.now.buffers - c.loop-hops._hops = let e = ap (λ (b : List Buffer). length b) c.as_slice-hops-end.ensures in let t = c.loop-hops-test.true in omega arith in
    ap (λ (z : Source). z.port) (comes_from_nowhere c.args.program.now
    (length c.args.program.now.buffers - c.loop-hops._hops) c.loop-hops.at c.args.buffer l c.loop-hops.invariant c.in-Nowhere.ensures)

pub loop-hops-preserved : goal.loop-hops-preserved
loop-hops-preserved c =
    let l : 0 < length c.args.program.now.buffers - c.loop-hops._hops = let e = ap (λ (b : List Buffer). length b) c.as_slice-hops-end.ensures in let t = c.loop-hops-test.true in omega arith in
    let k : length c.args.program.now.buffers - (c.loop-hops._hops + 1) ≡ length c.args.program.now.buffers - c.loop-hops._hops - 1 = omega arith in
    comes_from_buffer c.args.program.now
    (length c.args.program.now.buffers - c.loop-hops._hops) c.loop-hops.at c.args.buffer c.in-Received.sent
    (length c.args.program.now.buffers - (c.loop-hops._hops + 1)) l c.loop-hops.invariant c.in-Received.ensures k
