-- One more port.
use Rattle.std.proofs.Common.{◌<◌, ◌++◌, ◌∙◌, length, arith, ap, sym, List, ℤ}
use Rattle.operation_desks.specs.RegisterFile.{RegisterFile}
use Rattle.operation_desks.proofs.ReadVectors.{joined_more, joined_fits}
use Rattle.operation_desks.proofs.registers.Registers.fill.Goals as goal

pub extend-requires : goal.extend-requires
extend-requires c =
    let there : c.loop-port.port < length c.args.vectors.now = let a = c.loop-port-test.true in let b = c.count-port-end.ensures in omega arith in
    let v = ap (λ (r : RegisterFile). length r.values) c.loop-port.invariant in let r = ap (λ (r : RegisterFile). r.room) c.loop-port.invariant in
    let l = ap (λ (x : List ℤ). length x) c.vector.ensures in let e = ap (λ (r : RegisterFile). r.room) c.clear.ensures in
    let f = joined_fits c.args.vectors.now c.loop-port.port there in let g = c.requires in omega arith

pub loop-port-preserved : goal.loop-port-preserved
loop-port-preserved c =
    let there : c.loop-port.port < length c.args.vectors.now = let a = c.loop-port-test.true in let b = c.count-port-end.ensures in omega arith in
    c.extend.ensures ∙ (λ i. record { values = (c.loop-port.invariant i).values ++ c.vector.ensures i; room = (c.loop-port.invariant i).room })
    ∙ ap (λ (l : List ℤ). record { values = l; room = c.clear.new.self.room }) (sym (joined_more c.args.vectors.now c.loop-port.port there))
