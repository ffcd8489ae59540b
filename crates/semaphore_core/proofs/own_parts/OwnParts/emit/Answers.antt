-- The registers of the sequence, and what the operations keep, are those after the store.
use Rattle.std.proofs.Common.{◌<◌, ap, sym, subst, arith, length}
use Rattle.std.proofs.lemmas.List.{length-map}
use Rattle.operation_desks.specs.RegisterFile.{RegisterFile}
use Rattle.operation_desks.specs.Registers.{Own}
use Rattle.semaphore_core.specs.Parts.{Parts, left}
use Rattle.semaphore_core.specs.Held.{AreReady, StoreIsLaid}
use Rattle.semaphore_core.proofs.Viewing.{changed}
use Rattle.semaphore_core.proofs.own_parts.OwnParts.emit.Goals as goal

pub returns-clause-own : goal.returns-clause-own
returns-clause-own c = rw (← c.self.view_is) (
    let a = c.args in let s = c.self.inside in let r = c.index_mut-registers.result.now in
    let there : a.seq < length s.registers.items = let l = c.requires.there in let m = ap (λ (p : Parts). length p.rooms) c.self.view_is in
    let e = length-map s.registers.items (λ (f : RegisterFile). f.room) in omega arith in
    changed s.registers.items s.operations a.seq r c.emit.new.registers there c.index_mut-registers.ensures.value c.emit.new.self
    (λ (o : Own). left a.job.now a.what a.reaction o) c.emit.ensures.registers c.emit.ensures.kept)

pub emit-requires-clause-ready : goal.emit-requires-clause-ready
emit-requires-clause-ready c = subst (λ (p : Parts). AreReady c.args.job.now p.kept) (sym c.self.view_is) c.requires.ready

pub emit-requires-clause-laid : goal.emit-requires-clause-laid
emit-requires-clause-laid c = subst (λ (p : Parts). StoreIsLaid c.args.job.now p.kept.lens p.kept.desks c.args.what) (sym c.self.view_is) c.requires.laid
