-- The registers of the sequence, and what the operations keep, are those after the load.
use Rattle.std.proofs.Common.{◌<◌, ap, sym, subst, arith, length, ◌∙◌, w64, ℤ}
use Rattle.std.proofs.lemmas.List.{length-map}
use Rattle.std.proofs.lemmas.Int.{to_z-of_z}
use Rattle.operation_desks.specs.RegisterFile.{RegisterFile}
use Rattle.operation_desks.specs.Registers.{Own}
use Rattle.semaphore_core.specs.Parts.{Parts, own_of, with_values, with_kept, absorbed}
use Rattle.semaphore_core.specs.Held.{AreReady, LoadIsLaid}
use Rattle.semaphore_core.proofs.Viewing.{changed}
use Rattle.semaphore_core.proofs.own_parts.OwnParts.absorb.Goals as goal

pub returns : goal.returns
returns c = rw (← c.self.view_is) (
    let a = c.args in let s = c.self.inside in let r = c.index_mut-registers.result.now in
    let there : a.seq < length s.registers.items = let l = c.requires.there in let m = ap (λ (p : Parts). length p.rooms) c.self.view_is in
    let e = length-map s.registers.items (λ (f : RegisterFile). f.room) in omega arith in
    let value = to_z-of_z w64 a.value c.ranges.value in
    changed s.registers.items s.operations a.seq r c.absorb.new.registers there c.index_mut-registers.ensures.value c.absorb.new.self (λ (o : Own). absorbed a.job.now a.then a.reaction o a.value)
    (c.absorb.ensures.registers ∙ ap (λ (v : ℤ). with_values r (absorbed a.job.now a.then a.reaction (own_of r s.operations) v)) value)
    (c.absorb.ensures.kept ∙ ap (λ (v : ℤ). with_kept s.operations (absorbed a.job.now a.then a.reaction (own_of r s.operations) v)) value))

pub absorb-requires-clause-ready : goal.absorb-requires-clause-ready
absorb-requires-clause-ready c = subst (λ (p : Parts). AreReady c.args.job.now p.kept) (sym c.self.view_is) c.requires.ready

pub absorb-requires-clause-laid : goal.absorb-requires-clause-laid
absorb-requires-clause-laid c = subst (λ (p : Parts). LoadIsLaid c.args.job.now p.kept.lens p.kept.desks c.args.then) (sym c.self.view_is) c.requires.laid
