-- The parts of the state after a store.
use Rattle.std.proofs.Common.{◌<◌, ◌∙◌, ap, sym, subst, arith, rules, length, w64, to_z, of_z, List, ℤ}
use Rattle.std.proofs.lemmas.List.{with_items_is}
use Rattle.std.specs.Vec.{with_items}
use Rattle.std.proofs.lemmas.Int.{to_z-of_z}
use mir.Val.{SFits}
use Rattle.semaphore_core.specs.Held.{Held, AreReady, StoreIsLaid, kept_of}
use Rattle.semaphore_core.proofs.Ready.{store_is_laid}
use Rattle.executive_program.specs.declared.program.Program.{Program}
use Rattle.semaphore_core.specs.Core.{home_of, slot_of}
use Rattle.semaphore_core.proofs.Viewing.{stored}
use Rattle.semaphore_core.proofs.state.State.store.Goals as goal
use Rattle.syn_base.specs.Rows.{with_value}

pub returns : goal.returns
returns c = rw (← c.self.view_is) (
    let f : SFits w64 c.emit-value.result = search rules in
    let s = c.self.inside in
    let a = ap (λ (h : Held). length h.core.counts) c.self.view_is in
    let few : c.args.seq < length s.counts.items = let d = c.requires.counted.0 in omega arith in
    let same = with_items_is s.elements c.put_element.new.lists (let l = c.put_element.auto.lists in let d = c.deref_mut.ensures.len in omega arith) in
    stored c.args.job.now s.counts.items s.semaphores.items s.turns.items s.elements.items s.own s.steps.items
    c.args.seq c.args.reaction c.index_mut.result.now few c.index_mut.ensures.value
    c.args.place c.args.what (to_z w64 (of_z w64 c.emit-value.result)) c.home.result c.slot.result (with_items s.elements c.put_element.new.lists).items c.emit-value.new.self
    (to_z-of_z w64 c.emit-value.result f ∙ c.emit-value.ensures.value)
    (c.home.ensures ∙ ap (λ (r : Program). home_of r c.args.place) c.program-program.ensures.same)
    (c.slot.ensures ∙ ap (λ (r : Program). slot_of r c.args.place c.args.reaction) c.program-program.ensures.same)
    (same ∙ c.put_element.ensures ∙ ap (λ (l : List (List ℤ)). with_value l c.home.result c.slot.result (to_z w64 (of_z w64 c.emit-value.result))) c.deref_mut.ensures.value)
    c.emit-value.ensures.own)

pub emit-value-requires-clause-ready : goal.emit-value-requires-clause-ready
emit-value-requires-clause-ready c = subst (λ (h : Held). AreReady c.args.job.now (kept_of h)) (sym c.self.view_is) c.requires.ready

pub emit-value-requires-clause-laid : goal.emit-value-requires-clause-laid
emit-value-requires-clause-laid c =
    subst (λ (h : Held). StoreIsLaid c.args.job.now h.lens h.desks c.args.what) (sym c.self.view_is)
    (store_is_laid c.args.job.now c.args.self.now.lens c.args.self.now.desks c.requires.laid c.args.what)
