-- The parts of the state after a load.
use Rattle.std.proofs.Common.{◌<◌, ap, sym, subst, arith, rules, length, w64, to_z, of_z}
use Rattle.std.proofs.lemmas.Int.{to_z-of_z}
use mir.Val.{SFits}
use Rattle.semaphore_core.specs.Held.{Held, AreReady, LoadIsLaid, kept_of}
use Rattle.semaphore_core.proofs.Ready.{load_is_laid}
use Rattle.semaphore_core.proofs.Viewing.{loaded, found, core_of}
use Rattle.semaphore_core.proofs.state.State.load.Goals as goal

pub returns : goal.returns
returns c = rw (← c.self.view_is) (
    let f : SFits w64 c.element_in-value.result = search rules in
    let s = c.self.inside in
    let a = ap (λ (h : Held). length h.core.counts) c.self.view_is in
    let few : c.args.seq < length s.counts.items = let d = c.requires.counted.0 in omega arith in
    loaded c.args.job.now s.counts.items s.semaphores.items s.turns.items s.elements.items s.own s.steps.items
    c.args.seq c.args.reaction c.index_mut.result.now few c.index_mut.ensures.value
    c.args.place c.args.then (to_z w64 (of_z w64 c.element_in-value.result)) c.absorb.new.self
    (found c.args.job.now (core_of s.counts.items s.semaphores.items s.turns.items s.elements.items s.own) c.program-program.result.now
    c.args.place c.args.reaction c.home.result c.slot-at.result c.deref.result.now c.element_in-value.result _
    c.program-program.ensures.same c.deref.ensures.value c.home.ensures c.slot-at.ensures c.element_in-value.ensures (to_z-of_z w64 c.element_in-value.result f))
    c.absorb.ensures)

pub absorb-requires-clause-ready : goal.absorb-requires-clause-ready
absorb-requires-clause-ready c = subst (λ (h : Held). AreReady c.args.job.now (kept_of h)) (sym c.self.view_is) c.requires.ready

pub absorb-requires-clause-laid : goal.absorb-requires-clause-laid
absorb-requires-clause-laid c =
    subst (λ (h : Held). LoadIsLaid c.args.job.now h.lens h.desks c.args.then) (sym c.self.view_is)
    (load_is_laid c.args.job.now c.args.self.now.lens c.args.self.now.desks c.requires.laid c.args.then)
