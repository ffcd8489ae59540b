use Rattle.std.proofs.Common.{ap, refl, rules, subst, ◌∙◌, w64, to_z, of_z}
use Rattle.std.proofs.lemmas.Int.{to_z-of_z}
use mir.Val.{SFits}
use Rattle.executive_program.specs.declared.steps.MicroStep.{MicroStep}
use Rattle.word_rule.specs.Held.{NeedsReaction}
use Rattle.word_rule.specs.Job.{reactions}
use Rattle.word_table.proofs.Drivers.{can_count, loads_freely, free_steps}
use Rattle.word_table.proofs.Making.{can_step, needs, room, has_room, load_laid, finds_told, loaded_driver}
use Rattle.word_table.proofs.fabric_parts.FabricParts.load_into.Goals as goal

pub load-found-requires-clause-can : goal.load-found-requires-clause-can
load-found-requires-clause-can c = let q = c.requires in let a = c.args in can_step a.self.now a.driver.now a.next q.fabric q.can

pub load-found-requires-clause-kind : goal.load-found-requires-clause-kind
load-found-requires-clause-kind c = (c.args.place, c.args.then, c.requires.kind)

pub count_up-requires : goal.count_up-requires
count_up-requires c = let q = c.requires in let a = c.args in can_count a.self.now a.driver.now a.next q.fabric q.can

pub absorb-requires-clause-ready : goal.absorb-requires-clause-ready
absorb-requires-clause-ready c = c.requires.can.driver.ready

pub absorb-requires-clause-laid : goal.absorb-requires-clause-laid
absorb-requires-clause-laid c = let q = c.requires in let a = c.args in load_laid a.self.now a.driver.now a.next q.fabric q.can a.place a.then q.kind

pub absorb-requires-clause-reaction : goal.absorb-requires-clause-reaction
absorb-requires-clause-reaction c = let q = c.requires in let a = c.args in
    subst (λ (m : MicroStep). NeedsReaction m a.next.reaction (reactions a.self.now.job.now)) q.kind (needs a.self.now a.driver.now a.next q.fabric q.can)

pub absorb-requires-clause-there : goal.absorb-requires-clause-there
absorb-requires-clause-there c = let q = c.requires in let a = c.args in has_room a.self.now a.driver.now a.next q.fabric q.can

pub absorb-requires-clause-room : goal.absorb-requires-clause-room
absorb-requires-clause-room c = let q = c.requires in let a = c.args in let r = room a.self.now a.driver.now a.next q.fabric q.can in rw q.kind at r

pub returns-clause-of : goal.returns-clause-of
returns-clause-of c = let q = c.requires in let a = c.args in let l = c.load-found.ensures in
    let f : SFits w64 c.cast_signed.result = search rules in
    loaded_driver a.self.now a.driver.now a.next q.fabric q.can _
    (record { table = ap (λ s. s.table) l.seat; job = refl; groups = refl; group = refl })
    (ap (λ s. s.view) l.seat) c.count_up.ensures a.place a.then q.kind c.load-found.result l.found
    (to_z w64 (of_z w64 c.cast_signed.result)) (to_z-of_z w64 c.cast_signed.result f ∙ c.cast_signed.ensures) c.absorb.ensures

pub returns-clause-made : goal.returns-clause-made
returns-clause-made c = let q = c.requires in let a = c.args in let l = c.load-found.ensures in
    free_steps a.self.now a.driver.now a.next q.fabric q.can
    (record a.driver.now { seat = c.load-found.new.seat; counts = c.count_up.new.counts; own = c.absorb.new.self })
    (record { table = ap (λ s. s.table) l.seat; job = refl; groups = refl; group = refl }) (ap (λ s. s.view) l.seat) c.count_up.ensures
    (loads_freely a.place a.then a.next.step q.kind)
    (finds_told a.self.now a.driver.now a.next q.fabric q.can c.load-found.result l.found)
