use Rattle.std.proofs.Common.{ap, refl, rules, subst, ◌∙◌, w64, to_z, of_z}
use Rattle.std.proofs.lemmas.Int.{to_z-of_z}
use mir.Val.{SFits}
use Rattle.executive_program.specs.declared.steps.MicroStep.{MicroStep}
use Rattle.word_rule.specs.Held.{NeedsReaction}
use Rattle.word_rule.specs.Job.{reactions}
use Rattle.word_table.proofs.Drivers.{can_count, stores_freely, free_steps}
use Rattle.word_table.proofs.Making.{can_step, needs, room, has_room, store_laid, stores, stored_driver}
use Rattle.word_table.proofs.fabric_parts.FabricParts.store_from.Goals as goal

pub emit-value-requires-clause-ready : goal.emit-value-requires-clause-ready
emit-value-requires-clause-ready c = c.requires.can.driver.ready

pub emit-value-requires-clause-laid : goal.emit-value-requires-clause-laid
emit-value-requires-clause-laid c = let q = c.requires in let a = c.args in store_laid a.self.now a.driver.now a.next q.fabric q.can a.place a.what q.kind

pub emit-value-requires-clause-reaction : goal.emit-value-requires-clause-reaction
emit-value-requires-clause-reaction c = let q = c.requires in let a = c.args in
    subst (λ (m : MicroStep). NeedsReaction m a.next.reaction (reactions a.self.now.job.now)) q.kind (needs a.self.now a.driver.now a.next q.fabric q.can)

pub emit-value-requires-clause-there : goal.emit-value-requires-clause-there
emit-value-requires-clause-there c = let q = c.requires in let a = c.args in has_room a.self.now a.driver.now a.next q.fabric q.can

pub emit-value-requires-clause-room : goal.emit-value-requires-clause-room
emit-value-requires-clause-room c = let q = c.requires in let a = c.args in let r = room a.self.now a.driver.now a.next q.fabric q.can in rw q.kind at r

pub store-requires-clause-can : goal.store-requires-clause-can
store-requires-clause-can c = let q = c.requires in let a = c.args in can_step a.self.now a.driver.now a.next q.fabric q.can

pub store-requires-clause-value : goal.store-requires-clause-value
store-requires-clause-value c = let q = c.requires in let a = c.args in let f : SFits w64 c.emit-value.result = search rules in
    stores a.self.now a.driver.now a.next q.fabric q.can a.place a.what q.kind (to_z w64 (of_z w64 c.emit-value.result)) (to_z-of_z w64 c.emit-value.result f ∙ c.emit-value.ensures.value)

pub count_up-requires : goal.count_up-requires
count_up-requires c = let q = c.requires in let a = c.args in can_count a.self.now a.driver.now a.next q.fabric q.can

pub returns-clause-of : goal.returns-clause-of
returns-clause-of c = let q = c.requires in let a = c.args in
    stored_driver a.self.now a.driver.now a.next q.fabric q.can _
    (record { table = ap (λ s. s.table) c.store.ensures.seat; job = refl; groups = refl; group = refl })
    (ap (λ s. s.view) c.store.ensures.seat) c.count_up.ensures a.place a.what q.kind c.store.ensures.agree c.emit-value.ensures.own

pub returns-clause-made : goal.returns-clause-made
returns-clause-made c = let q = c.requires in let a = c.args in
    free_steps a.self.now a.driver.now a.next q.fabric q.can
    (record a.driver.now { seat = c.store.new.seat; counts = c.count_up.new.counts; own = c.emit-value.new.self })
    (record { table = ap (λ s. s.table) c.store.ensures.seat; job = refl; groups = refl; group = refl })
    (ap (λ s. s.view) c.store.ensures.seat) c.count_up.ensures (stores_freely a.place a.what a.next.step q.kind) c.store.ensures.agree
