use Rattle.std.proofs.Common.{ap, refl}
use Rattle.word_table.proofs.Drivers.{can_count, lowers_freely, quiet_driver, free_steps}
use Rattle.word_table.proofs.Making.{can_step}
use Rattle.word_table.proofs.fabric_parts.FabricParts.lower.Goals as goal

pub lower-requires-clause-can : goal.lower-requires-clause-can
lower-requires-clause-can c = let q = c.requires in let a = c.args in can_step a.self.now a.driver.now a.next q.fabric q.can

pub count_up-requires : goal.count_up-requires
count_up-requires c = let q = c.requires in let a = c.args in can_count a.self.now a.driver.now a.next q.fabric q.can

pub returns-clause-of : goal.returns-clause-of
returns-clause-of c = let q = c.requires in let a = c.args in let m = lowers_freely a.next.step q.kind in
    quiet_driver a.self.now a.driver.now a.next q.fabric q.can _
    (record { table = ap (λ s. s.table) c.lower.ensures.seat; job = refl; groups = refl; group = refl })
    (ap (λ s. s.view) c.lower.ensures.seat) c.count_up.ensures m.0 c.lower.ensures.agree m.1 refl

pub returns-clause-made : goal.returns-clause-made
returns-clause-made c = let q = c.requires in let a = c.args in let m = lowers_freely a.next.step q.kind in
    free_steps a.self.now a.driver.now a.next q.fabric q.can
    (record a.driver.now { seat = c.lower.new.seat; counts = c.count_up.new.counts })
    (record { table = ap (λ s. s.table) c.lower.ensures.seat; job = refl; groups = refl; group = refl })
    (ap (λ s. s.view) c.lower.ensures.seat) c.count_up.ensures m.0 c.lower.ensures.agree
