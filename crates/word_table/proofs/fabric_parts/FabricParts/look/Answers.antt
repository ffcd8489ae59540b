use Rattle.std.proofs.Common.{ap, refl, sym, ◌∙◌}
use Rattle.word_rule.specs.Table.{SeatData}
use Rattle.word_table.proofs.Drivers.{can_count}
use Rattle.word_table.proofs.Making.{can_step, made_driver, missed_driver, true_false}
use Rattle.word_table.proofs.fabric_parts.FabricParts.look.Goals as goal

pub look-found-requires-clause-can : goal.look-found-requires-clause-can
look-found-requires-clause-can c = let q = c.requires in let a = c.args in can_step a.self.now a.driver.now a.next q.fabric q.can

pub count_up-requires : goal.count_up-requires
count_up-requires c = let q = c.requires in let a = c.args in can_count a.self.now a.driver.now a.next q.fabric q.can

pub returns-then-ready-clause-of : goal.returns-then-ready-clause-of
returns-then-ready-clause-of c = let q = c.requires in let a = c.args in let l = c.look-found.ensures in
    made_driver a.self.now a.driver.now a.next q.fabric q.can q.kind _ (record { table = ap (λ s. s.table) l.seat; job = refl; groups = refl; group = refl })
    (record {
      found = c.look-found.result;
      is = sym c.if-ready.true
          ∙ c.enables-ready.ensures;
      finds = l.found;
      seat = l.seat;
      made = λ e. c.count_up.ensures;
      missed = λ e. absurd (true_false e);
    }) refl

pub returns-else-ready-clause-of : goal.returns-else-ready-clause-of
returns-else-ready-clause-of c = let q = c.requires in let a = c.args in let l = c.look-found.ensures in
    missed_driver a.self.now a.driver.now a.next q.fabric q.can q.kind _
    (record {
      found = c.look-found.result;
      is = sym c.if-ready.false
          ∙ c.enables-ready.ensures;
      finds = l.found;
      seat = l.seat;
      made = λ e. absurd (true_false (sym e));
      missed =
          λ e. ap (λ (s : SeatData). record a.driver.now { seat = s }) l.seat;
    })

pub returns-then-ready-clause-looked : goal.returns-then-ready-clause-looked
returns-then-ready-clause-looked c = let l = c.look-found.ensures in
    record { found = c.look-found.result; is = c.enables-ready.ensures; finds = l.found; seat = l.seat; made = λ e. c.count_up.ensures; missed = λ e. absurd (true_false (sym c.if-ready.true ∙ e)) }

pub returns-else-ready-clause-looked : goal.returns-else-ready-clause-looked
returns-else-ready-clause-looked c = let l = c.look-found.ensures in
    record {
      found = c.look-found.result;
      is = c.enables-ready.ensures;
      finds = l.found;
      seat = l.seat;
      made =
          λ e. absurd (true_false (sym e ∙ c.if-ready.false));
      missed = λ e. ap (λ (s : SeatData). record c.args.driver.now { seat = s }) l.seat;
    }
