use Rattle.std.proofs.Common.{◌∙◌, length, Some, sym, ap, subst}
use Rattle.word_rule.specs.Table.{SeatData, TableData}
use Rattle.word_table.proofs.Gathering.{AreGathered, last_part, last_short, last_below, last_fits, last_table, last_gathered}
use Rattle.word_table.proofs.closing.gather_all.Goals as goal

pub gather-mine-requires-clause-driver : goal.gather-mine-requires-clause-driver
gather-mine-requires-clause-driver c = let q = c.requires in let l = c.loop-driver in (
  c.driver.invariant,
  last_below c.args.fabric.now q.fabric c.args.drivers.items q.drivers l.drivers.items c.pop.new.self.items
      c.in-Some.driver l.invariant.1 c.in-Some.ensures.items c.driver.inside.parts c.driver.view_is c.driver.invariant,
)

pub gather-mine-requires-clause-fits : goal.gather-mine-requires-clause-fits
gather-mine-requires-clause-fits c = let q = c.requires in let l = c.loop-driver in
    last_fits c.args.fabric.now q.fabric c.args.drivers.items q.drivers l.drivers.items c.pop.new.self.items c.in-Some.driver l.invariant.1
    c.in-Some.ensures.items c.driver.inside.parts c.driver.view_is c.driver.invariant
    l.fabric.remains l.seat (l.invariant.3, l.invariant.4)

pub join_seats-requires-clause-other : goal.join_seats-requires-clause-other
join_seats-requires-clause-other c = let q = c.requires in let l = c.loop-driver in
    ap (λ (s : SeatData). s.table) c.gather-mine.ensures.seat
    ∙ last_table c.args.fabric.now q.fabric c.args.drivers.items q.drivers l.drivers.items c.pop.new.self.items c.in-Some.driver
    l.invariant.1 c.in-Some.ensures.items c.driver.inside.parts c.driver.view_is c.driver.invariant
    ∙ ap (λ (t : TableData). t.table) (sym l.invariant.0.table)

pub loop-driver-preserved : goal.loop-driver-preserved
loop-driver-preserved c = let q = c.requires in let l = c.loop-driver in let i = l.invariant in let new = c.pop.new.self.items in
    let d = c.driver in let v = c.in-Some.driver in let e = c.in-Some.ensures.items in let w = c.args.fabric.now in let ds = c.args.drivers.items in
    let g = subst (λ (s : SeatData). AreGathered w q.fabric ds q.drivers (length new) c.gather-mine.new.remains (Some s)) (sym c.join_seats.ensures)
    (last_gathered w q.fabric ds q.drivers l.drivers.items new v i.1 e d.inside.parts d.view_is d.invariant l.fabric.remains
    c.gather-mine.new.remains l.seat c.gather-mine.result c.gather-mine.ensures.gathers c.gather-mine.ensures.seat (i.3, i.4)) in (
      record { table = i.0.table; job = i.0.job; groups = i.0.groups },
      last_part w q.fabric ds q.drivers l.drivers.items new v i.1 e d.inside.parts d.view_is d.invariant,
      last_short w q.fabric ds q.drivers l.drivers.items new v i.1 e d.inside.parts d.view_is d.invariant,
      g.0,
      g.1,
    )
