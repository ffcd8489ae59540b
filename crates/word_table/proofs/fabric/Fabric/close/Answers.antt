use Rattle.std.proofs.Common.{◌∙◌, ap}
use Rattle.word_rule.specs.Driven.{Driven}
use Rattle.word_rule.specs.Table.{TableData}
use Rattle.word_table.proofs.Finishing.{seat_whole, driven_whole, closed_whole, ended_whole}
use Rattle.word_table.proofs.fabric.Fabric.close.Goals as goal

pub close-requires-clause-all : goal.close-requires-clause-all
close-requires-clause-all c = let e = c.in-Some.ensures in let n = c.gather_all-seat.new.fabric in let i = c.self.invariant in
    seat_whole c.self.inside.parts i c.args.drivers.items n.remains e.gathered n.table.key
    (ap (λ (t : TableData). t.key) e.same.table ∙ i.key) c.as_slice.result.now c.as_slice.ensures.value c.in-Some.seat e.seat

pub returns-clause-driven : goal.returns-clause-driven
returns-clause-driven c = let e = c.in-Some.ensures in let n = c.gather_all-seat.new.fabric in let i = c.self.invariant in
    driven_whole c.self.inside.parts i c.args.drivers.items n.remains e.gathered n.table.key
    (ap (λ (t : TableData). t.key) e.same.table ∙ i.key) c.as_slice.result.now c.as_slice.ensures.value c.args.self c.self.view_is
    c.args.driven.now c.driven.inside.number c.add_counts-driven-inside.result c.as_slice-2.result.now c.close.new.words.items
    (ap (λ (d : Driven). d.number) c.driven.view_is) c.as_slice-2.ensures.value c.add_counts-driven-inside.ensures c.close.ensures.words

pub returns-clause-closed : goal.returns-clause-closed
returns-clause-closed c = let e = c.in-Some.ensures in let n = c.gather_all-seat.new.fabric in let i = c.self.invariant in
    closed_whole c.self.inside.parts i c.args.drivers.items n.remains e.gathered n.table.key
    (ap (λ (t : TableData). t.key) e.same.table ∙ i.key) c.as_slice.result.now c.as_slice.ensures.value c.args.self c.self.view_is
    c.new.result c.new.ensures c.close.ensures.reached

pub returns-clause-ended : goal.returns-clause-ended
returns-clause-ended c = let e = c.in-Some.ensures in let n = c.gather_all-seat.new.fabric in let i = c.self.invariant in
    let w = c.self.inside.parts in let k = ap (λ (t : TableData). t.key) e.same.table ∙ i.key in
    ended_whole w i c.args.drivers.items n.remains e.gathered n.table.key k c.as_slice.result.now c.as_slice.ensures.value c.args.self c.self.view_is c.full_is_ended.ensures c.requires
    c.args.driven.now (record { number = c.add_counts-driven-inside.result; counts = n.remains.counts.items; words = c.close.new.words.items }) (record { rows = n.remains.rows; cells = c.new.result })
    (driven_whole w i c.args.drivers.items n.remains e.gathered n.table.key k c.as_slice.result.now c.as_slice.ensures.value c.args.self c.self.view_is
    c.args.driven.now c.driven.inside.number c.add_counts-driven-inside.result c.as_slice-2.result.now c.close.new.words.items
    (ap (λ (d : Driven). d.number) c.driven.view_is) c.as_slice-2.ensures.value c.add_counts-driven-inside.ensures c.close.ensures.words)
    (closed_whole w i c.args.drivers.items n.remains e.gathered n.table.key k c.as_slice.result.now c.as_slice.ensures.value c.args.self c.self.view_is
    c.new.result c.new.ensures c.close.ensures.reached)
