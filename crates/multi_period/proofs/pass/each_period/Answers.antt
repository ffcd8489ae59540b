use Rattle.std.proofs.Common.{◌≡◌, length, map, ap, sym, subst, ◌∙◌, arith}
use Rattle.algo_tree.specs.Code.{count_of}
use Rattle.algo_tree.specs.View.{vertices_of, vertices_view}
use Rattle.multi_period.specs.Marks.{mark_at, MayHave}
use Rattle.multi_period.specs.Seen.{label_seen}
use Rattle.multi_period.proofs.Placed.{made_of, all_made, count_view, may_at, next_made, table_at, long_table}
use Rattle.multi_period.proofs.pass.each_period.Goals as goal
use Rattle.syn_base.specs.Numbers.{numbers_below}

pub mark_table-requires : goal.mark_table-requires
mark_table-requires c = c.requires.within

pub index-requires : goal.index-requires
index-requires c =
    let long = long_table (mark_at c.args.marks.now) (length c.args.vertices.now) c.in_ok-table.table.items c.in_ok-table.ensures in
    omega (arith, long, c.loop-place-test.true, c.in_ok-table.table.ok.0)

pub period_by-requires : goal.period_by-requires
period_by-requires c =
    subst (λ o. MayHave o (label_seen c.index-vertices-place.result))
    (sym (table_at (mark_at c.args.marks.now)
    (length c.args.vertices.now) c.loop-place.place c.in_ok-table.table.items c.index.result.now c.in_ok-table.ensures
    c.loop-place-test.true c.index.ensures))
    (may_at (mark_at c.args.marks.now) c.args.vertices.now c.loop-place.place c.index-vertices-place.result c.requires.marked c.loop-place-test.true c.index-vertices-place.is)

pub loop-place-preserved : goal.loop-place-preserved
loop-place-preserved c =
    next_made (mark_at c.args.marks.now) c.args.vertices.now c.loop-place.place c.index-vertices-place.result c.index.result.now c.in_ok-period_by.field-0 c.loop-place.all.items c.push.new.self.items
    (table_at (mark_at c.args.marks.now) (length c.args.vertices.now) c.loop-place.place c.in_ok-table.table.items c.index.result.now c.in_ok-table.ensures c.loop-place-test.true c.index.ensures)
    c.loop-place-test.true c.index-vertices-place.is c.in_ok-period_by.ensures c.loop-place.invariant c.in_ok-push.ensures.items

pub returns : goal.returns
returns c =
    let many = count_view c.args.vertices.now in
    let end : c.loop-place.place ≡ count_of (vertices_view c.args.vertices.now) = omega (arith, many, c.loop-place-test.false, c.loop-place.auto) in
    ap vertices_of c.loop-place.invariant
    ∙ ap (λ n. vertices_of (map (made_of (mark_at c.args.marks.now) (vertices_view c.args.vertices.now)) (numbers_below n))) end
    ∙ all_made (mark_at c.args.marks.now) (vertices_view c.args.vertices.now)
