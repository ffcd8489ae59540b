use Rattle.std.proofs.Common.{◌≡◌, ◌∙◌, ◌<◌, length, sym, subst, ap}
use Rattle.std.specs.List.{All}
use Rattle.algo_tree.specs.Valid.{IsTree}
use Rattle.algo_tree.specs.View.{view, vertices_view}
use Rattle.multi_period.specs.Marks.{mark_at, AreMarked}
use Rattle.multi_period.specs.Periods.{all_periods, periods}
use Rattle.multi_period.specs.Laws.{DoesAsMarked}
use Rattle.multi_period.proofs.Main.{periods-keep}
use Rattle.multi_period.proofs.Passed.{within, marked, made_is}
use Rattle.multi_period.proofs.Trees.{tree-made}
use Rattle.multi_period.proofs.pass.make_tree.Goals as goal

pub each_period-requires-clause-marked : goal.each_period-requires-clause-marked
each_period-requires-clause-marked c =
    subst (λ us. AreMarked (mark_at c.args.marks.now) (vertices_view us)) (sym c.deref.ensures.value)
    (marked c.main-main.result.now c.args.tree.now c.args.marks.now c.main-main.ensures.same c.requires.may)

pub each_period-requires-clause-within : goal.each_period-requires-clause-within
each_period-requires-clause-within c =
    subst (λ us. All (λ m. m.reference < length us) c.args.marks.now) (sym c.deref.ensures.value)
    (within c.main-main.result.now c.args.tree.now c.args.marks.now c.main-main.ensures.same c.requires.may)

pub new-requires : goal.new-requires
new-requires c =
    let is : view c.in_ok-with_inside.field-0 ≡ periods c.args.marks.now c.args.tree.now =
    made_is c.main-main.result.now c.args.tree.now c.args.marks.now c.main-main.ensures.same c.in_ok-with_inside.field-0 c.in_ok-inner.inner.items
    (c.in_ok-inner.ensures ∙ ap (λ us. all_periods (mark_at c.args.marks.now) (vertices_view us)) c.deref.ensures.value) c.in_ok-with_inside.ensures in
    subst IsTree (sym is) (tree-made c.args.marks.now c.args.tree.now c.main-main.ensures.valid c.requires.may.stand c.requires.few)

pub returns-clause-is : goal.returns-clause-is
returns-clause-is c =
    c.new.ensures
    ∙ made_is c.main-main.result.now c.args.tree.now c.args.marks.now c.main-main.ensures.same c.in_ok-with_inside.field-0 c.in_ok-inner.inner.items
    (c.in_ok-inner.ensures ∙ ap (λ us. all_periods (mark_at c.args.marks.now) (vertices_view us)) c.deref.ensures.value) c.in_ok-with_inside.ensures

pub returns-clause-meaning : goal.returns-clause-meaning
returns-clause-meaning c =
    let is : c.new.result ≡ periods c.args.marks.now c.args.tree.now =
    c.new.ensures
    ∙ made_is c.main-main.result.now c.args.tree.now c.args.marks.now c.main-main.ensures.same c.in_ok-with_inside.field-0 c.in_ok-inner.inner.items
    (c.in_ok-inner.ensures ∙ ap (λ us. all_periods (mark_at c.args.marks.now) (vertices_view us)) c.deref.ensures.value) c.in_ok-with_inside.ensures in
    subst (DoesAsMarked c.args.marks.now c.args.tree.now) (sym is) (periods-keep c.args.marks.now c.args.tree.now c.main-main.ensures.valid c.requires.may.stand)
