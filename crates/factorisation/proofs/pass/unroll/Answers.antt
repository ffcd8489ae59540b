use Rattle.std.proofs.Common.{◌≡◌, ◌≤◌, ℕ, true, false, ap, ◌∙◌, sym, subst}
use Rattle.algo_tree.specs.Counted.{operations}
use Rattle.algo_tree.specs.Valid.{IsTree}
use Rattle.algo_tree.specs.View.{view}
use Rattle.algo_tree.specs.SameMeaning.{KeepsMeaning}
use Rattle.algo_tree.specs.NoRepeat.{HasNoRepeat}
use Rattle.flat_laws.specs.Unrolled.{unroll as unrolled}
use Rattle.flat_laws.proofs.Unroll.{unroll_main-keeps}
use Rattle.flat_laws.proofs.Unrepeated.{no-unroll}
use Rattle.flat_laws.proofs.UnrolledCounting.{counted-unroll}
use Rattle.flat_laws.proofs.UnrolledTrees.{tree-unroll}
use Rattle.factorisation.proofs.pass.unroll.Goals as goal

pub new-requires : goal.new-requires
new-requires c =
    let is : view c.in_ok-unroll_vertex.field-0 ≡ unrolled c.args.tree.now = c.in_ok-unroll_vertex.ensures ∙ ap unrolled c.main.ensures.same in
    subst IsTree (sym is) (tree-unroll c.args.tree.now c.main.ensures.valid)

pub returns-clause-kept : goal.returns-clause-kept
returns-clause-kept c =
    let is : c.new.result ≡ unrolled c.args.tree.now = c.new.ensures ∙ c.in_ok-unroll_vertex.ensures ∙ ap unrolled c.main.ensures.same in
    subst (KeepsMeaning c.args.tree.now) (sym is) (unroll_main-keeps c.args.tree.now c.main.ensures.valid)

pub returns-clause-flat : goal.returns-clause-flat
returns-clause-flat c =
    let is : c.new.result ≡ unrolled c.args.tree.now = c.new.ensures ∙ c.in_ok-unroll_vertex.ensures ∙ ap unrolled c.main.ensures.same in
    subst HasNoRepeat (sym is) (no-unroll c.args.tree.now)

pub returns-clause-count : goal.returns-clause-count
returns-clause-count c =
    let is : c.new.result ≡ unrolled c.args.tree.now = c.new.ensures ∙ c.in_ok-unroll_vertex.ensures ∙ ap unrolled c.main.ensures.same in
    ap operations is ∙ counted-unroll c.args.tree.now c.main.ensures.valid.well
