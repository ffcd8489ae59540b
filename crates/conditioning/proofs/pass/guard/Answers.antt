use Rattle.std.proofs.Common.{◌≡◌, [], ap, ◌∙◌, sym, subst}
use Rattle.algo_tree.specs.Counted.{operations}
use Rattle.algo_tree.specs.Valid.{IsTree}
use Rattle.algo_tree.specs.View.{view}
use Rattle.algo_tree.specs.SameMeaning.{KeepsMeaning}
use Rattle.algo_tree.specs.NoRepeat.{HasNoRepeat}
use Rattle.flat_laws.specs.Guarded.{guard as guarded_tree}
use Rattle.flat_laws.specs.NoCase.{HasNoCase}
use Rattle.flat_laws.proofs.Guard.{guard_main-keeps}
use Rattle.flat_laws.proofs.Uncased.{no_case, no_repeat}
use Rattle.flat_laws.proofs.GuardedCounting.{counted-guarded}
use Rattle.flat_laws.proofs.GuardedTrees.{tree-guard}
use Rattle.conditioning.proofs.pass.guard.Goals as goal

pub new-requires : goal.new-requires
new-requires c =
    let is : view c.in_ok-guard_main.field-0 ≡ guarded_tree c.args.tree.now = c.in_ok-guard_main.ensures ∙ ap guarded_tree c.main-main.ensures.same in
    subst IsTree (sym is) (tree-guard c.args.tree.now c.main-main.ensures.valid c.requires)

pub returns-clause-kept : goal.returns-clause-kept
returns-clause-kept c =
    let is : c.new.result ≡ guarded_tree c.args.tree.now = c.new.ensures ∙ c.in_ok-guard_main.ensures ∙ ap guarded_tree c.main-main.ensures.same in
    subst (KeepsMeaning c.args.tree.now) (sym is) (guard_main-keeps c.args.tree.now c.main-main.ensures.valid c.requires)

pub returns-clause-cases : goal.returns-clause-cases
returns-clause-cases c =
    let is : c.new.result ≡ guarded_tree c.args.tree.now = c.new.ensures ∙ c.in_ok-guard_main.ensures ∙ ap guarded_tree c.main-main.ensures.same in
    subst HasNoCase (sym is) (no_case [] 0 c.args.tree.now)

pub returns-clause-repeats : goal.returns-clause-repeats
returns-clause-repeats c =
    let is : c.new.result ≡ guarded_tree c.args.tree.now = c.new.ensures ∙ c.in_ok-guard_main.ensures ∙ ap guarded_tree c.main-main.ensures.same in
    subst HasNoRepeat (sym is) (no_repeat [] 0 c.args.tree.now c.requires)

pub returns-clause-count : goal.returns-clause-count
returns-clause-count c =
    let is : c.new.result ≡ guarded_tree c.args.tree.now = c.new.ensures ∙ c.in_ok-guard_main.ensures ∙ ap guarded_tree c.main-main.ensures.same in
    ap operations is ∙ counted-guarded [] 0 c.args.tree.now c.requires
