use Rattle.std.proofs.Common.{◌≡◌, List, None, sym, subst, ◌∙◌}
use Rattle.algo_laws.specs.declared.Def.{Def}
use Rattle.algo_laws.specs.Resolved.{refusal, tree_of}
use Rattle.wiring_laws.specs.Pruned.{pruned}
use Rattle.algo_resolve.specs.Ready.{IsReady}
use Rattle.algo_resolve.proofs.Told.{are_ready, given}
use Rattle.algo_resolve.proofs.resolution.resolve.Goals as goal

pub tree-requires-clause-ready : goal.tree-requires-clause-ready
tree-requires-clause-ready c =
    let links = c.as_slice-2.result.now in
    let table = c.as_slice-3.result.now in
    subst (λ (ds : List Def). IsReady ds links table) (sym c.as_slice.ensures)
    (are_ready c.args.defs.now.defs links table c.requires.read c.in_ok-table.ensures.checks
    (c.as_slice-2.ensures.value ∙ c.in-Ok.ensures.links) (c.as_slice-3.ensures.value ∙ c.in_ok-table.ensures.ports))

pub tree-requires-clause-passed : goal.tree-requires-clause-passed
tree-requires-clause-passed c = subst (λ (ds : List Def). refusal ds ≡ None) (sym c.as_slice.ensures) c.in_ok-table.ensures.checks

pub returns-in-Ok-tree : goal.returns-in-Ok-tree
returns-in-Ok-tree c =
    given c.args.defs.now.defs c.in-Ok-tree.tree c.in_ok-table.ensures.checks (subst (λ (ds : List Def). c.in-Ok-tree.tree ≡ pruned (tree_of ds)) c.as_slice.ensures c.in-Ok-tree.ensures)
