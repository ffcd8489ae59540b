use Rattle.std.proofs.Common.{◌++◌, ◌∷◌, [], List, ap₂, sym, ◌∙◌}
use Rattle.std.proofs.lemmas.List.{map_more}
use Rattle.algo_tree.specs.declared.Source.{Source}
use Rattle.algo_tree.specs.declared.Guard.{Guard}
use Rattle.conditioning.proofs.conditions.sources_of.Goals as goal

pub loop-guard-preserved : goal.loop-guard-preserved
loop-guard-preserved c =
    c.in_ok-push.ensures.items ∙ ap₂ (λ (ss : List Source) (g : Guard). ss ++ g.source ∷ []) c.loop-guard.invariant c.guard-item.is
    ∙ sym (map_more (λ (g : Guard). g.source) c.args.guards.now c.loop-guard.guard-index c.guard-item.result c.loop-guard-test.true)
