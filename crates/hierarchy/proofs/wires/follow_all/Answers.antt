use Rattle.std.proofs.Common.{◌++◌, ◌∷◌, [], List, ap₂, sym, ◌∙◌}
use Rattle.std.proofs.lemmas.List.{map_more}
use Rattle.algo_tree.specs.declared.Source.{Source}
use Rattle.algo_tree.specs.declared.Source.TheVariants.{Own}
use Rattle.hierarchy.specs.Wires.{led}
use Rattle.hierarchy.proofs.wires.follow_all.Goals as goal

pub loop-source-preserved : goal.loop-source-preserved
loop-source-preserved c =
    c.in_ok-push.ensures.items ∙ ap₂ (λ (ss : List Source) (s : Source). ss ++ s ∷ []) c.loop-source.invariant c.follow.ensures
    ∙ sym (map_more (led c.args.level.now.leds.now c.args.level.now.own.now) c.args.sources.now c.loop-source.source-index (Own 0) c.loop-source-test.true)
