use Rattle.std.proofs.Common.{◌++◌, ◌∷◌, [], List, map, ap, ap₂, sym, ◌∙◌}
use Rattle.std.proofs.lemmas.List.{map_more, map_push}
use Rattle.algo_tree.specs.declared.Source.{Source}
use Rattle.algo_tree.specs.declared.Source.TheVariants.{Own}
use Rattle.flat_graph.specs.Meaning.{level_source}
use Rattle.hierarchy.specs.Wires.{led}
use Rattle.hierarchy.proofs.Linking.{found_at}
use Rattle.hierarchy.proofs.operation.outputs_of.Goals as goal

pub output_of-requires : goal.output_of-requires
output_of-requires c = found_at (led c.args.level.now.leds.now c.args.level.now.own.now) c.args.sources.now c.loop-source.source-index (Own 0) c.requires c.loop-source-test.true

pub loop-source-preserved : goal.loop-source-preserved
loop-source-preserved c =
    ap (map level_source) c.in_ok-push.ensures.items ∙ map_push level_source c.loop-source.all.items c.output_of.result
    ∙ ap₂ (λ (ss : List Source) (s : Source). ss ++ s ∷ []) c.loop-source.invariant c.output_of.ensures
    ∙ sym (map_more (led c.args.level.now.leds.now c.args.level.now.own.now) c.args.sources.now c.loop-source.source-index (Own 0) c.loop-source-test.true)
