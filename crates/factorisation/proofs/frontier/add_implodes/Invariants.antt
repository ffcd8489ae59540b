use Rattle.std.proofs.Common.{◌≡◌, ◌++◌, map, drop}
use Rattle.algo_tree.specs.View.{view}
use Rattle.flat_laws.specs.Unrolled.{implodes as imploded}
use Rattle.factorisation.proofs.frontier.add_implodes.Given as goal

abbrev pub invariant-loop-give : goal.invariant-loop-give
invariant-loop-give l = record {
  at : l.place ≡ l.give-index;
  so_far : map view l.all.items ++ imploded l.definition l.copies.begin l.copies.count l.outs l.place (drop l.give-index l.gives)
      ≡ map view l.fn.all.items ++ imploded l.definition l.copies.begin l.copies.count l.outs 0 l.gives;
}
