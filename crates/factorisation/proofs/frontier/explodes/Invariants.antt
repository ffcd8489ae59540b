use Rattle.std.proofs.Common.{◌≡◌, ◌++◌, map, drop}
use Rattle.algo_tree.specs.View.{view}
use Rattle.flat_laws.specs.Unrolled.{explodes as exploded}
use Rattle.factorisation.proofs.frontier.explodes.Given as goal

abbrev pub invariant-loop-line : goal.invariant-loop-line
invariant-loop-line l = map view l.all.items ++ exploded l.definition l.count (map (λ f. f.now) (drop l.line-index l.lines)) ≡ exploded l.definition l.count (map (λ f. f.now) l.lines)
