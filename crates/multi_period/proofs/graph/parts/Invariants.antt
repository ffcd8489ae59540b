use Rattle.std.proofs.Common.{◌≡◌, ◌∷◌, map}
use Rattle.algo_tree.specs.View.{view}
use Rattle.multi_period.specs.Periods.{count, keep}
use Rattle.multi_period.specs.Seen.{label_seen}
use Rattle.multi_period.proofs.graph.parts.Given as goal
use Rattle.syn_base.specs.Numbers.{numbers_below}

abbrev pub invariant-loop-output : goal.invariant-loop-output
invariant-loop-output l = map view l.all.items ≡ count l.fn.mark.every ∷ map (keep (label_seen l.vertex)) (numbers_below l.output)
