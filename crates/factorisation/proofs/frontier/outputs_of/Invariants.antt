use Rattle.std.proofs.Common.{◌≡◌, ◌+◌, map}
use Rattle.algo_tree.specs.declared.Source.TheVariants.{Of}
use Rattle.factorisation.proofs.frontier.outputs_of.Given as goal
use Rattle.syn_base.specs.Numbers.{numbers_below}

abbrev pub invariant-loop-i : goal.invariant-loop-i
invariant-loop-i l = l.ins.items ≡ map (λ i. Of (l.copies.begin + i) l.output) (numbers_below l.i)
