use Rattle.std.proofs.Common.{◌≡◌, map}
use Rattle.algo_tree.specs.declared.Source.TheVariants.{Of}
use Rattle.conditioning.proofs.merges.case_outputs.Given as goal
use Rattle.syn_base.specs.Numbers.{numbers_below}

abbrev pub invariant-loop-case : goal.invariant-loop-case
invariant-loop-case l = l.all.items ≡ map (λ i. Of i l.output) (numbers_below l.case)
