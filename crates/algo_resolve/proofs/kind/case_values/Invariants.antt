use Rattle.std.proofs.Common.{◌≡◌, ◌++◌, drop, map}
use Rattle.algo_resolve.proofs.kind.case_values.Given as goal

abbrev pub invariant-loop-case : goal.invariant-loop-case
invariant-loop-case l = l.values.items ++ map (λ x. x.value) (drop l.case-index l.cases) ≡ map (λ x. x.value) l.cases
