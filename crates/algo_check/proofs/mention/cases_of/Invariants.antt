use Rattle.std.proofs.Common.{◌≡◌, map, false, ◌++◌, drop}
use Rattle.algo_check.proofs.mention.cases_of.Given as goal

abbrev pub invariant-loop-case : goal.invariant-loop-case
invariant-loop-case l = l.mentions.items
    ++ map (λ c. record { line = c.line; def = c.def; is_reference = false }) (drop l.case-index l.cases)
    ≡ map (λ c. record { line = c.line; def = c.def; is_reference = false }) l.cases
