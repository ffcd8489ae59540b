use Rattle.std.proofs.Common.{◌≡◌, map, true, ◌++◌, drop}
use Rattle.algo_check.proofs.mention.references_of.Given as goal

abbrev pub invariant-loop-reference : goal.invariant-loop-reference
invariant-loop-reference l = l.mentions.items
    ++ map (λ r. record { line = r.line; def = r.def; is_reference = true }) (drop l.reference-index l.references)
    ≡ map (λ r. record { line = r.line; def = r.def; is_reference = true }) l.references
