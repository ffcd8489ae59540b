use Rattle.std.proofs.Common.{◌≡◌, ◌++◌, drop, map}
use Rattle.text_lint.proofs.named.append_references.Given as goal

-- what is there, with the names of the references that are left, is the whole
abbrev pub invariant-loop-reference : goal.invariant-loop-reference
invariant-loop-reference l = map (λ w. w.now) l.named.items ++ map (λ r. r.def) (drop l.reference-index l.references)
    ≡ map (λ w. w.now) l.fn.named.items ++ map (λ r. r.def) l.references
