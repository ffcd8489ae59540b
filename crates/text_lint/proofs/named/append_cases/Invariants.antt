use Rattle.std.proofs.Common.{◌≡◌, ◌++◌, drop, map}
use Rattle.text_lint.proofs.named.append_cases.Given as goal

-- what is there, with the names of the cases that are left, is the whole
abbrev pub invariant-loop-case : goal.invariant-loop-case
invariant-loop-case l = map (λ w. w.now) l.named.items ++ map (λ c. c.def) (drop l.case-index l.cases)
    ≡ map (λ w. w.now) l.fn.named.items ++ map (λ c. c.def) l.cases
