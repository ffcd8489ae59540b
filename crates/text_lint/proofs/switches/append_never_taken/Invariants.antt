use Rattle.std.proofs.Common.{◌≡◌, ◌++◌, drop}
use Rattle.std.specs.List.{flat_map}
use Rattle.text_lint.specs.Algorithm.{never_by}
use Rattle.text_lint.proofs.switches.append_never_taken.Given as goal

-- what is there, with the findings of the definitions that are left, is the whole
abbrev pub invariant-loop-def : goal.invariant-loop-def
invariant-loop-def l = l.found.items ++ flat_map (λ d. never_by l.known d.body) (drop l.def-index l.defs)
    ≡ l.fn.found.items ++ flat_map (λ d. never_by l.known d.body) l.defs
