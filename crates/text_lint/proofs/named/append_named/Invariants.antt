use Rattle.std.proofs.Common.{◌≡◌, ◌++◌, drop, map}
use Rattle.text_lint.specs.Named.{named_in}
use Rattle.text_lint.proofs.named.append_named.Given as goal

-- what is there, with the names of the definitions that are left, is the whole
abbrev pub invariant-loop-def : goal.invariant-loop-def
invariant-loop-def l = map (λ w. w.now) l.named.items ++ named_in (drop l.def-index l.defs) ≡ map (λ w. w.now) l.fn.named.items ++ named_in l.defs
