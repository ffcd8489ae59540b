use Rattle.std.proofs.Common.{◌≡◌, ◌++◌, drop}
use Rattle.std.specs.List.{flat_map}
use Rattle.text_lint.specs.Algorithm.{outside_by}
use Rattle.text_lint.proofs.elements.append_elements.Given as goal

-- what is there, with the findings of the definitions that are left, is the whole
abbrev pub invariant-loop-def : goal.invariant-loop-def
invariant-loop-def l = l.found.items ++ flat_map outside_by (drop l.def-index l.defs) ≡ l.fn.found.items ++ flat_map outside_by l.defs
