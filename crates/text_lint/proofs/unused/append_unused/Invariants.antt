use Rattle.std.proofs.Common.{◌≡◌, ◌++◌, drop}
use Rattle.std.specs.List.{flat_map}
use Rattle.text_lint.specs.Algorithm.{unused_by}
use Rattle.text_lint.proofs.unused.append_unused.Given as goal

-- what is there, with the findings of the definitions that are left, is the whole
abbrev pub invariant-loop-def : goal.invariant-loop-def
invariant-loop-def l = l.found.items ++ flat_map (unused_by l.known) (drop l.def-index l.defs) ≡ l.fn.found.items ++ flat_map (unused_by l.known) l.defs
