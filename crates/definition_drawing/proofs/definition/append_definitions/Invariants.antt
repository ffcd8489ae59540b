use Rattle.std.proofs.Common.{◌≡◌, ◌++◌, drop}
use Rattle.definition_drawing.specs.Drawing.{definitions_text}
use Rattle.definition_drawing.proofs.definition.append_definitions.Given as goal

-- what is there, with the definitions that are left, is the whole
abbrev pub invariant-loop-def : goal.invariant-loop-def
invariant-loop-def l =
    l.out.items ++ definitions_text l.all (drop l.def-index l.defs)
    ≡ l.fn.out.items ++ definitions_text l.all l.defs
