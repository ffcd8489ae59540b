use Rattle.std.proofs.Common.{◌≡◌, ◌++◌, drop}
use Rattle.definition_drawing.specs.Drawing.{references_text}
use Rattle.definition_drawing.proofs.block.append_references.Given as goal

-- what is there, with the references that are left, is the whole
abbrev pub invariant-loop-reference : goal.invariant-loop-reference
invariant-loop-reference l =
    l.out.items ++ references_text l.defs l.def (drop l.reference-index l.references)
    ≡ l.fn.out.items ++ references_text l.defs l.def l.references
