use Rattle.std.proofs.Common.{◌≡◌, ◌++◌, drop}
use Rattle.text_lint.specs.Algorithm.{outside_outputs}
use Rattle.text_lint.proofs.elements.append_of_outputs.Given as goal

-- what is there, with the findings of the outputs that are left, is the whole
abbrev pub invariant-loop-output : goal.invariant-loop-output
invariant-loop-output l = l.found.items ++ outside_outputs l.def l.ins (drop l.output-index l.outs) ≡ l.fn.found.items ++ outside_outputs l.def l.ins l.outs
