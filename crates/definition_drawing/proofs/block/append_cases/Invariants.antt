use Rattle.std.proofs.Common.{◌≡◌, ◌++◌, drop}
use Rattle.definition_drawing.specs.Drawing.{cases_from}
use Rattle.definition_drawing.proofs.block.append_cases.Given as goal

-- what is there, with the cases that are left, is the whole
abbrev pub invariant-loop-number : goal.invariant-loop-number
invariant-loop-number l =
    l.out.items ++ cases_from l.def l.on l.number (drop l.number l.cases)
    ≡ l.fn.out.items ++ cases_from l.def l.on 0 l.cases
