use Rattle.std.proofs.Common.{◌≡◌, ◌++◌, drop}
use Rattle.std.specs.List.{flat_map}
use Rattle.text_lint.specs.Algorithm.{other_case}
use Rattle.text_lint.proofs.switches.append_others.Given as goal

-- what is there, with the findings of the cases that are left, is the whole
abbrev pub invariant-loop-case : goal.invariant-loop-case
invariant-loop-case l = l.found.items ++ flat_map (other_case l.reference l.value) (drop l.case-index l.cases)
    ≡ l.fn.found.items ++ flat_map (other_case l.reference l.value) l.cases
