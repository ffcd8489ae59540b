use Rattle.std.proofs.Common.{◌≡◌, ◌++◌, drop}
use Rattle.text_lint.specs.Architecture.{durations_from}
use Rattle.text_lint.proofs.durations.append_durations.Given as goal

-- what is there, with the findings of the durations that are left, is the whole
abbrev pub invariant-loop-i : goal.invariant-loop-i
invariant-loop-i l = l.found.items ++ durations_from l.known l.operators l.numbers l.i (drop l.i l.lines)
    ≡ l.fn.found.items ++ durations_from l.known l.operators l.numbers 0 l.lines
