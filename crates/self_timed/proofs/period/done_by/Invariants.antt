use Rattle.std.proofs.Common.{◌≡◌, take}
use Rattle.self_timed.specs.Period.{all_done}
use Rattle.self_timed.proofs.period.done_by.Given as goal

-- the reactions so far are done
abbrev pub invariant-loop-reaction : goal.invariant-loop-reaction
invariant-loop-reaction l = l.done ≡ all_done (take l.reaction l.dates)
