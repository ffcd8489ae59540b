use Rattle.std.proofs.Common.{◌≡◌}
use Rattle.pressure_heuristic.proofs.proposals.propose.Given as goal

-- the draft is the same
abbrev pub invariant-loop-look : goal.invariant-loop-look
invariant-loop-look l = l.draft ≡ l.fn.draft
