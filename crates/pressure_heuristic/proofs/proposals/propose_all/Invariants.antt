use Rattle.std.proofs.Common.{◌≡◌}
use Rattle.pressure_heuristic.proofs.proposals.propose_all.Given as goal

-- the draft is the same
abbrev pub invariant-loop-place : goal.invariant-loop-place
invariant-loop-place l = l.draft ≡ l.fn.draft
