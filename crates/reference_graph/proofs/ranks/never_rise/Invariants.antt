use Rattle.std.proofs.Common.{ℕ, ◌<◌, ◌≤◌, get_or}
use Rattle.reference_graph.specs.Answer.{Refers}
use Rattle.reference_graph.proofs.ranks.never_rise.Given as goal

abbrev pub invariant-loop-a : goal.invariant-loop-a
invariant-loop-a l = (a b : ℕ) → a < l.a → Refers l.links a b → get_or l.ranks b 0 ≤ get_or l.ranks a 0
