use Rattle.std.proofs.Common.{◌≡◌, ℕ, ◌<◌, false}
use Rattle.reference_graph.specs.Links.{reaches_itself}
use Rattle.reference_graph.proofs.search.first_from.Given as goal

abbrev pub invariant-loop-a : goal.invariant-loop-a
invariant-loop-a l = (j : ℕ) → j < l.a → reaches_itself l.links j ≡ false
