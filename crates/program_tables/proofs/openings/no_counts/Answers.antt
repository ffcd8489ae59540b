-- One more count.
use Rattle.std.proofs.Common.{◌++◌, List, ℕ, [], ◌∷◌, ap, ◌∙◌}
use Rattle.std.proofs.lemmas.List.{replicate_more}
use Rattle.program_tables.proofs.openings.no_counts.Goals as goal

pub loop-count-preserved : goal.loop-count-preserved
loop-count-preserved c = c.in_ok-push.ensures.items ∙ ap (λ (l : List ℕ). l ++ 0 ∷ []) c.loop-count.invariant ∙ replicate_more c.loop-count._count 0
