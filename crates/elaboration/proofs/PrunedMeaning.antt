-- The meaning with marks is that of the pruned tree.
use Rattle.std.proofs.Common.{◌≡◌, ℕ, zero, suc, List, [], slice_index_or, Option, ap, ap₂, ◌∙◌}
use Rattle.syn_base.specs.Vectors.{Values}
use Rattle.algo_laws.specs.Level.{Node, level_value}
use Rattle.algo_laws.specs.Tree.{Label, Vertex, vertex, Vertices}
use Rattle.algo_laws.specs.Meaning.{behaviour_of, nodes, actuator_values}
use Rattle.algo_laws.specs.Valid.{IsTree}
use Rattle.multi_period.specs.declared.Mark.{Mark}
use Rattle.multi_period.specs.Marks.{mark_at}
use Rattle.multi_period.specs.Meaning.{History, level_in, after, history, act_row_at}
use Rattle.wiring_laws.specs.Pruned.{prune_all, pruned}
use Rattle.wiring_laws.proofs.Prunable.{can_prune}
use Rattle.wiring_laws.proofs.Meaning.{nodes-prune, taken-prune}

same-history : (mark : ℕ → Option Mark) (l : Label) (us vs : Vertices) → nodes us ≡ nodes vs → (rows : List Values) (k : ℕ) → history mark (vertex l us) rows k ≡ history mark (vertex l vs) rows k
same-history mark l us vs e rows zero = ap (λ cs. let h : History = record { past = (behaviour_of l cs).initial; gave = λ j r. [] } in h) e
same-history mark l us vs e rows (suc k) = ap₂ (λ (h : History) (cs : List Node). after (level_in mark cs k h.gave) (slice_index_or rows k []) k h) (same-history mark l us vs e rows k) e

pub acts-pruned : (marks : List Mark) (main : Vertex) → IsTree main → (rows : List Values) (k : ℕ) → act_row_at marks (pruned main) rows k ≡ act_row_at marks main rows k
acts-pruned marks (vertex l us) t rows k =
    let can = can_prune [] (vertex l us) t.well t.typed in
    ap₂ (λ (h : History) (cs : List Node). actuator_values (level_value (level_in (mark_at marks) cs k h.gave) (slice_index_or rows k []) h.past []) (prune_all us))
    (same-history (mark_at marks) l (prune_all us) us (nodes-prune us can.1) rows k) (nodes-prune us can.1)
    ∙ taken-prune (level_value (level_in (mark_at marks) (nodes us) k (history (mark_at marks) (vertex l us) rows k).gave)
    (slice_index_or rows k []) (history (mark_at marks) (vertex l us) rows k).past []) us can.1
