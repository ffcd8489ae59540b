use Rattle.std.proofs.Common.{◌∙◌, ◌∷◌, ◌+◌, ◌++◌, ℕ, List, [], drop, get_or, sym, ap, append_assoc, Vec, Global}
use Rattle.word_table.specs.Owners.{owners}
use Rattle.word_table.proofs.Callers.{one_owner, no_owner}
use Rattle.word_table.proofs.owners.cell_owners.Goals.{in-Get+in_ok-push, in_default}
use Rattle.word_table.proofs.owners.cell_owners.Goals as goal

pub loop-v-preserved : goal.loop-v-preserved
loop-v-preserved c = let cs = c.args.callers.now in let xs = c.args.vertices.now in let v = c.loop-v.v in let x = c.index-vertices-v.result in
    let rest = owners (drop (v + 1) cs) (drop (v + 1) xs) in
    elim c.match-x.branch [
      | in-Get+in_ok-push w ↦ ap (λ (l : Vec ℕ Global). l.items ++ rest) w.cells-is ∙ ap (λ (l : List ℕ). l ++ rest) w.in_ok-push.ensures.items
          ∙ append_assoc c.loop-v.cells.items (get_or cs v 0 ∷ []) rest
          ∙ ap (λ (l : List ℕ). c.loop-v.cells.items ++ l)
          (sym (one_owner cs xs v c.loop-v-test.true c.requires x c.index-vertices-v.is w.in-Get.field-0 w.in-Get.is)) ∙ c.loop-v.invariant
      | in_default w ↦ ap (λ (l : Vec ℕ Global). l.items ++ rest) w.cells-is
          ∙ ap (λ (l : List ℕ). c.loop-v.cells.items ++ l) (sym (no_owner cs xs v c.loop-v-test.true c.requires x c.index-vertices-v.is w.in_default.not-Get)) ∙ c.loop-v.invariant
    ]
