use Rattle.std.proofs.Common.{ℕ, suc, ◌++◌, ◌∷◌, [], List, map, ap, ap₂, sym, ◌∙◌, add-one}
use Rattle.std.proofs.lemmas.List.{map_push}
use Rattle.algo_tree.specs.declared.Source.{Source}
use Rattle.algo_tree.specs.declared.Source.TheVariants.{Of}
use Rattle.multi_period.proofs.ports.firsts.Goals as goal
use Rattle.syn_base.specs.Numbers.{numbers_below}

pub loop-vertex-preserved : goal.loop-vertex-preserved
loop-vertex-preserved c =
    let i = c.loop-vertex.vertex in
    let one = λ (k : ℕ). Of (suc k) 0 in
    c.in_ok-push.ensures.items ∙ ap₂ (λ (ss : List Source) (k : ℕ). ss ++ Of k 0 ∷ []) c.loop-vertex.invariant (add-one i)
    ∙ sym (map_push one (numbers_below i) i) ∙ ap (λ (m : ℕ). map one (numbers_below m)) (sym (add-one i))
