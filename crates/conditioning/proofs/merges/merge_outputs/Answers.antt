use Rattle.std.proofs.Common.{ℕ, ◌+◌, ◌++◌, ◌∷◌, [], List, map, ap, ap₂, sym, ◌∙◌, add-one}
use Rattle.std.proofs.lemmas.List.{map_push}
use Rattle.algo_tree.specs.declared.Source.{Source}
use Rattle.algo_tree.specs.declared.Source.TheVariants.{Of}
use Rattle.conditioning.proofs.merges.merge_outputs.Goals as goal
use Rattle.syn_base.specs.Numbers.{numbers_below}

pub loop-output-preserved : goal.loop-output-preserved
loop-output-preserved c =
    let q = c.loop-output.output in
    let one = λ (k : ℕ). Of (c.args.cases + k) 0 in
    c.in_ok-push.ensures.items ∙ ap₂ (λ (ss : List Source) (v : ℕ). ss ++ Of v 0 ∷ []) c.loop-output.invariant c.in-Some.ensures.1
    ∙ sym (map_push one (numbers_below q) q) ∙ ap (λ (m : ℕ). map one (numbers_below m)) (sym (add-one q))
