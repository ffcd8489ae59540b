use Rattle.std.proofs.Common.{ℕ, ◌++◌, ◌∷◌, [], List, map, ap, sym, ◌∙◌, add-one}
use Rattle.std.proofs.lemmas.List.{map_push}
use Rattle.algo_tree.specs.declared.Source.{Source}
use Rattle.algo_tree.specs.declared.Source.TheVariants.{Of}
use Rattle.conditioning.proofs.merges.case_outputs.Goals as goal
use Rattle.syn_base.specs.Numbers.{numbers_below}

pub loop-case-preserved : goal.loop-case-preserved
loop-case-preserved c =
    let i = c.loop-case.case in
    let one = λ (k : ℕ). Of k c.args.output in
    c.in_ok-push.ensures.items ∙ ap (λ (ss : List Source). ss ++ Of i c.args.output ∷ []) c.loop-case.invariant
    ∙ sym (map_push one (numbers_below i) i) ∙ ap (λ (m : ℕ). map one (numbers_below m)) (sym (add-one i))
