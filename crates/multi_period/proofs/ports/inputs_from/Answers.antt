use Rattle.std.proofs.Common.{ℕ, ◌+◌, ◌++◌, ◌∷◌, [], List, map, ap, sym, ◌∙◌, add-one}
use Rattle.std.proofs.lemmas.List.{map_push}
use Rattle.algo_tree.specs.declared.Source.{Source}
use Rattle.algo_tree.specs.declared.Source.TheVariants.{Own}
use Rattle.multi_period.proofs.ports.inputs_from.Goals as goal
use Rattle.syn_base.specs.Numbers.{numbers_below}

pub loop-input-preserved : goal.loop-input-preserved
loop-input-preserved c =
    let i = c.loop-input.input in
    let one = λ (k : ℕ). Own (c.args.first + k) in
    c.in_ok-push.ensures.items ∙ ap (λ (ss : List Source). ss ++ one i ∷ []) c.loop-input.invariant
    ∙ sym (map_push one (numbers_below i) i) ∙ ap (λ (m : ℕ). map one (numbers_below m)) (sym (add-one i))
