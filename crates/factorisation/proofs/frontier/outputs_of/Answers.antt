use Rattle.std.proofs.Common.{ℕ, ◌+◌, ◌++◌, ◌∷◌, [], List, map, ap, sym, ◌∙◌, add-one}
use Rattle.std.proofs.lemmas.List.{map_push}
use Rattle.algo_tree.specs.declared.Source.{Source}
use Rattle.algo_tree.specs.declared.Source.TheVariants.{Of}
use Rattle.factorisation.proofs.frontier.outputs_of.Goals as goal
use Rattle.syn_base.specs.Numbers.{numbers_below}

pub loop-i-preserved : goal.loop-i-preserved
loop-i-preserved c =
    let i = c.loop-i.i in
    let one = λ (k : ℕ). Of (c.args.copies.begin + k) c.args.output in
    c.in_ok-push.ensures.items ∙ ap (λ (ss : List Source). ss ++ one i ∷ []) c.loop-i.invariant ∙ sym (map_push one (numbers_below i) i) ∙ ap (λ (m : ℕ). map one (numbers_below m)) (sym (add-one i))
