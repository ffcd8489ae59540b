use Rattle.std.proofs.Common.{ℕ, ◌++◌, ◌∷◌, [], List, map, ap, sym, ◌∙◌, add-one}
use Rattle.std.proofs.lemmas.List.{map_push}
use Rattle.algo_tree.specs.declared.Source.{Source}
use Rattle.algo_tree.specs.declared.Source.TheVariants.{Of}
use Rattle.multi_period.proofs.ports.outputs_of.Goals as goal
use Rattle.syn_base.specs.Numbers.{numbers_below}

pub loop-output-preserved : goal.loop-output-preserved
loop-output-preserved c =
    let i = c.loop-output.output in
    let one = λ (k : ℕ). Of c.args.vertex k in
    c.in_ok-push.ensures.items ∙ ap (λ (ss : List Source). ss ++ one i ∷ []) c.loop-output.invariant
    ∙ sym (map_push one (numbers_below i) i) ∙ ap (λ (m : ℕ). map one (numbers_below m)) (sym (add-one i))
