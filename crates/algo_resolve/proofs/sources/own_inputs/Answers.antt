use Rattle.std.proofs.Common.{◌≡◌, ◌-◌, List, ap, ◌∙◌, arith}
use Rattle.algo_laws.specs.declared.Source.{Source}
use Rattle.algo_laws.specs.Resolved.{owns}
use Rattle.algo_resolve.proofs.Steps.{owns_more}
use Rattle.algo_resolve.proofs.Told.{retold}
use Rattle.algo_resolve.proofs.sources.own_inputs.Goals as goal

pub loop-number-preserved : goal.loop-number-preserved
loop-number-preserved c =
    rw (c.in_ok-push.ensures.items, c.loop-number.invariant) (owns_more c.args.first c.loop-number.number c.loop-number.auto.number)

pub returns : goal.returns
returns c =
    let same : c.loop-number.number - c.args.first ≡ c.args.count = grind arith in
    retold (λ (ss : List Source). ss) c.new.result _ _ (c.loop-number.invariant ∙ ap (owns c.args.first) same) c.new.ensures
