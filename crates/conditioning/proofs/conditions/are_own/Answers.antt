use Rattle.std.proofs.Common.{◌≡◌, length, refl, arith}
use Rattle.algo_tree.specs.declared.Source.TheVariants.{Own}
use Rattle.conditioning.proofs.Same.{own_all, own_more}
use Rattle.conditioning.proofs.conditions.are_own.Goals as goal

pub loop-at-preserved : goal.loop-at-preserved
loop-at-preserved c =
    let own : c.index-guards-at.result.source ≡ Own c.loop-at.at = c.if-not-is_own.ensures refl in
    own_more c.args.guards.now c.loop-at.at c.index-guards-at.result c.loop-at-test.true c.index-guards-at.is own c.loop-at.invariant

pub returns : goal.returns
returns c =
    let past : length c.args.guards.now ≡ c.loop-at.at = omega (arith, c.loop-at-test.false, c.loop-at.auto.at-end) in
    λ same. own_all c.args.guards.now c.loop-at.at past c.loop-at.invariant
