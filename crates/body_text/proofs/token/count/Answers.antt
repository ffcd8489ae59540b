use Rattle.std.proofs.Common.{arith}
use Rattle.body_text.specs.Cut.{IsCut}
use Rattle.body_text.proofs.Cuts.{counted_more}
use Rattle.body_text.proofs.token.count.Goals as goal

pub loop-span-smaller : goal.loop-span-smaller
loop-span-smaller c =
    let cut : IsCut c.args.text.now c.loop-span.at c.in-Some.span = c.in-Some.ensures in
    omega (arith, cut.on, cut.some, cut.within)

pub loop-span-preserved : goal.loop-span-preserved
loop-span-preserved c =
    let cut : IsCut c.args.text.now c.loop-span.at c.in-Some.span = c.in-Some.ensures in
    record {
      inside = cut.within;
      few = omega (arith, cut.on, cut.some);
      counted = counted_more _ _ _ _ _ cut c.loop-span.invariant.counted;
    }
