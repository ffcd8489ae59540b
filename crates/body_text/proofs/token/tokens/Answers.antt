use Rattle.std.proofs.Common.{arith}
use Rattle.body_text.specs.Cut.{IsCut}
use Rattle.body_text.proofs.token.tokens.Goals as goal

pub loop-span-smaller : goal.loop-span-smaller
loop-span-smaller c =
    let cut : IsCut c.args.text.now c.loop-span.at c.in-Some.span = c.in-Some.ensures in
    omega (arith, cut.on, cut.some, cut.within)
