use Rattle.std.proofs.Common.{ap, ◌∙◌, arith}
use Rattle.body_lang.specs.Layout.{bounds_of}
use Rattle.body_lang.proofs.Bounds.{length-bounds}
use Rattle.body_lang.proofs.layout.Layout.count.Goals as goal

pub returns : goal.returns
returns c =
    let long = length-bounds c.self.inside.bounds.items c.args.self.now (c.self.invariant ∙ ap bounds_of c.self.view_is) in
    omega (arith, long, c.len.ensures)
