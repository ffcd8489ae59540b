use Rattle.std.proofs.Common.{◌≡◌, ◌-◌, length, ap, ◌∙◌, arith}
use Rattle.body_lang.specs.Layout.{bounds_of}
use Rattle.body_lang.proofs.Bounds.{length-bounds, last_bound}
use Rattle.body_lang.proofs.layout.Layout.width.Goals as goal

pub returns : goal.returns
returns c =
    let are = c.self.invariant ∙ ap bounds_of c.self.view_is in
    let long = length-bounds c.self.inside.bounds.items c.args.self.now are in
    let last : c.len.result - 1 ≡ length c.args.self.now = omega (arith, long, c.len.ensures) in
    c.index.ensures ∙ last_bound c.self.inside.bounds.items c.args.self.now are (c.len.result - 1) c.index.result.now last
