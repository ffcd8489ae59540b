use Rattle.std.proofs.Common.{ap, ◌∙◌, arith}
use Rattle.body_lang.specs.Layout.{bounds_of}
use Rattle.body_lang.proofs.Bounds.{length-bounds, bound_at, inside}
use Rattle.body_lang.proofs.layout.Layout.start.Goals as goal

pub index-requires : goal.index-requires
index-requires c =
    let long = length-bounds c.self.inside.bounds.items c.args.self.now (c.self.invariant ∙ ap bounds_of c.self.view_is) in
    omega (arith, long, c.requires)

pub returns-clause-start : goal.returns-clause-start
returns-clause-start c =
    let are = c.self.invariant ∙ ap bounds_of c.self.view_is in
    c.index.ensures ∙ bound_at c.self.inside.bounds.items c.args.self.now are c.args.vector c.index.result.now (omega (arith, c.requires))

pub returns-clause-inside : goal.returns-clause-inside
returns-clause-inside c =
    let within = inside c.self.inside.bounds.items c.args.self.now (c.self.invariant ∙ ap bounds_of c.self.view_is) c.args.vector c.index.result.now c.requires in
    omega (arith, within, c.index.ensures)
