use Rattle.std.proofs.Common.{ap, ◌∙◌, arith}
use Rattle.body_lang.specs.Layout.{bounds_of}
use Rattle.body_lang.proofs.Bounds.{length-bounds, next_bound}
use Rattle.body_lang.proofs.layout.Layout.len_of.Goals as goal

pub overflow_add-vector : goal.overflow_add-vector
overflow_add-vector c =
    let long = length-bounds c.self.inside.bounds.items c.args.self.now (c.self.invariant ∙ ap bounds_of c.self.view_is) in
    record { fits = omega (arith, long, c.requires, c.self.inside.bounds.small) }

pub index-requires : goal.index-requires
index-requires c =
    let long = length-bounds c.self.inside.bounds.items c.args.self.now (c.self.invariant ∙ ap bounds_of c.self.view_is) in
    omega (arith, long, c.requires)

pub index-requires-2 : goal.index-requires-2
index-requires-2 c =
    let long = length-bounds c.self.inside.bounds.items c.args.self.now (c.self.invariant ∙ ap bounds_of c.self.view_is) in
    omega (arith, long, c.requires)

pub overflow_sub-result : goal.overflow_sub-result
overflow_sub-result c =
    let next = next_bound c.self.inside.bounds.items c.args.self.now (c.self.invariant ∙ ap bounds_of c.self.view_is) c.args.vector c.index.result.now c.index-2.result.now c.requires in
    omega (arith, next, c.index.ensures, c.index-2.ensures)

pub returns : goal.returns
returns c =
    let next = next_bound c.self.inside.bounds.items c.args.self.now (c.self.invariant ∙ ap bounds_of c.self.view_is) c.args.vector c.index.result.now c.index-2.result.now c.requires in
    omega (arith, next, c.index.ensures, c.index-2.ensures)
