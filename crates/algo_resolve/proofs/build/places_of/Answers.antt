use Rattle.std.proofs.Common.{List, ℕ, sym, subst, ◌∙◌}
use Rattle.algo_check.specs.Linked.{named}
use Rattle.algo_laws.specs.Placed.{ArePlaced}
use Rattle.algo_resolve.proofs.Placed.{places_stand}
use Rattle.algo_resolve.proofs.build.places_of.Goals as goal

pub returns : goal.returns
returns c = λ d at.
    let b = c.args.builder.now in
    subst (λ (ps : List ℕ). ArePlaced b.defs.now b.table.now (named d.body) ps) (c.index-builder-place.is ∙ sym c.as_slice.ensures)
    (places_stand b.defs.now b.links.now b.table.now c.requires.planned.ready c.args.place d c.index-builder-place.result c.requires.below at c.index-builder-place.is)
