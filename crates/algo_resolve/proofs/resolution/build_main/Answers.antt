use Rattle.std.proofs.Common.{◌≡◌, codes, ap, sym, subst, ◌∙◌}
use Rattle.algo_laws.specs.declared.Def.{Def}
use Rattle.algo_laws.specs.Placed.{IsPlaced}
use Rattle.algo_laws.specs.Resolved.{tree_of, vertex_within}
use Rattle.algo_laws.specs.View.{view}
use Rattle.wiring_laws.specs.Pruned.{pruned}
use Rattle.algo_resolve.proofs.Placed.{found_placed}
use Rattle.algo_resolve.proofs.Told.{main_by, retold}
use Rattle.algo_resolve.proofs.resolution.build_main.Goals as goal

pub build_live-requires-clause-placed : goal.build_live-requires-clause-placed
build_live-requires-clause-placed c =
    let b = c.args.builder.now in
    let there = found_placed b.defs.now b.table.now c.requires.planned.ready.ports (codes "main") c.args.place c.index-builder-place.result c.requires.below c.requires.main c.index-builder-place.is in
    subst (λ (d : Def). IsPlaced b.defs.now b.table.now d.name c.args.place) c.index-builder-place.is there.1

pub returns : goal.returns
returns c =
    let b = c.args.builder.now in
    let ds = b.defs.now in
    let there = found_placed ds b.table.now c.requires.planned.ready.ports (codes "main") c.args.place c.index-builder-place.result c.requires.below c.requires.main c.index-builder-place.is in
    let named = subst (λ (d : Def). d.name ≡ codes "main") c.index-builder-place.is (sym there.0) in
    retold view c.build_live.result _ (pruned (tree_of ds))
    (ap pruned (main_by (vertex_within ds 8) c.in_ok-copy_name.field-0 _ c.in_ok-empty.field-0 (c.in_ok-copy_name.ensures ∙ named) named c.in_ok-empty.ensures)) c.build_live.ensures
