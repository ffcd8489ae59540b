use Rattle.std.proofs.Common.{◌<◌, ◌∙◌, sym, subst, ap, List, ℕ, get_or, length, arith}
use Rattle.algo_rules.specs.declared.Def.{Def}
use Rattle.algo_rules.specs.ReferenceLinks.{Links}
use Rattle.algo_rules.specs.Placed.{ArePlaced, Checks}
use Rattle.algo_rules.specs.Resolved.{body_fault}
use Rattle.algo_check.specs.Linked.{named}
use Rattle.algo_check.proofs.Inside.{links_count}
use Rattle.algo_check.proofs.Here.{is_found, stands}
use Rattle.algo_check.proofs.tables.check_place.Goals as goal

pub check_body-requires-clause-placed : goal.check_body-requires-clause-placed
check_body-requires-clause-placed c =
    let ds = c.args.defs.now in
    let few : c.args.place < length c.args.levels.now.links = omega (arith, links_count ds, ap (λ (ls : Links). length ls) c.requires.leveled.linked, c.requires.place) in
    let row_at = c.index-as_slice-place.is ∙ ap (λ (ls : Links). get_or ls c.args.place c.index-as_slice-place.result) c.as_slice.ensures in
    subst (λ (ps : List ℕ). ArePlaced ds c.args.table.now (named c.index-defs-place.result.body) ps) (sym c.as_slice-places.ensures)
    (stands ds c.args.levels.now.links c.args.levels.now.depths c.requires.leveled c.args.place c.requires.place c.args.depth c.args.table.now
    c.index-defs-place.result c.index-as_slice-place.result c.requires.this_depth c.requires.table c.index-defs-place.is few row_at)

pub returns : goal.returns
returns c = λ d at.
    subst (λ (x : Def). Checks c.check_body.result (body_fault c.args.defs.now x.line x.body))
    (sym (is_found c.args.defs.now c.args.place d c.index-defs-place.result at c.index-defs-place.is)) c.check_body.ensures
