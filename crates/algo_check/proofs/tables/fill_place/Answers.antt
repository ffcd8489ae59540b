use Rattle.std.proofs.Common.{◌≡◌, ◌<◌, ◌∙◌, sym, subst, ap, List, ℕ, get_or, length, arith}
use Rattle.syn_base.specs.Bytes.{Bytes}
use Rattle.algo_rules.specs.ReferenceLinks.{Links}
use Rattle.algo_rules.specs.Placed.{ArePlaced}
use Rattle.algo_rules.specs.Ports.{ports_of}
use Rattle.algo_check.specs.Linked.{IsLinked, named}
use Rattle.algo_check.proofs.Inside.{links_count}
use Rattle.algo_check.proofs.Here.{found_at, level_is, levels_count, stands}
use Rattle.algo_check.proofs.ByDepth.{none_at}
use Rattle.algo_check.proofs.Filling.{put}
use Rattle.algo_check.proofs.Followed.{ports_are}
use Rattle.algo_check.proofs.tables.fill_place.Goals as goal

pub ports_of_checked-requires-clause-placed : goal.ports_of_checked-requires-clause-placed
ports_of_checked-requires-clause-placed c =
    let ds = c.args.defs.now in
    let few : c.args.place < length c.args.levels.now.links = omega (arith, links_count ds, ap (λ (ls : Links). length ls) c.requires.leveled.linked, c.requires.place) in
    let row_at = c.index-as_slice-place.is ∙ ap (λ (ls : Links). get_or ls c.args.place c.index-as_slice-place.result) c.as_slice.ensures in
    subst (λ (ps : List ℕ). ArePlaced ds c.args.table.now (named c.index-defs-place.result.body) ps) (sym c.as_slice-places.ensures)
    (stands ds c.args.levels.now.links c.args.levels.now.depths c.requires.leveled c.args.place c.requires.place c.args.depth c.args.table.now
    c.index-defs-place.result c.index-as_slice-place.result c.requires.this_depth c.requires.table.below c.index-defs-place.is few row_at)

pub ports_of_checked-requires-clause-passed : goal.ports_of_checked-requires-clause-passed
ports_of_checked-requires-clause-passed c =
    let ds = c.args.defs.now in
    let many = levels_count ds c.args.levels.now.links c.args.levels.now.depths c.requires.leveled in
    none_at ds c.args.depth ds c.args.levels.now.depths c.args.place c.index-defs-place.result c.requires.passed
    (found_at ds c.args.place c.index-defs-place.result c.requires.place c.index-defs-place.is) (omega (arith, many, c.requires.place)) c.requires.this_depth

pub returns : goal.returns
returns c =
    let ds = c.args.defs.now in
    let is = sym (level_is ds c.args.levels.now.links c.args.levels.now.depths c.requires.leveled c.args.place c.requires.place) ∙ c.requires.this_depth in
    let at = found_at ds c.args.place c.index-defs-place.result c.requires.place c.index-defs-place.is in
    let ports : (w : Bytes) → IsLinked ds w c.args.place → c.in_ok-table.field-0 ≡ ports_of ds w
    = λ w linked. c.in_ok-table.ensures.ports
    ∙ sym (ports_are ds c.requires.leveled.known c.requires.leveled.ends c.args.place w c.index-defs-place.result linked at
    (omega (arith, is, c.requires.depth))) in
    put ds c.args.depth c.args.place c.args.table.now c.in_ok-table.field-0 c.requires.place is c.requires.table c.in_ok-table.ensures.small ports
