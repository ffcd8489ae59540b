use Rattle.std.proofs.Common.{◌<◌, ◌∙◌, sym, subst, ap, List, ℕ, length, arith}
use Rattle.std.specs.Prelude.{slice_index}
use Rattle.std.specs.List.{All, sum_by}
use Rattle.algo_check.specs.Linked.{named}
use Rattle.algo_check.proofs.Leading.{all_lead}
use Rattle.algo_check.specs.Counts.{count_here, row}
use Rattle.algo_check.proofs.Counted.{linked_count, named_few}
use Rattle.algo_check.proofs.Here.{row_there}
use Rattle.algo_check.proofs.Inside.{linked_below}
use Rattle.algo_check.proofs.Own.{within}
use Rattle.algo_check.proofs.counts.count_at.Goals as goal

pub count_in_all-requires-clause-places : goal.count_in_all-requires-clause-places
count_in_all-requires-clause-places c =
    let ds = c.args.defs.now in
    let i = c.args.place in
    let d = c.args.def.now in
    let now = row_there ds c.args.levels.now.links c.args.levels.now.depths c.requires.leveled i (within ds i d c.requires.there)
    c.as_slice.result.now c.index-as_slice-place.result c.as_slice-places.result.now c.as_slice.ensures c.index-as_slice-place.is c.as_slice-places.ensures in
    let inside : All (λ p. p < length c.args.counts.now) (row ds i)
    = λ k e low. omega (arith, c.requires.rows, linked_below ds (named d.body) (row ds i) (all_lead ds i d c.requires.leveled.known c.requires.there) k e low) in
    subst (λ (ps : List ℕ). All (λ p. p < length c.args.counts.now) ps) (sym now) inside

pub count_in_all-requires-clause-few : goal.count_in_all-requires-clause-few
count_in_all-requires-clause-few c =
    let ds = c.args.defs.now in
    let i = c.args.place in
    let d = c.args.def.now in
    let now = row_there ds c.args.levels.now.links c.args.levels.now.depths c.requires.leveled i (within ds i d c.requires.there)
    c.as_slice.result.now c.index-as_slice-place.result c.as_slice-places.result.now c.as_slice.ensures c.index-as_slice-place.is c.as_slice-places.ensures in
    let linked = all_lead ds i d c.requires.leveled.known c.requires.there in
    omega (arith, ap (λ (ps : List ℕ). length ps) now, linked_count ds (named d.body) (row ds i) linked, named_few d.body c.requires.read)

pub returns : goal.returns
returns c =
    let ds = c.args.defs.now in
    let i = c.args.place in
    let d = c.args.def.now in
    let now = row_there ds c.args.levels.now.links c.args.levels.now.depths c.requires.leveled i (within ds i d c.requires.there)
    c.as_slice.result.now c.index-as_slice-place.result c.as_slice-places.result.now c.as_slice.ensures c.index-as_slice-place.is c.as_slice-places.ensures in
    c.count_of.ensures ∙ ap (λ (n : ℕ). count_here n d.body) (c.count_in_all.ensures.sum ∙ ap (λ (ps : List ℕ). sum_by (slice_index c.args.counts.now) ps) now)
