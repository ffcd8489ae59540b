use Rattle.std.proofs.Common.{◌≡◌, ◌+◌, ◌++◌, ◌≤◌, ℕ, List, Some, drop, get_or, length, map, suc, sym, subst, ap, ◌∙◌, append-nil, arith}
use Rattle.std.proofs.lemmas.List.{drop_all}
use Rattle.std.proofs.lemmas.Option.{slice_get-get_or}
use Rattle.algo_check.proofs.Fresh.{from_here}
use Rattle.algo_laws.specs.declared.Def.{Def}
use Rattle.algo_laws.specs.WellRead.{IsWellRead}
use Rattle.algo_resolve.specs.Rounds.{passed_within, passing_view}
use Rattle.algo_resolve.proofs.Placed.{places_linked}
use Rattle.algo_resolve.proofs.Planned.{plan_at}
use Rattle.algo_resolve.proofs.Rounds.{one-more}
use Rattle.algo_resolve.proofs.Steps.{pushed}
use Rattle.algo_resolve.proofs.passing.next_round.Goals as goal

pub loop-place-preserved : goal.loop-place-preserved
loop-place-preserved c = λ n is.
    let b = c.args.checked.now in
    let ds = b.defs.now in
    let i = c.loop-place.place in
    let d = c.def-item.result in
    let low = c.loop-place-test.true in
    let at = slice_get-get_or ds i d low ∙ ap (λ (e : Def). Some e) (sym c.def-item.is) in
    let read = subst (λ (e : Def). IsWellRead e.body) (sym c.def-item.is) (c.requires.ready.read i d low) in
    let row : c.as_slice-places.result.now ≡ get_or b.links.now i c.as_slice-places.result.now =
    c.as_slice-places.ensures ∙ ap (λ (r : List ℕ). get_or b.links.now i r) (c.index-checked-place.is ∙ sym c.as_slice-places.ensures) in
    let linked = places_linked ds b.links.now b.table.now c.requires.ready i d c.as_slice-places.result.now low at row in
    let plan = plan_at ds c.args.plans.now i d c.index-plans-place.result c.requires.plans at c.index-plans-place.is in
    let made = c.in_ok-passing_at.ensures ∙ one-more ds n d c.index-plans-place.result c.as_slice-places.result.now (map passing_view c.args.last.now) read plan linked is in
    let done = c.loop-place.next.items in
    rw c.in_ok-push.ensures.items
    (pushed passing_view done c.in_ok-passing_at.field-0 (passed_within ds (suc n) d) (map (passed_within ds (suc n)) (drop (i + 1) ds)) made
    ∙ ap (λ (es : List Def). map passing_view done ++ map (passed_within ds (suc n)) es) (sym (from_here ds i d low c.def-item.is))
    ∙ c.loop-place.invariant n is)

pub returns : goal.returns
returns c = λ n is.
    let ds = c.args.checked.now.defs.now in
    let done = c.loop-place.next.items in
    let past : length ds ≤ c.loop-place.place = omega (arith, c.loop-place-test.false) in
    ap (map passing_view) c.new.ensures ∙ sym (append-nil (map passing_view done))
    ∙ ap (λ (es : List Def). map passing_view done ++ map (passed_within ds (suc n)) es) (sym (drop_all c.loop-place.place ds past))
    ∙ c.loop-place.invariant n is
