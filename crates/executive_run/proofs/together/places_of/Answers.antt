use Rattle.std.proofs.Common.{◌≡◌, ◌+◌, length, vec_len, arith, sym, subst, ◌∙◌}
use Rattle.std.specs.Vec.Iter.{into_iter_items}
use Rattle.executive_run.specs.Each.{Each}
use Rattle.executive_run.specs.Groups.{Belongs}
use Rattle.executive_run.specs.Places.{IsPlaceOf}
use Rattle.executive_run.proofs.Each.{each-snoc, each-first, each-rest, each-later, each-at, one-more, le-along}
use Rattle.executive_run.proofs.together.places_of.Goals as goal

pub loop-group-preserved : goal.loop-group-preserved
loop-group-preserved c =
    let f = c.args.fabric.now in
    let n = vec_len c.loop-group.places in
    let rest = c.loop-group.invariant.3 in
    let next = c.in-Some.ensures.steps in
    let here = each-first (λ k. Belongs f (n + k)) c.in-Some.group (into_iter_items c.next.new.self) (into_iter_items c.loop-group.group-iterator) next.0 rest in
    let number : c.in-Some.group.driver.group ≡ length c.loop-group.places.items = here.number ∙ (let e : n + 0 ≡ length c.loop-group.places.items = omega arith in e) in (
      one-more _ _ _ _ _ c.loop-group.invariant.0 next.1 c.push_reserved.ensures.len,
      le-along _ _ _ c.loop-group.invariant.1 c.push_reserved.ensures.capacity,
      subst (Each (IsPlaceOf f)) (sym c.push_reserved.ensures.items)
          (each-snoc (IsPlaceOf f) c.loop-group.places.items c.new-place.result c.loop-group.invariant.2
          (each-at (IsPlaceOf f) c.in-Some.group.driver.group (length c.loop-group.places.items) c.new-place.result number c.new-place.ensures)),
      each-later (Belongs f) n (vec_len c.push_reserved.new.self) (into_iter_items c.next.new.self) c.push_reserved.ensures.len
          (each-rest (λ k. Belongs f (n + k)) c.in-Some.group (into_iter_items c.next.new.self) (into_iter_items c.loop-group.group-iterator) next.0 rest),
    )

pub new-place-requires : goal.new-place-requires
new-place-requires c =
    let here : Belongs c.args.fabric.now (vec_len c.loop-group.places + 0) c.in-Some.group
    = each-first (λ k. Belongs c.args.fabric.now (vec_len c.loop-group.places + k)) c.in-Some.group (into_iter_items c.next.new.self)
    (into_iter_items c.loop-group.group-iterator) c.in-Some.ensures.steps.0 c.loop-group.invariant.3 in
    here.fabric

pub push_reserved-requires : goal.push_reserved-requires
push_reserved-requires c = let enough = c.loop-group.invariant.1 in let count = c.loop-group.invariant.0 in let steps = c.in-Some.ensures.steps.1 in omega arith

pub returns : goal.returns
returns c = record { many = (let steps = c.in-None.ensures.steps.0 in let count = c.loop-group.invariant.0 in omega arith); each = c.loop-group.invariant.2 }
