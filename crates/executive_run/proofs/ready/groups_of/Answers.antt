use Rattle.std.proofs.Common.{◌≡◌, ◌+◌, length, vec_len, arith, sym, subst}
use Rattle.std.specs.Vec.Iter.{into_iter_items}
use Rattle.executive_run.specs.Each.{Each}
use Rattle.executive_run.specs.Groups.{Belongs}
use Rattle.executive_run.proofs.Each.{each-nil, each-snoc, each-first, each-rest, each-later, each-at, one-more, is-below}
use Rattle.executive_run.proofs.Driving.{IsNext, next_each, belongs_of}
use Rattle.executive_run.proofs.ready.groups_of.Goals as goal

pub loop-driver-init : goal.loop-driver-init
loop-driver-init c =
    let given = c.into_iter-driver-iterator.ensures.into_iter_gives in (
      omega (arith, given.1, c.new-groups.ensures.len, c.requires.are.many),
      subst (Each (Belongs c.args.fabric.now)) (sym c.new-groups.ensures.items) (each-nil (Belongs c.args.fabric.now)),
      subst (Each (λ k. IsNext c.args.fabric.now (vec_len c.new-groups.result + k))) (sym given.0)
          (next_each c.args.fabric.now c.args.drivers.items (vec_len c.new-groups.result) c.new-groups.ensures.len c.requires.are c.requires.new),
    )

pub loop-driver-preserved : goal.loop-driver-preserved
loop-driver-preserved c =
    let n = vec_len c.loop-driver.groups in
    let left = c.loop-driver.invariant.2 in
    let next = c.in-Some.ensures.steps in
    let size : n ≡ length c.loop-driver.groups.items = omega arith in
    let here = each-at (IsNext c.args.fabric.now) (n + 0) (length c.loop-driver.groups.items) c.in-Some.driver (omega arith)
    (each-first (λ k. IsNext c.args.fabric.now (n + k)) c.in-Some.driver (into_iter_items c.next.new.self) (into_iter_items c.loop-driver.driver-iterator) next.0 left) in (
      one-more _ _ _ _ _ c.loop-driver.invariant.0 next.1 c.in_ok-push.ensures.len,
      subst (Each (Belongs c.args.fabric.now)) (sym c.in_ok-push.ensures.items)
          (each-snoc (Belongs c.args.fabric.now) c.loop-driver.groups.items c.in_ok-group.group c.loop-driver.invariant.1
          (belongs_of c.args.fabric.now (length c.loop-driver.groups.items) c.in-Some.driver c.in_ok-group.group here c.in_ok-group.ensures
          (is-below _ _ _ _ _ c.loop-driver.invariant.0 next.1 size))),
      each-later (IsNext c.args.fabric.now) n (vec_len c.push.new.self) (into_iter_items c.next.new.self) c.in_ok-push.ensures.len
          (each-rest (λ k. IsNext c.args.fabric.now (n + k)) c.in-Some.driver (into_iter_items c.next.new.self) (into_iter_items c.loop-driver.driver-iterator) next.0 left),
    )

pub group_of-requires-clause-of : goal.group_of-requires-clause-of
group_of-requires-clause-of c =
    let here : IsNext c.args.fabric.now (vec_len c.loop-driver.groups + 0) c.in-Some.driver =
    each-first (λ k. IsNext c.args.fabric.now (vec_len c.loop-driver.groups + k)) c.in-Some.driver (into_iter_items c.next.new.self)
    (into_iter_items c.loop-driver.driver-iterator) c.in-Some.ensures.steps.0 c.loop-driver.invariant.2 in
    here.fabric

pub group_of-requires-clause-new : goal.group_of-requires-clause-new
group_of-requires-clause-new c =
    let here : IsNext c.args.fabric.now (vec_len c.loop-driver.groups + 0) c.in-Some.driver =
    each-first (λ k. IsNext c.args.fabric.now (vec_len c.loop-driver.groups + k)) c.in-Some.driver (into_iter_items c.next.new.self)
    (into_iter_items c.loop-driver.driver-iterator) c.in-Some.ensures.steps.0 c.loop-driver.invariant.2 in
    here.new

pub returns : goal.returns
returns c = record { many = (let steps = c.in-None.ensures.steps.0 in let count = c.loop-driver.invariant.0 in omega arith); each = c.loop-driver.invariant.1 }
