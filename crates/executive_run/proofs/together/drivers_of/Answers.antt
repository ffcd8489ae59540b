use Rattle.std.proofs.Common.{◌+◌, length, vec_len, arith, sym, subst}
use Rattle.std.specs.Vec.Iter.{into_iter_items}
use Rattle.executive_run.specs.Each.{Each}
use Rattle.executive_run.proofs.Each.{each-snoc, each-first, each-rest, each-later, each-at, one-more, le-along}
use Rattle.executive_run.proofs.Driving.{IsDone, IsDrivenAt, done_of, drivers_are, drivers_finished}
use Rattle.executive_run.proofs.together.drivers_of.Goals as goal

pub loop-group-preserved : goal.loop-group-preserved
loop-group-preserved c =
    let n = vec_len c.loop-group.drivers in
    let rest = c.loop-group.invariant.3 in
    let here = done_of c.args.fabric.now (n + 0) c.in-Some.group
    (each-first (λ k. IsDrivenAt c.args.fabric.now (n + k)) c.in-Some.group (into_iter_items c.next.new.self) (into_iter_items c.loop-group.group-iterator) c.in-Some.ensures.steps.0 rest) in (
      one-more _ _ _ _ _ c.loop-group.invariant.0 c.in-Some.ensures.steps.1 c.push_reserved.ensures.len,
      le-along _ _ _ c.loop-group.invariant.1 c.push_reserved.ensures.capacity,
      subst (Each (IsDone c.args.fabric.now)) (sym c.push_reserved.ensures.items)
          (each-snoc (IsDone c.args.fabric.now) c.loop-group.drivers.items c.in-Some.group.driver c.loop-group.invariant.2
          (each-at (IsDone c.args.fabric.now) (n + 0) (length c.loop-group.drivers.items) c.in-Some.group.driver (omega arith) here)),
      each-later (IsDrivenAt c.args.fabric.now) n (vec_len c.push_reserved.new.self) (into_iter_items c.next.new.self) c.push_reserved.ensures.len
          (each-rest (λ k. IsDrivenAt c.args.fabric.now (n + k)) c.in-Some.group (into_iter_items c.next.new.self) (into_iter_items c.loop-group.group-iterator) c.in-Some.ensures.steps.0 rest),
    )

pub returns-clause-drivers : goal.returns-clause-drivers
returns-clause-drivers c = drivers_are c.args.fabric.now c.loop-group.drivers.items (omega (arith, c.in-None.ensures.steps.0, c.loop-group.invariant.0)) c.loop-group.invariant.2

pub returns-clause-finished : goal.returns-clause-finished
returns-clause-finished c = drivers_finished c.args.fabric.now c.loop-group.drivers.items c.loop-group.invariant.2
