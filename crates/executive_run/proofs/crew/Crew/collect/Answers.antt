use Rattle.std.proofs.Common.{length, arith, sym, subst}
use Rattle.executive_run.specs.Each.{Each}
use Rattle.executive_run.proofs.Each.{each-snoc, each-at, le-along}
use Rattle.executive_run.proofs.Driving.{IsDrivenAt}
use Rattle.executive_run.proofs.crew.Crew.collect.Goals as goal

pub loop-number-preserved : goal.loop-number-preserved
loop-number-preserved g c =
    let f = c.args.self.now.fabric.now in
    let got = c.collect_from.ensures in (
      omega (arith, c.push_reserved.ensures.len, c.loop-number.invariant.0),
      le-along _ _ _ c.loop-number.invariant.1 c.push_reserved.ensures.capacity,
      subst (Each (IsDrivenAt f)) (sym c.push_reserved.ensures.items)
          (each-snoc (IsDrivenAt f) c.loop-number.done.items c.collect_from.result c.loop-number.invariant.2
          (each-at (IsDrivenAt f) c.loop-number.number (length c.loop-number.done.items) c.collect_from.result (omega arith) (record { belongs = got.belongs; driven = got.driven }))),
    )

pub returns-clause-groups : goal.returns-clause-groups
returns-clause-groups g c = record {
  many = omega (arith, c.loop-number.invariant.0, c.args.self.now.places_are.many);
  each = λ k x is. (c.loop-number.invariant.2 k x is).belongs;
}

pub returns-clause-driven : goal.returns-clause-driven
returns-clause-driven g c = λ k x is. (c.loop-number.invariant.2 k x is).driven
