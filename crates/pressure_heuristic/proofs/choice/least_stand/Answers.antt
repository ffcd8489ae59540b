use Rattle.std.proofs.Common.{◌≡◌, ◌&&◌, ◌-◌, false, ap, arith, length, subst, sym, ◌∙◌}
use Rattle.std.specs.List.{filter, range_with_len}
use Rattle.std.specs.Prelude.{Some}
use Rattle.std.proofs.lemmas.Bool.{and_parts}
use Rattle.schedule.specs.Acts.{acts_of}
use Rattle.comm_routing.specs.Draft.{task_of}
use Rattle.comm_routing.specs.Placing.{is_candidate, may_stand}
use Rattle.pressure_heuristic.specs.Choosing.{IsLeastStand}
use Rattle.pressure_heuristic.specs.declared.choice.Stand.{Stand}
use Rattle.pressure_heuristic.proofs.Greedy.{stand_yes, stand_no}
use Rattle.pressure_heuristic.proofs.choice.least_stand.Goals as goal

pub loop-operator-preserved-then-may_place : goal.loop-operator-preserved-then-may_place
loop-operator-preserved-then-may_place c =
    let d = c.args.draft.now in
    let n = length d.archi.operators in
    let k = c.loop-operator.operator in
    let within = c.loop-operator.invariant.within in
    let more = c.loop-operator-test.true in
    let may = (and_parts (is_candidate (task_of d) (acts_of d.decisions) c.args.op)
    (may_stand (task_of d) (acts_of d.decisions) c.args.op (k - 1)) (sym c.may_place.ensures ∙ c.if-may_place.true)).1 in
    record {
      best = subst (λ (s : Stand). IsLeastStand (task_of d) (acts_of d.decisions) c.args.op
          (filter (may_stand (task_of d) (acts_of d.decisions) c.args.op) (range_with_len (k - 1) (n - (k - 1)))) (Some s)) (sym c.lower.ensures)
          (stand_yes (task_of d) (acts_of d.decisions) c.args.op n (k - 1) k _ c.loop-operator.best (omega arith) (omega arith) may c.pressure-pressure.ensures c.loop-operator.invariant.best);
      within = omega arith;
    }

pub loop-operator-preserved : goal.loop-operator-preserved
loop-operator-preserved c =
    let d = c.args.draft.now in
    let n = length d.archi.operators in
    let k = c.loop-operator.operator in
    let within = c.loop-operator.invariant.within in
    let more = c.loop-operator-test.true in
    let may : may_stand (task_of d) (acts_of d.decisions) c.args.op (k - 1) ≡ false
    = ap (λ b. b && may_stand (task_of d) (acts_of d.decisions) c.args.op (k - 1)) (sym c.requires.candidate) ∙ sym c.may_place.ensures ∙ c.if-may_place.false in
    record {
      best = stand_no (task_of d) (acts_of d.decisions) c.args.op n (k - 1) k c.loop-operator.best (omega arith) (omega arith) may c.loop-operator.invariant.best;
      within = omega arith;
    }
