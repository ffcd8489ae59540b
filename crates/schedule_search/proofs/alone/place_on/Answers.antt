use Rattle.std.proofs.Common.{◌≤◌, refl, ap, arith, ◌∙◌}
use Rattle.comm_routing.specs.Draft.{task_of}
use Rattle.schedule_search.proofs.Lone.{count_left}
use Rattle.schedule_search.proofs.Way.{alone_of, count_first, count_next, done_of, so_first, so_next, still_under_way}
use Rattle.schedule_search.proofs.alone.place_on.Goals as goal

pub loop-decision-init : goal.loop-decision-init
loop-decision-init c = record {
  under = c.requires.draft;
  same = refl;
  count = count_first (task_of c.args.draft) c.args.draft.decisions c.args.operations c.requires.first c.requires.all;
  so = λ all. so_first (task_of c.args.draft) c.args.operator c.args.draft.decisions c.requires.first;
}

pub loop-decision-preserved : goal.loop-decision-preserved
loop-decision-preserved c =
    let d = c.loop-decision.draft in
    let e = c.place.new.self in
    let placed = c.in_ok-place-in-Some.ensures.placed in
    let before = c.loop-decision.invariant in
    let may = c.in-Some.ensures.may in
    record {
      under = still_under_way d e c.in-Some.op c.args.operator placed may before.under;
      same = ap task_of placed ∙ before.same;
      count = count_next d e c.in-Some.op c.args.operator c.args.operations c.loop-decision._decision placed before.under may before.count;
      so = so_next d e c.in-Some.op c.args.operator placed before.under may before.so;
    }

pub returns-clause-alone : goal.returns-clause-alone
returns-clause-alone c =
    let d = c.loop-decision.draft in
    let before = c.loop-decision.invariant in
    let test = c.loop-decision-test.false in
    let count = before.count in
    let none : count_left (task_of d) d.decisions ≤ 0 = omega arith in
    alone_of (task_of d) (task_of c.args.draft) c.args.operator d.decisions before.same
    (λ all. done_of (task_of d) d.decisions none) before.so c.whole-2.result c.whole-2.ensures.done c.whole-2.ensures.same
