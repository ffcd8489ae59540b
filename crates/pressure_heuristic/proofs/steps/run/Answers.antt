use Rattle.std.proofs.Common.{◌+◌, ◌-◌, ap, arith, ◌∙◌}
use Rattle.comm_routing.specs.Draft.{Drafted, after_placing, task_of}
use Rattle.pressure_heuristic.proofs.Running.{ends_after, ends_without, guide_after, left_after}
use Rattle.pressure_heuristic.proofs.steps.run.Goals as goal

pub loop-decision-preserved : goal.loop-decision-preserved
loop-decision-preserved c =
    let d = c.loop-decision.draft in
    let e = c.place.new.self in
    let n = c.in-Some.next in
    let i = c.loop-decision._decision in
    let test = c.loop-decision-test.true in
    let placed = c.in_ok-place-in-Some.ensures.placed ∙ ap (λ (x : Drafted). after_placing x n.op n.operator) c.next_of_draft.ensures.same in
    record {
      guide = guide_after d e n.op n.operator c.args.durations.now c.args.tails.now placed c.loop-decision.invariant.guide;
      same = ap task_of placed ∙ c.loop-decision.invariant.same;
      left = left_after d e n.op n.operator (c.args.operations - i) (c.args.operations - (i + 1)) c.args.operations placed (omega arith) c.in-Some.ensures.next.0 c.loop-decision.invariant.left;
    }

pub returns-in-None : goal.returns-in-None
returns-in-None c =
    ends_without (task_of c.loop-decision.draft) (task_of c.args.draft) (c.args.operations - c.loop-decision._decision) c.args.operations c.loop-decision.draft.decisions c.finish.result
    c.loop-decision.invariant.same c.requires.all c.loop-decision.invariant.left c.in-None.ensures.next (c.finish.ensures ∙ ap (λ (x : Drafted). x.decisions) c.next_of_draft.ensures.same)

pub returns : goal.returns
returns c =
    let test = c.loop-decision-test.false in
    ends_after (task_of c.loop-decision.draft) (task_of c.args.draft) (c.args.operations - c.loop-decision._decision) c.args.operations c.loop-decision.draft.decisions c.finish-2.result
    c.loop-decision.invariant.same c.requires.all c.loop-decision.invariant.left (omega arith) c.finish-2.ensures
