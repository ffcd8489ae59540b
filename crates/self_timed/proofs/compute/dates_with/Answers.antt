use Rattle.std.proofs.Common.{List, length, refl, sym, ap, subst, arith, ◌∙◌, ◌+◌, ◌∷◌, [], ◌++◌}
use Rattle.std.specs.Prelude.{All}
use Rattle.sequence_build_laws.specs.declared.Vertex.{Vertex}
use Rattle.sequence_build_laws.specs.declared.Decision.{Decision}
use Rattle.sequence_build_laws.specs.FlatValid.{HasFewOutputs}
use Rattle.self_timed.specs.declared.dates.Span.{Span}
use Rattle.self_timed.specs.Laid.{IsDecided}
use Rattle.self_timed.specs.Running.{running}
use Rattle.self_timed.proofs.Dated.{Asked, all_decided, are_told, count_is, few_outputs_all, next_from, row_read, sized, step_fits, step_more, steps_from, told_first, told_in_time}
use Rattle.self_timed.proofs.compute.dates_with.Goals as goal

pub plan_of-requires-clause-few : goal.plan_of-requires-clause-few
plan_of-requires-clause-few c =
    let asked : Asked c.args.flat.now c.args.archi.now c.args.schedule.now c.args.depth c.args.actual.now =
    record {
      flat = c.vertices.ensures.valid;
      archi = c.operators-operators.ensures.valid;
      deep = c.depth-depth.ensures.valid;
      valid =
          c.requires.valid;
      depth = c.requires.depth;
      few = c.requires.few;
      within = c.requires.within;
    } in
    subst (λ (vs : List Vertex). All HasFewOutputs vs) (sym c.vertices.ensures.same) (few_outputs_all c.args.flat.now c.args.archi.now c.args.schedule.now c.args.depth c.args.actual.now asked)

pub plan_of-requires-clause-decided : goal.plan_of-requires-clause-decided
plan_of-requires-clause-decided c =
    let asked : Asked c.args.flat.now c.args.archi.now c.args.schedule.now c.args.depth c.args.actual.now =
    record {
      flat = c.vertices.ensures.valid;
      archi = c.operators-operators.ensures.valid;
      deep = c.depth-depth.ensures.valid;
      valid =
          c.requires.valid;
      depth = c.requires.depth;
      few = c.requires.few;
      within = c.requires.within;
    } in
    subst (λ (vs : List Vertex). All (IsDecided vs) c.as_slice.result.now) (sym c.vertices.ensures.same)
    (subst (λ (ds : List Decision). All (IsDecided c.args.flat.now.vertices) ds) (sym c.as_slice.ensures)
    (all_decided c.args.flat.now c.args.archi.now c.args.schedule.now c.args.depth c.args.actual.now asked))

pub next_reaction-requires-clause-sized : goal.next_reaction-requires-clause-sized
next_reaction-requires-clause-sized c =
    let asked : Asked c.args.flat.now c.args.archi.now c.args.schedule.now c.args.depth c.args.actual.now =
    record {
      flat = c.vertices.ensures.valid;
      archi = c.operators-operators.ensures.valid;
      deep = c.depth-depth.ensures.valid;
      valid =
          c.requires.valid;
      depth = c.requires.depth;
      few = c.requires.few;
      within = c.requires.within;
    } in
    let next = next_from c.args.flat.now c.args.schedule.now c.vertices.result.now c.as_slice.result.now c.in_ok-plan.plan.entries
    c.vertices.ensures.same c.as_slice.ensures c.in_ok-plan.ensures.entries in
    let steps = steps_from c.args.flat.now c.args.schedule.now c.vertices.result.now c.as_slice.result.now c.in_ok-plan.plan.steps.items
    c.vertices.ensures.same c.as_slice.ensures c.in_ok-plan.ensures.steps in
    sized c.args.flat.now c.args.archi.now c.args.schedule.now c.args.depth c.args.actual.now asked c.in_ok-plan.plan next steps

pub next_reaction-requires-clause-ticks : goal.next_reaction-requires-clause-ticks
next_reaction-requires-clause-ticks c =
    let asked : Asked c.args.flat.now c.args.archi.now c.args.schedule.now c.args.depth c.args.actual.now =
    record {
      flat = c.vertices.ensures.valid;
      archi = c.operators-operators.ensures.valid;
      deep = c.depth-depth.ensures.valid;
      valid =
          c.requires.valid;
      depth = c.requires.depth;
      few = c.requires.few;
      within = c.requires.within;
    } in
    let next = next_from c.args.flat.now c.args.schedule.now c.vertices.result.now c.as_slice.result.now c.in_ok-plan.plan.entries
    c.vertices.ensures.same c.as_slice.ensures c.in_ok-plan.ensures.entries in
    let steps = steps_from c.args.flat.now c.args.schedule.now c.vertices.result.now c.as_slice.result.now c.in_ok-plan.plan.steps.items
    c.vertices.ensures.same c.as_slice.ensures c.in_ok-plan.ensures.steps in
    let count = ap length c.reactions-ticks-items.ensures in
    let row = row_read c.reactions-ticks-items.result.now c.args.actual.now c.loop-ticks.ticks-index c.ticks-item.result
    c.as_slice-in-loop-ticks-2.result.now c.reactions-ticks-items.ensures c.as_slice-in-loop-ticks-2.ensures c.ticks-item.is c.loop-ticks-test.true in
    let many = count_is c.args.flat.now c.args.archi.now c.args.schedule.now c.args.depth c.args.actual.now asked c.in_ok-plan.plan next steps in
    let long = c.requires.entries c.loop-ticks.ticks-index [] (omega arith) in
    let same = ap length row in
    omega arith

pub next_reaction-requires-clause-deep : goal.next_reaction-requires-clause-deep
next_reaction-requires-clause-deep c = c.requires.depth.least

pub next_reaction-requires-clause-fits : goal.next_reaction-requires-clause-fits
next_reaction-requires-clause-fits c =
    let asked : Asked c.args.flat.now c.args.archi.now c.args.schedule.now c.args.depth c.args.actual.now =
    record {
      flat = c.vertices.ensures.valid;
      archi = c.operators-operators.ensures.valid;
      deep = c.depth-depth.ensures.valid;
      valid =
          c.requires.valid;
      depth = c.requires.depth;
      few = c.requires.few;
      within = c.requires.within;
    } in
    let next = next_from c.args.flat.now c.args.schedule.now c.vertices.result.now c.as_slice.result.now c.in_ok-plan.plan.entries
    c.vertices.ensures.same c.as_slice.ensures c.in_ok-plan.ensures.entries in
    let steps = steps_from c.args.flat.now c.args.schedule.now c.vertices.result.now c.as_slice.result.now c.in_ok-plan.plan.steps.items
    c.vertices.ensures.same c.as_slice.ensures c.in_ok-plan.ensures.steps in
    let count = ap length c.reactions-ticks-items.ensures in
    let row = row_read c.reactions-ticks-items.result.now c.args.actual.now c.loop-ticks.ticks-index c.ticks-item.result
    c.as_slice-in-loop-ticks-2.result.now c.reactions-ticks-items.ensures c.as_slice-in-loop-ticks-2.ensures c.ticks-item.is c.loop-ticks-test.true in
    step_fits c.args.flat.now c.args.archi.now c.args.schedule.now c.args.depth c.args.actual.now asked c.in_ok-plan.plan next steps
    c.loop-ticks.ticks-index (omega arith) c.loop-ticks.reactions.items c.loop-ticks.ends c.loop-ticks.invariant
    c.as_slice-in-loop-ticks.result.now c.as_slice-in-loop-ticks.ensures.value c.args.depth refl c.as_slice-in-loop-ticks-2.result.now row

pub loop-ticks-preserved : goal.loop-ticks-preserved
loop-ticks-preserved c =
    let asked : Asked c.args.flat.now c.args.archi.now c.args.schedule.now c.args.depth c.args.actual.now =
    record {
      flat = c.vertices.ensures.valid;
      archi = c.operators-operators.ensures.valid;
      deep = c.depth-depth.ensures.valid;
      valid =
          c.requires.valid;
      depth = c.requires.depth;
      few = c.requires.few;
      within = c.requires.within;
    } in
    let next = next_from c.args.flat.now c.args.schedule.now c.vertices.result.now c.as_slice.result.now c.in_ok-plan.plan.entries
    c.vertices.ensures.same c.as_slice.ensures c.in_ok-plan.ensures.entries in
    let steps = steps_from c.args.flat.now c.args.schedule.now c.vertices.result.now c.as_slice.result.now c.in_ok-plan.plan.steps.items
    c.vertices.ensures.same c.as_slice.ensures c.in_ok-plan.ensures.steps in
    let count = ap length c.reactions-ticks-items.ensures in
    let row = row_read c.reactions-ticks-items.result.now c.args.actual.now c.loop-ticks.ticks-index c.ticks-item.result
    c.as_slice-in-loop-ticks-2.result.now c.reactions-ticks-items.ensures c.as_slice-in-loop-ticks-2.ensures c.ticks-item.is c.loop-ticks-test.true in
    step_more c.args.flat.now c.args.archi.now c.args.schedule.now c.args.depth c.args.actual.now asked c.in_ok-plan.plan next steps
    c.loop-ticks.ticks-index (omega arith) c.loop-ticks.reactions.items c.loop-ticks.ends c.loop-ticks.invariant
    c.as_slice-in-loop-ticks.result.now c.as_slice-in-loop-ticks.ensures.value c.args.depth refl c.as_slice-in-loop-ticks-2.result.now row
    (running c.next_reaction.new.ends c.in_ok-row.row.items) c.in_ok-row.ensures (c.loop-ticks.ticks-index + 1) refl c.push.new.self.items
    (c.in_ok-push.ensures.items ∙ ap (λ (r : List Span). c.loop-ticks.reactions.items ++ r ∷ []) c.new.ensures)

pub returns-clause-dates : goal.returns-clause-dates
returns-clause-dates c =
    let asked : Asked c.args.flat.now c.args.archi.now c.args.schedule.now c.args.depth c.args.actual.now =
    record {
      flat = c.vertices.ensures.valid;
      archi = c.operators-operators.ensures.valid;
      deep = c.depth-depth.ensures.valid;
      valid =
          c.requires.valid;
      depth = c.requires.depth;
      few = c.requires.few;
      within = c.requires.within;
    } in
    let next = next_from c.args.flat.now c.args.schedule.now c.vertices.result.now c.as_slice.result.now c.in_ok-plan.plan.entries
    c.vertices.ensures.same c.as_slice.ensures c.in_ok-plan.ensures.entries in
    let count = ap length c.reactions-ticks-items.ensures in
    are_told c.args.flat.now c.args.archi.now c.args.schedule.now c.args.depth c.args.actual.now asked c.in_ok-plan.plan next
    c.loop-ticks.ticks-index (omega arith) c.loop-ticks.reactions.items c.new-2.result c.loop-ticks.ends c.loop-ticks.invariant c.new-2.ensures

pub returns-clause-in_time : goal.returns-clause-in_time
returns-clause-in_time c =
    let asked : Asked c.args.flat.now c.args.archi.now c.args.schedule.now c.args.depth c.args.actual.now =
    record {
      flat = c.vertices.ensures.valid;
      archi = c.operators-operators.ensures.valid;
      deep = c.depth-depth.ensures.valid;
      valid =
          c.requires.valid;
      depth = c.requires.depth;
      few = c.requires.few;
      within = c.requires.within;
    } in
    let next = next_from c.args.flat.now c.args.schedule.now c.vertices.result.now c.as_slice.result.now c.in_ok-plan.plan.entries
    c.vertices.ensures.same c.as_slice.ensures c.in_ok-plan.ensures.entries in
    let count = ap length c.reactions-ticks-items.ensures in
    told_in_time c.args.flat.now c.args.archi.now c.args.schedule.now c.args.depth c.args.actual.now asked c.in_ok-plan.plan next
    c.loop-ticks.ticks-index (omega arith) c.loop-ticks.reactions.items c.new-2.result c.loop-ticks.ends c.loop-ticks.invariant c.new-2.ensures

pub returns-clause-first : goal.returns-clause-first
returns-clause-first c =
    let asked : Asked c.args.flat.now c.args.archi.now c.args.schedule.now c.args.depth c.args.actual.now =
    record {
      flat = c.vertices.ensures.valid;
      archi = c.operators-operators.ensures.valid;
      deep = c.depth-depth.ensures.valid;
      valid =
          c.requires.valid;
      depth = c.requires.depth;
      few = c.requires.few;
      within = c.requires.within;
    } in
    let next = next_from c.args.flat.now c.args.schedule.now c.vertices.result.now c.as_slice.result.now c.in_ok-plan.plan.entries
    c.vertices.ensures.same c.as_slice.ensures c.in_ok-plan.ensures.entries in
    let count = ap length c.reactions-ticks-items.ensures in
    told_first c.args.flat.now c.args.archi.now c.args.schedule.now c.args.depth c.args.actual.now asked c.in_ok-plan.plan next
    c.loop-ticks.ticks-index (omega arith) c.loop-ticks.reactions.items c.new-2.result c.loop-ticks.ends c.loop-ticks.invariant c.new-2.ensures
