use Rattle.std.proofs.Common.{◌∙◌}
use Rattle.word_table.proofs.LoopPlaces.{due_in_turn, has_some, none_due}
use Rattle.word_table.proofs.loop_place.LoopPlace.due.Goals as goal

pub returns-then-reaction-reactions-clause-step : goal.returns-then-reaction-reactions-clause-step
returns-then-reaction-reactions-clause-step c = let a = c.args in
    c.step_at-step.ensures ∙ due_in_turn c.as_slice-prologue.result.now c.as_slice-turn.result.now a.reactions a.count
    c.if-count-prologue.false (has_some c.as_slice-turn.result.now c.if-is_empty.ensures) a.code.now c.as_slice-prologue.ensures
    c.as_slice-turn.ensures c.after-here.result.place c.after-here.result.reaction c.after-here.ensures.place
    c.after-here.ensures.reaction c.if-reaction-reactions.true

pub returns-else-reaction-reactions-clause-step : goal.returns-else-reaction-reactions-clause-step
returns-else-reaction-reactions-clause-step c = let a = c.args in
    none_due c.as_slice-prologue.result.now c.as_slice-turn.result.now a.reactions a.count c.if-count-prologue.false
    (has_some c.as_slice-turn.result.now c.if-is_empty.ensures) a.code.now c.as_slice-prologue.ensures c.as_slice-turn.ensures
    c.after-here.result.place c.after-here.result.reaction c.after-here.ensures.place c.after-here.ensures.reaction c.if-reaction-reactions.false
