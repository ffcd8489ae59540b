use Rattle.std.proofs.Common.{sym, arith, ◌∙◌}
use Rattle.macro_check.proofs.Goes.{passes_over, low, in_done, in_turn, goes_on, steps_left, less_by_step}
use Rattle.macro_check.proofs.running.look.Goals as goal

pub returns-then-not-is_ready-clause-going : goal.returns-then-not-is_ready-clause-going
returns-then-not-is_ready-clause-going c =
    passes_over c.args.program.now c.args.order.now.items c.args.done.now c.args.looks.now.items c.args.sequence c.requires.going
    (sym c.is_ready.ensures ∙ c.if-not-is_ready.true)

pub step-requires-clause-few : goal.step-requires-clause-few
step-requires-clause-few c = let l =
    low c.args.program.now c.args.tables.now.media c.requires.run c.args.order.now.items c.args.done.now c.args.looks.now.items
    c.args.sequence c.requires.going (sym c.is_ready.ensures ∙ c.if-not-is_ready.false) in let n = c.requires.few in omega arith

pub step-requires-clause-within : goal.step-requires-clause-within
step-requires-clause-within c =
    in_done c.args.program.now c.args.tables.now.media c.requires.run c.args.order.now.items c.args.done.now c.args.looks.now.items
    c.args.sequence c.requires.going (sym c.is_ready.ensures ∙ c.if-not-is_ready.false)

pub step-requires-clause-there : goal.step-requires-clause-there
step-requires-clause-there c = in_turn c.args.program.now c.args.tables.now.media c.requires.run c.args.order.now.items c.args.done.now
    c.args.looks.now.items c.args.sequence c.requires.going (sym c.is_ready.ensures ∙ c.if-not-is_ready.false)

pub returns-clause-going : goal.returns-clause-going
returns-clause-going c = goes_on c.args.program.now c.args.tables.now.media c.requires.run c.args.order.now.items c.args.done.now
    c.args.looks.now.items c.args.sequence c.requires.going
    (sym c.is_ready.ensures ∙ c.if-not-is_ready.false) c.step.new.order.items c.step.new.done c.step.new.looks.items c.in_ok-step.ensures

pub returns-clause-less : goal.returns-clause-less
returns-clause-less c = less_by_step c.args.program.now c.args.order.now.items c.args.done.now c.args.looks.now.items c.step.new.order.items c.step.new.done c.step.new.looks.items c.args.sequence
    (steps_left c.args.program.now c.args.tables.now.media c.requires.run c.args.order.now.items c.args.done.now c.args.looks.now.items
    c.args.sequence c.requires.going (sym c.is_ready.ensures ∙ c.if-not-is_ready.false)) c.in_ok-step.ensures
