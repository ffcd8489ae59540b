-- The next micro-step can be made, and keeps the state one of the job.
use Rattle.std.proofs.Common.{ℕ, length, sym, subst, ◌∙◌}
use Rattle.semaphore_core.specs.Held.{IsOpened, NeedsReaction}
use Rattle.semaphore_core.proofs.Runs.{done_reached}
use Rattle.semaphore_core.proofs.Opened.{in_counts, count_fits, word, needs, opened_more, is_finished}
use Rattle.semaphore_core.proofs.state.try_step.Goals as goal

pub make-requires-clause-counted : goal.make-requires-clause-counted
make-requires-clause-counted c = let h = c.args.state.now in let j = c.args.job.now in let e = sym c.next.ensures ∙ c.in-Some.is in
    (in_counts j h c.requires.opened c.args.seq c.requires.there, count_fits j h c.requires.opened c.args.seq c.requires.there c.in-Some.step e)

pub make-requires-clause-words : goal.make-requires-clause-words
make-requires-clause-words c = word c.args.job.now c.args.state.now c.requires.opened c.args.seq c.requires.there c.in-Some.step (sym c.next.ensures ∙ c.in-Some.is)

pub make-requires-clause-reaction : goal.make-requires-clause-reaction
make-requires-clause-reaction c =
    subst (λ (k : ℕ). NeedsReaction c.in-Some.step k (length c.args.job.now.sensors)) (sym c.reaction-reaction.ensures)
    (needs c.args.job.now c.args.state.now c.requires.opened c.args.seq c.requires.there c.in-Some.step (sym c.next.ensures ∙ c.in-Some.is))

pub returns-in-None-clause-answer : goal.returns-in-None-clause-answer
returns-in-None-clause-answer c = sym (is_finished c.args.job.now c.args.state.now c.requires.opened c.args.seq c.requires.there (sym c.next.ensures ∙ c.in-None.is))

pub returns-then-allows-clause-opened : goal.returns-then-allows-clause-opened
returns-then-allows-clause-opened c = let j = c.args.job.now in let h = c.args.state.now in let e = sym c.next.ensures ∙ c.in-Some.is in
    subst (IsOpened j) (sym c.make.ensures)
    (opened_more j h c.requires.opened c.args.seq c.requires.there c.in-Some.step e c.reaction-reaction.result
    (done_reached j h.core c.args.seq c.reaction-reaction.result c.in-Some.step e c.reaction-reaction.ensures (sym c.allows.ensures ∙ c.if-allows.true) c.requires.opened.reached))
