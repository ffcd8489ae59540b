use Rattle.std.proofs.Common.{◌∙◌, ℕ, List, Result, Global, ap, inl, refl, replicate, subst, sym}
use Rattle.std.specs.Prelude.{Vec}
use Rattle.std.proofs.lemmas.Result.{err_from_is_err_and}
use Rattle.self_timed.specs.Acts.{acts}
use Rattle.self_timed.specs.Told.{HaveEntries, entries_of}
use Rattle.self_timed.specs.Entries.{AreWithin}
use Rattle.top_plans.specs.declared.ActualError.{ActualError}
use Rattle.top_plans.specs.Actual.{actual_of}
use Rattle.top_plans.specs.ActualAnswers as answers
use Rattle.compiler.proofs.Sizes.{few_lines}
use Rattle.lab_words.specs.View.{form_view}
use Rattle.lab_plans.specs.Answers.{form_text}
use Rattle.lab_program.specs.Found.{request_of}
use Rattle.lab_program.proofs.Schedules.{dated, durations_refused, undated}
use Rattle.lab_program.proofs.commands.dates.date_reactions.Goals as goal

pub actual_of-requires-clause-short : goal.actual_of-requires-clause-short
actual_of-requires-clause-short c = few_lines c.args.text.now c.requires.short

pub write_reactions-requires-clause-entries : goal.write_reactions-requires-clause-entries
write_reactions-requires-clause-entries c =
    let x = c.args.problem.now in
    let s = c.args.schedule.now in
    let both = c.actual_are_within.ensures x.flat x.text.archi x.durations s c.args.text.now c.in_ok-ticks.ticks.items c.args.extent.reactions c.requires.valid c.in_ok-ticks.ensures in
    subst (λ (row : List ℕ). HaveEntries (entries_of x.flat s) (replicate c.args.extent.reactions row)) (sym c.deref.ensures.value) both.0

pub write_reactions-requires-clause-within : goal.write_reactions-requires-clause-within
write_reactions-requires-clause-within c =
    let x = c.args.problem.now in
    let s = c.args.schedule.now in
    let both = c.actual_are_within.ensures x.flat x.text.archi x.durations s c.args.text.now c.in_ok-ticks.ticks.items c.args.extent.reactions c.requires.valid c.in_ok-ticks.ensures in
    subst (λ (row : List ℕ). AreWithin x.flat.vertices (acts s) (replicate c.args.extent.reactions row)) (sym c.deref.ensures.value) both.1

pub write_reactions-requires-clause-program : goal.write_reactions-requires-clause-program
write_reactions-requires-clause-program c = c.in_ok-program.ensures.0

pub returns-in_err-ticks : goal.returns-in_err-ticks
returns-in_err-ticks c =
    let x = c.args.problem.now in
    let p = err_from_is_err_and c.from_residual.result c.from_residual.ensures.1 in
    let says = subst (λ (r : Result (Vec ℕ Global) ActualError). answers.Gives r
    (actual_of x.flat x.text.archi x.durations c.args.schedule.now c.args.text.now)) c.in_err-ticks.was c.actual_of.ensures in
    rw (p.1, p.2) (λ effort. durations_refused Global (form_view c.args.extent.form) (request_of x effort) c.args.extent.reactions c.args.schedule.now _ c.in_err-ticks.field-0.0 says)

pub returns-in_err-program : goal.returns-in_err-program
returns-in_err-program c =
    let x = c.args.problem.now in
    let p = err_from_is_err_and c.from_residual-in_err-program.result c.from_residual-in_err-program.ensures.1 in
    rw (p.1, p.2) (λ effort. undated Global (form_view c.args.extent.form)
    (request_of x effort) c.args.extent.reactions c.args.schedule.now _ c.in_ok-ticks.ticks.items c.in_err-program.field-0.0
    c.in_ok-ticks.ensures c.in_err-program.ensures)

pub returns-in_err-write_reactions : goal.returns-in_err-write_reactions
returns-in_err-write_reactions c =
    let p = err_from_is_err_and c.from_residual-in_err-write_reactions.result c.from_residual-in_err-write_reactions.ensures.1 in
    rw (p.1, p.2) (λ effort. inl refl)

pub returns : goal.returns
returns c = λ effort.
    let x = c.args.problem.now in
    let s = c.args.schedule.now in
    let form = form_view c.args.extent.form in
    let n = c.args.extent.reactions in
    let made = c.in_ok-write_reactions.ensures ∙ ap (λ (row : List ℕ). form_text form x.flat x.text.archi s (replicate n row)) c.deref.ensures.value in
    dated form (request_of x effort) n s _ c.in_ok-ticks.ticks.items _ c.in_ok-ticks.ensures c.in_ok-program.ensures.1 made
