use Rattle.std.proofs.Common.{◌≡◌, ◌∙◌, ℕ, List, length, replicate, ap, subst, sym}
use Rattle.compiler.specs.Schedules.{program_by, schedule_of}
use Rattle.std.specs.Prelude.{None, Ok, Err}
use Rattle.std.proofs.lemmas.Result.{err_from_is_err_and}
use Rattle.syn_base.specs.Bytes.{Bytes}
use Rattle.self_timed.specs.declared.Program.{Program}
use Rattle.self_timed.specs.declared.Schedule.{Schedule}
use Rattle.self_timed.specs.Acts.{acts}
use Rattle.self_timed.specs.Built.{program_of}
use Rattle.self_timed.specs.Entries.{AreWithin}
use Rattle.self_timed.specs.Told.{HaveEntries, entries_of}
use Rattle.top_plans.specs.Actual.{actual_of}
use Rattle.top_plans.specs.Listing.{dates_text}
use Rattle.top_plans.specs.Limit.{program_limit}
use Rattle.top_plans.specs.Plan.{give}
use Rattle.top_plans.proofs.Makes.{after_ok, gave, memory}
use Rattle.top_plans.specs.Status.{of_durations}
use Rattle.top_plans.specs.Given.{written}
use Rattle.syndex_program.specs.Dates.{dated_in}
use Rattle.syndex_program.proofs.Dated.{behind, refused_by}
use Rattle.syndex_program.proofs.Executing.{program_stops}
use Rattle.compiler.specs.Builds.{BuildsProgram}
use Rattle.compiler.proofs.Sizes.{few_lines}
use Rattle.top_plans.proofs.Steps.{is_within}
use Rattle.syndex_program.proofs.commands.dates.date_reactions.Goals as goal

pub actual_of-requires-clause-short : goal.actual_of-requires-clause-short
actual_of-requires-clause-short c = few_lines c.args.text.now c.requires.short

pub print_reactions-requires-clause-entries : goal.print_reactions-requires-clause-entries
print_reactions-requires-clause-entries c =
    let x = c.args.problem.now in
    let s = c.args.schedule.now in
    let both = c.actual_are_within.ensures x.flat x.text.archi x.durations s c.args.text.now c.in_ok-ticks.ticks.items c.args.reactions c.requires.valid c.in_ok-ticks.ensures in
    subst (λ (row : List ℕ). HaveEntries (entries_of x.flat s) (replicate c.args.reactions row)) (sym c.deref.ensures.value) both.0

pub print_reactions-requires-clause-within : goal.print_reactions-requires-clause-within
print_reactions-requires-clause-within c =
    let x = c.args.problem.now in
    let s = c.args.schedule.now in
    let both = c.actual_are_within.ensures x.flat x.text.archi x.durations s c.args.text.now c.in_ok-ticks.ticks.items c.args.reactions c.requires.valid c.in_ok-ticks.ensures in
    subst (λ (row : List ℕ). AreWithin x.flat.vertices (acts s) (replicate c.args.reactions row)) (sym c.deref.ensures.value) both.1

pub print_reactions-requires-clause-program : goal.print_reactions-requires-clause-program
print_reactions-requires-clause-program c = c.in_ok-program.ensures.0

pub returns-in_err-ticks : goal.returns-in_err-ticks
returns-in_err-ticks c =
    let x = c.args.problem.now in
    let a = x.text.archi in
    let p = err_from_is_err_and c.from_residual.result c.from_residual.ensures.1 in
    rw (p.1, p.2) (λ held. refused_by x.flat a x.durations c.args.schedule.now c.args.text.now c.requires.run c.actual_of.result
    c.actual_of.ensures c.in_err-ticks.field-0.0 c.in_err-ticks.was held (behind x.flat a x.durations c.args.reactions))

pub returns-in_err-program : goal.returns-in_err-program
returns-in_err-program c =
    let x = c.args.problem.now in
    let a = x.text.archi in
    let text = c.args.text.now in
    let n = c.args.reactions in
    let s = schedule_of x.flat a x.durations in
    let ticks = c.in_ok-ticks.ticks.items in
    let says : actual_of x.flat a x.durations s text ≡ Ok ticks = ap (λ (u : Schedule). actual_of x.flat a x.durations u text) (sym c.requires.run) ∙ c.in_ok-ticks.ensures in
    let p = err_from_is_err_and c.from_residual-in_err-program.result c.from_residual-in_err-program.ensures.1 in
    let e = c.in_err-program.field-0.0 in
    let builds = subst (λ (u : Schedule). BuildsProgram x.flat a u (Err e)) c.requires.run c.in_err-program.ensures in
    rw (p.1, p.2) (λ held. after_ok held held of_durations (actual_of x.flat a x.durations s text) (behind x.flat a x.durations n) _ ticks says
    (program_stops x.flat a x.durations e held (λ (p : Program). give (written (dates_text x.flat a s ticks n))) builds))

pub returns-in_err-print_reactions : goal.returns-in_err-print_reactions
returns-in_err-print_reactions c =
    let x = c.args.problem.now in
    let p = err_from_is_err_and c.from_residual-in_err-print_reactions.result c.from_residual-in_err-print_reactions.ensures.1 in
    rw (p.1, p.2) (λ held. memory held (dated_in c.args.text.now x.flat x.text.archi x.durations c.args.reactions))

pub returns : goal.returns
returns c = λ held.
    let x = c.args.problem.now in
    let a = x.text.archi in
    let text = c.args.text.now in
    let n = c.args.reactions in
    let s = schedule_of x.flat a x.durations in
    let ticks = c.in_ok-ticks.ticks.items in
    let says : actual_of x.flat a x.durations s text ≡ Ok ticks = ap (λ (u : Schedule). actual_of x.flat a x.durations u text) (sym c.requires.run) ∙ c.in_ok-ticks.ensures in
    let p = program_by x.flat a x.durations in
    let within : program_limit p (length a.media) ≡ None = subst (λ (u : Schedule). program_limit (program_of x.flat a u) (length a.media) ≡ None) c.requires.run c.in_ok-program.ensures.1 in
    let made = c.in_ok-print_reactions.ensures ∙ ap (λ (row : List ℕ). dates_text x.flat a c.args.schedule.now row n) c.deref.ensures.value
    ∙ ap (λ (u : Schedule). dates_text x.flat a u ticks n) c.requires.run in
    after_ok held held of_durations (actual_of x.flat a x.durations s text) (behind x.flat a x.durations n) _ ticks says
    (is_within held held (program_limit p (length a.media)) (give (written (dates_text x.flat a s ticks n))) _ within
    (gave held _ _ (ap (λ (b : Bytes). Ok (written b)) made)))
