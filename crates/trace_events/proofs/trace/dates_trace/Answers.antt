use Rattle.std.proofs.Common.{◌≡◌, ℕ, List, length, refl, sym, subst, ap, ◌∙◌, arith}
use Rattle.std.specs.Prelude.{IfOk}
use Rattle.self_timed.specs.Acts.{Act, acts}
use Rattle.self_timed.specs.Running.{span}
use Rattle.self_timed.specs.Told.{end_at, start_at}
use Rattle.dates_text.specs.Listing.{Dated, dated_in}
use Rattle.dates_text.specs.Printed.{entry_span}
use Rattle.dates_text.proofs.Entered.{told_is}
use Rattle.trace_events.specs.DatesTrace.{trace_of}
use Rattle.trace_events.proofs.trace.dates_trace.Goals as goal

pub returns : goal.returns
returns c =
    let g = c.args.flat.now in
    let a = c.args.archi.now in
    let s = c.args.schedule.now in
    let ticks = c.args.actual.now in
    let dates = c.in_ok-dates.dates in
    let when = λ (k i : ℕ) (x : Act). span (start_at a.depth g s ticks k i x) (end_at a.depth g s ticks k i) in
    let count = c.in_ok-dates.ensures.dates.count in
    let same : dated_in (entry_span g s dates) (length dates) (acts s) ≡ dated_in when (length ticks) (acts s)
    = sym (told_is g s dates (entry_span g s dates) (length dates) (λ k l i x e. refl))
    ∙ told_is g s dates when (length dates) (λ k l i x e. c.in_ok-dates.ensures.dates.each k i x (omega arith) e)
    ∙ ap (λ (n : ℕ). dated_in when n (acts s)) count in
    subst (λ (ds : List Dated). IfOk c.trace_of.result (λ text. text.items ≡ trace_of g a s ds)) same c.trace_of.ensures
