use Rattle.std.proofs.Common.{◌≡◌, ℕ, suc, ◌+◌, ◌++◌, length, ap, ◌∙◌, arith}
use Rattle.self_timed.specs.Acts.{acts_of}
use Rattle.self_timed.specs.Told.{reaction_at}
use Rattle.dates_text.specs.Printed.{dated_by, dates_up_to}
use Rattle.trace_events.specs.DatesTrace.{told}
use Rattle.trace_events.proofs.Told.{both}
use Rattle.trace_events.proofs.trace.append_reactions.Goals as goal

pub loop-number-preserved : goal.loop-number-preserved
loop-number-preserved c =
    let t = c.args.traced.now in
    let vs = t.vertices.now in
    let os = t.operators.now in
    let ds = t.decisions.now in
    let xs = acts_of ds in
    let k = c.loop-number.number in
    let old = c.args.out.now.items in
    let new = c.append_reaction.new.out.items in
    let before = dates_up_to c.args.dates.now (length vs) xs k in
    let now = dated_by k (reaction_at c.args.dates.now k) (length vs) xs in
    let one : suc k ≡ k + 1 = omega arith in
    both vs os ds old c.loop-number.out.items new before now c.loop-number.invariant c.in_ok-append_reaction.ensures
    ∙ ap (λ (n : ℕ). old ++ told vs os ds (dates_up_to c.args.dates.now (length vs) xs n)) one
