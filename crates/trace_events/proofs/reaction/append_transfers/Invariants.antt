use Rattle.std.proofs.Common.{◌≡◌, ◌+◌, ◌++◌, drop, map}
use Rattle.self_timed.specs.Acts.{carry}
use Rattle.self_timed.specs.Told.{reaction_at}
use Rattle.dates_text.specs.Printed.{dated_by}
use Rattle.trace_events.specs.DatesTrace.{told}
use Rattle.trace_events.proofs.reaction.append_transfers.Given as goal

-- the transfers that are left complete the text
abbrev pub invariant-loop-place : goal.invariant-loop-place
invariant-loop-place l =
    let r = l.reaction in
    let k = r.number in
    let row = reaction_at r.dates.now k in
    l.out.items ++ told r.traced.vertices.now r.traced.operators.now r.traced.decisions.now (dated_by k row (l.first + l.place) (map carry (drop l.place l.transfers)))
    ≡ l.fn.out.items ++ told r.traced.vertices.now r.traced.operators.now r.traced.decisions.now (dated_by k row l.first (map carry l.transfers))
