-- The entries of a valid schedule's decisions are among those of each reaction.
use Rattle.std.proofs.Common.{◌≡◌, ℕ, suc, ◌+◌, ◌<◌, ◌≤◌, List, [], ◌∷◌, length, All, arith}
use Rattle.std.specs.List.{count_by}
use Rattle.self_timed.specs.Graph.{Graph}
use Rattle.self_timed.specs.Archi.{Architecture}
use Rattle.self_timed.specs.Table.{entry_in}
use Rattle.self_timed.specs.declared.Decision.{Decision}
use Rattle.self_timed.specs.declared.Schedule.{Schedule}
use Rattle.self_timed.specs.Acts.{run, acts_of}
use Rattle.self_timed.specs.Entries.{is_transfer}
use Rattle.self_timed.specs.declared.dates.Span.{Span}
use Rattle.self_timed.specs.Told.{IsValidForSome, entries_of, reaction_at}
use Rattle.actual_durations.proofs.Placed.{ops_there}
use Rattle.dates_text.specs.Printed.{EachFits, Fit, HaveSpans}
use Rattle.dates_text.proofs.Counting.{count_run, counted}

fits : (operations entries next : ℕ) (ds : List Decision) → All (λ (d : Decision). d.op < operations) ds → operations ≤ entries
    → next + count_by is_transfer (acts_of ds) ≤ entries → Fit entries next ds
fits operations entries next [] ops low room = tt
fits operations entries next (d ∷ ds) ops low room =
    let z = counted d.transfers (run d ∷ acts_of ds) in
    let r = count_run d (acts_of ds) in
    let o : d.op < operations = ops 0 d (omega arith) in
    (omega arith, omega arith, fits operations entries (next + length d.transfers) ds (λ k e l. ops (suc k) e (omega arith)) low (omega arith))

pub each_fits : (g : Graph) (a : Architecture) (s : Schedule) (reactions : List (List Span)) → IsValidForSome g a s → HaveSpans g s reactions → EachFits g s.decisions reactions
each_fits g a s reactions valid spans k l =
    let is : length (reaction_at reactions k) ≡ entries_of g s = spans k [] l in
    fits (length g.vertices) (length (reaction_at reactions k)) (length g.vertices) s.decisions (ops_there g a (entry_in valid.durations) s valid.valid) (omega arith) (omega arith)
