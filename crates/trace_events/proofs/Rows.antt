-- The events of worked schedules.
use Rattle.std.proofs.Common.{◌≡◌, ℕ, [], ◌∷◌, ◌++◌, refl}
use Rattle.std.specs.Prelude.{codes}
use Rattle.std.specs.Fmt.{decimal}
use Rattle.self_timed.proofs.Examples.{source, plain_graph, relay_archi, relay_schedule}
use Rattle.trace_events.specs.declared.event.Reader.{Reader}
use Rattle.trace_events.specs.Events.{thread, lasts, leaves, arrives}
use Rattle.trace_events.specs.Trace.{lanes, chart_events}
use Rattle.trace_events.specs.Words.{word_text}

abbrev reads : ℕ → ℕ → ℕ → Reader
reads date n operator = record { reaction = 0; date = date; lane = n; operator = operator }

-- a relay: three operators and two media
relay_lanes : lanes relay_archi ≡ thread 1 (codes "operator") (codes "A") ∷ thread 2 (codes "operator") (codes "B") ∷ thread 3 (codes "operator") (codes "C")
    ∷ thread 17 (codes "medium") (codes "x") ∷ thread 18 (codes "medium") (codes "y") ∷ []
unfolding word_text
relay_lanes = refl

-- The value of operation 0 leaves over both media; it arrives at the second one, and at operation 1.
relay_events : chart_events plain_graph relay_archi relay_schedule
    ≡ lasts (record { name = codes "s"; category = codes "operation"; lane = 1; moment = record { reaction = 0; start = 0; end = 1 } })
    ∷ lasts (record {
      name = codes "s"
          ++ (codes "." ++ (decimal 0 ++ (codes " " ++ (codes "A" ++ (codes " to " ++ codes "B")))));
      category = codes "transfer";
      lane =
          17;
      moment = record { reaction = 0; start = 1; end = 3 };
    })
    ∷ leaves (record { source = source 0; at = reads 1 17 1 })
    ∷ lasts (record {
      name = codes "s"
          ++ (codes "." ++ (decimal 0 ++ (codes " " ++ (codes "B" ++ (codes " to " ++ codes "C")))));
      category = codes "transfer";
      lane =
          18;
      moment = record { reaction = 0; start = 3; end = 5 };
    })
    ∷ leaves (record { source = source 0; at = reads 3 18 2 })
    ∷ arrives (record { source = source 0; at = reads 3 18 1 })
    ∷ lasts (record { name = codes "a"; category = codes "operation"; lane = 3; moment = record { reaction = 0; start = 5; end = 6 } })
    ∷ arrives (record { source = source 0; at = reads 5 3 2 }) ∷ []
unfolding word_text
relay_events = refl
