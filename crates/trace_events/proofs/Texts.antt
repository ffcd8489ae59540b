-- The text of events, part by part.
use Rattle.std.proofs.Common.{◌≡◌, Bool, true, false, List, [], ◌∷◌, ◌++◌, refl, ap, ◌∙◌}
use Rattle.std.specs.Prelude.{if◌then◌else◌, slice_get}
use Rattle.std.specs.List.{flat_map}
use Rattle.std.proofs.lemmas.Grind.{flat_map-append}
use Rattle.std.proofs.lemmas.List.{append-nil, append_assoc}
use Rattle.syn_base.specs.Bytes.{Bytes}
use Rattle.self_timed.specs.declared.Source.{Source}
use Rattle.self_timed.specs.declared.Vertex.{Vertex}
use Rattle.self_timed.specs.Graph.{Graph}
use Rattle.self_timed.specs.Archi.{Architecture}
use Rattle.self_timed.specs.declared.Transfer.{Transfer}
use Rattle.self_timed.specs.declared.Decision.{Decision}
use Rattle.self_timed.specs.declared.Schedule.{Schedule}
use Rattle.self_timed.specs.Acts.{Act, carry, run, acts, sources_of}
use Rattle.trace_events.specs.declared.event.Moment.{Moment}
use Rattle.trace_events.specs.declared.event.Reader.{Reader}
use Rattle.trace_events.specs.Events.{Event, arrives, event_text, text_of, slice_text, leaves_text, arrives_text, opening, closing}
use Rattle.trace_events.specs.Trace.{lanes, is_brought, arrival, reader_in, bringer_in, slice_of, act_events, chart_moment, chart_events, chart_trace}
use Rattle.trace_events.specs.Printed.{arrived, charted}

pub text_append : (xs ys : List Event) → text_of (xs ++ ys) ≡ text_of xs ++ text_of ys
text_append xs ys = flat_map-append event_text xs ys

-- the text of the events of all is that of the events of each
pub text_flat : {A : Type 0} (f : A → List Event) (xs : List A) → text_of (flat_map f xs) ≡ flat_map (λ x. text_of (f x)) xs
text_flat f [] = refl
text_flat f (x ∷ xs) = text_append (f x) (flat_map f xs) ∙ ap (λ (l : Bytes). text_of (f x) ++ l) (text_flat f xs)

pub arrived_append : (ds : List Decision) (r : Reader) (xs ys : List Source) → arrived ds r (xs ++ ys) ≡ arrived ds r xs ++ arrived ds r ys
arrived_append ds r xs ys = flat_map-append (λ (s : Source). text_of (arrival ds r s)) xs ys

-- a value arrives where it was brought, and only there
pub arrival_there : (ds : List Decision) (r : Reader) (s : Source) → is_brought ds r.operator s ≡ true → text_of (arrival ds r s) ≡ arrives_text s r
arrival_there ds r s e = ap (λ (b : Bool). text_of (if b then arrives (record { source = s; at = r }) ∷ [] else [])) e ∙ append-nil (arrives_text s r)

pub arrival_absent : (ds : List Decision) (r : Reader) (s : Source) → is_brought ds r.operator s ≡ false → text_of (arrival ds r s) ≡ []
arrival_absent ds r s e = ap (λ (b : Bool). text_of (if b then arrives (record { source = s; at = r }) ∷ [] else [])) e

module _ (vertices : List Vertex) (operators : List Bytes) (ds : List Decision) where
  pub operation_text : (m : Moment) (d : Decision) → text_of (act_events vertices operators ds m (run d))
      ≡ slice_text (slice_of vertices operators m (run d)) ++ arrived ds (reader_in m (run d)) (sources_of (slice_get vertices d.op))
  operation_text m d =
      ap (λ (l : Bytes). slice_text (slice_of vertices operators m (run d)) ++ l)
      (text_flat (arrival ds (reader_in m (run d))) (sources_of (slice_get vertices d.op)))

  pub transfer_text : (m : Moment) (t : Transfer) → text_of (act_events vertices operators ds m (carry t))
      ≡ slice_text (slice_of vertices operators m (carry t)) ++ (leaves_text t.source (bringer_in m t) ++ text_of (arrival ds (reader_in m (carry t)) t.source))
  transfer_text m t =
      ap (λ (l : List Event). slice_text (slice_of vertices operators m (carry t)) ++ (leaves_text t.source (bringer_in m t) ++ text_of l))
      (append-nil (arrival ds (reader_in m (carry t)) t.source))

-- a trace is its opening, its lanes, its acts and its closing
pub whole_text : (g : Graph) (a : Architecture) (s : Schedule)
    → chart_trace g a s ≡ opening ++ ((text_of (lanes a) ++ charted g.vertices a.operators s.decisions (acts s)) ++ closing)
whole_text g a s =
    ap (λ (l : Bytes). opening ++ (l ++ closing))
    (text_append (lanes a) (chart_events g a s)
    ∙ ap (λ (l : Bytes). text_of (lanes a) ++ l) (text_flat (λ (x : Act). act_events g.vertices a.operators s.decisions (chart_moment x) x) (acts s)))

-- five parts in the order in which they are appended
pub regroup : (a b c d e : Bytes) → (((a ++ b) ++ c) ++ d) ++ e ≡ a ++ (b ++ ((c ++ d) ++ e))
regroup a b c d e = simp append_assoc
