-- The slices of a trace are the acts.
use Rattle.std.proofs.Common.{◌≡◌, Bool, true, false, List, [], ◌∷◌, ◌++◌, map, refl, ap, ◌∙◌}
use Rattle.std.specs.Prelude.{if◌then◌else◌}
use Rattle.std.specs.List.{flat_map}
use Rattle.std.proofs.lemmas.Grind.{flat_map-append}
use Rattle.syn_base.specs.Bytes.{Bytes}
use Rattle.self_timed.specs.declared.Source.{Source}
use Rattle.self_timed.specs.declared.Vertex.{Vertex}
use Rattle.self_timed.specs.declared.Decision.{Decision}
use Rattle.self_timed.specs.Acts.{Act, carry, run, acts}
use Rattle.trace_events.specs.declared.event.Moment.{Moment}
use Rattle.trace_events.specs.declared.event.Reader.{Reader}
use Rattle.trace_events.specs.Events.{Slice, arrives}
use Rattle.trace_events.specs.Trace.{slice_of, departures, arrival, arrivals, is_brought, reader_in, sources_for, act_events, chart_moment}
use Rattle.trace_events.specs.Shown.{slice_in, slices, EachActOnce}

none_arrives : (ds : List Decision) (r : Reader) (s : Source) → slices (arrival ds r s) ≡ []
none_arrives ds r s = by (is_brought ds r.operator s)
  where
    by : (b : Bool) → slices (if b then arrives (record { source = s; at = r }) ∷ [] else []) ≡ []
    by true = refl
    by false = refl

none_arrive : (ds : List Decision) (r : Reader) (ss : List Source) → slices (arrivals ds r ss) ≡ []
none_arrive ds r [] = refl
none_arrive ds r (s ∷ ss) =
    flat_map-append slice_in (arrival ds r s) (arrivals ds r ss)
    ∙ ap (λ (l : List Slice). l ++ slices (arrivals ds r ss)) (none_arrives ds r s) ∙ none_arrive ds r ss

module _ (vertices : List Vertex) (operators : List Bytes) (ds : List Decision) where
  rest_is_none : (m : Moment) (x : Act) → slices (departures m x ++ arrivals ds (reader_in m x) (sources_for vertices x)) ≡ []
  rest_is_none m (run d) = none_arrive ds (reader_in m (run d)) (sources_for vertices (run d))
  rest_is_none m (carry t) = none_arrive ds (reader_in m (carry t)) (sources_for vertices (carry t))

  -- an act has one slice
  pub act_slice : (m : Moment) (x : Act) → slices (act_events vertices operators ds m x) ≡ slice_of vertices operators m x ∷ []
  act_slice m x = ap (λ (l : List Slice). slice_of vertices operators m x ∷ l) (rest_is_none m x)

  -- and acts have theirs in their order, whenever they last
  pub acts_slices : {A : Type 0} (moment : A → Moment) (act : A → Act) (xs : List A)
      → slices (flat_map (λ x. act_events vertices operators ds (moment x) (act x)) xs) ≡ map (λ x. slice_of vertices operators (moment x) (act x)) xs
  acts_slices moment act [] = refl
  acts_slices moment act (x ∷ xs) =
      flat_map-append slice_in (act_events vertices operators ds (moment x) (act x)) (flat_map (λ y. act_events vertices operators ds (moment y) (act y)) xs)
      ∙ ap (λ (l : List Slice). l ++ slices (flat_map (λ y. act_events vertices operators ds (moment y) (act y)) xs)) (act_slice (moment x) (act x))
      ∙ ap (λ (l : List Slice). slice_of vertices operators (moment x) (act x) ∷ l) (acts_slices moment act xs)

pub each_act_once : EachActOnce
each_act_once g a s = acts_slices g.vertices a.operators s.decisions chart_moment (λ x. x) (acts s)
