-- In the made tree sensors and actuators stand where they stood.
use Rattle.std.proofs.Common.{◌≡◌, ℕ, suc, List, [], ◌∷◌, ◌++◌, length, map, Option, Some, None, refl, sym, ap, ◌∙◌, subst}
use Rattle.algo_tree.specs.Tree.{Label, Kind, sensor, actuator, constant, delay, function, explode, implode, merge, graph, switch, repeat, Vertex, vertex, Vertices, no_vertices, and_vertex}
use Rattle.algo_tree.specs.View.{vertices_of}
use Rattle.algo_tree.specs.Ends.{IsNoEnd, AllNoEnds, NoneInside, sensor_number, actuator_number, sensor_numbers, actuator_numbers, AreEndsNumbered}
use Rattle.multi_period.specs.declared.mark.Mark.{Mark}
use Rattle.multi_period.specs.Marks.{IsMarkable, AreMarked, MayHave}
use Rattle.multi_period.specs.Periods.{keep, body, period_by, all_periods}
use Rattle.syn_base.specs.Numbers.{numbers_below}

no_end : (k : Kind) → IsMarkable k → IsNoEnd k
no_end (function es) h = tt
no_end (graph outs) h = tt
no_end (switch values names) h = tt
no_end (repeat n feeds gives) h = tt
no_end (sensor n) h = absurd h
no_end (actuator n) h = absurd h
no_end (constant v) h = tt
no_end (delay vs) h = tt
no_end explode h = tt
no_end implode h = tt
no_end (merge values) h = tt

no_sensor : (k : Kind) → IsMarkable k → sensor_number k ≡ []
no_sensor (function es) h = refl
no_sensor (graph outs) h = refl
no_sensor (switch values names) h = refl
no_sensor (repeat n feeds gives) h = refl
no_sensor (sensor n) h = absurd h
no_sensor (actuator n) h = refl
no_sensor (constant v) h = refl
no_sensor (delay vs) h = refl
no_sensor explode h = refl
no_sensor implode h = refl
no_sensor (merge values) h = refl

no_actuator : (k : Kind) → IsMarkable k → actuator_number k ≡ []
no_actuator (function es) h = refl
no_actuator (graph outs) h = refl
no_actuator (switch values names) h = refl
no_actuator (repeat n feeds gives) h = refl
no_actuator (sensor n) h = refl
no_actuator (actuator n) h = absurd h
no_actuator (constant v) h = refl
no_actuator (delay vs) h = refl
no_actuator explode h = refl
no_actuator implode h = refl
no_actuator (merge values) h = refl

none-keeps : (l : Label) (is : List ℕ) (vs : List Vertex) → AllNoEnds (vertices_of vs) → AllNoEnds (vertices_of (map (keep l) is ++ vs))
none-keeps l [] vs h = h
none-keeps l (i ∷ is) vs h = ((tt, tt), none-keeps l is vs h)

pub inside-made : (mark : ℕ → Option Mark) (us : Vertices) → AreMarked mark us → NoneInside us → NoneInside (all_periods mark us)
inside-made mark no_vertices may h = tt
inside-made mark (and_vertex (vertex l vs) us) may h = both (mark 0) may.0 (all_periods (λ r. mark (suc r)) us) (inside-made (λ r. mark (suc r)) us may.1 h.1)
  where
    both : (o : Option Mark) → MayHave o l → (ws : Vertices) → NoneInside ws → NoneInside (and_vertex (period_by o (vertex l vs)) ws)
    both None k ws rest = (h.0, rest)
    both (Some m) k ws rest = (((tt, tt), none-keeps l (numbers_below (length l.outs)) (body l vs ∷ []) ((tt, ((tt, ((no_end l.kind k.kind, h.0), tt)), ((tt, tt), tt))), tt)), rest)

sensors-made : (mark : ℕ → Option Mark) (us : Vertices) → AreMarked mark us → sensor_numbers (all_periods mark us) ≡ sensor_numbers us
sensors-made mark no_vertices may = refl
sensors-made mark (and_vertex (vertex l vs) us) may = here (mark 0) may.0 (all_periods (λ r. mark (suc r)) us) ∙ ap (λ ns. sensor_number l.kind ++ ns) (sensors-made (λ r. mark (suc r)) us may.1)
  where
    here : (o : Option Mark) → MayHave o l → (ws : Vertices) → sensor_numbers (and_vertex (period_by o (vertex l vs)) ws) ≡ sensor_number l.kind ++ sensor_numbers ws
    here None k ws = refl
    here (Some m) k ws = ap (λ ns. ns ++ sensor_numbers ws) (sym (no_sensor l.kind k.kind))

actuators-made : (mark : ℕ → Option Mark) (us : Vertices) → AreMarked mark us → actuator_numbers (all_periods mark us) ≡ actuator_numbers us
actuators-made mark no_vertices may = refl
actuators-made mark (and_vertex (vertex l vs) us) may = here (mark 0) may.0 (all_periods (λ r. mark (suc r)) us) ∙ ap (λ ns. actuator_number l.kind ++ ns) (actuators-made (λ r. mark (suc r)) us may.1)
  where
    here : (o : Option Mark) → MayHave o l → (ws : Vertices) → actuator_numbers (and_vertex (period_by o (vertex l vs)) ws) ≡ actuator_number l.kind ++ actuator_numbers ws
    here None k ws = refl
    here (Some m) k ws = ap (λ ns. ns ++ actuator_numbers ws) (sym (no_actuator l.kind k.kind))

abbrev AreNumbered : List ℕ → Type 0
AreNumbered ns = ns ≡ numbers_below (length ns)

pub numbered-made : (mark : ℕ → Option Mark) (us : Vertices) → AreMarked mark us → AreEndsNumbered us → AreEndsNumbered (all_periods mark us)
numbered-made mark us may h = record {
  sensors = subst AreNumbered (sym (sensors-made mark us may)) h.sensors;
  actuators = subst AreNumbered (sym (actuators-made mark us may)) h.actuators;
}
