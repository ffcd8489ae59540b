-- A pruned tree is a valid tree.
use Rattle.std.proofs.Common.{◌≡◌, ℕ, suc, ◌==◌, ◌≤◌, List, [], ◌∷◌, ◌++◌, length, map, slice_index_or, Bool, true, false, cond, Option, Some, None, refl, sym, ap, ap₂, ◌∙◌, subst, arith}
use Rattle.std.proofs.lemmas.Bool.{eqb-true}
use Rattle.syn_base.specs.Numbers.{numbers_below}
use Rattle.algo_tree.specs.declared.Guard.{Guard}
use Rattle.algo_tree.specs.Level.{Node}
use Rattle.algo_tree.specs.Order.{IsAcyclic}
use Rattle.algo_tree.specs.Parts.{HasDistinctParts}
use Rattle.algo_tree.specs.Tree.{Label, Kind, sensor, actuator, constant, delay, function, explode, implode, merge, graph, switch, repeat, Vertex, vertex, Vertices, no_vertices, and_vertex}
use Rattle.algo_tree.specs.Meaning.{nodes, vertices_in}
use Rattle.algo_tree.specs.Counted.{operations, operations_by}
use Rattle.algo_tree.specs.Typed.{AreGuardsTyped, label_of, outs_of, source_length, fed_length, IsKindTyped, IsTyped, AllTyped, IsBodyTyped}
use Rattle.algo_tree.specs.Well.{AreNumbered, AreOwn, OwnGuards, AreCases, IsOne, IsEmpty, IsKindWell, IsWell, AllWell}
use Rattle.algo_tree.specs.Ends.{IsNoEnd, HasNoEnds, AllNoEnds, NoneInside, sensor_number, actuator_number, sensor_numbers, actuator_numbers}
use Rattle.algo_tree.specs.Valid.{IsTree}
use Rattle.wiring_laws.specs.Wiring.{pick, wiring}
use Rattle.wiring_laws.specs.Pruned.{own_of, passing, prune, prune_all, pruned}
use Rattle.wiring_laws.proofs.Idle.{IsKindIdle, idle}
use Rattle.wiring_laws.proofs.Fits.{fits, inputs-fit}
use Rattle.wiring_laws.proofs.Prunable.{AllSome, all-some, CanPrune, AllCanPrune, can_prune, counted-prune_all}
use Rattle.wiring_laws.proofs.Meaning.{nodes-prune}
use Rattle.wiring_laws.proofs.Named.{bounds-pruned, names-pruned}

-- what a pruned vertex has of the vertex
ins-either : (l : Label) (us : Vertices) (os : List (Option ℕ)) (b : Bool) → (label_of (cond b (passing l os) (vertex l us))).ins ≡ l.ins
ins-either l us os true = refl
ins-either l us os false = refl

guards-either : (l : Label) (us : Vertices) (os : List (Option ℕ)) (b : Bool) → (label_of (cond b (passing l os) (vertex l us))).guards ≡ l.guards
guards-either l us os true = refl
guards-either l us os false = refl

outs-either : (l : Label) (us : Vertices) (os : List (Option ℕ)) (b : Bool) → (label_of (cond b (passing l os) (vertex l us))).outs ≡ l.outs
outs-either l us os true = refl
outs-either l us os false = refl

ins-prune : (u : Vertex) → (label_of (prune u)).ins ≡ (label_of u).ins
ins-prune (vertex l us) = ins-either l (prune_all us) (wiring (vertex l us)) (operations (vertex l us) == 0)

guards-prune : (u : Vertex) → (label_of (prune u)).guards ≡ (label_of u).guards
guards-prune (vertex l us) = guards-either l (prune_all us) (wiring (vertex l us)) (operations (vertex l us) == 0)

outs-prune : (u : Vertex) → (label_of (prune u)).outs ≡ (label_of u).outs
outs-prune (vertex l us) = outs-either l (prune_all us) (wiring (vertex l us)) (operations (vertex l us) == 0)

all-outs : (us : Vertices) → outs_of (prune_all us) ≡ outs_of us
all-outs no_vertices = refl
all-outs (and_vertex u us) = ap₂ (λ o os. o ∷ os) (outs-prune u) (all-outs us)

-- the form
case-of : (v : Vertex) (us : Vertices) → AreOwn (label_of v).ins × OwnGuards (label_of v).guards → AreCases us → AreCases (and_vertex v us)
case-of (vertex l vs) us h rest = (h, rest)

of-case : (v : Vertex) (us : Vertices) → AreCases (and_vertex v us) → (AreOwn (label_of v).ins × OwnGuards (label_of v).guards) × AreCases us
of-case (vertex l vs) us h = h

cases-prune : (us : Vertices) → AreCases us → AreCases (prune_all us)
cases-prune no_vertices h = tt
cases-prune (and_vertex u us) h =
    let k = of-case u us h in
    case-of (prune u) (prune_all us) (subst AreOwn (sym (ins-prune u)) k.0.0, subst OwnGuards (sym (guards-prune u)) k.0.1) (cases-prune us k.1)

one-prune : (us : Vertices) → IsOne us → IsOne (prune_all us)
one-prune no_vertices h = h
one-prune (and_vertex u no_vertices) h = tt
one-prune (and_vertex u (and_vertex v us)) h = absurd h

empty-prune : (us : Vertices) → IsEmpty us → IsEmpty (prune_all us)
empty-prune no_vertices h = tt
empty-prune (and_vertex u us) h = absurd h

kind-well : (k : Kind) (gs : List Guard) (us : Vertices) → nodes (prune_all us) ≡ nodes us → IsKindWell k gs us → IsKindWell k gs (prune_all us)
kind-well (graph outs) gs us e h = (h.0, subst (λ cs. IsAcyclic cs × HasDistinctParts cs) (sym e) h.1)
kind-well (switch values names) gs us e h = (
  (
    h.0.0,
    (
      subst (λ (cs : List Node). length cs ≡ suc (length values)) (sym e) h.0.1.0,
      (subst HasDistinctParts (sym e) h.0.1.1.0, cases-prune us h.0.1.1.1),
    ),
  ),
  (subst AreNumbered (sym e) h.1.0, h.1.1),
)
kind-well (repeat n feeds gives) gs us e h = (h.0, ((h.1.0.0, one-prune us h.1.0.1), h.1.1))
kind-well (sensor n) gs us e h = empty-prune us h
kind-well (actuator n) gs us e h = empty-prune us h
kind-well (constant v) gs us e h = empty-prune us h
kind-well (delay vs) gs us e h = empty-prune us h
kind-well (function es) gs us e h = empty-prune us h
kind-well explode gs us e h = empty-prune us h
kind-well implode gs us e h = empty-prune us h
kind-well (merge values) gs us e h = empty-prune us h

well-either : (l : Label) (us : Vertices) → CanPrune (vertex l us) → IsWell (vertex l us) → AllWell (prune_all us) → (b : Bool)
    → (operations (vertex l us) == 0) ≡ b → IsWell (cond b (passing l (wiring (vertex l us))) (vertex l (prune_all us)))
well-either l us can w inner true e = (((can.0 (eqb-true (operations (vertex l us)) 0 e)).0.0.0, (λ r lt. absurd (omega (arith, lt)), tt)), tt)
well-either l us can w inner false e = (kind-well l.kind l.guards us (nodes-prune us can.1) w.0, inner)

mutual
  well-prune : (u : Vertex) → CanPrune u → IsWell u → IsWell (prune u)
  well-prune (vertex l us) can w = well-either l us can w (well-prune_all us can.1 w.1) (operations (vertex l us) == 0) refl

  well-prune_all : (us : Vertices) → AllCanPrune us → AllWell us → AllWell (prune_all us)
  well-prune_all no_vertices can w = tt
  well-prune_all (and_vertex u us) can w = (well-prune u can.0 w.0, well-prune_all us can.1 w.1)

-- the lengths
passed-lens : (lens : List ℕ) (os : List (Option ℕ)) → AllSome os → map (source_length lens []) (map own_of os) ≡ map (pick 0 lens) os
passed-lens lens [] h = refl
passed-lens lens (None ∷ os) h = absurd h
passed-lens lens (Some k ∷ os) h = ap (λ ns. slice_index_or lens k 0 ∷ ns) (passed-lens lens os h)

module _ (lens : List ℕ) (outs : List ℕ) (us : Vertices)
    (level : (own : List ℕ) (os : List (List ℕ)) → AllTyped own os us → AllTyped own os (prune_all us))
    (body : (fed : List ℕ) → IsBodyTyped fed us → IsBodyTyped fed (prune_all us)) where
  kind-typed : (k : Kind) (os : List (List ℕ)) → IsKindTyped k lens outs os (λ own os. AllTyped own os us) (λ fed. IsBodyTyped fed us)
      → IsKindTyped k lens outs os (λ own os. AllTyped own os (prune_all us)) (λ fed. IsBodyTyped fed (prune_all us))
  kind-typed (graph sources) os h = (level lens os h.0, h.1)
  kind-typed (switch values names) os h = ((h.0.0, level lens [] h.0.1), h.1)
  kind-typed (repeat n feeds gives) os h = ((h.0.0, body (map (fed_length lens) feeds) h.0.1), h.1)
  kind-typed (sensor n) os h = h
  kind-typed (actuator n) os h = h
  kind-typed (constant v) os h = h
  kind-typed (delay vs) os h = h
  kind-typed (function es) os h = h
  kind-typed explode os h = h
  kind-typed implode os h = h
  kind-typed (merge values) os h = h

typed-whole : (lens : List ℕ) (l : Label) (us : Vertices) → IsTyped lens (vertex l us)
    → ((own : List ℕ) (os : List (List ℕ)) → AllTyped own os us → AllTyped own os (prune_all us))
    → ((fed : List ℕ) → IsBodyTyped fed us → IsBodyTyped fed (prune_all us)) → IsTyped lens (vertex l (prune_all us))
typed-whole lens l us t level body = (
  t.0,
  subst (λ os. IsKindTyped l.kind lens l.outs os (λ own os. AllTyped own os (prune_all us))
      (λ fed. IsBodyTyped fed (prune_all us))) (sym (all-outs us)) (kind-typed lens l.outs us level body l.kind (outs_of us) t.1),
)

typed-either : (lens : List ℕ) (l : Label) (us : Vertices) → IsWell (vertex l us) → IsTyped lens (vertex l us)
    → ((own : List ℕ) (os : List (List ℕ)) → AllTyped own os us → AllTyped own os (prune_all us))
    → ((fed : List ℕ) → IsBodyTyped fed us → IsBodyTyped fed (prune_all us))
    → (b : Bool) → (operations (vertex l us) == 0) ≡ b → IsTyped lens (cond b (passing l (wiring (vertex l us))) (vertex l (prune_all us)))
typed-either lens l us w t level body true e =
    let i = idle lens (vertex l us) w t (eqb-true (operations (vertex l us)) 0 e) in
    (t.0, (tt, fits lens (vertex l us) i t ∙ sym (passed-lens lens (wiring (vertex l us)) (all-some (length lens) (wiring (vertex l us)) (inputs-fit lens (vertex l us) i t)))))
typed-either lens l us w t level body false e = typed-whole lens l us t level body

mutual
  typed-prune : (lens : List ℕ) (u : Vertex) → IsWell u → IsTyped lens u → IsTyped lens (prune u)
  typed-prune lens (vertex l us) w t =
      typed-either lens l us w t (λ own os deep. typed-prune_all own os us w.1 deep) (λ fed deep. typed-prune_body fed us w.1 deep)
      (operations (vertex l us) == 0) refl

  typed-prune_all : (own : List ℕ) (os : List (List ℕ)) (us : Vertices) → AllWell us → AllTyped own os us → AllTyped own os (prune_all us)
  typed-prune_all own os no_vertices w t = tt
  typed-prune_all own os (and_vertex u us) w t = (
    (
      subst (AreGuardsTyped (source_length own os)) (sym (guards-prune u)) t.0.0,
      subst (λ ss. IsTyped (map (source_length own os) ss) (prune u)) (sym (ins-prune u)) (typed-prune (map (source_length own os) (label_of u).ins) u w.0 t.0.1),
    ),
    typed-prune_all own os us w.1 t.1,
  )

  typed-prune_body : (fed : List ℕ) (us : Vertices) → AllWell us → IsBodyTyped fed us → IsBodyTyped fed (prune_all us)
  typed-prune_body fed no_vertices w t = absurd t
  typed-prune_body fed (and_vertex u us) w t = typed-prune fed u w.0 t

-- sensors and actuators
ends-either : (l : Label) (us : Vertices) (os : List (Option ℕ)) → IsNoEnd l.kind → AllNoEnds us → (b : Bool) → HasNoEnds (cond b (passing l os) (vertex l us))
ends-either l us os k h true = (tt, tt)
ends-either l us os k h false = (k, h)

mutual
  ends-prune : (u : Vertex) → HasNoEnds u → HasNoEnds (prune u)
  ends-prune (vertex l us) h = ends-either l (prune_all us) (wiring (vertex l us)) h.0 (ends-prune_all us h.1) (operations (vertex l us) == 0)

  ends-prune_all : (us : Vertices) → AllNoEnds us → AllNoEnds (prune_all us)
  ends-prune_all no_vertices h = tt
  ends-prune_all (and_vertex u us) h = (ends-prune u h.0, ends-prune_all us h.1)

inside-of : (v : Vertex) (us : Vertices) → AllNoEnds (vertices_in v) → NoneInside us → NoneInside (and_vertex v us)
inside-of (vertex l vs) us h rest = (h, rest)

inside-either : (l : Label) (us : Vertices) (os : List (Option ℕ)) → AllNoEnds us → (b : Bool) → AllNoEnds (vertices_in (cond b (passing l os) (vertex l us)))
inside-either l us os h true = tt
inside-either l us os h false = h

inside-prune : (us : Vertices) → NoneInside us → NoneInside (prune_all us)
inside-prune no_vertices h = tt
inside-prune (and_vertex (vertex l vs) us) h =
    inside-of (prune (vertex l vs)) (prune_all us) (inside-either l (prune_all vs) (wiring (vertex l vs)) (ends-prune_all vs h.0) (operations (vertex l vs) == 0)) (inside-prune us h.1)

no-sensor : (k : Kind) (us : Vertices) → IsKindIdle k us → sensor_number k ≡ []
no-sensor (graph outs) us h = refl
no-sensor (switch values names) us h = refl
no-sensor (repeat n feeds gives) us h = refl
no-sensor (sensor n) us h = absurd h
no-sensor (actuator n) us h = refl
no-sensor (constant v) us h = refl
no-sensor (delay vs) us h = refl
no-sensor (function es) us h = refl
no-sensor explode us h = refl
no-sensor implode us h = refl
no-sensor (merge values) us h = refl

no-actuator : (k : Kind) (us : Vertices) → IsKindIdle k us → actuator_number k ≡ []
no-actuator (graph outs) us h = refl
no-actuator (switch values names) us h = refl
no-actuator (repeat n feeds gives) us h = refl
no-actuator (sensor n) us h = refl
no-actuator (actuator n) us h = absurd h
no-actuator (constant v) us h = refl
no-actuator (delay vs) us h = refl
no-actuator (function es) us h = refl
no-actuator explode us h = refl
no-actuator implode us h = refl
no-actuator (merge values) us h = refl

sensors-cons : (v : Vertex) (us : Vertices) → sensor_numbers (and_vertex v us) ≡ sensor_number (label_of v).kind ++ sensor_numbers us
sensors-cons (vertex l vs) us = refl

actuators-cons : (v : Vertex) (us : Vertices) → actuator_numbers (and_vertex v us) ≡ actuator_number (label_of v).kind ++ actuator_numbers us
actuators-cons (vertex l vs) us = refl

sensor-either : (l : Label) (us : Vertices) → CanPrune (vertex l us) → (b : Bool) → (operations (vertex l us) == 0) ≡ b
    → sensor_number (label_of (cond b (passing l (wiring (vertex l us))) (vertex l (prune_all us)))).kind ≡ sensor_number l.kind
sensor-either l us can true e = sym (no-sensor l.kind us ((can.0 (eqb-true (operations (vertex l us)) 0 e)).0.0.1))
sensor-either l us can false e = refl

actuator-either : (l : Label) (us : Vertices) → CanPrune (vertex l us) → (b : Bool) → (operations (vertex l us) == 0) ≡ b
    → actuator_number (label_of (cond b (passing l (wiring (vertex l us))) (vertex l (prune_all us)))).kind ≡ actuator_number l.kind
actuator-either l us can true e = sym (no-actuator l.kind us ((can.0 (eqb-true (operations (vertex l us)) 0 e)).0.0.1))
actuator-either l us can false e = refl

sensors-prune : (us : Vertices) → AllCanPrune us → sensor_numbers (prune_all us) ≡ sensor_numbers us
sensors-prune no_vertices can = refl
sensors-prune (and_vertex (vertex l vs) us) can =
    sensors-cons (prune (vertex l vs)) (prune_all us) ∙ ap₂ (λ xs ys. xs ++ ys) (sensor-either l vs can.0 (operations (vertex l vs) == 0) refl) (sensors-prune us can.1)

actuators-prune : (us : Vertices) → AllCanPrune us → actuator_numbers (prune_all us) ≡ actuator_numbers us
actuators-prune no_vertices can = refl
actuators-prune (and_vertex (vertex l vs) us) can =
    actuators-cons (prune (vertex l vs)) (prune_all us) ∙ ap₂ (λ xs ys. xs ++ ys) (actuator-either l vs can.0 (operations (vertex l vs) == 0) refl) (actuators-prune us can.1)

pub tree-pruned : (main : Vertex) → IsTree main → IsTree (pruned main)
tree-pruned (vertex l us) h =
    let can = can_prune [] (vertex l us) h.well h.typed in
    record {
      portless = h.portless;
      well = (kind-well l.kind l.guards us (nodes-prune us can.1) h.well.0, well-prune_all us can.1 h.well.1);
      typed = typed-whole [] l us h.typed (λ own os deep. typed-prune_all own os us h.well.1 deep) (λ fed deep. typed-prune_body fed us h.well.1 deep);
      inside = inside-prune us h.inside;
      numbered = record {
        sensors = subst (λ ns. ns ≡ numbers_below (length ns)) (sym (sensors-prune us can.1)) h.numbered.sensors;
        actuators = subst (λ ns. ns ≡ numbers_below (length ns)) (sym (actuators-prune us can.1)) h.numbered.actuators;
      };
      few = subst (λ n. operations_by l.kind n ≤ 2048) (sym (counted-prune_all us)) h.few;
      named = names-pruned (vertex l us) h.named;
      bounded = bounds-pruned (vertex l us) h.bounded;
    }
