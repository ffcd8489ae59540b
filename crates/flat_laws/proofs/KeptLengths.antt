-- Unrolling and guarding keep the lengths of sensors and actuators.
use Rattle.std.proofs.Common.{◌≡◌, ℕ, ℤ, List, [], ◌∷◌, ◌++◌, map, refl, sym, ap, ap₂, ◌∙◌, subst, zero-add}
use Rattle.algo_tree.specs.declared.Source.{Source}
use Rattle.algo_tree.specs.declared.Source.TheVariants.{Own, Of}
use Rattle.algo_tree.specs.declared.Guard.{Guard}
use Rattle.algo_tree.specs.Tree.{Label, Kind, sensor, actuator, constant, delay, function, explode, implode, merge, graph, switch, repeat, Vertex, vertex, Vertices, no_vertices, and_vertex}
use Rattle.algo_tree.specs.Ends.{sensor_length, actuator_length, sensor_lengths_in, actuator_lengths_in, sensor_lengths, actuator_lengths}
use Rattle.algo_tree.specs.Meaning.{vertices_in}
use Rattle.algo_tree.specs.Typed.{label_of, outs_of, source_length}
use Rattle.algo_tree.specs.Valid.{IsTree}
use Rattle.flat_laws.specs.Unrolled.{unrolled_at, unroll, unroll_all}
use Rattle.flat_laws.proofs.Labels.{unrolled_kind, label-unroll, outs-unroll}
use Rattle.flat_laws.specs.Guarded.{shift, guarded_by, guarded, guarded_all, guarded_cases, guard}

-- two levels of the same sensors and actuators
pub record SameEnds (us vs : Vertices) : Type 0 where
  pub sensors : sensor_lengths_in vs ≡ sensor_lengths_in us
  pub actuators : actuator_lengths_in (source_length [] (outs_of vs)) vs ≡ actuator_lengths_in (source_length [] (outs_of us)) us

sensors-cons : (u : Vertex) (us : Vertices) → sensor_lengths_in (and_vertex u us) ≡ sensor_length (label_of u).kind (label_of u).outs ++ sensor_lengths_in us
sensors-cons (vertex l vs) us = refl

actuators-cons : (len : Source → ℕ) (u : Vertex) (us : Vertices) → actuator_lengths_in len (and_vertex u us)
    ≡ actuator_length (label_of u).kind (map len (label_of u).ins) ++ actuator_lengths_in len us
actuators-cons len (vertex l vs) us = refl

-- unrolling
sensor-unroll : (k : Kind) (outs : List ℕ) → sensor_length (unrolled_kind k) outs ≡ sensor_length k outs
sensor-unroll (repeat n feeds gives) outs = refl
sensor-unroll (sensor m) outs = refl
sensor-unroll (actuator m) outs = refl
sensor-unroll (constant v) outs = refl
sensor-unroll (delay v) outs = refl
sensor-unroll (function es) outs = refl
sensor-unroll explode outs = refl
sensor-unroll implode outs = refl
sensor-unroll (merge values) outs = refl
sensor-unroll (graph sources) outs = refl
sensor-unroll (switch values names) outs = refl

actuator-unroll : (k : Kind) (lens : List ℕ) → actuator_length (unrolled_kind k) lens ≡ actuator_length k lens
actuator-unroll (repeat n feeds gives) lens = refl
actuator-unroll (sensor m) lens = refl
actuator-unroll (actuator m) lens = refl
actuator-unroll (constant v) lens = refl
actuator-unroll (delay v) lens = refl
actuator-unroll (function es) lens = refl
actuator-unroll explode lens = refl
actuator-unroll implode lens = refl
actuator-unroll (merge values) lens = refl
actuator-unroll (graph sources) lens = refl
actuator-unroll (switch values names) lens = refl

sensors-unroll : (us : Vertices) → sensor_lengths_in (unroll_all us) ≡ sensor_lengths_in us
sensors-unroll no_vertices = refl
sensors-unroll (and_vertex u us) =
    sensors-cons (unroll u) (unroll_all us)
    ∙ ap₂ (λ ns ms. ns ++ ms) (ap (λ l. sensor_length l.kind l.outs) (label-unroll u) ∙ sensor-unroll (label_of u).kind (label_of u).outs) (sensors-unroll us)
    ∙ sym (sensors-cons u us)

actuators-unroll : (len : Source → ℕ) (us : Vertices) → actuator_lengths_in len (unroll_all us) ≡ actuator_lengths_in len us
actuators-unroll len no_vertices = refl
actuators-unroll len (and_vertex u us) =
    actuators-cons len (unroll u) (unroll_all us)
    ∙ ap₂ (λ ns ms. ns ++ ms) (ap (λ l. actuator_length l.kind (map len l.ins)) (label-unroll u) ∙ actuator-unroll (label_of u).kind (map len (label_of u).ins)) (actuators-unroll len us)
    ∙ sym (actuators-cons len u us)

ends-unroll : (us : Vertices) → SameEnds us (unroll_all us)
ends-unroll us = record {
  sensors = sensors-unroll us;
  actuators = ap (λ outs. actuator_lengths_in (source_length [] outs) (unroll_all us)) (outs-unroll us) ∙ actuators-unroll (source_length [] (outs_of us)) us;
}

-- guarding the vertices of the main graph, around which there is no case
module _ (l : Label) (us : Vertices) (inner : List Guard → ℕ → Vertices) (cases : List Guard → ℕ → List ℤ → Vertices) where
  abbrev made : Kind → Label
  made k = label_of (guarded_by [] 0 l k us inner cases)

  outs-by : (k : Kind) → (made k).outs ≡ l.outs
  outs-by (graph outs) = refl
  outs-by (switch values names) = refl
  outs-by (repeat m feeds gives) = refl
  outs-by (sensor m) = refl
  outs-by (actuator m) = refl
  outs-by (constant v) = refl
  outs-by (delay v) = refl
  outs-by (function es) = refl
  outs-by explode = refl
  outs-by implode = refl
  outs-by (merge values) = refl

  sensor-by : (k : Kind) → sensor_length (made k).kind (made k).outs ≡ sensor_length k l.outs
  sensor-by (graph outs) = refl
  sensor-by (switch values names) = refl
  sensor-by (repeat m feeds gives) = refl
  sensor-by (sensor m) = refl
  sensor-by (actuator m) = refl
  sensor-by (constant v) = refl
  sensor-by (delay v) = refl
  sensor-by (function es) = refl
  sensor-by explode = refl
  sensor-by implode = refl
  sensor-by (merge values) = refl

  actuator-by : (len : Source → ℕ) (k : Kind) → actuator_length (made k).kind (map len (made k).ins) ≡ actuator_length k (map len (map (shift 0) l.ins))
  actuator-by len (graph outs) = refl
  actuator-by len (switch values names) = refl
  actuator-by len (repeat m feeds gives) = refl
  actuator-by len (sensor m) = refl
  actuator-by len (actuator m) = refl
  actuator-by len (constant v) = refl
  actuator-by len (delay v) = refl
  actuator-by len (function es) = refl
  actuator-by len explode = refl
  actuator-by len implode = refl
  actuator-by len (merge values) = refl

outs-guarded : (u : Vertex) → (label_of (guarded [] 0 u)).outs ≡ (label_of u).outs
outs-guarded (vertex l us) = outs-by l us _ _ l.kind

sensor-guarded : (u : Vertex) → sensor_length (label_of (guarded [] 0 u)).kind (label_of (guarded [] 0 u)).outs ≡ sensor_length (label_of u).kind (label_of u).outs
sensor-guarded (vertex l us) = sensor-by l us _ _ l.kind

same_shift : (s : Source) → shift 0 s ≡ s
same_shift (Own k) = ap Own (zero-add k)
same_shift (Of r p) = refl

none_shifted : (ss : List Source) → map (shift 0) ss ≡ ss
none_shifted [] = refl
none_shifted (s ∷ ss) = ap₂ (λ x xs. x ∷ xs) (same_shift s) (none_shifted ss)

actuator-guarded : (len : Source → ℕ) (u : Vertex)
    → actuator_length (label_of (guarded [] 0 u)).kind (map len (label_of (guarded [] 0 u)).ins) ≡ actuator_length (label_of u).kind (map len (label_of u).ins)
actuator-guarded len (vertex l us) = actuator-by l us _ _ len l.kind ∙ ap (λ ss. actuator_length l.kind (map len ss)) (none_shifted l.ins)

outs-all : (us : Vertices) → outs_of (guarded_all [] 0 us) ≡ outs_of us
outs-all no_vertices = refl
outs-all (and_vertex u us) = ap₂ (λ os oss. os ∷ oss) (outs-guarded u) (outs-all us)

sensors-guarded : (us : Vertices) → sensor_lengths_in (guarded_all [] 0 us) ≡ sensor_lengths_in us
sensors-guarded no_vertices = refl
sensors-guarded (and_vertex u us) = sensors-cons (guarded [] 0 u) (guarded_all [] 0 us) ∙ ap₂ (λ ns ms. ns ++ ms) (sensor-guarded u) (sensors-guarded us) ∙ sym (sensors-cons u us)

actuators-guarded : (len : Source → ℕ) (us : Vertices) → actuator_lengths_in len (guarded_all [] 0 us) ≡ actuator_lengths_in len us
actuators-guarded len no_vertices = refl
actuators-guarded len (and_vertex u us) =
    actuators-cons len (guarded [] 0 u) (guarded_all [] 0 us) ∙ ap₂ (λ ns ms. ns ++ ms) (actuator-guarded len u) (actuators-guarded len us) ∙ sym (actuators-cons len u us)

ends-guarded : (us : Vertices) → SameEnds us (guarded_all [] 0 us)
ends-guarded us = record {
  sensors = sensors-guarded us;
  actuators = ap (λ outs. actuator_lengths_in (source_length [] outs) (guarded_all [] 0 us)) (outs-all us) ∙ actuators-guarded (source_length [] (outs_of us)) us;
}

-- the main graph
unrolled-main : (l : Label) (k : Kind) (us : Vertices) → k ≡ graph [] → vertices_in (unrolled_at l k us) ≡ us
unrolled-main l k us e = ap (λ x. vertices_in (unrolled_at l x us)) e

guarded-main : (l : Label) (k : Kind) (us : Vertices) (inner : List Guard → ℕ → Vertices) (cases : List Guard → ℕ → List ℤ → Vertices) → k
    ≡ graph [] → vertices_in (guarded_by [] 0 l k us inner cases) ≡ inner [] 0
guarded-main l k us inner cases e = ap (λ x. vertices_in (guarded_by [] 0 l x us inner cases)) e

sensors-inside : (u : Vertex) → sensor_lengths u ≡ sensor_lengths_in (vertices_in u)
sensors-inside (vertex l us) = refl

actuators-inside : (u : Vertex) → actuator_lengths u ≡ actuator_lengths_in (source_length [] (outs_of (vertices_in u))) (vertices_in u)
actuators-inside (vertex l us) = refl

same-main : (u v : Vertex) → SameEnds (vertices_in u) (vertices_in v) → (sensor_lengths v ≡ sensor_lengths u) × (actuator_lengths v ≡ actuator_lengths u)
same-main u v h = (sensors-inside v ∙ h.sensors ∙ sym (sensors-inside u), actuators-inside v ∙ h.actuators ∙ sym (actuators-inside u))

pub lengths-unroll : (main : Vertex) → IsTree main → (sensor_lengths (unroll main) ≡ sensor_lengths main) × (actuator_lengths (unroll main) ≡ actuator_lengths main)
lengths-unroll (vertex l us) h =
    same-main (vertex l us) (unroll (vertex l us)) (subst (SameEnds us) (sym (unrolled-main l l.kind (unroll_all us) h.portless.kind)) (ends-unroll us))

pub lengths-guard : (main : Vertex) → IsTree main → (sensor_lengths (guard main) ≡ sensor_lengths main) × (actuator_lengths (guard main) ≡ actuator_lengths main)
lengths-guard (vertex l us) h =
    same-main (vertex l us) (guard (vertex l us))
    (subst (SameEnds us) (sym (guarded-main l l.kind us (λ inside m. guarded_all inside m us) (λ inside m values. guarded_cases inside m values 0 us) h.portless.kind)) (ends-guarded us))
