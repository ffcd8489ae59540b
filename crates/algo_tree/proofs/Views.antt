-- A declared vertex beside its plain data.
use Rattle.std.proofs.Common.{◌≡◌, ◌≢◌, ℕ, zero, suc, ◌+◌, ◌<◌, ◌≤◌, List, [], ◌∷◌, ◌++◌, length, get_or, map, drop, drop-cons, Result, Ok, Err, refl, sym, ap, ap₂, ◌∙◌, arith}
use Rattle.std.specs.Prelude.{IfOk}
use Rattle.syn_base.specs.declared.memory.OutOfMemory.{OutOfMemory}
use Rattle.level_meaning.specs.declared.source.Source.{Source}
use Rattle.algo_tree.specs.Tree.{vertex, and_vertex, Vertex as Plain}
use Rattle.algo_tree.specs.View.{label_view, kind_view, view_step, view, vertices_of, vertices_view}
use Rattle.algo_tree.specs.Typed.{outs_of, label_of}
use Rattle.algo_tree.specs.Ends.{sensor_length, sensor_lengths_in, actuator_length, actuator_lengths_in}
use Rattle.algo_tree.specs.declared.vertex.Kind.{Kind}
use Rattle.algo_tree.specs.declared.vertex.Kind.TheVariants.{Sensor, Actuator}
use Rattle.algo_tree.specs.declared.vertex.Vertex.{Vertex, fold_out-Vertex, out-Vertex}

-- a vertex as its label and what is inside it
pub view_out : (u : Vertex) → view u ≡ vertex (label_view (out-Vertex u)) (vertices_view (out-Vertex u).inner.items)
view_out = fold_out-Vertex Plain view_step

-- the lengths of the outputs of the vertex at a place
pub outs_at : (us : List Vertex) (i : ℕ) (u : Vertex) → i < length us → u ≡ get_or us i u → get_or (outs_of (vertices_view us)) i [] ≡ (out-Vertex u).outs
outs_at [] i u h is = absurd (omega arith)
outs_at (x ∷ us) zero u h is = ap (λ v. (label_of v).outs) (view_out x) ∙ ap (λ v. (out-Vertex v).outs) (sym is)
outs_at (x ∷ us) (suc i) u h is = outs_at us i u (omega arith) is

pub outs_past : (us : List Vertex) (i : ℕ) → length us ≤ i → get_or (outs_of (vertices_view us)) i [] ≡ []
outs_past [] i h = refl
outs_past (x ∷ us) zero h = absurd (omega arith)
outs_past (x ∷ us) (suc i) h = outs_past us i (omega arith)

-- the lengths of the sensors, and of the actuators, vertex by vertex
pub sensors-cons : (u : Vertex) (us : List Vertex) → sensor_lengths_in (vertices_view (u ∷ us))
    ≡ sensor_length (kind_view (out-Vertex u).kind) (out-Vertex u).outs ++ sensor_lengths_in (vertices_view us)
sensors-cons u us = ap (λ v. sensor_lengths_in (and_vertex v (vertices_view us))) (view_out u)

pub actuators-cons : (len : Source → ℕ) (u : Vertex) (us : List Vertex)
    → actuator_lengths_in len (vertices_view (u ∷ us)) ≡ actuator_length (kind_view (out-Vertex u).kind) (map len (out-Vertex u).ins) ++ actuator_lengths_in len (vertices_view us)
actuators-cons len u us = ap (λ v. actuator_lengths_in len (and_vertex v (vertices_view us))) (view_out u)

pub no_sensor : (k : Kind) (outs : List ℕ) → ((n : ℕ) → k ≢ Sensor n) → sensor_length (kind_view k) outs ≡ []
no_sensor (Sensor n) outs h = absurd (h n refl)
no_sensor _ outs h = refl

pub no_actuator : (k : Kind) (lens : List ℕ) → ((n : ℕ) → k ≢ Actuator n) → actuator_length (kind_view k) lens ≡ []
no_actuator (Actuator n) lens h = absurd (h n refl)
no_actuator _ lens h = refl

-- the vertex whose turn it is stands before those that are left
pub left_from : (us : List Vertex) (i : ℕ) (u : Vertex) → i < length us → u ≡ get_or us i u
    → vertices_view (drop i us) ≡ and_vertex (vertex (label_view (out-Vertex u)) (vertices_view (out-Vertex u).inner.items)) (vertices_view (drop (i + 1) us))
left_from us i u lt is =
    let one : suc i ≡ i + 1 = omega arith in
    ap vertices_view (drop-cons us i u lt ∙ ap₂ (λ v k. v ∷ drop k us) (sym is) one) ∙ ap (λ v. and_vertex v (vertices_view (drop (i + 1) us))) (view_out u)

-- a vertex that was made with the same inside
pub shared_answered : (u : Vertex) (us : List Vertex) (r : Result Vertex OutOfMemory) → map view us ≡ map view (out-Vertex u).inner.items
    → IfOk r (λ w. view w ≡ vertex (label_view (out-Vertex u)) (vertices_view us)) → IfOk r (λ w. view w ≡ view u)
shared_answered u us (Ok w) inside is = is ∙ ap (λ vs. vertex (label_view (out-Vertex u)) (vertices_of vs)) inside ∙ sym (view_out u)
shared_answered u us (Err e) inside is = tt
