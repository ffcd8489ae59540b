-- What a valid graph says of each operation, and the places of sensors and delays.
use Rattle.std.proofs.Common.{◌≡◌, ℕ, zero, suc, ◌+◌, Bool, true, ◌==◌, List, [], ◌∷◌, ◌++◌, length, sym, ap, subst, arith, add-zero, add-one, zero-add, ◌∙◌}
use Rattle.std.specs.Prelude.{slice_get, slice_index_or, Some, if◌then◌else◌, ℤ}
use Rattle.std.proofs.lemmas.Bool.{and_parts, eqb-true}
use Rattle.flat_graph.specs.declared.vertex.Kind.{Kind}
use Rattle.flat_graph.specs.declared.vertex.Kind.TheVariants.{Sensor, Get}
use Rattle.flat_graph.specs.declared.vertex.Vertex.{Vertex}
use Rattle.flat_graph.specs.Graph.{Graph, lens_of}
use Rattle.flat_graph.specs.Order.{is_acyclic}
use Rattle.flat_graph.specs.Valid.{is_flat, is_vertex, fits, has_twin, all_from, sensors_from, actuators_from, kinds_of}
use Rattle.flat_graph.specs.Meaning.{is_get, delay_number}
use Rattle.flat_graph.specs.Laws.{sensor_len, sensor_lens, delay_len, delay_lens}

at_place : (test : ℕ → Vertex → Bool) (a i : ℕ) (xs : List Vertex) (x : Vertex) → all_from test a xs ≡ true → slice_get xs i ≡ Some x → test (a + i) x ≡ true
at_place test a i [] x h e = absurd (cc)
at_place test a zero (y ∷ xs) x h e =
    let same : y ≡ x = cc in
    rw add-zero (subst (λ (z : Vertex). test a z ≡ true) same (and_parts (test a y) (all_from test (a + 1) xs) h).0)
at_place test a (suc i) (y ∷ xs) x h e =
    subst (λ (n : ℕ). test n x ≡ true) (let n : a + 1 + i ≡ a + suc i = omega arith in n) (at_place test (a + 1) i xs x (and_parts (test a y) (all_from test (a + 1) xs) h).1 e)

pub all_valid : (g : Graph) → is_flat g ≡ true → all_from (is_vertex g) 0 g.vertices ≡ true
all_valid g h =
    let acyclic = and_parts _ (is_acyclic g.vertices) h in
    let actuators = and_parts _ (actuators_from 0 (kinds_of g.vertices)) acyclic.0 in
    let sensors = and_parts _ (sensors_from 0 (kinds_of g.vertices)) actuators.0 in
    (and_parts _ (all_from (is_vertex g) 0 g.vertices) sensors.0).1

pub sensors_numbered : (g : Graph) → is_flat g ≡ true → sensors_from 0 (kinds_of g.vertices) ≡ true
sensors_numbered g h =
    let acyclic = and_parts _ (is_acyclic g.vertices) h in
    let actuators = and_parts _ (actuators_from 0 (kinds_of g.vertices)) acyclic.0 in
    (and_parts _ (sensors_from 0 (kinds_of g.vertices)) actuators.0).1

pub vertex_valid : (g : Graph) → is_flat g ≡ true → (v : ℕ) (x : Vertex) → slice_get g.vertices v ≡ Some x → is_vertex g v x ≡ true
vertex_valid g h v x e = subst (λ (n : ℕ). is_vertex g n x ≡ true) (zero-add v) (at_place (is_vertex g) 0 v g.vertices x (all_valid g h) e)

pub twin_of : (g : Graph) (v : ℕ) (x : Vertex) → is_vertex g v x ≡ true → has_twin g.vertices v x.kind x.twin ≡ true
twin_of g v x h = (and_parts _ (has_twin g.vertices v x.kind x.twin) h).1

pub fits_of : (g : Graph) (v : ℕ) (x : Vertex) → is_vertex g v x ≡ true → fits g.bodies x.kind (lens_of g.vertices x.ins) x.outs ≡ true
fits_of g v x h = (and_parts _ (fits g.bodies x.kind (lens_of g.vertices x.ins) x.outs) (and_parts _ (has_twin g.vertices v x.kind x.twin) h).0).1

-- sensor i stands at place i - n among sensors that are numbered from n on
abbrev SensorAt : ℕ → ℕ → List ℕ → Vertex → Type 0
SensorAt n i lens x = (k : ℕ) × (i ≡ n + k) × (slice_index_or lens k 0 ≡ slice_index_or x.outs 0 0)

sensor_place : (n v i : ℕ) (xs : List Vertex) (x : Vertex) → sensors_from n (kinds_of xs) ≡ true → slice_get xs v ≡ Some x → x.kind ≡ Sensor i → SensorAt n i (sensor_lens xs) x
sensor_place n v i [] x h e k = absurd (cc)
sensor_place n zero i (y ∷ ys) x h e k =
    let same : y ≡ x = cc in
    let kind : y.kind ≡ Sensor i = ap (λ (z : Vertex). z.kind) same ∙ k in
    let first : sensors_from n (Sensor i ∷ kinds_of ys) ≡ true = subst (λ (z : Kind). sensors_from n (z ∷ kinds_of ys) ≡ true) kind h in
    let here = eqb-true i n (and_parts (i == n) (sensors_from (n + 1) (kinds_of ys)) first).0 in
    (0, here ∙ sym (add-zero n), (λ j. slice_index_or (sensor_len (kind j) y.outs ++ sensor_lens ys) 0 0) ∙ ap (λ (z : Vertex). slice_index_or z.outs 0 0) same)
sensor_place n (suc v) i (y ∷ ys) x h e k = by y.kind h (λ m h'. sensor_place m v i ys x h' e k)
  where
    by : (kind : Kind) → sensors_from n (kind ∷ kinds_of ys) ≡ true → ((m : ℕ) → sensors_from m (kinds_of ys) ≡ true → SensorAt m i (sensor_lens ys) x)
        → SensorAt n i (sensor_len kind y.outs ++ sensor_lens ys) x
    by (Sensor i') h' later =
        let r = later (n + 1) (and_parts (i' == n) (sensors_from (n + 1) (kinds_of ys)) h').1 in
        (suc r.0, (let s : i ≡ n + suc r.0 = omega (arith, r.1) in s), r.2)
    by _ h' later = later n h'

pub sensor_at : (g : Graph) → is_flat g ≡ true → (v i : ℕ) (x : Vertex) → slice_get g.vertices v ≡ Some x → x.kind ≡ Sensor i → slice_index_or (sensor_lens g.vertices) i 0 ≡ slice_index_or x.outs 0 0
sensor_at g h v i x e k =
    let r = sensor_place 0 v i g.vertices x (sensors_numbered g h) e k in
    ap (λ (n : ℕ). slice_index_or (sensor_lens g.vertices) n 0) (r.1 ∙ zero-add r.0) ∙ r.2

-- the delay of a get half stands at its number
pub delay_at : (xs : List Vertex) (v : ℕ) (x : Vertex) (z : List ℤ) → slice_get xs v ≡ Some x → x.kind ≡ Get z → slice_index_or (delay_lens xs) (delay_number xs v) 0 ≡ length z
delay_at [] v x z e k = absurd (cc)
delay_at (y ∷ ys) zero x z e k =
    let same : y ≡ x = cc in
    let kind : y.kind ≡ Get z = ap (λ (u : Vertex). u.kind) same ∙ k in
    (λ j. slice_index_or (delay_len (kind j) ++ delay_lens ys) 0 0)
delay_at (y ∷ ys) (suc v) x z e k = by y.kind (delay_at ys v x z e k)
  where
    by : (kind : Kind) → slice_index_or (delay_lens ys) (delay_number ys v) 0 ≡ length z
        → slice_index_or (delay_len kind ++ delay_lens ys) (if is_get kind then delay_number ys v + 1 else delay_number ys v) 0 ≡ length z
    by (Get z') r = rw add-one r
    by _ r = r
