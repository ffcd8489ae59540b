-- The cell of a delay, the row of an actuator and the vector of a sensor stand at the number of the operation, and have its length.
use Rattle.std.proofs.Common.{◌≡◌, ℕ, zero, suc, ◌+◌, ◌<◌, true, false, ◌==◌, List, [], ◌∷◌, ◌++◌, map, length, Option, Some, None, refl, sym, ap, subst, arith, ◌∙◌, ℤ, zero-add, add-one}
use Rattle.std.specs.Prelude.{slice_get, slice_index_or, nat_lt, if◌then◌else◌}
use Rattle.std.proofs.lemmas.Bool.{and_parts, eqb-true, false≢true}
use Rattle.executive_program.specs.declared.Kind.{Kind}
use Rattle.executive_program.specs.declared.Kind.TheVariants.{Sensor, Actuator, Function, Constant, Get, Set, Explode, Implode, Merge}
use Rattle.executive_program.specs.declared.Vertex.{Vertex}
use Rattle.executive_program.specs.Graph.{Graph, with_vertex, lens_of}
use Rattle.executive_program.specs.FlatOrder.{is_acyclic}
use Rattle.executive_program.specs.FlatValid.{
  is_flat,
  fits,
  is_only,
  has_twin,
  has_set_half,
  has_get_half,
  is_set_half_of,
  is_set_half_by,
  is_get_half_of,
  is_get_half_by,
  sensors_from,
  actuators_from,
  kinds_of,
  is_number,
}
use Rattle.executive_program.specs.Meaning.{is_get, delay_number, initial_cell, initial_cells}
use Rattle.executive_program.specs.Fire.{kind_cell_len}
use Rattle.executive_program.proofs.Facts.{vertex_valid, fits_of, twin_of, sensors_numbered}
use Rattle.executive_program.proofs.KindLens.{one_is, only_is}
use Rattle.executive_program.specs.FlatLaws.{sensor_len, sensor_lens, actuator_lens, actuator_len}
use Rattle.operation_desks.specs.Operation.{delay_by, delay_of}

-- entry i of a list that is numbered from n on is there, and has this value
pub record Stands (n i : ℕ) (lens : List ℕ) (len : ℕ) : Type 0 where
  pub place : ℕ
  pub is : i ≡ n + place
  pub there : place < length lens
  pub same : slice_index_or lens place 0 ≡ len

pub behind : (n i x : ℕ) (lens : List ℕ) (len : ℕ) → Stands (n + 1) i lens len → Stands n i (x ∷ lens) len
behind n i x lens len s = record { place = suc s.place; is = (let e = s.is in omega arith); there = (let e = s.there in omega arith); same = s.same }

pub stands_first : (i : ℕ) (lens : List ℕ) (len : ℕ) → Stands 0 i lens len → (i < length lens) × (slice_index_or lens i 0 ≡ len)
stands_first i lens len s = let e : i ≡ s.place = s.is ∙ zero-add s.place in ((let t = s.there in omega arith), ap (λ (k : ℕ). slice_index_or lens k 0) e ∙ s.same)

-- every operation of the list fits its kind
abbrev pub AllFit : Graph → List Vertex → Type 0
AllFit g xs = (v : ℕ) (x : Vertex) → slice_get xs v ≡ Some x → fits g.bodies x.kind (lens_of g.vertices x.ins) x.outs ≡ true

pub all_fit : (g : Graph) → is_flat g ≡ true → AllFit g g.vertices
all_fit g h v x e = fits_of g v x (vertex_valid g h v x e)

pub actuator_one : (g : Graph) (x : Vertex) (a : ℕ) → x.kind ≡ Actuator a → fits g.bodies x.kind (lens_of g.vertices x.ins) x.outs ≡ true
    → lens_of g.vertices x.ins ≡ slice_index_or (lens_of g.vertices x.ins) 0 0 ∷ []
actuator_one g x a k h = one_is (lens_of g.vertices x.ins)
    (and_parts (length (lens_of g.vertices x.ins) == 1) (length x.outs == 0)
    (subst (λ (q : Kind). fits g.bodies q (lens_of g.vertices x.ins) x.outs ≡ true) k h)).0

actuator_place : (g : Graph) (n v a : ℕ) (xs : List Vertex) (x : Vertex) → AllFit g xs → actuators_from n (kinds_of xs) ≡ true → slice_get xs v ≡ Some x → x.kind ≡ Actuator a
    → Stands n a (actuator_lens g xs) (slice_index_or (lens_of g.vertices x.ins) 0 0)
actuator_place g n v a [] x f h e k = absurd (cc)
actuator_place g n zero a (y ∷ ys) x f h e k =
    let same : y ≡ x = cc in
    let kind : y.kind ≡ Actuator a = ap (λ (z : Vertex). z.kind) same ∙ k in
    let first : actuators_from n (Actuator a ∷ kinds_of ys) ≡ true = subst (λ (z : Kind). actuators_from n (z ∷ kinds_of ys) ≡ true) kind h in
    let here = eqb-true a n (and_parts (a == n) (actuators_from (n + 1) (kinds_of ys)) first).0 in
    let len : actuator_lens g (y ∷ ys) ≡ slice_index_or (lens_of g.vertices x.ins) 0 0 ∷ actuator_lens g ys =
    (λ j. actuator_len g y (kind j) ++ actuator_lens g ys) ∙ ap (λ (l : List ℕ). l ++ actuator_lens g ys) (ap (λ (z : Vertex). lens_of g.vertices z.ins) same ∙ actuator_one g x a k (f 0 x e)) in
    record { place = 0; is = (let q : a ≡ n + 0 = omega arith in q); there = (let q = ap (λ (l : List ℕ). length l) len in omega arith); same = ap (λ (l : List ℕ). slice_index_or l 0 0) len }
actuator_place g n (suc v) a (y ∷ ys) x f h e k = by y.kind refl h (λ m h'. actuator_place g m v a ys x (λ u z. f (suc u) z) h' e k)
  where
    by : (kind : Kind) → y.kind ≡ kind → actuators_from n (kind ∷ kinds_of ys) ≡ true
        → ((m : ℕ) → actuators_from m (kinds_of ys) ≡ true → Stands m a (actuator_lens g ys) (slice_index_or (lens_of g.vertices x.ins) 0 0))
        → Stands n a (actuator_len g y kind ++ actuator_lens g ys) (slice_index_or (lens_of g.vertices x.ins) 0 0)
    by (Actuator i) q h' later =
        subst (λ (l : List ℕ). Stands n a (l ++ actuator_lens g ys) (slice_index_or (lens_of g.vertices x.ins) 0 0)) (sym (actuator_one g y i q (f 0 y refl)))
        (behind n a (slice_index_or (lens_of g.vertices y.ins) 0 0) (actuator_lens g ys) (slice_index_or (lens_of g.vertices x.ins) 0 0)
        (later (n + 1) (and_parts (i == n) (actuators_from (n + 1) (kinds_of ys)) h').1))
    by (Sensor i) q h' later = later n h'
    by (Function b) q h' later = later n h'
    by (Constant z) q h' later = later n h'
    by (Get z) q h' later = later n h'
    by Set q h' later = later n h'
    by Explode q h' later = later n h'
    by Implode q h' later = later n h'
    by (Merge values) q h' later = later n h'

-- the row of an actuator
pub actuator_at : (g : Graph) → is_flat g ≡ true → (v a : ℕ) (x : Vertex) → slice_get g.vertices v ≡ Some x → x.kind ≡ Actuator a
    → (a < length (actuator_lens g g.vertices)) × (slice_index_or (actuator_lens g g.vertices) a 0 ≡ slice_index_or (lens_of g.vertices x.ins) 0 0)
actuator_at g h v a x e k = stands_first a (actuator_lens g g.vertices) (slice_index_or (lens_of g.vertices x.ins) 0 0) (actuator_place g 0 v a g.vertices x (all_fit g h) numbered e k)
  where
    numbered : actuators_from 0 (kinds_of g.vertices) ≡ true
    numbered = (and_parts _ (actuators_from 0 (kinds_of g.vertices)) (and_parts _ (is_acyclic g.vertices) h).0).1

sensor_place : (g : Graph) (n v i : ℕ) (xs : List Vertex) (x : Vertex) → AllFit g xs → sensors_from n (kinds_of xs) ≡ true → slice_get xs v
    ≡ Some x → x.kind ≡ Sensor i → Stands n i (sensor_lens xs) (slice_index_or x.outs 0 0)
sensor_place g n v i [] x f h e k = absurd (cc)
sensor_place g n zero i (y ∷ ys) x f h e k =
    let same : y ≡ x = cc in
    let kind : y.kind ≡ Sensor i = ap (λ (z : Vertex). z.kind) same ∙ k in
    let first : sensors_from n (Sensor i ∷ kinds_of ys) ≡ true = subst (λ (z : Kind). sensors_from n (z ∷ kinds_of ys) ≡ true) kind h in
    let here = eqb-true i n (and_parts (i == n) (sensors_from (n + 1) (kinds_of ys)) first).0 in
    let len : sensor_lens (y ∷ ys) ≡ slice_index_or x.outs 0 0 ∷ sensor_lens ys =
    (λ j. sensor_len (kind j) y.outs ++ sensor_lens ys) ∙ ap (λ (z : Vertex). slice_index_or z.outs 0 0 ∷ sensor_lens ys) same in
    record { place = 0; is = (let q : i ≡ n + 0 = omega arith in q); there = (let q = ap (λ (l : List ℕ). length l) len in omega arith); same = ap (λ (l : List ℕ). slice_index_or l 0 0) len }
sensor_place g n (suc v) i (y ∷ ys) x f h e k = by y.kind refl h (λ m h'. sensor_place g m v i ys x (λ u z. f (suc u) z) h' e k)
  where
    by : (kind : Kind) → y.kind ≡ kind → sensors_from n (kind ∷ kinds_of ys) ≡ true → ((m : ℕ) → sensors_from m (kinds_of ys) ≡ true → Stands m i (sensor_lens ys) (slice_index_or x.outs 0 0))
        → Stands n i (sensor_len kind y.outs ++ sensor_lens ys) (slice_index_or x.outs 0 0)
    by (Sensor a) q h' later = behind n i (slice_index_or y.outs 0 0) (sensor_lens ys) (slice_index_or x.outs 0 0) (later (n + 1) (and_parts (a == n) (sensors_from (n + 1) (kinds_of ys)) h').1)
    by (Actuator a) q h' later = later n h'
    by (Function b) q h' later = later n h'
    by (Constant z) q h' later = later n h'
    by (Get z) q h' later = later n h'
    by Set q h' later = later n h'
    by Explode q h' later = later n h'
    by Implode q h' later = later n h'
    by (Merge values) q h' later = later n h'

-- the vector of a sensor
pub sensor_at : (g : Graph) → is_flat g ≡ true → (v i : ℕ) (x : Vertex) → slice_get g.vertices v ≡ Some x → x.kind ≡ Sensor i
    → (i < length (sensor_lens g.vertices)) × (slice_index_or (sensor_lens g.vertices) i 0 ≡ slice_index_or x.outs 0 0)
sensor_at g h v i x e k = stands_first i (sensor_lens g.vertices) (slice_index_or x.outs 0 0) (sensor_place g 0 v i g.vertices x (all_fit g h) (sensors_numbered g h) e k)

-- the cell of the delay whose get half is operation v
abbrev pub HasLen : List ℕ → ℕ → ℕ → Type 0
HasLen lens d n = (d < length lens) × (slice_index_or lens d 0 ≡ n)

pub get_cell : (xs : List Vertex) (v : ℕ) (x : Vertex) (z : List ℤ) → slice_get xs v ≡ Some x → x.kind ≡ Get z → HasLen (map length (initial_cells xs)) (delay_number xs v) (length z)
get_cell [] v x z e k = absurd (cc)
get_cell (y ∷ ys) zero x z e k =
    let same : y ≡ x = cc in
    let kind : y.kind ≡ Get z = ap (λ (u : Vertex). u.kind) same ∙ k in
    subst (λ (q : Kind). HasLen (map length (initial_cell q ++ initial_cells ys)) 0 (length z)) (sym kind) ((omega arith), refl)
get_cell (y ∷ ys) (suc v) x z e k = by y.kind (get_cell ys v x z e k)
  where
    by : (kind : Kind) → HasLen (map length (initial_cells ys)) (delay_number ys v) (length z)
        → HasLen (map length (initial_cell kind ++ initial_cells ys)) (if is_get kind then delay_number ys v + 1 else delay_number ys v) (length z)
    by (Get w) r = rw add-one ((let t = r.0 in omega arith), r.1)
    by (Sensor i) r = r
    by (Actuator i) r = r
    by (Function b) r = r
    by (Constant w) r = r
    by Set r = r
    by Explode r = r
    by Implode r = r
    by (Merge values) r = r

-- the get half of the delay of a set half
pub record GetHalf (g : Graph) (v u : ℕ) (x : Vertex) : Type 0 where
  pub half : Vertex
  pub values : List ℤ
  pub stands : slice_get g.vertices u ≡ Some half
  pub kind : half.kind ≡ Get values
  pub len : lens_of g.vertices x.ins ≡ length values ∷ []

set_lens : (g : Graph) (v u n : ℕ) (x : Vertex) (twin : Option ℕ) → slice_get g.vertices v ≡ Some x → x.kind ≡ Set → is_number twin v
    ≡ true → has_set_half g.vertices u n twin ≡ true → lens_of g.vertices x.ins ≡ n ∷ []
set_lens g v u n x None is k h q = absurd (false≢true h)
set_lens g v u n x (Some w) is k h q = only_is n (lens_of g.vertices x.ins) (and_parts (is_number x.twin u) (is_only n (lens_of g.vertices x.ins)) by_kind).1
  where
    found : is_set_half_of g.vertices u n x ≡ true
    found = subst (λ (o : Option Vertex). with_vertex o false (is_set_half_of g.vertices u n) ≡ true) is
        (subst (λ (m : ℕ). with_vertex (slice_get g.vertices m) false (is_set_half_of g.vertices u n) ≡ true) (eqb-true w v h)
        (and_parts (nat_lt u w) (with_vertex (slice_get g.vertices w) false (is_set_half_of g.vertices u n)) q).1)

    by_kind : is_set_half_by g.vertices u n x Set ≡ true
    by_kind = subst (λ (z : Kind). is_set_half_by g.vertices u n x z ≡ true) k found

get_half : (g : Graph) → is_flat g ≡ true → (v u : ℕ) (x : Vertex) → slice_get g.vertices v ≡ Some x → x.kind ≡ Set → has_get_half g.vertices v (Some u) ≡ true → GetHalf g v u x
get_half g valid v u x is k h = by (slice_get g.vertices u) refl
  where
    test : with_vertex (slice_get g.vertices u) false (is_get_half_of v) ≡ true
    test = (and_parts (nat_lt u v) (with_vertex (slice_get g.vertices u) false (is_get_half_of v)) h).1

    by_half : (y : Vertex) → slice_get g.vertices u ≡ Some y → (q : Kind) → y.kind ≡ q → is_get_half_by v y q ≡ true → has_twin g.vertices u q y.twin ≡ true → GetHalf g v u x
    by_half y e (Get z) q t w = record { half = y; values = z; stands = e; kind = q; len = set_lens g v u (length z) x y.twin is k t w }
    by_half y e (Sensor i) q t w = absurd (false≢true t)
    by_half y e (Actuator i) q t w = absurd (false≢true t)
    by_half y e (Function b) q t w = absurd (false≢true t)
    by_half y e (Constant z) q t w = absurd (false≢true t)
    by_half y e Set q t w = absurd (false≢true t)
    by_half y e Explode q t w = absurd (false≢true t)
    by_half y e Implode q t w = absurd (false≢true t)
    by_half y e (Merge values) q t w = absurd (false≢true t)

    by : (o : Option Vertex) → slice_get g.vertices u ≡ o → GetHalf g v u x
    by None e = absurd (false≢true (subst (λ (o : Option Vertex). with_vertex o false (is_get_half_of v) ≡ true) e test))
    by (Some y) e = by_half y e y.kind refl (subst (λ (o : Option Vertex). with_vertex o false (is_get_half_of v) ≡ true) e test) (twin_of g u y (vertex_valid g valid u y e))

-- The cell of the delay of which an operation is a half is there, and has its length.
pub delay_cell : (g : Graph) → is_flat g ≡ true → (v d : ℕ) (x : Vertex) → slice_get g.vertices v ≡ Some x → delay_of g v x ≡ Some d
    → HasLen (map length (initial_cells g.vertices)) d (kind_cell_len x.kind (lens_of g.vertices x.ins))
delay_cell g valid v d x is e = by x.kind refl x.twin (twin_of g v x (vertex_valid g valid v x is)) e
  where
    Goal : Kind → Type 0
    Goal k = HasLen (map length (initial_cells g.vertices)) d (kind_cell_len k (lens_of g.vertices x.ins))

    by_twin : x.kind ≡ Set → (twin : Option ℕ) → has_get_half g.vertices v twin ≡ true → delay_by g.vertices v Set twin ≡ Some d
        → HasLen (map length (initial_cells g.vertices)) d (slice_index_or (lens_of g.vertices x.ins) 0 0)
    by_twin k None t e = absurd (cc)
    by_twin k (Some u) t e =
        let r = get_half g valid v u x is k t in
        let number : delay_number g.vertices u ≡ d = cc in
        let len : length r.values ≡ slice_index_or (lens_of g.vertices x.ins) 0 0 = sym (ap (λ (l : List ℕ). slice_index_or l 0 0) r.len) in
        subst (λ (n : ℕ). HasLen (map length (initial_cells g.vertices)) n (slice_index_or (lens_of g.vertices x.ins) 0 0)) number
        (subst (λ (n : ℕ). HasLen (map length (initial_cells g.vertices)) (delay_number g.vertices u) n) len (get_cell g.vertices u r.half r.values r.stands r.kind))

    by : (k : Kind) → x.kind ≡ k → (twin : Option ℕ) → has_twin g.vertices v k twin ≡ true → delay_by g.vertices v k twin ≡ Some d → Goal k
    by (Get z) k twin t e = let number : delay_number g.vertices v ≡ d = cc in subst (λ (n : ℕ). HasLen (map length (initial_cells g.vertices)) n (length z)) number (get_cell g.vertices v x z is k)
    by Set k twin t e = by_twin k twin t e
    by (Sensor i) k twin t e = absurd (cc)
    by (Actuator i) k twin t e = absurd (cc)
    by (Function b) k twin t e = absurd (cc)
    by (Constant z) k twin t e = absurd (cc)
    by Explode k twin t e = absurd (cc)
    by Implode k twin t e = absurd (cc)
    by (Merge values) k twin t e = absurd (cc)

-- an operation that is no half of a delay has no cell
pub no_delay : (g : Graph) → is_flat g ≡ true → (v : ℕ) (x : Vertex) → slice_get g.vertices v ≡ Some x → delay_of g v x ≡ None → kind_cell_len x.kind (lens_of g.vertices x.ins) ≡ 0
no_delay g valid v x is e = by x.kind x.twin (twin_of g v x (vertex_valid g valid v x is)) e
  where
    by_twin : (twin : Option ℕ) → has_get_half g.vertices v twin ≡ true → delay_by g.vertices v Set twin ≡ None → slice_index_or (lens_of g.vertices x.ins) 0 0 ≡ 0
    by_twin None t e = absurd (false≢true t)
    by_twin (Some u) t e = absurd (cc)

    by : (k : Kind) (twin : Option ℕ) → has_twin g.vertices v k twin ≡ true → delay_by g.vertices v k twin ≡ None → kind_cell_len k (lens_of g.vertices x.ins) ≡ 0
    by (Get z) twin t e = absurd (cc)
    by Set twin t e = by_twin twin t e
    by (Sensor i) twin t e = refl
    by (Actuator i) twin t e = refl
    by (Function b) twin t e = refl
    by (Constant z) twin t e = refl
    by Explode twin t e = refl
    by Implode twin t e = refl
    by (Merge values) twin t e = refl
