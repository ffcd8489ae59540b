-- Operations that are halves of one delay are called in one sequence, and each actuator is one operation.
use Rattle.std.proofs.Common.{◌≡◌, ℕ, zero, suc, ◌+◌, ◌<◌, ◌≤◌, ◌⊎◌, Bool, true, false, ◌==◌, List, [], ◌∷◌, Option, Some, None, refl, sym, ap, subst, inl, inr, arith, ◌∙◌, ℤ}
use Rattle.std.specs.Prelude.{slice_get, nat_lt, if◌then◌else◌}
use Rattle.std.proofs.lemmas.Bool.{and_parts, eqb-true, false≢true, cases_lt}
use Rattle.std.proofs.lemmas.Option.{same_Some}
use Rattle.executive_program.specs.declared.Kind.{Kind}
use Rattle.executive_program.specs.declared.Kind.TheVariants.{Sensor, Actuator, Function, Constant, Get, Set, Explode, Implode, Merge}
use Rattle.executive_program.specs.declared.Vertex.{Vertex}
use Rattle.executive_program.specs.Graph.{Graph, with_vertex}
use Rattle.executive_program.specs.FlatOrder.{is_acyclic}
use Rattle.executive_program.specs.FlatValid.{is_flat, has_twin, has_get_half, is_get_half_of, is_get_half_by, actuators_from, kinds_of, is_number}
use Rattle.executive_program.specs.Meaning.{is_get, delay_number}
use Rattle.executive_program.proofs.Facts.{vertex_valid, twin_of}
use Rattle.executive_program.specs.declared.Seq.{Seq}
use Rattle.executive_program.specs.declared.program.Program.{Program}
use Rattle.executive_program.specs.Places.{calling}
use Rattle.executive_program.specs.WellFormed.{IsOrder}
use Rattle.semaphore_core.specs.Operation.{delay_by, delay_of}

-- the number of get halves grows past a get half
more_gets : (xs : List Vertex) (v u : ℕ) (x : Vertex) (z : List ℤ) → slice_get xs v ≡ Some x → x.kind ≡ Get z → v < u → delay_number xs v < delay_number xs u
more_gets [] v u x z e k l = absurd (cc)
more_gets (y ∷ ys) v zero x z e k l = absurd (omega arith)
more_gets (y ∷ ys) zero (suc u) x z e k l = let same : y.kind ≡ Get z = ap (λ (q : Vertex). q.kind) (same_Some y x e) ∙ k in
    let one : (if is_get y.kind then delay_number ys u + 1 else delay_number ys u)
    ≡ delay_number ys u + 1 = ap (λ (q : Kind). if is_get q then delay_number ys u + 1 else delay_number ys u) same in omega arith
more_gets (y ∷ ys) (suc v) (suc u) x z e k l = by (is_get y.kind) (more_gets ys v u x z e k (omega arith))
  where
    by : (b : Bool) → delay_number ys v < delay_number ys u → (if b then delay_number ys v + 1 else delay_number ys v) < (if b then delay_number ys u + 1 else delay_number ys u)
    by true r = omega arith
    by false r = r

-- so that a number is that of one get half
one_get : (xs : List Vertex) (v u : ℕ) (x y : Vertex) (z w : List ℤ) → slice_get xs v ≡ Some x → slice_get xs u ≡ Some y → x.kind ≡ Get z
    → y.kind ≡ Get w → delay_number xs v ≡ delay_number xs u → v ≡ u
one_get xs v u x y z w e f k q n = by (cases_lt v u) (cases_lt u v)
  where
    by : (v < u) ⊎ (u ≤ v) → (u < v) ⊎ (v ≤ u) → v ≡ u
    by (inl l) r = let a = more_gets xs v u x z e k l in absurd (omega arith)
    by (inr l) (inl r) = let a = more_gets xs u v y w f q r in absurd (omega arith)
    by (inr l) (inr r) = omega arith

-- an actuator's number is that of no other operation
pub later_row : (xs : List Vertex) (n v a : ℕ) (x : Vertex) → actuators_from n (kinds_of xs) ≡ true → slice_get xs v ≡ Some x → x.kind ≡ Actuator a → n ≤ a
later_row [] n v a x h e k = absurd (cc)
later_row (y ∷ ys) n zero a x h e k = let same : y.kind ≡ Actuator a = ap (λ (q : Vertex). q.kind) (same_Some y x e) ∙ k in
    let first : actuators_from n (Actuator a ∷ kinds_of ys) ≡ true = subst (λ (q : Kind). actuators_from n (q ∷ kinds_of ys) ≡ true) same h in
    let is = eqb-true a n (and_parts (a == n) (actuators_from (n + 1) (kinds_of ys)) first).0 in omega arith
later_row (y ∷ ys) n (suc v) a x h e k = by y.kind h (λ m h'. later_row ys m v a x h' e k)
  where
    by : (q : Kind) → actuators_from n (q ∷ kinds_of ys) ≡ true → ((m : ℕ) → actuators_from m (kinds_of ys) ≡ true → m ≤ a) → n ≤ a
    by (Actuator b) h' r = let z = r (n + 1) (and_parts (b == n) (actuators_from (n + 1) (kinds_of ys)) h').1 in omega arith
    by (Sensor i) h' r = r n h'
    by (Function b) h' r = r n h'
    by (Constant z) h' r = r n h'
    by (Get z) h' r = r n h'
    by Set h' r = r n h'
    by Explode h' r = r n h'
    by Implode h' r = r n h'
    by (Merge z) h' r = r n h'

-- after the first operation, whatever it is
abbrev Behind : ℕ → Kind → List Vertex → Type 0
Behind n k ys = (m : ℕ) × (n ≤ m) × (actuators_from m (kinds_of ys) ≡ true)

behind : (n : ℕ) (k : Kind) (ys : List Vertex) → actuators_from n (k ∷ kinds_of ys) ≡ true → Behind n k ys
behind n (Actuator b) ys h = (n + 1, (omega arith), (and_parts (b == n) (actuators_from (n + 1) (kinds_of ys)) h).1)
behind n (Sensor i) ys h = (n, (omega arith), h)
behind n (Function b) ys h = (n, (omega arith), h)
behind n (Constant z) ys h = (n, (omega arith), h)
behind n (Get z) ys h = (n, (omega arith), h)
behind n Set ys h = (n, (omega arith), h)
behind n Explode ys h = (n, (omega arith), h)
behind n Implode ys h = (n, (omega arith), h)
behind n (Merge z) ys h = (n, (omega arith), h)

one_first : (y : Vertex) (ys : List Vertex) (n u a : ℕ) (x : Vertex) → actuators_from n (kinds_of (y ∷ ys)) ≡ true → y.kind ≡ Actuator a → slice_get ys u ≡ Some x → x.kind ≡ Actuator a → ⊥
one_first y ys n u a x h k e q = let first : actuators_from n (Actuator a ∷ kinds_of ys) ≡ true = subst (λ (w : Kind). actuators_from n (w ∷ kinds_of ys) ≡ true) k h in
    let parts = and_parts (a == n) (actuators_from (n + 1) (kinds_of ys)) first in
    let is = eqb-true a n parts.0 in let l = later_row ys (n + 1) u a x parts.1 e q in omega arith

one_row : (xs : List Vertex) (n v u a : ℕ) (x y : Vertex) → actuators_from n (kinds_of xs) ≡ true → slice_get xs v ≡ Some x
    → slice_get xs u ≡ Some y → x.kind ≡ Actuator a → y.kind ≡ Actuator a → v ≡ u
one_row [] n v u a x y h e f k q = absurd (cc)
one_row (z ∷ zs) n zero zero a x y h e f k q = refl
one_row (z ∷ zs) n zero (suc u) a x y h e f k q = absurd (one_first z zs n u a y h (ap (λ (w : Vertex). w.kind) (same_Some z x e) ∙ k) f q)
one_row (z ∷ zs) n (suc v) zero a x y h e f k q = absurd (one_first z zs n v a x h (ap (λ (w : Vertex). w.kind) (same_Some z y f) ∙ q) e k)
one_row (z ∷ zs) n (suc v) (suc u) a x y h e f k q = let b = behind n z.kind zs h in ap (λ (i : ℕ). suc i) (one_row zs b.0 v u a x y b.2 e f k q)

pub numbered_rows : (g : Graph) → is_flat g ≡ true → actuators_from 0 (kinds_of g.vertices) ≡ true
numbered_rows g h = (and_parts _ (actuators_from 0 (kinds_of g.vertices)) (and_parts _ (is_acyclic g.vertices) h).0).1

pub same_actuator : (g : Graph) → is_flat g ≡ true → (v u a : ℕ) (x y : Vertex) → slice_get g.vertices v ≡ Some x → slice_get g.vertices u ≡ Some y → x.kind ≡ Actuator a → y.kind ≡ Actuator a → v ≡ u
same_actuator g valid v u a x y e f k q = one_row g.vertices 0 v u a x y (numbered_rows g valid) e f k q

-- the get half of the delay of which an operation is a half
pub record GetHalf (p : Program) (g : Graph) (v d : ℕ) : Type 0 where
  pub at : ℕ
  pub half : Vertex
  pub values : List ℤ
  pub stands : slice_get g.vertices at ≡ Some half
  pub kind : half.kind ≡ Get values
  pub number : delay_number g.vertices at ≡ d
  pub together : (calling p at).sequence ≡ (calling p v).sequence

module _ (p : Program) (g : Graph) (seqs : List Seq) (media : ℕ) (order : List ℕ) (h : IsOrder p g seqs media order) (valid : is_flat g ≡ true) where
  -- the get half that a set half names
  of_get : (v u d : ℕ) (y : Vertex) → slice_get g.vertices u ≡ Some y → (q : Kind) → y.kind ≡ q → is_get_half_by v y q ≡ true → delay_number g.vertices u ≡ d → GetHalf p g v d
  of_get v u d y e (Get z) k t n = record { at = u; half = y; values = z; stands = e; kind = k; number = n; together = ((h.called u y e).twins z v k (twin y.twin t)).0 }
    where
      twin : (o : Option ℕ) → is_number o v ≡ true → o ≡ Some v
      twin None t = absurd (false≢true t)
      twin (Some w) t = ap (λ (i : ℕ). Some i) (eqb-true w v t)
  of_get v u d y e (Sensor i) k t n = absurd (false≢true t)
  of_get v u d y e (Actuator i) k t n = absurd (false≢true t)
  of_get v u d y e (Function b) k t n = absurd (false≢true t)
  of_get v u d y e (Constant z) k t n = absurd (false≢true t)
  of_get v u d y e Set k t n = absurd (false≢true t)
  of_get v u d y e Explode k t n = absurd (false≢true t)
  of_get v u d y e Implode k t n = absurd (false≢true t)
  of_get v u d y e (Merge z) k t n = absurd (false≢true t)

  by_twin : (v d : ℕ) (twin : Option ℕ) → has_get_half g.vertices v twin ≡ true → delay_by g.vertices v Set twin ≡ Some d → GetHalf p g v d
  by_twin v d None t e = absurd (false≢true t)
  by_twin v d (Some u) t e = by (slice_get g.vertices u) refl (and_parts (nat_lt u v) (with_vertex (slice_get g.vertices u) false (is_get_half_of v)) t).1
    where
      by : (o : Option Vertex) → slice_get g.vertices u ≡ o → with_vertex o false (is_get_half_of v) ≡ true → GetHalf p g v d
      by None is w = absurd (false≢true w)
      by (Some y) is w = of_get v u d y is y.kind refl w (same_Some (delay_number g.vertices u) d e)

  pub get_half : (v d : ℕ) (x : Vertex) → slice_get g.vertices v ≡ Some x → delay_of g v x ≡ Some d → GetHalf p g v d
  get_half v d x is e = by x.kind refl x.twin (twin_of g v x (vertex_valid g valid v x is)) e
    where
      by : (k : Kind) → x.kind ≡ k → (twin : Option ℕ) → has_twin g.vertices v k twin ≡ true → delay_by g.vertices v k twin ≡ Some d → GetHalf p g v d
      by (Get z) k twin t e = record { at = v; half = x; values = z; stands = is; kind = k; number = same_Some (delay_number g.vertices v) d e; together = refl }
      by Set k twin t e = by_twin v d twin t e
      by (Sensor i) k twin t e = absurd (cc)
      by (Actuator i) k twin t e = absurd (cc)
      by (Function b) k twin t e = absurd (cc)
      by (Constant z) k twin t e = absurd (cc)
      by Explode k twin t e = absurd (cc)
      by Implode k twin t e = absurd (cc)
      by (Merge values) k twin t e = absurd (cc)

  -- the halves of one delay are called in one sequence
  pub same_delay : (v u d : ℕ) (x y : Vertex) → slice_get g.vertices v ≡ Some x → slice_get g.vertices u ≡ Some y → delay_of g v x ≡ Some d
      → delay_of g u y ≡ Some d → (calling p v).sequence ≡ (calling p u).sequence
  same_delay v u d x y e f a b = let k = get_half v d x e a in let q = get_half u d y f b in
      let same = one_get g.vertices k.at q.at k.half q.half k.values q.values k.stands q.stands k.kind q.kind (k.number ∙ sym q.number) in
      sym k.together ∙ ap (λ (i : ℕ). (calling p i).sequence) same ∙ q.together
