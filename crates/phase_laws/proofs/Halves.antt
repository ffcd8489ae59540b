-- In a valid graph the halves of a delay name each other.
use Rattle.std.proofs.Common.{◌≡◌, ℕ, true, false, List, length, Option, Some, None, refl, sym, ap, ◌∙◌, ℤ}
use Rattle.std.specs.Prelude.{slice_get, nat_lt}
use Rattle.std.proofs.lemmas.Bool.{and_parts, eqb-true, false≢true}
use Rattle.executive_program.specs.declared.Kind.{Kind}
use Rattle.executive_program.specs.declared.Kind.TheVariants.{Sensor, Actuator, Function, Constant, Get, Set, Explode, Implode, Merge}
use Rattle.executive_program.specs.declared.Vertex.{Vertex}
use Rattle.executive_program.specs.Graph.{Graph, with_vertex, lens_of}
use Rattle.executive_program.specs.FlatValid.{is_flat, is_only, has_twin, has_set_half, has_get_half, is_set_half_of, is_set_half_by, is_get_half_of, is_get_half_by, is_number}
use Rattle.executive_program.proofs.Facts.{vertex_valid, twin_of}

pub record SetHalf (g : Graph) (v : ℕ) (twin : Option ℕ) : Type 0 where
  pub at : ℕ
  pub half : Vertex
  pub twin_is : twin ≡ Some at
  pub stands : slice_get g.vertices at ≡ Some half
  pub kind : half.kind ≡ Set
  pub back : half.twin ≡ Some v

pub record GetHalf (g : Graph) (v : ℕ) (twin : Option ℕ) : Type 0 where
  pub at : ℕ
  pub half : Vertex
  pub values : List ℤ
  pub twin_is : twin ≡ Some at
  pub stands : slice_get g.vertices at ≡ Some half
  pub kind : half.kind ≡ Get values
  pub back : half.twin ≡ Some v

named : (o : Option ℕ) (v : ℕ) → is_number o v ≡ true → o ≡ Some v
named None v e = absurd (false≢true e)
named (Some w) v e = ap (λ (i : ℕ). Some i) (eqb-true w v e)

set_by : (g : Graph) (v n : ℕ) (y : Vertex) (k : Kind) → is_set_half_by g.vertices v n y k ≡ true → (k ≡ Set) × (y.twin ≡ Some v)
set_by g v n y Set e = (refl, named y.twin v (and_parts (is_number y.twin v) (is_only n (lens_of g.vertices y.ins)) e).0)
set_by g v n y (Sensor i) e = absurd (false≢true e)
set_by g v n y (Actuator i) e = absurd (false≢true e)
set_by g v n y (Function b) e = absurd (false≢true e)
set_by g v n y (Constant z) e = absurd (false≢true e)
set_by g v n y (Get z) e = absurd (false≢true e)
set_by g v n y Explode e = absurd (false≢true e)
set_by g v n y Implode e = absurd (false≢true e)
set_by g v n y (Merge z) e = absurd (false≢true e)

get_by : (v : ℕ) (y : Vertex) (k : Kind) → is_get_half_by v y k ≡ true → (z : List ℤ) × (k ≡ Get z) × (y.twin ≡ Some v)
get_by v y (Get z) e = (z, refl, named y.twin v e)
get_by v y (Sensor i) e = absurd (false≢true e)
get_by v y (Actuator i) e = absurd (false≢true e)
get_by v y (Function b) e = absurd (false≢true e)
get_by v y (Constant z) e = absurd (false≢true e)
get_by v y Set e = absurd (false≢true e)
get_by v y Explode e = absurd (false≢true e)
get_by v y Implode e = absurd (false≢true e)
get_by v y (Merge z) e = absurd (false≢true e)

set_half_by : (g : Graph) (v n : ℕ) (twin : Option ℕ) → has_set_half g.vertices v n twin ≡ true → SetHalf g v twin
set_half_by g v n None e = absurd (false≢true e)
set_half_by g v n (Some t) e = by (slice_get g.vertices t) refl (and_parts (nat_lt v t) (with_vertex (slice_get g.vertices t) false (is_set_half_of g.vertices v n)) e).1
  where
    by : (o : Option Vertex) → slice_get g.vertices t ≡ o → with_vertex o false (is_set_half_of g.vertices v n) ≡ true → SetHalf g v (Some t)
    by None q w = absurd (false≢true w)
    by (Some y) q w = let r = set_by g v n y y.kind w in record { at = t; half = y; twin_is = refl; stands = q; kind = r.0; back = r.1 }

get_half_by : (g : Graph) (v : ℕ) (twin : Option ℕ) → has_get_half g.vertices v twin ≡ true → GetHalf g v twin
get_half_by g v None e = absurd (false≢true e)
get_half_by g v (Some u) e = by (slice_get g.vertices u) refl (and_parts (nat_lt u v) (with_vertex (slice_get g.vertices u) false (is_get_half_of v)) e).1
  where
    by : (o : Option Vertex) → slice_get g.vertices u ≡ o → with_vertex o false (is_get_half_of v) ≡ true → GetHalf g v (Some u)
    by None q w = absurd (false≢true w)
    by (Some y) q w = let r = get_by v y y.kind w in record { at = u; half = y; values = r.0; twin_is = refl; stands = q; kind = r.1; back = r.2 }

module _ (g : Graph) (valid : is_flat g ≡ true) (v : ℕ) (x : Vertex) (is : slice_get g.vertices v ≡ Some x) where
  twin_there : (k : Kind) → x.kind ≡ k → has_twin g.vertices v k x.twin ≡ true
  twin_there k e = ap (λ (q : Kind). has_twin g.vertices v q x.twin) (sym e) ∙ twin_of g v x (vertex_valid g valid v x is)

  -- the other half of an operation that is a half
  pub set_half : (z : List ℤ) → x.kind ≡ Get z → SetHalf g v x.twin
  set_half z e = set_half_by g v (length z) x.twin (twin_there (Get z) e)

  pub get_half : x.kind ≡ Set → GetHalf g v x.twin
  get_half e = get_half_by g v x.twin (twin_there Set e)
