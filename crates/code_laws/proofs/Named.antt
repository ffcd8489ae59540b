-- What a text names is found by its name: operators, media and operations.
use Rattle.std.proofs.Common.{◌≡◌, ℕ, zero, suc, ◌+◌, ◌<◌, Bool, not, ◌&&◌, true, nat_le, List, [], ◌∷◌, length, map, refl, sym, ap, arith, ◌∙◌, subst, Option, Some, inl, inr}
use Rattle.std.specs.Prelude.{slice_get, slice_index_or}
use Rattle.std.specs.List.{list_all, list_any, count_by}
use Rattle.std.specs.Str.{bytes_eq}
use Rattle.std.proofs.lemmas.Bool.{and_parts, eqb-true, not-true, cases_order, false≢true}
use Rattle.std.proofs.lemmas.Option.{same_Some, get_or_from_slice_get}
use Rattle.std.proofs.lemmas.Slice.Eq.{bytes_eq-Decides}
use Rattle.syn_base.specs.Name.{is_name}
use Rattle.sequence_build_laws.specs.declared.Vertex.{Vertex}
use Rattle.sequence_build_laws.specs.Graph.{Graph, with_vertex, lens_of}
use Rattle.sequence_build_laws.specs.FlatValid.{is_flat, is_path, is_vertex, is_len, all_from, are_named_apart, sensors_from, actuators_from, kinds_of, is_guard, fits, has_twin}
use Rattle.sequence_build_laws.specs.FlatOrder.{is_acyclic}
use Rattle.sequence_build_laws.specs.declared.Medium.{Medium}
use Rattle.sequence_build_laws.specs.Archi.{Architecture, is_archi, are_distinct, occurs_once, names_of, are_bounded, is_medium, are_joined, name_or_none}
use Rattle.sequence_build_laws.proofs.Reading.{any_at}
use Rattle.macro_code.specs.Text.{Names, operation_name, operator_name, medium_name}
use Rattle.syn_base.specs.Bytes.{Bytes}
use Rattle.macro_code.specs.ReadText.{place_in, medium_names, operation_names}
use Rattle.code_laws.proofs.ListPlaces.{got_some, got_front, got_back, got_map, map_got, all_here, once, found}

pub bytes_same : (v w : Bytes) → bytes_eq v w ≡ true → v ≡ w
bytes_same v w h = (bytes_eq-Decides v w).0 h

pub bytes_self : (w : Bytes) → bytes_eq w w ≡ true
bytes_self w = (bytes_eq-Decides w w).1 refl

-- names that occur once each
alone : (names : List Bytes) → are_distinct names ≡ true → (i j : ℕ) (w : Bytes) → slice_get names i ≡ Some w → slice_get names j ≡ Some w → i ≡ j
alone names distinct i j w e f =
    let one = eqb-true (count_by (bytes_eq w) names) 1 (all_here (occurs_once names) names distinct i w e) in
    once (bytes_eq w) names (omega (arith, one)) i j w w e f (bytes_self w) (bytes_self w)

-- operations with names of their own
differ : (xs : List Vertex) → are_named_apart xs ≡ true → (i j : ℕ) (x y : Vertex) → slice_get xs i ≡ Some x → slice_get xs j ≡ Some y → x.name ≡ y.name → i < j → ⊥
differ [] apart i j x y e f same l = cc
differ (z ∷ zs) apart zero zero x y e f same l = omega (arith, l)
differ (z ∷ zs) apart (suc i) zero x y e f same l = omega (arith, l)
differ (z ∷ zs) apart zero (suc j) x y e f same l =
    let none = not-true (list_any (λ (u : Vertex). bytes_eq z.name u.name) zs) (and_parts (not (list_any (λ (u : Vertex). bytes_eq z.name u.name) zs)) (are_named_apart zs) apart).0 in
    let own : z.name ≡ y.name = ap (λ (u : Vertex). u.name) (same_Some z x e) ∙ same in
    let some = any_at (λ (u : Vertex). bytes_eq z.name u.name) zs j y f (subst (λ (w : Bytes). bytes_eq z.name w ≡ true) own (bytes_self z.name)) in
    false≢true (sym none ∙ some)
differ (z ∷ zs) apart (suc i) (suc j) x y e f same l =
    differ zs (and_parts (not (list_any (λ (u : Vertex). bytes_eq z.name u.name) zs)) (are_named_apart zs) apart).1 i j x y e f same (omega (arith, l))

all_at : (test : ℕ → Vertex → Bool) (n : ℕ) (xs : List Vertex) → all_from test n xs ≡ true → (i : ℕ) (x : Vertex) → slice_get xs i ≡ Some x → test (n + i) x ≡ true
all_at test n [] h i x e = cc
all_at test n (y ∷ ys) h zero x e =
    subst (λ (k : ℕ). test k x ≡ true) (let k : n ≡ n + 0 = omega arith in k) (subst (λ (z : Vertex). test n z ≡ true) (same_Some y x e) (and_parts (test n y) (all_from test (n + 1) ys) h).0)
all_at test n (y ∷ ys) h (suc i) x e =
    subst (λ (k : ℕ). test k x ≡ true) (let k : n + 1 + i ≡ n + suc i = omega arith in k) (all_at test (n + 1) ys (and_parts (test n y) (all_from test (n + 1) ys) h).1 i x e)

-- the operations of a valid flat graph
pub record Operations (g : Graph) : Type 0 where
  pub apart : are_named_apart g.vertices ≡ true
  pub each : all_from (is_vertex g) 0 g.vertices ≡ true

pub operations : (g : Graph) → is_flat g ≡ true → Operations g
operations g h =
    let a = and_parts (nat_le (length g.vertices) 2048 && are_named_apart g.vertices && all_from (is_vertex g) 0 g.vertices
    && sensors_from 0 (kinds_of g.vertices) && actuators_from 0 (kinds_of g.vertices)) (is_acyclic g.vertices) h in
    let b = and_parts (nat_le (length g.vertices) 2048 && are_named_apart g.vertices && all_from (is_vertex g) 0 g.vertices
    && sensors_from 0 (kinds_of g.vertices)) (actuators_from 0 (kinds_of g.vertices)) a.0 in
    let c = and_parts (nat_le (length g.vertices) 2048 && are_named_apart g.vertices && all_from (is_vertex g) 0 g.vertices) (sensors_from 0 (kinds_of g.vertices)) b.0 in
    let d = and_parts (nat_le (length g.vertices) 2048 && are_named_apart g.vertices) (all_from (is_vertex g) 0 g.vertices) c.0 in
    record { apart = (and_parts (nat_le (length g.vertices) 2048) (are_named_apart g.vertices) d.0).1; each = d.1 }

-- a name of its own, and outputs of one element at least
pub record Operation (x : Vertex) : Type 0 where
  pub named : is_path x.name ≡ true
  pub outs : list_all is_len x.outs ≡ true

pub operation_at : (g : Graph) → Operations g → (v : ℕ) (x : Vertex) → slice_get g.vertices v ≡ Some x → Operation x
operation_at g is v x e =
    let own : is_vertex g v x ≡ true = subst (λ (k : ℕ). is_vertex g k x ≡ true) (let k : 0 + v ≡ v = omega arith in k) (all_at (is_vertex g) 0 g.vertices is.each v x e) in
    let lens = nat_le (length x.outs) 64 && list_all is_len x.outs in
    let a = and_parts (is_path x.name && lens && list_all (is_guard g.vertices) x.guards && list_all (nat_le 1) (lens_of g.vertices x.ins)
    && fits g.bodies x.kind (lens_of g.vertices x.ins) x.outs) (has_twin g.vertices v x.kind x.twin) own in
    let b = and_parts (is_path x.name && lens && list_all (is_guard g.vertices) x.guards && list_all (nat_le 1) (lens_of g.vertices x.ins))
    (fits g.bodies x.kind (lens_of g.vertices x.ins) x.outs) a.0 in
    let c = and_parts (is_path x.name && lens && list_all (is_guard g.vertices) x.guards) (list_all (nat_le 1) (lens_of g.vertices x.ins)) b.0 in
    let d = and_parts (is_path x.name && lens) (list_all (is_guard g.vertices) x.guards) c.0 in
    let e = and_parts (is_path x.name) lens d.0 in
    record { named = e.0; outs = (and_parts (nat_le (length x.outs) 64) (list_all is_len x.outs) e.1).1 }

abbrev pub names : Graph → Architecture → Names
names g a = record { vertices = g.vertices; operators = a.operators; media = a.media }

pub record IsFound (list : List Bytes) (test : Bytes → Bool) (w : Bytes) (k : ℕ) : Type 0 where
  pub place : place_in list w ≡ Some k
  pub passes : test w ≡ true

-- What is there is found by the name that is printed.
pub record AreNamed (g : Graph) (a : Architecture) : Type 0 where
  pub operator : (o : ℕ) → o < length a.operators → IsFound a.operators is_name (operator_name (names g a) o) o
  pub medium : (m : ℕ) → m < length a.media → IsFound (medium_names a) is_name (medium_name (names g a) m) m
  pub operation : (v : ℕ) → v < length g.vertices → IsFound (operation_names g) is_path (operation_name (names g a) v) v

distinct_of : (a : Architecture) → is_archi a.operators a.media ≡ true → are_distinct (names_of a.operators a.media) ≡ true
distinct_of a h =
    let p = and_parts (are_bounded a.operators a.media && list_all (is_medium (length a.operators)) a.media
    && are_distinct (names_of a.operators a.media)) (are_joined (length a.operators) a.media) h in
    (and_parts (are_bounded a.operators a.media && list_all (is_medium (length a.operators)) a.media) (are_distinct (names_of a.operators a.media)) p.0).1

pub are_named : (g : Graph) (a : Architecture) → is_flat g ≡ true → is_archi a.operators a.media ≡ true → list_all is_name (names_of a.operators a.media) ≡ true → AreNamed g a
are_named g a flat right named = record { operator = operator; medium = medium; operation = operation }
  where
    all : List Bytes
    all = names_of a.operators a.media

    distinct : are_distinct (names_of a.operators a.media) ≡ true
    distinct = distinct_of a right

    operator : (o : ℕ) → o < length a.operators → IsFound a.operators is_name (operator_name (names g a) o) o
    operator o l =
        let it = got_some a.operators o l in
        let is : slice_index_or a.operators o [] ≡ it.0 = get_or_from_slice_get a.operators o it.0 [] it.1 in
        let front : slice_get (names_of a.operators a.media) o ≡ Some it.0 = got_front a.operators (map (λ (m : Medium). m.name) a.media) o it.0 it.1 in
        subst (λ (w : Bytes). IsFound a.operators is_name w o) (sym is) (record {
          place = found (bytes_eq it.0) a.operators o it.0 it.1 (bytes_self it.0) (λ i w e same.
              alone (names_of a.operators a.media) distinct i o w (got_front a.operators (map (λ (m : Medium). m.name) a.media) i w e)
              (subst (λ (v : Bytes). slice_get (names_of a.operators a.media) o ≡ Some v) (bytes_same it.0 w same) front));
          passes = all_here is_name (names_of a.operators a.media) named o it.0 front;
        })

    medium : (m : ℕ) → m < length a.media → IsFound (medium_names a) is_name (medium_name (names g a) m) m
    medium m l =
        let it = got_some a.media m l in
        let is : medium_name (names g a) m ≡ it.0.name = ap name_or_none it.1 in
        let own : slice_get (medium_names a) m ≡ Some it.0.name = got_map (λ (x : Medium). x.name) a.media m it.0 it.1 in
        let back : slice_get (names_of a.operators a.media) (length a.operators + m) ≡ Some it.0.name = got_back a.operators (medium_names a) m it.0.name own in
        subst (λ (w : Bytes). IsFound (medium_names a) is_name w m) (sym is) (record {
          place = found (bytes_eq it.0.name) (medium_names a) m it.0.name own (bytes_self it.0.name) (λ i w e same.
              let k = alone (names_of a.operators a.media) distinct (length a.operators + i) (length a.operators + m) w (got_back a.operators (medium_names a) i w e)
              (subst (λ (v : Bytes). slice_get (names_of a.operators a.media) (length a.operators + m) ≡ Some v) (bytes_same it.0.name w same) back) in
              omega (arith, k));
          passes = all_here is_name (names_of a.operators a.media) named (length a.operators + m) it.0.name back;
        })

    operation : (v : ℕ) → v < length g.vertices → IsFound (operation_names g) is_path (operation_name (names g a) v) v
    operation v l =
        let it = got_some g.vertices v l in
        let is : operation_name (names g a) v ≡ it.0.name = ap (λ (o : Option Vertex). with_vertex o [] (λ (x : Vertex). x.name)) it.1 in
        let own : slice_get (operation_names g) v ≡ Some it.0.name = got_map (λ (x : Vertex). x.name) g.vertices v it.0 it.1 in
        subst (λ (w : Bytes). IsFound (operation_names g) is_path w v) (sym is) (record {
          place = found (bytes_eq it.0.name) (operation_names g) v it.0.name own (bytes_self it.0.name) (λ i w e same.
              let other = map_got (λ (x : Vertex). x.name) g.vertices i w e in
              let equal : other.0.name ≡ it.0.name = other.2 ∙ sym (bytes_same it.0.name w same) in
              elim (cases_order i v) [
                | inl k ↦ k
                | inr q ↦ elim q [
                  | inl k ↦ absurd (differ g.vertices (operations g flat).apart i v other.0 it.0 other.1 it.1 equal k)
                  | inr k ↦ absurd (differ g.vertices (operations g flat).apart v i it.0 other.0 it.1 other.1 (sym equal) k)
                ]
              ]);
          passes = (operation_at g (operations g flat) v it.0 it.1).named;
        })
