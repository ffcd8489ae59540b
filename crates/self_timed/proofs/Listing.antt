-- Lists over the numbers of operations, one number more; the greatest of reactions, one reaction more.
use Rattle.std.proofs.Common.{
  ◌≡◌,
  ℕ,
  zero,
  suc,
  ◌+◌,
  ◌<◌,
  ◌≤◌,
  Bool,
  true,
  false,
  ◌&&◌,
  if◌then◌else◌,
  List,
  [],
  ◌∷◌,
  ◌++◌,
  map,
  take,
  max,
  length,
  Option,
  Some,
  None,
  refl,
  sym,
  ap,
  ap₂,
  arith,
  ◌∙◌,
  append_assoc,
}
use Rattle.std.specs.Prelude.{filter, flat_map, slice_get, slice_index_or}
use Rattle.std.specs.List.{range_with_len}
use Rattle.std.proofs.lemmas.List.{append-nil}
use Rattle.std.proofs.lemmas.Option.{slice_get_read}
use Rattle.sequence_build_laws.specs.declared.Kind.{Kind}
use Rattle.sequence_build_laws.specs.declared.Vertex.{Vertex}
use Rattle.sequence_build_laws.specs.Graph.{with_vertex}
use Rattle.self_timed.specs.declared.dates.Span.{Span}
use Rattle.self_timed.specs.Latency.{all_operations, drives, is_reached, latencies_from, latency, leads_to, senses}
use Rattle.syn_base.specs.Numbers.{greatest}

range_last : (a n : ℕ) → range_with_len a (n + 1) ≡ range_with_len a n ++ (a + n) ∷ []
range_last a zero = (let e : a ≡ a + 0 = omega arith in λ i. e i ∷ [])
range_last a (suc n) =
    let s : suc n + 1 ≡ suc (n + 1) = omega arith in
    let e : a + 1 + n ≡ a + suc n = omega arith in
    ap (range_with_len a) s ∙ (λ i. a ∷ range_last (a + 1) n i) ∙ (λ i. a ∷ (range_with_len (a + 1) n ++ e i ∷ []))

last_is : (n : ℕ) → range_with_len 0 (n + 1) ≡ range_with_len 0 n ++ n ∷ []
last_is n = let e : 0 + n ≡ n = omega arith in range_last 0 n ∙ (λ i. range_with_len 0 n ++ e i ∷ [])

chosen-append : {A : Type 0} (f : ℕ → A) (p : ℕ → Bool) (xs : List ℕ) (n : ℕ) → map f (filter p (xs ++ n ∷ [])) ≡ map f (filter p xs) ++ (if p n then f n ∷ [] else [])
chosen-append f p [] n = by (p n)
  where
    by : (b : Bool) → map f (if b then n ∷ [] else []) ≡ (if b then f n ∷ [] else [])
    by true = refl
    by false = refl
chosen-append f p (x ∷ xs) n = by (p x) (chosen-append f p xs n)
  where
    by : (b : Bool) → map f (filter p (xs ++ n ∷ [])) ≡ map f (filter p xs) ++ (if p n then f n ∷ [] else [])
        → map f (if b then x ∷ filter p (xs ++ n ∷ []) else filter p (xs ++ n ∷ [])) ≡ map f (if b then x ∷ filter p xs else filter p xs) ++ (if p n then f n ∷ [] else [])
    by true e = ap (λ l. f x ∷ l) e
    by false e = e

-- one number more, of those that pass
pub chosen_more : {A : Type 0} (f : ℕ → A) (p : ℕ → Bool) (n : ℕ) → map f (filter p (range_with_len 0 (n + 1))) ≡ map f (filter p (range_with_len 0 n)) ++ (if p n then f n ∷ [] else [])
chosen_more f p n = ap (λ l. map f (filter p l)) (last_is n) ∙ chosen-append f p (range_with_len 0 n) n

flat-append : {A : Type 0} (f : ℕ → List A) (xs : List ℕ) (n : ℕ) → flat_map f (xs ++ n ∷ []) ≡ flat_map f xs ++ f n
flat-append f [] n = append-nil (f n)
flat-append f (x ∷ xs) n = ap (λ l. f x ++ l) (flat-append f xs n) ∙ sym (append_assoc (f x) (flat_map f xs) (f n))

-- one number more, of all
pub flat_more : {A : Type 0} (f : ℕ → List A) (n : ℕ) → flat_map f (range_with_len 0 (n + 1)) ≡ flat_map f (range_with_len 0 n) ++ f n
flat_more f n = ap (flat_map f) (last_is n) ∙ flat-append f (range_with_len 0 n) n

none_taken : (f : List Span → ℕ) (rows : List (List Span)) → greatest (map f (take 0 rows)) ≡ 0
none_taken f [] = refl
none_taken f (row ∷ rows) = refl

taken_next : (f : List Span → ℕ) (rows : List (List Span)) (k : ℕ) → k < length rows → greatest (map f (take (suc k) rows)) ≡ max (f (slice_index_or rows k [])) (greatest (map f (take k rows)))
taken_next f [] k l = absurd (omega arith)
taken_next f (row ∷ rows) zero l = let z = none_taken f rows in omega arith
taken_next f (row ∷ rows) (suc k) l = let z = taken_next f rows k (omega arith) in omega arith

-- one reaction more
pub taken_more : (f : List Span → ℕ) (rows : List (List Span)) (k : ℕ) → k < length rows → greatest (map f (take (k + 1) rows)) ≡ max (f (slice_index_or rows k [])) (greatest (map f (take k rows)))
taken_more f rows k l = let one : k + 1 ≡ suc k = omega arith in ap (λ (n : ℕ). greatest (map f (take n rows))) one ∙ taken_next f rows k l

-- of an operation that is there
pub of_vertex : (vertices : List Vertex) (v : ℕ) (x : Vertex) (test : Kind → Bool) → v < length vertices → x ≡ slice_index_or vertices v x
    → with_vertex (slice_get vertices v) false (λ x. test x.kind) ≡ test x.kind
of_vertex vertices v x test l is = ap (λ (o : Option Vertex). with_vertex o false (λ x. test x.kind)) (slice_get_read vertices (length vertices) v x refl l is)

-- the latencies from an operation, by whether it is a sensor
pub from_is : (vertices : List Vertex) (rows : List (List Span)) (v : ℕ) (x : Vertex) (b : Bool) → v < length vertices → x ≡ slice_index_or vertices v x → b ≡ senses x.kind
    → latencies_from vertices rows v ≡ (if b then map (latency rows v) (filter (is_reached vertices v) (all_operations vertices rows)) else [])
from_is vertices rows v x b l is e =
    ap (λ (c : Bool). if c then map (latency rows v) (filter (is_reached vertices v) (all_operations vertices rows)) else []) (of_vertex vertices v x senses l is ∙ sym e)

-- whether an operation is an actuator that depends on a sensor
pub end_is : (vertices : List Vertex) (v w : ℕ) (x : Vertex) (leads : Bool) → w < length vertices → x ≡ slice_index_or vertices w x → leads
    ≡ leads_to vertices v w → is_reached vertices v w ≡ (drives x.kind && leads)
end_is vertices v w x leads l is e = ap₂ (λ (a b : Bool). a && b) (of_vertex vertices w x drives l is) (sym e)
