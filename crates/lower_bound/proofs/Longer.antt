-- Transfers only lengthen a chain.
use Rattle.std.proofs.Common.{◌≡◌, ℕ, zero, suc, ◌+◌, ◌<◌, ◌≤◌, Bool, true, false, cond, ◌||◌, List, [], ◌∷◌, map, max, min, length, Option, Some, None, refl, sym, ap, subst, arith, ◌∙◌}
use Rattle.std.specs.Prelude.{is_some, slice_get, unwrap_or}
use Rattle.std.specs.List.{list_any, range_with_len}
use Rattle.std.proofs.lemmas.Bool.{false≢true}
use Rattle.self_timed.specs.declared.Source.{Source}
use Rattle.self_timed.specs.declared.Vertex.{Vertex}
use Rattle.self_timed.specs.Graph.{len_of, with_vertex}
use Rattle.self_timed.specs.FlatOrder.{get_half}
use Rattle.self_timed.specs.declared.Medium.{Medium}
use Rattle.self_timed.specs.Table.{least_of}
use Rattle.self_timed.specs.Acts.{sources_of}
use Rattle.lower_bound.specs.Bound.{arrival, carried_within, chain_within, end_on, first_end, later_by, least_transfer, start_on}
use Rattle.lower_bound.specs.Laws.{TransfersOnlyLengthen}
use Rattle.lower_bound.proofs.Plain.{plain_chain}
use Rattle.syn_base.specs.Numbers.{greatest, lesser}

-- both are there or neither, and the first is no greater
abbrev IsBelow : Option ℕ → Option ℕ → Type 0
IsBelow None None = Unit {0}
IsBelow None (Some u) = ⊥
IsBelow (Some t) None = ⊥
IsBelow (Some t) (Some u) = t ≤ u

some_of : (f : ℕ → Option ℕ) (os : List ℕ) → list_any (λ o. is_some (f o)) os ≡ true → (t : ℕ) × (least_of (map f os) ≡ Some t)
some_of f [] h = absurd (false≢true h)
some_of f (o ∷ os) h = by (f o) (least_of (map f os)) h (some_of f os)
  where
    by : (x y : Option ℕ) → (is_some x || list_any (λ o. is_some (f o)) os) ≡ true → (list_any (λ o. is_some (f o)) os ≡ true → (t : ℕ) × (y ≡ Some t)) → (t : ℕ) × (lesser x y ≡ Some t)
    by None y h later = later h
    by (Some t) None h later = (t, refl)
    by (Some t) (Some u) h later = (min t u, refl)

greatest_below : (f g : ℕ → ℕ) → ((v : ℕ) → f v ≤ g v) → (vs : List ℕ) → greatest (map f vs) ≤ greatest (map g vs)
greatest_below f g h [] = omega arith
greatest_below f g h (v ∷ vs) = let l = h v in let r = greatest_below f g h vs in omega arith

lesser_below : (x y z w : Option ℕ) → IsBelow x z → IsBelow y w → IsBelow (lesser x y) (lesser z w)
lesser_below None y None w l m = m
lesser_below None y (Some u) w l m = absurd l
lesser_below (Some t) y None w l m = absurd l
lesser_below (Some t) None (Some u) None l m = l
lesser_below (Some t) None (Some u) (Some b) l m = absurd m
lesser_below (Some t) (Some a) (Some u) None l m = absurd m
lesser_below (Some t) (Some a) (Some u) (Some b) l m = omega arith

later_below : (x : Option ℕ) (n m : ℕ) → n ≤ m → IsBelow (later_by x n) (later_by x m)
later_below None n m l = tt
later_below (Some t) n m l = omega arith

unwrapped_below : (x y : Option ℕ) → IsBelow x y → unwrap_or x 0 ≤ unwrap_or y 0
unwrapped_below None None l = omega arith
unwrapped_below None (Some u) l = absurd l
unwrapped_below (Some t) None l = absurd l
unwrapped_below (Some t) (Some u) l = l

module _ (operators : ℕ) (ticks : ℕ → ℕ → Option ℕ) (vertices : List Vertex) (media : List Medium) (f g : ℕ → ℕ) (below : (v : ℕ) → f v ≤ g v) where
  arrival_below : (o : ℕ) (s : Source) → arrival operators ticks vertices [] f o s ≤ arrival operators ticks vertices media g o s
  arrival_below o s = by (is_some (ticks s.vertex o))
    where
      by : (b : Bool) → f s.vertex + cond b 0 0 ≤ g s.vertex + cond b 0 (least_transfer media o (len_of vertices s))
      by true = let l = below s.vertex in omega arith
      by false = let l = below s.vertex in omega arith

  arrivals_below : (o : ℕ) (xs : List Source) → greatest (map (arrival operators ticks vertices [] f o) xs) ≤ greatest (map (arrival operators ticks vertices media g o) xs)
  arrivals_below o [] = omega arith
  arrivals_below o (x ∷ xs) = let l = arrival_below o x in let r = arrivals_below o xs in omega arith

  start_below : (o : ℕ) (y : Option Vertex) → with_vertex y 0 (start_on operators ticks vertices [] f o) ≤ with_vertex y 0 (start_on operators ticks vertices media g o)
  start_below o None = omega arith
  start_below o (Some x) =
      let a = arrivals_below o (sources_of (Some x)) in
      let b = greatest_below f g below (get_half x.kind x.twin) in
      omega arith

  ends_below : (v : ℕ) (os : List ℕ) → IsBelow (least_of (map (end_on operators ticks vertices [] f v) os)) (least_of (map (end_on operators ticks vertices media g v) os))
  ends_below v [] = tt
  ends_below v (o ∷ os) =
      lesser_below (end_on operators ticks vertices [] f v o) (least_of (map (end_on operators ticks vertices [] f v) os))
      (end_on operators ticks vertices media g v o) (least_of (map (end_on operators ticks vertices media g v) os))
      (later_below (ticks v o) (with_vertex (slice_get vertices v) 0 (start_on operators ticks vertices [] f o))
      (with_vertex (slice_get vertices v) 0 (start_on operators ticks vertices media g o)) (start_below o (slice_get vertices v))) (ends_below v os)

  first_end_below : (v : ℕ) → first_end operators ticks vertices [] f v ≤ first_end operators ticks vertices media g v
  first_end_below v = unwrapped_below (least_of (map (end_on operators ticks vertices [] f v) (range_with_len 0 operators)))
      (least_of (map (end_on operators ticks vertices media g v) (range_with_len 0 operators))) (ends_below v (range_with_len 0 operators))

carried_below : (operators : ℕ) (ticks : ℕ → ℕ → Option ℕ) (vertices : List Vertex) (media : List Medium) (n v : ℕ)
    → carried_within operators ticks vertices [] n v ≤ carried_within operators ticks vertices media n v
carried_below operators ticks vertices media zero v = omega arith
carried_below operators ticks vertices media (suc n) v =
    first_end_below operators ticks vertices media (carried_within operators ticks vertices [] n) (carried_within operators ticks vertices media n) (carried_below operators ticks vertices media n) v

pub transfers_only_lengthen : TransfersOnlyLengthen
transfers_only_lengthen operators ticks vertices media some =
    greatest_below (chain_within operators ticks vertices (length vertices)) (carried_within operators ticks vertices media (length vertices)) chain_below (range_with_len 0 (length vertices))
  where
    chain_below : (v : ℕ) → chain_within operators ticks vertices (length vertices) v ≤ carried_within operators ticks vertices media (length vertices) v
    chain_below v =
        let e = plain_chain operators ticks vertices (λ u l. some_of (ticks u) (range_with_len 0 operators) (some u l)) (length vertices) v in
        let b = carried_below operators ticks vertices media (length vertices) v in
        omega arith
