-- Where no medium carries anything, chains with transfers are chains.
use Rattle.std.proofs.Common.{◌≡◌, ℕ, zero, suc, ◌+◌, ◌<◌, ◌≤◌, Bool, true, false, cond, List, [], ◌∷◌, ◌++◌, map, max, min, length, Option, Some, None, refl, sym, ap, arith, inl, inr, ◌∙◌}
use Rattle.std.specs.Prelude.{is_some, slice_get, unwrap_or}
use Rattle.std.specs.List.{range_with_len}
use Rattle.std.proofs.lemmas.Bool.{false≢true, cases_lt}
use Rattle.std.proofs.lemmas.Option.{slice_get_past}
use Rattle.self_timed.specs.declared.Guard.{Guard}
use Rattle.self_timed.specs.declared.Source.{Source}
use Rattle.self_timed.specs.declared.Vertex.{Vertex}
use Rattle.self_timed.specs.Graph.{with_vertex}
use Rattle.self_timed.specs.FlatOrder.{depends_on, get_half}
use Rattle.self_timed.specs.Table.{least_of}
use Rattle.lower_bound.specs.Bound.{arrival, carried_within, chain_within, end_after, end_on, first_end, later_by, least, start_on}
use Rattle.lower_bound.proofs.Renewed.{greatest-append, map-append}
use Rattle.comm_routing.specs.Candidates.{needs_of}
use Rattle.syn_base.specs.Numbers.{greatest, lesser}

none_some : {t : ℕ} → (None ≡ Some t) → ⊥
none_some e = false≢true (ap (λ (y : Option ℕ). is_some y) e)

-- the same for each is later for the least
least_later : (f : ℕ → Option ℕ) (n : ℕ) (os : List ℕ) → least_of (map (λ o. later_by (f o) n) os) ≡ later_by (least_of (map f os)) n
least_later f n [] = refl
least_later f n (o ∷ os) = ap (lesser (later_by (f o) n)) (least_later f n os) ∙ by (f o) (least_of (map f os))
  where
    by : (x y : Option ℕ) → lesser (later_by x n) (later_by y n) ≡ later_by (lesser x y) n
    by None y = refl
    by (Some t) None = refl
    by (Some t) (Some u) = ap (λ (k : ℕ). Some k) (let e : min (t + n) (u + n) ≡ min t u + n = omega arith in e)

module _ (operators : ℕ) (ticks : ℕ → ℕ → Option ℕ) (vertices : List Vertex) where
  arrives_plain : (f : ℕ → ℕ) (o : ℕ) (s : Source) → arrival operators ticks vertices [] f o s ≡ f s.vertex
  arrives_plain f o s = by (is_some (ticks s.vertex o))
    where
      by : (b : Bool) → f s.vertex + cond b 0 0 ≡ f s.vertex
      by true = omega arith
      by false = omega arith

  arrivals_plain : (f : ℕ → ℕ) (o : ℕ) (gs : List Guard) (xs : List Source)
      → greatest (map (arrival operators ticks vertices [] f o) (map (λ d. d.source) gs ++ xs))
      ≡ greatest (map f (map (λ d. d.source.vertex) gs ++ map (λ s. s.vertex) xs))
  arrivals_plain f o [] [] = refl
  arrivals_plain f o [] (x ∷ xs) = let e = arrives_plain f o x in let r = arrivals_plain f o [] xs in omega arith
  arrivals_plain f o (d ∷ gs) xs = let e = arrives_plain f o d.source in let r = arrivals_plain f o gs xs in omega arith

  start_plain : (f : ℕ → ℕ) (o : ℕ) (y : Option Vertex) → with_vertex y 0 (start_on operators ticks vertices [] f o) ≡ greatest (map f (with_vertex y [] depends_on))
  start_plain f o None = refl
  start_plain f o (Some x) =
      let read = map (λ d. d.source.vertex) x.guards ++ map (λ s. s.vertex) x.ins in
      let half = get_half x.kind x.twin in
      let a = arrivals_plain f o x.guards x.ins in
      let e = ap greatest (map-append f read half) in
      let h = greatest-append (map f read) (map f half) in
      omega arith

  -- each operation may stand somewhere
  module _ (some : (v : ℕ) → v < length vertices → (t : ℕ) × (least_of (map (ticks v) (range_with_len 0 operators)) ≡ Some t)) where
    end_plain : (f : ℕ → ℕ) (v : ℕ) → first_end operators ticks vertices [] f v ≡ end_after operators ticks vertices f v
    end_plain f v =
        let n = greatest (map f (needs_of vertices v)) in
        let os = range_with_len 0 operators in
        (λ i. unwrap_or (least_of (map (λ o. later_by (ticks v o) (start_plain f o (slice_get vertices v) i)) os)) 0)
        ∙ ap (λ (y : Option ℕ). unwrap_or y 0) (least_later (ticks v) n os)
        ∙ by (least_of (map (ticks v) os)) refl
      where
        by : (y : Option ℕ) → least_of (map (ticks v) (range_with_len 0 operators)) ≡ y
            → unwrap_or (later_by y (greatest (map f (needs_of vertices v)))) 0 ≡ unwrap_or y 0 + greatest (map f (needs_of vertices v))
        by (Some t) is = refl
        by None is = elim (cases_lt v (length vertices)) [
          | inl l ↦ absurd (let r = (some v l).1 in none_some (sym is ∙ r))
          | inr far ↦ (let e = ap (λ (y : Option Vertex). greatest (map f (with_vertex y [] depends_on))) (slice_get_past vertices v far) in omega arith)
        ]

    pub plain_chain : (n v : ℕ) → carried_within operators ticks vertices [] n v ≡ chain_within operators ticks vertices n v
    plain_chain zero v = refl
    plain_chain (suc n) v = (λ i. first_end operators ticks vertices [] (λ u. plain_chain n u i) v) ∙ end_plain (chain_within operators ticks vertices n) v
