-- The least transfer of a value of a valid flat graph over the media of a valid architecture is short.
use Rattle.std.proofs.Common.{◌≡◌, ℕ, zero, suc, ◌+◌, ◌*◌, ◌≤◌, Bool, true, false, cond, ◌&&◌, List, [], ◌∷◌, map, length, Option, Some, None, refl, arith}
use Rattle.std.specs.Prelude.{nat_le, nat_lt, slice_get, slice_index_or, unwrap_or, IfSome}
use Rattle.std.specs.List.{list_all}
use Rattle.std.proofs.lemmas.Bool.{and_parts, leb-true}
use Rattle.std.proofs.lemmas.Nat.{mul-le}
use Rattle.self_timed.specs.declared.Source.{Source}
use Rattle.self_timed.specs.declared.Vertex.{Vertex}
use Rattle.self_timed.specs.Graph.{Graph, len_of, with_vertex}
use Rattle.self_timed.specs.FlatValid.{is_flat, is_len}
use Rattle.self_timed.specs.declared.Medium.{Medium}
use Rattle.self_timed.specs.Archi.{Architecture, are_bounded, are_distinct, are_joined, ascends_from, is_archi, is_medium, may_stand, names_of, stands_at}
use Rattle.self_timed.specs.Table.{least_of}
use Rattle.self_timed.proofs.Copies.{parts}
use Rattle.lower_bound.specs.Bound.{brought_in, least_transfer}
use Rattle.lower_bound.specs.Turns.{AreShort}
use Rattle.lower_bound.proofs.Lesser.{lesser_low}

-- a source has at most 64 elements
len_low : (g : Graph) → is_flat g ≡ true → (x : Source) → len_of g.vertices x ≤ 64
len_low g flat x = by (slice_get g.vertices x.vertex) refl
  where
    among : (ns : List ℕ) (k : ℕ) → list_all is_len ns ≡ true → slice_index_or ns k 0 ≤ 64
    among [] k h = omega arith
    among (n ∷ ns) zero h = leb-true n 64 (and_parts (nat_le 1 n) (nat_le n 64) (and_parts (is_len n) (list_all is_len ns) h).0).1
    among (n ∷ ns) (suc k) h = among ns k (and_parts (is_len n) (list_all is_len ns) h).1

    by : (o : Option Vertex) → slice_get g.vertices x.vertex ≡ o → with_vertex o 0 (λ y. slice_index_or y.outs x.port 0) ≤ 64
    by None is = omega arith
    by (Some y) is = among y.outs x.port (and_parts (nat_le (length y.outs) 64) (list_all is_len y.outs) (parts g flat x.vertex y is).0).1

-- a medium takes at most 1,000,000 ticks, and as many for each element
brought_low : (operators o n : ℕ) (m : Medium) → is_medium operators m ≡ true → n ≤ 64 → IfSome (brought_in o n m) (λ t. t ≤ 65000000)
brought_low operators o n m h l = by (stands_at m o)
  where
    time_low : m.fixed + n * m.per ≤ 65000000
    time_low =
        let stand = may_stand m.kind (length m.stands) && ascends_from 0 m.stands && list_all (λ o. nat_lt o operators) m.stands in
        let a = and_parts (stand && nat_le m.fixed 1000000) (nat_le m.per 1000000) h in
        let b = and_parts stand (nat_le m.fixed 1000000) a.0 in
        let per = leb-true m.per 1000000 a.1 in
        let fixed = leb-true m.fixed 1000000 b.1 in
        let product : n * m.per ≤ 64 * 1000000 = mul-le n m.per 64 1000000 l per in
        omega arith

    by : (b : Bool) → IfSome (cond b (Some (m.fixed + n * m.per)) None) (λ t. t ≤ 65000000)
    by true = time_low
    by false = tt

least_low : (operators o n : ℕ) (ms : List Medium) → list_all (is_medium operators) ms ≡ true → n ≤ 64 → IfSome (least_of (map (brought_in o n) ms)) (λ t. t ≤ 65000000)
least_low operators o n [] h l = tt
least_low operators o n (m ∷ ms) h l =
    let both = and_parts (is_medium operators m) (list_all (is_medium operators) ms) h in
    lesser_low 65000000 (brought_in o n m) (least_of (map (brought_in o n) ms)) (brought_low operators o n m both.0 l) (least_low operators o n ms both.1 l)

unless_none : (o : Option ℕ) (most : ℕ) → IfSome o (λ t. t ≤ most) → unwrap_or o 0 ≤ most
unless_none None most h = omega arith
unless_none (Some t) most h = h

pub are_short : (g : Graph) (a : Architecture) → is_flat g ≡ true → is_archi a.operators a.media ≡ true → AreShort a.media g.vertices
are_short g a flat archi o s = unless_none (least_of (map (brought_in o (len_of g.vertices s)) a.media)) 65000000
    (least_low (length a.operators) o (len_of g.vertices s) a.media media (len_low g flat s))
  where
    media : list_all (is_medium (length a.operators)) a.media ≡ true
    media =
        let k = length a.operators in
        let bounds = are_bounded a.operators a.media in
        let each = list_all (is_medium k) a.media in
        let names = are_distinct (names_of a.operators a.media) in
        (and_parts bounds each (and_parts (bounds && each) names (and_parts (bounds && each && names) (are_joined k a.media) archi).0).0).1

-- where there is no medium nothing is carried
pub none_short : (vertices : List Vertex) → AreShort [] vertices
none_short vertices o s = omega arith
