-- Each two operators of an architecture are joined, by at most twice as many hops as there are operators: over operator 0.
use Rattle.std.proofs.Common.{◌≡◌, ℕ, zero, suc, ◌+◌, ◌*◌, ◌<◌, ◌≤◌, Bool, true, false, ◌&&◌, ◌||◌, List, [], ◌∷◌, ◌++◌, length, Some, refl, sym, subst, arith, ◌⊎◌, inl, inr, length-append}
use Rattle.std.specs.Prelude.{Contains, IsTrue, slice_get, slice_index_or, nat_le}
use Rattle.std.specs.List.{list_all, list_any, range_with_len}
use Rattle.std.proofs.lemmas.Bool.{and_parts, eqb-true, leb-true}
use Rattle.std.proofs.lemmas.List.FromFn.{get_or-range_with_len, length-range_with_len}
use Rattle.std.proofs.lemmas.List.Sums.{AllPass-from_list_all}
use Rattle.archi_graph.specs.declared.medium.Medium.{Medium}
use Rattle.archi_graph.specs.declared.medium.Hop.{Hop}
use Rattle.archi_graph.specs.Archi.{Architecture, reached_within, stands_at, is_archi, is_medium, are_joined, are_bounded, are_distinct, names_of, connections_in}
use Rattle.archi_graph.specs.Routes.{AreOperators, IsHop, IsRoute}
use Rattle.archi_graph.proofs.Bounds.{operators_below}
use Rattle.route_table.proofs.Picks.{some_with, stands_of}

-- a route of at most this many hops
abbrev pub Within : List Medium → ℕ → ℕ → ℕ → Type 0
Within media from to hops = (r : List Hop) × IsRoute media from r to × (length r ≤ hops)

pub route_on : (media : List Medium) (from mid to : ℕ) (r s : List Hop) → IsRoute media from r mid → IsRoute media mid s to → IsRoute media from (r ++ s) to
route_on media from mid to [] s x y = subst (λ (o : ℕ). IsRoute media o s to) (sym x) y
route_on media from mid to (h ∷ r) s x y = (x.0, route_on media h.to mid to r s x.1 y)

any_parts : (x y : Bool) → (x || y) ≡ true → (x ≡ true) ⊎ (y ≡ true)
any_parts true y e = inl refl
any_parts false y e = inr e

-- a list of which some element passes
any_place : {X : Type 0} (p : X → Bool) (xs : List X) → list_any p xs ≡ true → (k : ℕ) × (x : X) × (slice_get xs k ≡ Some x) × (p x ≡ true)
any_place p [] e = absurd (cc)
any_place p (x ∷ xs) e =
    elim (any_parts (p x) (list_any p xs) e) [
      | inl here ↦ (0, x, refl, here)
      | inr later ↦ let r = any_place p xs later in (suc r.0, r.1, r.2, r.3)
    ]

contains_at : (xs : List ℕ) (k x : ℕ) → slice_get xs k ≡ Some x → Contains xs x
contains_at [] k x e = absurd (cc)
contains_at (y ∷ xs) zero x e = (0, omega arith, cc)
contains_at (y ∷ xs) (suc k) x e = let r = contains_at xs k x e in (suc r.0, omega (arith, r.1), r.2)

module _ (media : List Medium) where
  abbrev Both : ℕ → ℕ → Type 0
  Both hops o = Within media 0 o hops × Within media o 0 hops

  -- what hops reach from operator 0 they reach from there
  there_and_back : (hops o : ℕ) → reached_within media hops o ≡ true → Both hops o
  there_and_back zero o e = let same = eqb-true o 0 e in (([], sym same, omega arith), ([], same, omega arith))
  there_and_back (suc hops) o e =
      by (any_parts (reached_within media hops o) (list_any (λ m. stands_at m o && list_any (reached_within media hops) m.stands) media) e) (there_and_back hops)
    where
      by : (reached_within media hops o ≡ true) ⊎ (list_any (λ m. stands_at m o && list_any (reached_within media hops) m.stands) media ≡ true)
          → ((p : ℕ) → reached_within media hops p ≡ true → Both hops p) → Both (suc hops) o
      by (inl sooner) before = let r = before o sooner in ((r.0.0, r.0.1, omega (arith, r.0.2)), (r.1.0, r.1.1, omega (arith, r.1.2)))
      by (inr now) before =
          let m = any_place (λ m. stands_at m o && list_any (reached_within media hops) m.stands) media now in
          let both = and_parts (stands_at m.1 o) (list_any (reached_within media hops) m.1.stands) m.3 in
          let p = any_place (reached_within media hops) m.1.stands both.1 in
          let r = before p.1 p.3 in
          let here = stands_of o m.1.stands both.0 in
          let near = contains_at m.1.stands p.0 p.1 p.2 in
          let out : Hop = record { medium = m.0; to = o } in
          let back : Hop = record { medium = m.0; to = p.1 } in
          let on : IsRoute media p.1 (out ∷ []) o = (some_with (slice_get media m.0) (λ x. Contains x.stands p.1 × Contains x.stands o) m.1 m.2 (near, here), refl) in
          let hop : IsHop media o back = some_with (slice_get media m.0) (λ x. Contains x.stands o × Contains x.stands p.1) m.1 m.2 (here, near) in (
            (r.0.0 ++ out ∷ [], route_on media 0 p.1 o r.0.0 (out ∷ []) r.0.1 on, (let l : length (r.0.0 ++ out ∷ []) ≡ length r.0.0 + 1 = length-append r.0.0 (out ∷ []) in omega (arith, r.0.2, l))),
            (back ∷ r.1.0, (hop, r.1.1), omega (arith, r.1.2)),
          )

reached : (n : ℕ) (media : List Medium) → are_joined n media ≡ true → (o : ℕ) → o < n → reached_within media n o ≡ true
reached n media e o l =
    let within : o < length (range_with_len 0 n) = let d = length-range_with_len 0 n in omega (arith, d) in
    let place : slice_index_or (range_with_len 0 n) o o ≡ o = let d = get_or-range_with_len 0 n o o l in omega (arith, d) in
    subst (λ (p : ℕ). reached_within media n p ≡ true) place (AllPass-from_list_all (reached_within media n) (range_with_len 0 n) e o o within)

pub all_joined : (n : ℕ) (media : List Medium) → are_joined n media ≡ true → (from to : ℕ) → from < n → to < n → Within media from to (2 * n)
all_joined n media e from to l k =
    let first = (there_and_back media n from (reached n media e from l)).1 in
    let last = (there_and_back media n to (reached n media e to k)).0 in (
      first.0 ++ last.0,
      route_on media from 0 to first.0 last.0 first.1 last.1,
      (let d : length (first.0 ++ last.0) ≡ length first.0 + length last.0 = length-append first.0 last.0 in omega (arith, first.2, last.2, d)),
    )

-- what a valid architecture has
pub record Facts (a : Architecture) : Type 0 where
  pub few : length a.operators ≤ 16
  pub few_media : length a.media ≤ 16
  pub known : AreOperators (length a.operators) a.media
  pub joined : are_joined (length a.operators) a.media ≡ true

pub facts : (a : Architecture) → IsTrue (is_archi a.operators a.media) → Facts a
facts a e =
    let n = length a.operators in
    let outer = and_parts ((are_bounded a.operators a.media && list_all (is_medium n) a.media) && are_distinct (names_of a.operators a.media)) (are_joined n a.media) e in
    let inner = and_parts (are_bounded a.operators a.media && list_all (is_medium n) a.media) (are_distinct (names_of a.operators a.media)) outer.0 in
    let both = and_parts (are_bounded a.operators a.media) (list_all (is_medium n) a.media) inner.0 in
    let stands = and_parts ((nat_le 1 n && nat_le n 16) && nat_le (length a.media) 16) (nat_le (connections_in a.media) 64) both.0 in
    let sizes = and_parts (nat_le 1 n && nat_le n 16) (nat_le (length a.media) 16) stands.0 in
    let bounds = and_parts (nat_le 1 n) (nat_le n 16) sizes.0 in
    record { few = leb-true n 16 bounds.1; few_media = leb-true (length a.media) 16 sizes.1; known = operators_below n n a.media (omega arith) both.1; joined = outer.1 }
