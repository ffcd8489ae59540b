-- As many hops as there are operators reach all that any route reaches.
use Rattle.std.proofs.Common.{
  ◌≡◌,
  ℕ,
  zero,
  suc,
  ◌+◌,
  ◌-◌,
  ◌<◌,
  ◌≤◌,
  Bool,
  true,
  false,
  cond,
  ◌&&◌,
  ◌||◌,
  List,
  [],
  ◌∷◌,
  ◌++◌,
  length,
  Option,
  Some,
  None,
  refl,
  sym,
  ap,
  subst,
  arith,
  ◌∙◌,
  ◌⊎◌,
  inl,
  inr,
  add-zero,
  add-suc,
  suc-add,
  add_comm,
  below_more,
}
use Rattle.std.specs.Prelude.{Contains, IsSomeAnd, slice_get, slice_index_or, nat_eq}
use Rattle.std.specs.List.{list_any}
use Rattle.archi_graph.proofs.Flags.{further_same}
use Rattle.std.proofs.lemmas.Bool.{and_parts, and_from, eqb-true, eq-eqb}
use Rattle.archi_graph.specs.declared.medium.Medium.{Medium}
use Rattle.archi_graph.specs.declared.medium.Hop.{Hop}
use Rattle.archi_graph.specs.Archi.{reached_within, stands_at}
use Rattle.archi_graph.specs.Routes.{AreOperators, IsHop, IsRoute, IsReachable, RoutesAreFound}

or_left : (x y : Bool) → x ≡ true → (x || y) ≡ true
or_left true y e = refl
or_left false y e = cc

or_right : (x y : Bool) → y ≡ true → (x || y) ≡ true
or_right true y e = refl
or_right false y e = e

or_parts : (x y : Bool) → (x || y) ≡ true → (x ≡ true) ⊎ (y ≡ true)
or_parts true y e = inl refl
or_parts false y e = inr e

-- a list of which some element passes
list_any_place : {X : Type 0} (p : X → Bool) (xs : List X) → list_any p xs ≡ true → (k : ℕ) × (x : X) × (slice_get xs k ≡ Some x) × (p x ≡ true)
list_any_place p [] e = absurd (cc)
list_any_place p (x ∷ xs) e =
    elim (or_parts (p x) (list_any p xs) e) [
      | inl here ↦ (0, x, refl, here)
      | inr later ↦ let r = list_any_place p xs later in (suc r.0, r.1, r.2, r.3)
    ]

list_any_of : {X : Type 0} (p : X → Bool) (xs : List X) (k : ℕ) (x : X) → slice_get xs k ≡ Some x → p x ≡ true → list_any p xs ≡ true
list_any_of p [] k x e h = absurd (cc)
list_any_of p (y ∷ xs) zero x e h = or_left (p y) (list_any p xs) (let same : y ≡ x = cc in ap p same ∙ h)
list_any_of p (y ∷ xs) (suc k) x e h = or_right (p y) (list_any p xs) (list_any_of p xs k x e h)

some_and : {T : Type 0} (o : Option T) (P : T → Type 0) → IsSomeAnd o P → (x : T) × (o ≡ Some x) × P x
some_and None P h = absurd h
some_and (Some x) P h = (x, refl, h)

contains_of : (o : ℕ) (xs : List ℕ) → list_any (nat_eq o) xs ≡ true → Contains xs o
contains_of o [] e = absurd (cc)
contains_of o (x ∷ xs) e =
    elim (or_parts (nat_eq o x) (list_any (nat_eq o) xs) e) [
      | inl here ↦ (0, omega arith, sym (eqb-true o x here))
      | inr later ↦ let r = contains_of o xs later in (suc r.0, omega (arith, r.1), r.2)
    ]

any_of_contains : (p : ℕ → Bool) (xs : List ℕ) (o k : ℕ) → k < length xs → slice_index_or xs k o ≡ o → p o ≡ true → list_any p xs ≡ true
any_of_contains p [] o k l e h = absurd (omega arith)
any_of_contains p (x ∷ xs) o zero l e h = or_left (p x) (list_any p xs) (ap p e ∙ h)
any_of_contains p (x ∷ xs) o (suc k) l e h = or_right (p x) (list_any p xs) (any_of_contains p xs o k (omega arith) e h)

some_with : {T : Type 0} (o : Option T) (P : T → Type 0) (x : T) → o ≡ Some x → P x → IsSomeAnd o P
some_with o P x e h = subst (λ (v : Option _). IsSomeAnd v P) (sym e) h

contains_at : (xs : List ℕ) (k x : ℕ) → slice_get xs k ≡ Some x → Contains xs x
contains_at [] k x e = absurd (cc)
contains_at (y ∷ xs) zero x e = (0, omega arith, cc)
contains_at (y ∷ xs) (suc k) x e = let r = contains_at xs k x e in (suc r.0, omega (arith, r.1), r.2)

-- a route and one hop more
one_hop_more : (media : List Medium) (from mid : ℕ) (hops : List Hop) (h : Hop) → IsRoute media from hops mid → IsHop media mid h → IsRoute media from (hops ++ h ∷ []) h.to
one_hop_more media from mid [] h r last = let P : ℕ → Type 0 = λ o. IsHop media o h in (subst P (sym r) last, refl)
one_hop_more media from mid (g ∷ hops) h r last = (r.0, one_hop_more media g.to mid hops h r.1 last)

module _ (media : List Medium) where
  route_of : (hops o : ℕ) → reached_within media hops o ≡ true → IsReachable media 0 o
  route_of zero o e = ([], sym (eqb-true o 0 e))
  route_of (suc hops) o e = by (or_parts (reached_within media hops o) (list_any (λ m. stands_at m o && list_any (reached_within media hops) m.stands) media) e) (route_of hops)
    where
      by : (reached_within media hops o ≡ true) ⊎ (list_any (λ m. stands_at m o && list_any (reached_within media hops) m.stands) media ≡ true)
          → ((p : ℕ) → reached_within media hops p ≡ true → IsReachable media 0 p) → IsReachable media 0 o
      by (inl sooner) before = before o sooner
      by (inr now) before =
          let m = list_any_place (λ m. stands_at m o && list_any (reached_within media hops) m.stands) media now in
          let both = and_parts (stands_at m.1 o) (list_any (reached_within media hops) m.1.stands) m.3 in
          let p = list_any_place (reached_within media hops) m.1.stands both.1 in
          let r = before p.1 p.3 in
          let h : Hop = record { medium = m.0; to = o } in (
            r.0 ++ h ∷ [],
            one_hop_more media 0 p.1 r.0 h r.1
                (some_with (slice_get media m.0) (λ x. Contains x.stands p.1 × Contains x.stands o) m.1 m.2
                (contains_at m.1.stands p.0 p.1 p.2, contains_of o m.1.stands both.0)),
          )

  at_hop : (hops from : ℕ) (h : Hop) → reached_within media hops from ≡ true → IsHop media from h → reached_within media (suc hops) h.to ≡ true
  at_hop hops from h e hop =
      let m = some_and (slice_get media h.medium) (λ x. Contains x.stands from × Contains x.stands h.to) hop in
      let near = any_of_contains (reached_within media hops) m.0.stands from m.2.0.0 m.2.0.1 m.2.0.2 e in
      let far = any_of_contains (nat_eq h.to) m.0.stands h.to m.2.1.0 m.2.1.1 m.2.1.2 (eq-eqb h.to h.to refl) in
      or_right (reached_within media hops h.to) (list_any (λ x. stands_at x h.to && list_any (reached_within media hops) x.stands) media)
      (list_any_of (λ x. stands_at x h.to && list_any (reached_within media hops) x.stands) media h.medium m.0 m.1
      (and_from (stands_at m.0 h.to) (list_any (reached_within media hops) m.0.stands) far near))

  at_end : (hops from to : ℕ) (route : List Hop) → reached_within media hops from ≡ true → IsRoute media from route to → reached_within media (hops + length route) to ≡ true
  at_end hops from to [] e r = rw add-zero (let P : ℕ → Type 0 = λ o. reached_within media hops o ≡ true in subst P r e)
  at_end hops from to (h ∷ route) e r = rw add-suc (subst (λ (n : ℕ). reached_within media n to ≡ true) (suc-add hops (length route)) (at_end (suc hops) h.to to route (at_hop hops from h e r.0) r.1))

  more_hops : (hops more o : ℕ) → reached_within media hops o ≡ true → reached_within media (hops + more) o ≡ true
  more_hops hops zero o e = rw add-zero e
  more_hops hops (suc more) o e =
      rw add-suc (or_left (reached_within media (hops + more) o) (list_any (λ m. stands_at m o && list_any (reached_within media (hops + more)) m.stands) media) (more_hops hops more o e))

-- how many of the numbers below n pass
abbrev size : (ℕ → Bool) → ℕ → ℕ
size f zero = 0
size f (suc n) = cond (f n) 1 0 + size f n

abbrev Agree : ℕ → (ℕ → Bool) → (ℕ → Bool) → Type 0
Agree n f g = (o : ℕ) → o < n → f o ≡ g o

size_le : (f : ℕ → Bool) (n : ℕ) → size f n ≤ n
size_le f zero = omega arith
size_le f (suc n) = let rest = size_le f n in
    elim (f n) as (λ b. cond b 1 0 + size f n ≤ suc n) [ true ↦ omega arith | false ↦ omega arith ]

size_pos : (f : ℕ → Bool) (n : ℕ) → f 0 ≡ true → 0 < n → 0 < size f n
size_pos f zero e l = absurd (omega arith)
size_pos f (suc zero) e l = rw e (omega arith)
size_pos f (suc (suc n)) e l = let rest = size_pos f (suc n) e (omega arith) in
    elim (f (suc n)) as (λ b. 0 < cond b 1 0 + size f (suc n)) [ true ↦ omega arith | false ↦ omega arith ]

agree_more : (n : ℕ) (f g : ℕ → Bool) → Agree n f g → f n ≡ g n → Agree (suc n) f g
agree_more n f g so_far here o l = below_more (λ k. f k ≡ g k) n so_far here o (omega arith)

size_le_size : (f g : ℕ → Bool) → ((o : ℕ) → f o ≡ true → g o ≡ true) → (n : ℕ) → size f n ≤ size g n
size_le_size f g h zero = omega arith
size_le_size f g h (suc n) = by (f n) (g n) (h n) (size_le_size f g h n)
  where
    by : (x y : Bool) → (x ≡ true → y ≡ true) → size f n ≤ size g n → cond x 1 0 + size f n ≤ cond y 1 0 + size g n
    by true true k l = omega arith
    by true false k l = absurd (let e = k refl in cc)
    by false true k l = omega arith
    by false false k l = omega arith

size_grows : (f g : ℕ → Bool) → ((o : ℕ) → f o ≡ true → g o ≡ true) → (n : ℕ) → Agree n f g ⊎ (size f n < size g n)
size_grows f g h zero = inl (λ o l. absurd (omega arith))
size_grows f g h (suc n) = by (f n) (g n) refl refl (h n) (size_grows f g h n) (size_le_size f g h n)
  where
    by : (x y : Bool) → f n ≡ x → g n ≡ y → (x ≡ true → y ≡ true) → Agree n f g ⊎ (size f n < size g n) → size f n ≤ size g n
        → Agree (suc n) f g ⊎ (cond x 1 0 + size f n < cond y 1 0 + size g n)
    by true false e d k r l = absurd (let e = k refl in cc)
    by false true e d k r l = inr (omega arith)
    by true true e d k (inl a) l = inl (agree_more n f g a (e ∙ sym d))
    by true true e d k (inr a) l = inr (omega arith)
    by false false e d k (inl a) l = inl (agree_more n f g a (e ∙ sym d))
    by false false e d k (inr a) l = inr (omega arith)

module _ (n : ℕ) (media : List Medium) (known : AreOperators n media) where
  -- a round that finds nothing is the last that finds anything
  stays : (hops : ℕ) → Agree n (reached_within media (suc hops)) (reached_within media hops) → (more : ℕ) → Agree n (reached_within media (hops + more)) (reached_within media hops)
  stays hops still zero o l = rw add-zero refl
  stays hops still (suc more) o l =
      rw add-suc (further_same n media (reached_within media (hops + more)) (reached_within media hops) known (stays hops still more) o l ∙ still o l)

  abbrev IsStillBy : ℕ → Type 0
  IsStillBy hops = (j : ℕ) × (j ≤ hops) × Agree n (reached_within media (suc j)) (reached_within media j)

  -- each round finds an operator, or some round before found none
  still_or_more : 0 < n → (hops : ℕ) → IsStillBy hops ⊎ (hops < size (reached_within media hops) n)
  still_or_more h zero = inr (size_pos (reached_within media 0) n refl h)
  still_or_more h (suc hops) = by (still_or_more h hops)
      (size_grows (reached_within media hops) (reached_within media (suc hops))
      (λ o e. or_left _ (list_any (λ m. stands_at m o && list_any (reached_within media hops) m.stands) media) e) n)
    where
      by : IsStillBy hops ⊎ (hops < size (reached_within media hops) n)
          → Agree n (reached_within media hops) (reached_within media (suc hops)) ⊎ (size (reached_within media hops) n < size (reached_within media (suc hops)) n)
          → IsStillBy (suc hops) ⊎ (suc hops < size (reached_within media (suc hops)) n)
      by (inl before) b = inl (before.0, omega (arith, before.1), before.2)
      by (inr many) (inl same) = inl (hops, omega arith, λ o l. sym (same o l))
      by (inr many) (inr more) = inr (omega arith)

  still_at_last : 0 < n → IsStillBy n
  still_at_last h = elim (still_or_more h n) [ inl still ↦ still | inr many ↦ absurd (let most = size_le (reached_within media n) n in omega arith) ]

  in_time : (hops o : ℕ) → o < n → reached_within media hops o ≡ true → reached_within media n o ≡ true
  in_time hops o l e =
      let still = still_at_last (omega arith) in
      let later : reached_within media (still.0 + hops) o ≡ true = subst (λ (k : ℕ). reached_within media k o ≡ true) (add_comm hops still.0) (more_hops media hops still.0 o e) in
      let there = sym (stays still.0 still.2 hops o l) ∙ later in
      subst (λ (k : ℕ). reached_within media k o ≡ true) (let all : still.0 + (n - still.0) ≡ n = omega (arith, still.1) in all) (more_hops media still.0 (n - still.0) o there)

pub routes_are_found : RoutesAreFound
routes_are_found n media known o l = (
  route_of media n o,
  λ r. in_time n media known (0 + length r.0) o l (at_end media 0 0 o r.0 refl r.1),
)
