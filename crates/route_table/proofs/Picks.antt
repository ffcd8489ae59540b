-- The hop that is chosen gives a route that is not greater than that of any other hop.
use Rattle.std.proofs.Common.{
  ◌≡◌,
  ℕ,
  zero,
  suc,
  ◌+◌,
  ◌<◌,
  Bool,
  true,
  false,
  cond,
  ◌&&◌,
  ◌||◌,
  List,
  [],
  ◌∷◌,
  length,
  Option,
  Some,
  None,
  refl,
  sym,
  ap,
  subst,
  arith,
  ◌∙◌,
  ◌⊎◌,
  inl,
  inr,
  add-zero,
  zero-add,
  drop,
}
use Rattle.std.specs.Prelude.{Contains, IfSome, IsSomeAnd, slice_get, slice_index_or, nat_eq}
use Rattle.std.specs.List.{list_any}
use Rattle.std.proofs.lemmas.Bool.{and_parts, eqb-true, eq-eqb}
use Rattle.std.proofs.lemmas.List.{at_drop_more}
use Rattle.archi_graph.specs.declared.medium.Medium.{Medium}
use Rattle.archi_graph.specs.declared.medium.Hop.{Hop}
use Rattle.archi_graph.specs.Archi.{stands_at}
use Rattle.archi_graph.specs.Routes.{IsHop}
use Rattle.route_table.specs.Least.{is_less}
use Rattle.route_table.specs.Table.{RouteTable}
use Rattle.route_table.specs.Search.{is_at, through, pick, pick_over, pick_among}
use Rattle.route_table.proofs.Order.{less_not, less_turned, less_self}

-- the best hop so far is there, and the other one gives no less route
abbrev pub Beats : RouteTable → ℕ → Option Hop → Hop → Type 0
Beats t to best g = IsSomeAnd best (λ h. is_less (through t to g) (through t to h) ≡ false)

-- the best hop so far has the property, and it leads to a route of this many hops
abbrev pub IsFrom : RouteTable → ℕ → ℕ → (Hop → Type 0) → Option Hop → Type 0
IsFrom t hops to P best = IfSome best (λ h. P h × (is_at t hops h.to to ≡ true))

pub some_and : {T : Type 0} (o : Option T) (P : T → Type 0) → IsSomeAnd o P → (x : T) × (o ≡ Some x) × P x
some_and None P h = absurd h
some_and (Some x) P h = (x, refl, h)

pub some_with : {T : Type 0} (o : Option T) (P : T → Type 0) (x : T) → o ≡ Some x → P x → IsSomeAnd o P
some_with o P x e h = subst (λ (v : Option _). IsSomeAnd v P) (sym e) h

any_here : (x y : Bool) → x ≡ true → (x || y) ≡ true
any_here true y e = refl
any_here false y e = cc

any_later : (x y : Bool) → y ≡ true → (x || y) ≡ true
any_later true y e = refl
any_later false y e = e

any_parts : (x y : Bool) → (x || y) ≡ true → (x ≡ true) ⊎ (y ≡ true)
any_parts true y e = inl refl
any_parts false y e = inr e

pub stands_of : (o : ℕ) (xs : List ℕ) → list_any (nat_eq o) xs ≡ true → Contains xs o
stands_of o [] e = absurd (cc)
stands_of o (x ∷ xs) e =
    elim (any_parts (nat_eq o x) (list_any (nat_eq o) xs) e) [
      | inl here ↦ (0, omega arith, sym (eqb-true o x here))
      | inr later ↦ let r = stands_of o xs later in (suc r.0, omega (arith, r.1), r.2)
    ]

stands_from : (xs : List ℕ) (o k : ℕ) → k < length xs → slice_index_or xs k o ≡ o → list_any (nat_eq o) xs ≡ true
stands_from [] o k l e = absurd (omega arith)
stands_from (x ∷ xs) o zero l e = any_here (nat_eq o x) (list_any (nat_eq o) xs) (eq-eqb o x (sym e))
stands_from (x ∷ xs) o (suc k) l e = any_later (nat_eq o x) (list_any (nat_eq o) xs) (stands_from xs o k (omega arith) e)

module _ (t : RouteTable) (hops to : ℕ) where
  pick_keeps : (best : Option Hop) (h g : Hop) → Beats t to best g → Beats t to (pick t hops to best h) g
  pick_keeps None h g b = absurd b
  pick_keeps (Some best) h g b = by (is_at t hops h.to to && is_less (through t to h) (through t to best)) refl
    where
      by : (x : Bool) → (is_at t hops h.to to && is_less (through t to h) (through t to best)) ≡ x → Beats t to (cond x (Some h) (Some best)) g
      by true e = less_not (through t to g) (through t to best) (through t to h) b
          (less_turned (through t to h) (through t to best) (and_parts (is_at t hops h.to to) (is_less (through t to h) (through t to best)) e).1)
      by false e = b

  pick_beats : (best : Option Hop) (h : Hop) → is_at t hops h.to to ≡ true → Beats t to (pick t hops to best h) h
  pick_beats None h there = rw there (less_self (through t to h))
  pick_beats (Some best) h there = rw there (by (is_less (through t to h) (through t to best)) refl)
    where
      by : (x : Bool) → is_less (through t to h) (through t to best) ≡ x → Beats t to (cond x (Some h) (Some best)) h
      by true e = less_self (through t to h)
      by false e = e

  pick_from : (P : Hop → Type 0) (best : Option Hop) (h : Hop) → IsFrom t hops to P best → P h → IsFrom t hops to P (pick t hops to best h)
  pick_from P None h b p = by (is_at t hops h.to to) refl
    where
      by : (x : Bool) → is_at t hops h.to to ≡ x → IsFrom t hops to P (cond (x && true) (Some h) None)
      by true e = (p, e)
      by false e = tt
  pick_from P (Some best) h b p = by (is_at t hops h.to to) (is_less (through t to h) (through t to best)) refl
    where
      by : (x y : Bool) → is_at t hops h.to to ≡ x → IsFrom t hops to P (cond (x && y) (Some h) (Some best))
      by true true e = (p, e)
      by true false e = b
      by false y e = b

  over_keeps : (number : ℕ) (stands : List ℕ) (best : Option Hop) (g : Hop) → Beats t to best g → Beats t to (pick_over t hops to number best stands) g
  over_keeps number [] best g b = b
  over_keeps number (o ∷ stands) best g b =
      let h : Hop = record { medium = number; to = o } in over_keeps number stands (pick t hops to best h) g (pick_keeps best h g b)

  over_beats : (number : ℕ) (stands : List ℕ) (best : Option Hop) (o k : ℕ) → k < length stands → slice_index_or stands k o ≡ o → is_at t hops o to ≡ true
      → Beats t to (pick_over t hops to number best stands) (record { medium = number; to = o })
  over_beats number [] best o k l e there = absurd (omega arith)
  over_beats number (p ∷ stands) best o zero l e there =
      let g : Hop = record { medium = number; to = o } in
      let h : Hop = record { medium = number; to = p } in
      let here : is_at t hops p to ≡ true = subst (λ (x : ℕ). is_at t hops x to ≡ true) (sym e) there in
      over_keeps number stands (pick t hops to best h) g
      (subst (λ (x : ℕ). Beats t to (pick t hops to best h) (record { medium = number; to = x })) e (pick_beats best h here))
  over_beats number (p ∷ stands) best o (suc k) l e there =
      let h : Hop = record { medium = number; to = p } in over_beats number stands (pick t hops to best h) o k (omega arith) e there

  over_from : (P : Hop → Type 0) (number : ℕ) (stands : List ℕ) (best : Option Hop) → IsFrom t hops to P best
      → ((o : ℕ) → Contains stands o → P (record { medium = number; to = o })) → IsFrom t hops to P (pick_over t hops to number best stands)
  over_from P number [] best b each = b
  over_from P number (o ∷ stands) best b each =
      let h : Hop = record { medium = number; to = o } in
      over_from P number stands (pick t hops to best h) (pick_from P best h b (each o (0, omega arith, refl))) (λ p c. each p (suc c.0, omega (arith, c.1), c.2))

  module _ (from : ℕ) where
    abbrev over_if : ℕ → Option Hop → Medium → Option Hop
    over_if number best m = cond (stands_at m from) (pick_over t hops to number best m.stands) best

    if_keeps : (number : ℕ) (m : Medium) (best : Option Hop) (g : Hop) → Beats t to best g → Beats t to (over_if number best m) g
    if_keeps number m best g b = elim (stands_at m from) as (λ x. Beats t to (cond x (pick_over t hops to number best m.stands) best) g) [
      | true ↦ over_keeps number m.stands best g b
      | false ↦ b
    ]

    among_keeps : (number : ℕ) (media : List Medium) (best : Option Hop) (g : Hop) → Beats t to best g → Beats t to (pick_among t hops to from number best media) g
    among_keeps number [] best g b = b
    among_keeps number (m ∷ media) best g b = among_keeps (number + 1) media (over_if number best m) g (if_keeps number m best g b)

    among_beats : (media : List Medium) (number : ℕ) (best : Option Hop) (k o : ℕ) (m : Medium) → slice_get media k ≡ Some m → Contains m.stands from → Contains m.stands o → is_at t hops o to ≡ true
        → Beats t to (pick_among t hops to from number best media) (record { medium = number + k; to = o })
    among_beats [] number best k o m e near far there = absurd (cc)
    among_beats (n ∷ media) number best zero o m e near far there =
        let g : Hop = record { medium = number; to = o } in
        let same : n ≡ m = cc in
        let stands : list_any (nat_eq from) m.stands ≡ true = stands_from m.stands from near.0 near.1 near.2 in
        let here : Beats t to (over_if number best m) g = rw stands (over_beats number m.stands best o far.0 far.1 far.2 there) in
        rw add-zero (among_keeps (number + 1) media (over_if number best n) g (subst (λ (x : Medium). Beats t to (over_if number best x) g) (sym same) here))
    among_beats (n ∷ media) number best (suc k) o m e near far there =
        subst (λ (x : ℕ). Beats t to (pick_among t hops to from (number + 1) (over_if number best n) media) (record { medium = x; to = o }))
        (let a : number + 1 + k ≡ number + suc k = omega arith in a)
        (among_beats media (number + 1) (over_if number best n) k o m e near far there)

    among_from : (P : Hop → Type 0) (media : List Medium) (number : ℕ) (best : Option Hop) → IsFrom t hops to P best
        → ((k o : ℕ) (m : Medium) → slice_get media k ≡ Some m → Contains m.stands from → Contains m.stands o → P (record { medium = number + k; to = o }))
        → IsFrom t hops to P (pick_among t hops to from number best media)
    among_from P [] number best b each = b
    among_from P (m ∷ media) number best b each =
        among_from P media (number + 1) (over_if number best m) (by (stands_at m from) refl) (λ k o n e near far.
        subst (λ (x : ℕ). P (record { medium = x; to = o })) (let a : number + suc k ≡ number + 1 + k = omega arith in a) (each (suc k) o n e near far))
      where
        by : (x : Bool) → stands_at m from ≡ x → IsFrom t hops to P (cond x (pick_over t hops to number best m.stands) best)
        by true e = over_from P number m.stands best b (λ o far. subst (λ (x : ℕ). P (record { medium = x; to = o })) (add-zero number) (each 0 o m refl (stands_of from m.stands e) far))
        by false e = b

    -- no hop gives a less route than the chosen one
    pub chosen_beats : (media : List Medium) (g : Hop) → IsHop media from g → is_at t hops g.to to ≡ true → Beats t to (pick_among t hops to from 0 None media) g
    chosen_beats media g hop there =
        let m = some_and (slice_get media g.medium) (λ x. Contains x.stands from × Contains x.stands g.to) hop in
        subst (λ (x : ℕ). Beats t to (pick_among t hops to from 0 None media) (record { medium = x; to = g.to })) (zero-add g.medium)
        (among_beats media 0 None g.medium g.to m.0 m.1 m.2.0 m.2.1 there)

    -- the chosen hop leads from the operator to a route of this many hops
    pub chosen_from : (media : List Medium) → IsFrom t hops to (IsHop media from) (pick_among t hops to from 0 None media)
    chosen_from media =
        among_from (IsHop media from) media 0 None tt (λ k o m e near far.
        subst (λ (x : ℕ). IsHop media from (record { medium = x; to = o })) (sym (zero-add k))
        (some_with (slice_get media k) (λ x. Contains x.stands from × Contains x.stands o) m e (near, far)))

-- a medium more
pub among_next : (t : RouteTable) (hops to from number : ℕ) (best next : Option Hop) (media : List Medium) (m : Medium) (x : Bool) → number < length media → m ≡ slice_index_or media number m
    → stands_at m from ≡ x → next ≡ cond x (pick_over t hops to number best m.stands) best
    → pick_among t hops to from (number + 1) next (drop (number + 1) media) ≡ pick_among t hops to from number best (drop number media)
among_next t hops to from number best next media m x l is stands e =
    let rest = drop (number + 1) media in
    sym (at_drop_more (pick_among t hops to from number best) media number m l
    ∙ ap (λ (y : Medium). pick_among t hops to from number best (y ∷ rest)) (sym is)
    ∙ ap (λ (y : Bool). pick_among t hops to from (number + 1) (cond y (pick_over t hops to number best m.stands) best) rest) stands
    ∙ ap (λ (y : Option Hop). pick_among t hops to from (number + 1) y rest) (sym e))
