-- The search for offsets that fit a rate: of each act an offset so far, and the arc that gave it. Without a cycle of such arcs no offset is large;
-- an arc that would close one shows a cycle that is over the rate.
use Rattle.std.proofs.Common.{◌≡◌, ℕ, zero, suc, ◌+◌, ◌*◌, ◌<◌, ◌≤◌, ◌⊎◌, List, [], ◌∷◌, length, Option, Some, None, refl, sym, ap, subst, inl, inr, arith, ◌∙◌}
use Rattle.std.specs.Prelude.{slice_get}
use Rattle.std.proofs.lemmas.Bool.{cases_eq}
use Rattle.std.proofs.lemmas.Nat.{mul-le}
use Rattle.std.proofs.lemmas.Option.{same_Some}
use Rattle.std.proofs.lemmas.List.Sums.{sum_by-cons}
use Rattle.std.proofs.Math.Nat.{mul-le-mul_left}
use Rattle.self_timed.proofs.Counted.{pigeons}
use Rattle.rates.specs.declared.table.Arc.{Arc}
use Rattle.rates.specs.Rates.{begin_or, lags, length_over}
use Rattle.rates.specs.Search.{Avoids, Back, Leads, acts_back, turned}

acts_length : (i : ℕ) (w : List Arc) → length (acts_back i w) ≡ suc (length w)
acts_length i [] = omega arith
acts_length i (a ∷ w) = ap (λ (n : ℕ). suc n) (acts_length a.act w)

module _ (given : ℕ → Option Arc) where
  -- there is one way back
  one_back : (i : ℕ) (v w : List Arc) → Back given i v → Back given i w → v ≡ w
  one_back i [] [] p q = refl
  one_back i [] (a ∷ w) p q = let e : None ≡ Some a = sym p ∙ q.0 in absurd cc
  one_back i (a ∷ v) [] p q = let e : None ≡ Some a = sym q ∙ p.0 in absurd cc
  one_back i (a ∷ v) (b ∷ w) p q =
      let same : a ≡ b = same_Some a b (sym p.0 ∙ q.0) in
      let rest = one_back a.act v w p.1 (subst (λ (c : Arc). Back given c.act w) (sym same) q.1) in
      λ j. same j ∷ rest j

  -- the way back from an act on the way back
  back_at : (i : ℕ) (w : List Arc) → Back given i w → (p k : ℕ) → slice_get (acts_back i w) p ≡ Some k → (v : List Arc) × Back given k v × (length v + p ≡ length w)
  back_at i [] h zero k e = ([], subst (λ (m : ℕ). Back given m []) (same_Some i k e) h, omega arith)
  back_at i [] h (suc p) k e = absurd cc
  back_at i (a ∷ w) h zero k e = (a ∷ w, subst (λ (m : ℕ). Back given m (a ∷ w)) (same_Some i k e) h, omega arith)
  back_at i (a ∷ w) h (suc p) k e = let r = back_at a.act w h.1 p k e in let z = r.2 in (r.0, r.1, omega arith)

  -- no act is on it twice
  pub apart : (i : ℕ) (w : List Arc) → Back given i w → (p q k : ℕ) → slice_get (acts_back i w) p ≡ Some k → slice_get (acts_back i w) q ≡ Some k → p ≡ q
  apart i w h p q k e f =
      let a = back_at i w h p k e in
      let b = back_at i w h q k f in
      let same = ap (λ (v : List Arc). length v) (one_back k a.0 b.0 a.1 b.1) in
      let y = a.2 in
      let z = b.2 in
      omega arith

  -- it meets an act or avoids it
  pub meets : (j i : ℕ) (w : List Arc) → Back given i w → ((u : List Arc) × Leads given i u j) ⊎ Avoids j i w
  meets j i [] h = elim (cases_eq i j) [
    | inl e ↦ inl ([], e)
    | inr n ↦ inr (none n)
  ]
    where
      none : (i ≡ j → ⊥) → Avoids j i []
      none n zero e = absurd (n (same_Some i j e))
      none n (suc p) e = absurd cc
  meets j i (a ∷ w) h = by (cases_eq i j) (meets j a.act w h.1)
    where
      more : (i ≡ j → ⊥) → Avoids j a.act w → Avoids j i (a ∷ w)
      more n f zero e = absurd (n (same_Some i j e))
      more n f (suc p) e = f p e

      by : ((i ≡ j) ⊎ (i ≡ j → ⊥)) → (((u : List Arc) × Leads given a.act u j) ⊎ Avoids j a.act w) → ((u : List Arc) × Leads given i u j) ⊎ Avoids j i (a ∷ w)
      by (inl e) r = inl ([], e)
      by (inr n) (inl l) = inl (a ∷ l.0, (h.0, l.1))
      by (inr n) (inr f) = inr (more n f)

  -- what leads from an act to another one is a part of the way back
  pub part_back : (i : ℕ) (u w : List Arc) (j : ℕ) → Leads given i u j → Back given i w → length u ≤ length w
  part_back i [] w j p q = omega arith
  part_back i (a ∷ u) [] j p q = let e : None ≡ Some a = sym q ∙ p.0 in absurd cc
  part_back i (a ∷ u) (b ∷ w) j p q =
      let same : a ≡ b = same_Some a b (sym p.0 ∙ q.0) in
      let rest = part_back a.act u w j p.1 (subst (λ (c : Arc). Back given c.act w) (sym same) q.1) in
      omega arith

pub turned_size : (u after : List Arc) → length (turned u after) ≡ length u + length after
turned_size [] after = omega arith
turned_size (a ∷ u) after = let rest = turned_size u (a ∷ after) in omega arith

turned_lags : (u after : List Arc) → lags (turned u after) ≡ lags u + lags after
turned_lags [] after = omega arith
turned_lags (a ∷ u) after =
    let rest = turned_lags u (a ∷ after) in
    let one = sum_by-cons (λ (b : Arc). b.lag) a u in
    let other = sum_by-cons (λ (b : Arc). b.lag) a after in
    omega arith

turned_length : (long : ℕ → ℕ) (u after : List Arc) → length_over long (turned u after) ≡ length_over long u + length_over long after
turned_length long [] after = omega arith
turned_length long (a ∷ u) after =
    let rest = turned_length long u (a ∷ after) in
    let one = sum_by-cons (λ (b : Arc). long b.act) a u in
    let other = sum_by-cons (λ (b : Arc). long b.act) a after in
    omega arith

-- Acts below a number, with arcs.
module _ (count : ℕ) (Is : Arc → ℕ → Type 0) (long : ℕ → ℕ) (ticks reactions : ℕ) where
  abbrev pub IsWay : ℕ → List Arc → Type 0
  IsWay i [] = Unit {0}
  IsWay i (a ∷ more) = Is a (begin_or i more) × IsWay i more

  -- from act i to itself, with acts that last longer together than the rate has ticks
  pub record IsClosed (i : ℕ) (way : List Arc) : Type 0 where
    pub begins : begin_or i way ≡ i
    pub leads : IsWay i way
    pub longer : ticks * lags way < reactions * length_over long way

  -- Each act has at least its first offset, and room after the act of the arc that gave it; from each act the way
  -- back ends.
  pub record IsSearch (offset : ℕ → ℕ) (given : ℕ → Option Arc) : Type 0 where
    pub low : (i : ℕ) → i < count → reactions * long i ≤ offset i
    pub first : (i : ℕ) → i < count → given i ≡ None → offset i ≡ reactions * long i
    pub linked : (i : ℕ) (a : Arc) → i < count → given i ≡ Some a → Is a i × (a.act < count) × (offset i + a.lag * ticks ≤ offset a.act + reactions * long i)
    pub rooted : (i : ℕ) → i < count → (w : List Arc) × Back given i w

  -- nothing is given so far
  pub at_first : IsSearch (λ i. reactions * long i) (λ i. None)
  at_first = record {
    low = λ i l. omega arith;
    first = λ i l e. refl;
    linked = λ i a l e. absurd cc;
    rooted = λ i l. ([], refl);
  }

  module _ (offset : ℕ → ℕ) (given : ℕ → Option Arc) (s : IsSearch offset given) where
    acts_low : (i : ℕ) (w : List Arc) → i < count → Back given i w → (p k : ℕ) → slice_get (acts_back i w) p ≡ Some k → k < count
    acts_low i [] l h zero k e = let z = same_Some i k e in omega arith
    acts_low i [] l h (suc p) k e = absurd cc
    acts_low i (a ∷ w) l h zero k e = let z = same_Some i k e in omega arith
    acts_low i (a ∷ w) l h (suc p) k e = acts_low a.act w (s.linked i a l h.0).1 h.1 p k e

    -- a way back has fewer arcs than there are acts
    pub short : (i : ℕ) (w : List Arc) → i < count → Back given i w → length w < count
    short i w l h =
        let few = pigeons (acts_back i w) count (acts_low i w l h) (λ p q k e f. apart given i w h p q k e f) in
        let size = acts_length i w in
        omega arith

    telescoped : (i : ℕ) (w : List Arc) → i < count → Back given i w → offset i + lags w * ticks ≤ reactions * long i + reactions * length_over long w
    telescoped i [] l h = let z = s.first i l h in omega arith
    telescoped i (a ∷ w) l h =
        let link = s.linked i a l h.0 in
        let here = link.2 in
        let rest = telescoped a.act w link.1 h.1 in
        let long_sum = ap (λ (n : ℕ). reactions * n) (sum_by-cons (λ (b : Arc). long b.act) a w) in
        let lag_sum = ap (λ (n : ℕ). n * ticks) (sum_by-cons (λ (b : Arc). b.lag) a w) in
        omega arith

    -- if no act lasts longer than a bound
    module _ (most : ℕ) (bound : (i : ℕ) → i < count → long i ≤ most) where
      length_low : (i : ℕ) (w : List Arc) → i < count → Back given i w → length_over long w ≤ length w * most
      length_low i [] l h = omega arith
      length_low i (a ∷ w) l h =
          let there = (s.linked i a l h.0).1 in
          let rest = length_low a.act w there h.1 in
          let one = bound a.act there in
          let sum = sum_by-cons (λ (b : Arc). long b.act) a w in
          omega arith

      pub offsets_low : (i : ℕ) → i < count → offset i ≤ reactions * (count * most)
      offsets_low i l =
          let r = s.rooted i l in
          let sum = telescoped i r.0 l r.1 in
          let few = short i r.0 l r.1 in
          let over = length_low i r.0 l r.1 in
          let one = bound i l in
          let all : suc (length r.0) * most ≤ count * most = mul-le (suc (length r.0)) most count most (omega arith) (omega arith) in
          let both : long i + length_over long r.0 ≤ count * most = omega arith in
          let times = mul-le-mul_left reactions both in
          omega arith

    along : (i : ℕ) (u : List Arc) (j : ℕ) → i < count → Leads given i u j → offset i + lags u * ticks + reactions * long j ≤ offset j + reactions * long i + reactions * length_over long u
    along i [] j l h = let e = ap offset h in let f = ap (λ (k : ℕ). reactions * long k) h in omega arith
    along i (a ∷ u) j l h =
        let link = s.linked i a l h.0 in
        let here = link.2 in
        let rest = along a.act u j link.1 h.1 in
        let long_sum = ap (λ (n : ℕ). reactions * n) (sum_by-cons (λ (b : Arc). long b.act) a u) in
        let lag_sum = ap (λ (n : ℕ). n * ticks) (sum_by-cons (λ (b : Arc). b.lag) a u) in
        omega arith

    -- it leads on to other arcs
    way_turned : (i k : ℕ) (u after : List Arc) (j : ℕ) → k < count → begin_or i after ≡ k → IsWay i after → Leads given k u j → IsWay i (turned u after) × (begin_or i (turned u after) ≡ j)
    way_turned i k [] after j l b w h = (w, b ∙ h)
    way_turned i k (a ∷ u) after j l b w h =
        let link = s.linked k a l h.0 in
        way_turned i a.act u (a ∷ after) j link.1 refl (subst (λ (m : ℕ). Is a m) (sym b) link.0, w) h.1

    -- Arc a of act i has no room.
    module _ (i : ℕ) (a : Arc) (here : i < count) (there : a.act < count) (is : Is a i) (over : offset i + a.lag * ticks < offset a.act + reactions * long i) where
      -- If its act leads back to act i, it closes a cycle that is over the rate.
      pub closed : (u : List Arc) → Leads given a.act u i → IsClosed i (turned u (a ∷ []))
      closed u h =
          let o = over in
          let w = way_turned i a.act u (a ∷ []) i there refl (is, tt) h in
          let sum = along a.act u i there h in
          let lag_one = sum_by-cons (λ (b : Arc). b.lag) a [] in
          let long_one = sum_by-cons (λ (b : Arc). long b.act) a [] in
          let lag_sum : lags (turned u (a ∷ [])) ≡ lags u + a.lag = (let z = turned_lags u (a ∷ []) in omega arith) in
          let long_sum : length_over long (turned u (a ∷ [])) ≡ length_over long u + long a.act = (let z = turned_length long u (a ∷ []) in omega arith) in
          let lag_times = ap (λ (n : ℕ). ticks * n) lag_sum in
          let long_times = ap (λ (n : ℕ). reactions * n) long_sum in
          record { begins = w.1; leads = w.0; longer = omega arith }

      -- Otherwise it gives act i its next offset.
      module _ (w : List Arc) (back : Back given a.act w) (avoids : Avoids i a.act w)
          (offset' : ℕ → ℕ) (given' : ℕ → Option Arc)
          (offset_here : offset' i + a.lag * ticks ≡ offset a.act + reactions * long i) (offset_other : (j : ℕ) → (j ≡ i → ⊥) → offset' j ≡ offset j)
          (given_here : given' i ≡ Some a) (given_other : (j : ℕ) → (j ≡ i → ⊥) → given' j ≡ given j) where
        rises : (j : ℕ) → offset j ≤ offset' j
        rises j = elim (cases_eq j i) [
          | inl e ↦ (let p = ap offset e in let q = ap offset' e in let o = over in let r = offset_here in omega arith)
          | inr n ↦ (let p = offset_other j n in omega arith)
        ]

        kept_back : (j : ℕ) (v : List Arc) → Back given j v → Avoids i j v → Back given' j v
        kept_back j [] h f = given_other j (λ e. f 0 (ap (λ (k : ℕ). Some k) e)) ∙ h
        kept_back j (b ∷ v) h f = (given_other j (λ e. f 0 (ap (λ (k : ℕ). Some k) e)) ∙ h.0, kept_back b.act v h.1 (λ p e. f (suc p) e))

        next_back : (j : ℕ) (v : List Arc) → Back given j v → (x : List Arc) × Back given' j x
        next_back j [] h = elim (cases_eq j i) [
          | inl e ↦ (a ∷ w, (ap given' e ∙ given_here, kept_back a.act w back avoids))
          | inr n ↦ ([], given_other j n ∙ h)
        ]
        next_back j (b ∷ v) h =
            let r = next_back b.act v h.1 in
            elim (cases_eq j i) [
              | inl e ↦ (a ∷ w, (ap given' e ∙ given_here, kept_back a.act w back avoids))
              | inr n ↦ (b ∷ r.0, (given_other j n ∙ h.0, r.1))
            ]

        pub raised : IsSearch offset' given'
        raised = record {
          low = λ j l. (let p = s.low j l in let q = rises j in omega arith);
          first = first;
          linked = linked;
          rooted = λ j l. (let r = s.rooted j l in next_back j r.0 r.1);
        }
          where
            first : (j : ℕ) → j < count → given' j ≡ None → offset' j ≡ reactions * long j
            first j l e = elim (cases_eq j i) [
              | inl q ↦ (let none : None ≡ Some a = sym e ∙ ap given' q ∙ given_here in absurd cc)
              | inr n ↦ offset_other j n ∙ s.first j l (sym (given_other j n) ∙ e)
            ]

            linked : (j : ℕ) (b : Arc) → j < count → given' j ≡ Some b → Is b j × (b.act < count) × (offset' j + b.lag * ticks ≤ offset' b.act + reactions * long j)
            linked j b l e = elim (cases_eq j i) [
              | inl q ↦ (
                  let same : a ≡ b = same_Some a b (sym given_here ∙ ap given' (sym q) ∙ e) in
                  let up = rises a.act in
                  let is_here = offset_here in
                  let mine : offset' i + a.lag * ticks ≤ offset' a.act + reactions * long i = omega arith in
                  subst (λ (c : Arc). Is c j × (c.act < count) × (offset' j + c.lag * ticks ≤ offset' c.act + reactions * long j)) same
                  (subst (λ (k : ℕ). Is a k × (a.act < count) × (offset' k + a.lag * ticks ≤ offset' a.act + reactions * long k)) (sym q) (is, there, mine)))
              | inr n ↦ (
                  let link = s.linked j b l (sym (given_other j n) ∙ e) in
                  let up = rises b.act in
                  let same = offset_other j n in
                  let old = link.2 in
                  (link.0, link.1, omega arith))
            ]
