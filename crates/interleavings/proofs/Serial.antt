-- The precedence of joined sequences is serial.
use Rattle.std.proofs.Common.{◌≡◌, ℕ, zero, suc, ◌+◌, ◌-◌, ◌*◌, ◌<◌, ◌≤◌, ◌⊎◌, Bool, true, false, length, Option, Some, None, refl, sym, ap, subst, inl, inr, ⊎_elim, arith, ◌∙◌, add-one}
use Rattle.std.specs.Prelude.{slice_get, cond, nat_lt}
use Rattle.std.proofs.lemmas.Option.{same_Some}
use Rattle.std.proofs.lemmas.Bool.{lt-ltb, le-ltb, cases_lt, cases_eq}
use Rattle.std.proofs.lemmas.Nat.{mod_below}
use Rattle.std.proofs.Math.Nat.{mul-le-mul_right}
use native.Mathlib.Nat.{suc-mul}
use Rattle.interleavings.specs.Precedence.{Event, event, IsEvent, IsSerial}
use Rattle.interleavings.specs.Sites.{Site, step_at, reaction_at, place_at, passes, number_of}
use Rattle.interleavings.proofs.Numbers.{reaction_number, place_number, row_below, number_split}
use Rattle.interleavings.specs.System.{System, Micro, take, see, sub, signal, await, advance, load, store, is_take, full, half_number}
use Rattle.interleavings.specs.Owners.{Owner, nth_of, nth_in}
use Rattle.interleavings.specs.Media.{Half, IsMedium, needed, needed_turn, precedence, owner_of, advances_half}
use Rattle.interleavings.specs.Pairs.{IsSemaphore}
use Rattle.interleavings.specs.Order.{IsJoined, IsOrdered}
use Rattle.interleavings.specs.System as Woven
use Rattle.interleavings.proofs.Media.{step_there, nth_late}
use Rattle.interleavings.proofs.Pairs.{passes_at}
use Rattle.interleavings.proofs.Families.{nth_at}

-- The rank of an event: the micro-steps of prologues come before all reactions, and those of a reaction
-- in the order of their spots.
abbrev pub rank_by : {P : Type 0} → System P → (ℕ → ℕ → ℕ) → ℕ → ℕ → Event → ℕ
rank_by w spot steps front e = cond (nat_lt e.number (length (w.codes e.sequence).prologue)) e.number
    (front + (reaction_at (w.codes e.sequence) e.number * steps +
    spot e.sequence (place_at (w.codes e.sequence) e.number)))

module _ {P : Type 0} (w : System P) (signaller : ℕ → Owner) (half : ℕ → ℕ → Half) (spot : ℕ → ℕ → ℕ) (steps front : ℕ) (o : IsOrdered w signaller half spot steps front) where
  -- a step of the turn: the turn is not empty, and its place is inside
  pub turn_inside : (s n : ℕ) → length (w.codes s).prologue ≤ n → n < full w s → place_at (w.codes s) n < length (w.codes s).turn
  turn_inside s n h f = by (cases_lt 0 (length (w.codes s).turn))
    where
      by : (0 < length (w.codes s).turn) ⊎ (length (w.codes s).turn ≤ 0) → place_at (w.codes s) n < length (w.codes s).turn
      by (inl x) = mod_below (n - length (w.codes s).prologue) (length (w.codes s).turn) x
      by (inr x) = let e : length (w.codes s).turn ≡ 0 = omega arith in
          let g : w.reactions * length (w.codes s).turn ≡ w.reactions * 0 = ap (λ (y : ℕ). w.reactions * y) e in absurd (omega arith)

  abbrev rank : Event → ℕ
  rank = rank_by w spot steps front

  rank_front : (s n : ℕ) → n < length (w.codes s).prologue → rank (event s n) ≡ n
  rank_front s n h = rw (lt-ltb n (length (w.codes s).prologue) h) refl

  rank_turn : (s k a : ℕ) → a < length (w.codes s).turn → rank (event s (number_of (w.codes s) k a)) ≡ front + (k * steps + spot s a)
  rank_turn s k a h = rw (le-ltb (number_of (w.codes s) k a) (length (w.codes s).prologue) (omega arith), reaction_number (w.codes s) k a h, place_number (w.codes s) k a h) refl

  steps_below : (i j : ℕ) → i < j → i * steps + steps ≤ j * steps
  steps_below i j h = let m : suc i * steps ≤ j * steps = mul-le-mul_right steps h in omega (arith, suc-mul i steps)

  rank_late : (s n : ℕ) → length (w.codes s).prologue ≤ n → rank (event s n) ≡ front + (reaction_at (w.codes s) n * steps + spot s (place_at (w.codes s) n))
  rank_late s n h = rw (le-ltb n (length (w.codes s).prologue) h) refl

  by_rows : (s k l i j : ℕ) → l < length (w.codes s).turn → j < length (w.codes s).turn → k * length (w.codes s).turn + l < i * length (w.codes s).turn + j
      → k * steps + spot s l < i * steps + spot s j
  by_rows s k l i j hl hj h = by (cases_lt k i) (cases_lt i k)
    where
      by : (k < i) ⊎ (i ≤ k) → (i < k) ⊎ (k ≤ i) → k * steps + spot s l < i * steps + spot s j
      by (inl x) y = let a = steps_below k i x in let b = o.below s l hl in omega arith
      by (inr x) (inl y) = let a = row_below (w.codes s) i k y in absurd (omega arith)
      by (inr x) (inr y) = let e : k ≡ i = omega arith in let f = ap (λ (z : ℕ). z * length (w.codes s).turn) e in let g = ap (λ (z : ℕ). z * steps) e in
          let r = o.rises s l j (omega arith) hj in omega arith

  rises : (s n m : ℕ) → n < m → m < full w s → rank (event s n) < rank (event s m)
  rises s n m h f = by (cases_lt n (length (w.codes s).prologue)) (cases_lt m (length (w.codes s).prologue))
    where
      both : (a b : ℕ) → rank (event s n) ≡ a → rank (event s m) ≡ b → a < b → rank (event s n) < rank (event s m)
      both a b x y l = rw (x, y) l

      by : (n < length (w.codes s).prologue) ⊎ (length (w.codes s).prologue ≤ n) → (m < length (w.codes s).prologue) ⊎ (length (w.codes s).prologue ≤ m) → rank (event s n) < rank (event s m)
      by (inl x) (inl y) = both _ _ (rank_front s n x) (rank_front s m y) h
      by (inl x) (inr y) = both _ _ (rank_front s n x) (rank_late s m y) (let g = o.fronts s in omega arith)
      by (inr x) (inl y) = absurd (omega arith)
      by (inr x) (inr y) = both _ _ (rank_late s n x) (rank_late s m y)
          (let a = number_split (w.codes s) n x in let b = number_split (w.codes s) m y in
          let r = by_rows s (reaction_at (w.codes s) n) (place_at (w.codes s) n) (reaction_at (w.codes s) m) (place_at (w.codes s) m)
          (turn_inside s n x (omega arith)) (turn_inside s m y f) (omega arith) in omega arith)

  abbrev Earlier : Event → Event → Type 0
  Earlier f e = IsEvent (precedence w signaller half rank) f × (rank f < rank e)

  -- an event of reaction k is there if another of reaction k is
  turn_there : (s t k a b : ℕ) → b < length (w.codes t).turn → number_of (w.codes s) k a < full w s → a < length (w.codes s).turn → number_of (w.codes t) k b < full w t
  turn_there s t k a b hb h ha = by (cases_lt k w.reactions)
    where
      by : (k < w.reactions) ⊎ (w.reactions ≤ k) → number_of (w.codes t) k b < full w t
      by (inl x) = let r = row_below (w.codes t) k w.reactions x in omega arith
      by (inr x) = let r : w.reactions * length (w.codes s).turn ≤ k * length (w.codes s).turn = mul-le-mul_right (length (w.codes s).turn) x in absurd (omega arith)

  clash : {f : Event} → ◌≡◌ {A = Option Event} None (Some f) → ⊥
  clash q = cc

  module _ (s k l : ℕ) (inside : l < length (w.codes s).turn) (fits : number_of (w.codes s) k l < full w s) where
    here : ℕ
    here = number_of (w.codes s) k l

    rank_here : rank (event s (number_of (w.codes s) k l)) ≡ front + (k * steps + spot s l)
    rank_here = rank_turn s k l inside

    -- an event of the same reaction that stands earlier, and one of an earlier reaction
    same_reaction : (t a : ℕ) → t < w.sequences → a < length (w.codes t).turn → spot t a < spot s l → Earlier (event t (number_of (w.codes t) k a)) (event s (number_of (w.codes s) k l))
    same_reaction t a ht ha h = ((ht, turn_there s t k l a ha fits inside), rw (rank_turn t k a ha, rank_here) (omega arith))

    earlier_reaction : (t a j : ℕ) → t < w.sequences → a < length (w.codes t).turn → j < k → Earlier (event t (number_of (w.codes t) j a)) (event s (number_of (w.codes s) k l))
    earlier_reaction t a j ht ha h = let b = o.below t a ha in let r = row_below (w.codes t) j k h in let u = steps_below j k h in
        let g = turn_there s t k l a ha fits inside in
        ((ht, omega arith), rw (rank_turn t j a ha, rank_here) (omega arith))

    prologue_event : (t n : ℕ) → t < w.sequences → n < length (w.codes t).prologue → Earlier (event t n) (event s (number_of (w.codes s) k l))
    prologue_event t n ht h = let b = o.fronts t in ((ht, omega arith), rw (rank_front t n h, rank_here) (omega arith))

    -- what asks for semaphore x
    asked : (x t : ℕ) → IsSemaphore w signaller x s l t → Earlier (nth_of w (signaller x) (passes (is_take x) (w.codes s) (number_of (w.codes s) k l))) (event s (number_of (w.codes s) k l))
    asked x t m = subst (λ (j : ℕ). Earlier (nth_of w (signaller x) j) (event s (number_of (w.codes s) k l))) (sym (passes_at w (is_take x) s t l k m.taken m.before)) (by (cases_lt k y.early))
      where
        q : ℕ
        q = (signaller x).sequence

        y : Site
        y = (signaller x).site

        by : (k < y.early) ⊎ (y.early ≤ k) → Earlier (nth_of w (signaller x) k) (event s (number_of (w.codes s) k l))
        by (inl h) = rw (lt-ltb k y.early h) (let e = m.signalled.site.within_early in prologue_event q (y.first + k) m.signalled.here (omega arith))
        by (inr h) = rw (le-ltb k y.early h) (deep (cases_eq y.early 0))
          where
            deep : (y.early ≡ 0) ⊎ (y.early ≡ 0 → ⊥) → Earlier (event q (number_of (w.codes q) (k - y.early) y.place)) (event s (number_of (w.codes s) k l))
            deep (inl z) = let e : k ≡ k - y.early = omega arith in
                subst (λ (j : ℕ). Earlier (event q (number_of (w.codes q) j y.place)) (event s (number_of (w.codes s) k l))) e
                (same_reaction q y.place m.signalled.here m.signalled.site.within (o.signal_first x s l t m z))
            deep (inr z) = earlier_reaction q y.place (k - y.early) m.signalled.here m.signalled.site.within (omega arith)

    -- what waits for half i of reaction k, whose number is i more than the halves before
    module _ (m : ℕ) (x : IsMedium w signaller half m) where
      turn_is : (j i : ℕ) → i < w.halves m → nth_in w (w.halves m) (λ n. owner_of (half m n)) (j * w.halves m + i)
          ≡ event (half m i).sequence (number_of (w.codes (half m i).sequence) j (half m i).advances)
      turn_is j i h = nth_at w (w.halves m) (Woven.advances m) (advances_half m) (λ n. owner_of (half m n)) x.family j i h
          ∙ ap (event (half m i).sequence) (nth_late (w.codes (half m i).sequence) (half m i).advances j)

      abbrev Turn : ℕ → Type 0
      Turn b = Earlier (nth_in w (w.halves m) (λ n. owner_of (half m n)) b) (event s (number_of (w.codes s) k l))

      waited_same : (i b : ℕ) (e : Bool) → slice_get (w.codes s).turn l ≡ Some (await m (i + 1) e) → i < w.halves m → k * w.halves m + (i + 1) ≡ suc b → Turn b
      waited_same i b e q h n = let f : k * w.halves m + i ≡ b = omega arith in
          subst Turn f (subst (λ (v : Event). Earlier v (event s (number_of (w.codes s) k l))) (sym (turn_is k i h))
          (same_reaction (half m i).sequence (half m i).advances (x.family.owned i h).here (x.family.owned i h).site.within (o.half_first s l m i e q x)))

      waited_before : (b : ℕ) → k * w.halves m + 0 ≡ suc b → Turn b
      waited_before b n = by k refl
        where
          by : (j : ℕ) → k ≡ j → Turn b
          by zero e = let f : k * w.halves m ≡ 0 * w.halves m = ap (λ (z : ℕ). z * w.halves m) e in absurd (omega arith)
          by (suc j) e = let p = x.family.some in let i : ℕ = w.halves m - 1 in
              let f : k * w.halves m ≡ suc j * w.halves m = ap (λ (z : ℕ). z * w.halves m) e in
              let g : j * w.halves m + i ≡ b = omega (arith, suc-mul j (w.halves m)) in
              let h : i < w.halves m = omega arith in
              subst Turn g (subst (λ (v : Event). Earlier v (event s (number_of (w.codes s) k l))) (sym (turn_is j i h))
              (earlier_reaction (half m i).sequence (half m i).advances j (x.family.owned i h).here (x.family.owned i h).site.within (omega arith)))

  module _ (d : IsJoined w signaller half) where
    abbrev Goal : Event → Event → Type 0
    Goal e f = needed w signaller half e (step_at (w.codes e.sequence) e.number) ≡ Some f → Earlier f e

    -- a step of a turn
    module _ (s k l : ℕ) (inside : l < length (w.codes s).turn) (fits : number_of (w.codes s) k l < full w s) (f : Event) where
      abbrev This : Event
      This = event s (number_of (w.codes s) k l)

      waits_for : (m i : ℕ) (e : Bool) → slice_get (w.codes s).turn l ≡ Some (await m i e) → IsMedium w signaller half m
          → ((j : ℕ) → i ≡ j + 1 → j < w.halves m) → (n : ℕ) → k * w.halves m + i ≡ n → needed_turn w signaller half m n ≡ Some f → Earlier f This
      waits_for m i e q x h zero g v = absurd (clash v)
      waits_for m i e q x h (suc b) g v = subst (λ (u : Event). Earlier u This) (same_Some _ f v) (by i refl)
        where
          by : (j : ℕ) → i ≡ j → Earlier (nth_in w (w.halves m) (λ n. owner_of (half m n)) b) This
          by zero z = waited_before s k l inside fits m x b (let y : k * w.halves m + i ≡ k * w.halves m + 0 = ap (λ (j : ℕ). k * w.halves m + j) z in omega (arith, y))
          by (suc j) z = let y : i ≡ j + 1 = z ∙ sym (add-one j) in
              waited_same s k l inside fits m x j b e (q ∙ ap (λ (n : ℕ). Some (await m n e)) y) (h j y)
              (let y' : k * w.halves m + i ≡ k * w.halves m + (j + 1) = ap (λ (n : ℕ). k * w.halves m + n) y in omega (arith, y'))

      half_is : (m i : ℕ) → half_number w s (number_of (w.codes s) k l) m i ≡ k * w.halves m + i
      half_is m i = ap (λ (z : ℕ). z * w.halves m + i) (reaction_number (w.codes s) k l inside)

      by_step : (m : Micro) → slice_get (w.codes s).turn l ≡ Some m → needed w signaller half This (Some m) ≡ Some f → Earlier f This
      by_step (take x) q v = let t = d.takes s l x (inl q) in subst (λ (u : Event). Earlier u This) (same_Some _ f v) (asked s k l inside fits x t.0 t.1)
      by_step (see x) q v = let t = d.takes s l x (inr q) in subst (λ (u : Event). Earlier u This) (same_Some _ f v) (asked s k l inside fits x t.0 t.1)
      by_step (await m i true) q v = let t = d.waits s l m i q in let h = t.1.within in
          waits_for m i true q t.0 (λ j z. omega arith) (k * w.halves m + i) refl (ap (needed_turn w signaller half m) (sym (half_is m i)) ∙ v)
      by_step (await m i false) q v = let t = d.syncs s l m i q in let h = t.2 in
          waits_for m i false q t.0 (λ j z. omega arith) (k * w.halves m + i) refl (ap (needed_turn w signaller half m) (sym (half_is m i)) ∙ v)
      by_step (sub x) q v = absurd (clash v)
      by_step (signal x) q v = absurd (clash v)
      by_step (advance m i) q v = absurd (clash v)
      by_step (load y i) q v = absurd (clash v)
      by_step (store y i) q v = absurd (clash v)

      by_turn : (m : Option Micro) → slice_get (w.codes s).turn l ≡ m → needed w signaller half This m ≡ Some f → Earlier f This
      by_turn None q v = absurd (clash v)
      by_turn (Some m) q v = by_step m q v

    in_front : (s n : ℕ) (f : Event) → n < length (w.codes s).prologue → Goal (event s n) f
    in_front s n f h v = absurd (clash (sym (by (slice_get (w.codes s).prologue n) refl) ∙ v))
      where
        at : step_at (w.codes s) n ≡ slice_get (w.codes s).prologue n
        at = rw (lt-ltb n (length (w.codes s).prologue) h) refl

        by : (m : Option Micro) → slice_get (w.codes s).prologue n ≡ m → needed w signaller half (event s n) (step_at (w.codes s) n) ≡ None
        by None q = ap (needed w signaller half (event s n)) (at ∙ q)
        by (Some m) q = let t = d.prologue s n m q in ap (needed w signaller half (event s n)) (at ∙ q ∙ ap (λ (z : Micro). Some z) t.1)

    in_turn : (s n : ℕ) (f : Event) → length (w.codes s).prologue ≤ n → n < full w s → Goal (event s n) f
    in_turn s n f h l = let i = turn_inside s n h l in let e = number_split (w.codes s) n h in
        subst (λ (x : ℕ). x < full w s → Goal (event s x) f) (sym e)
        (λ fits v. by_turn s (reaction_at (w.codes s) n) (place_at (w.codes s) n) i fits f (slice_get (w.codes s).turn (place_at (w.codes s) n)) refl
        (ap (needed w signaller half (event s (number_of (w.codes s) (reaction_at (w.codes s) n) (place_at (w.codes s) n))))
        (sym (step_there (w.codes s) (reaction_at (w.codes s) n) (place_at (w.codes s) n) i)) ∙ v)) l

    needs_earlier : (e f : Event) → IsEvent (precedence w signaller half rank) e → Goal e f
    needs_earlier e f h = ⊎_elim (λ x. in_front e.sequence e.number f x) (λ x. in_turn e.sequence e.number f x h.1) (cases_lt e.number (length (w.codes e.sequence).prologue))

    pub serial : IsSerial (precedence w signaller half rank)
    serial = record { rises = rises; needs_here = λ e f h v. (needs_earlier e f h v).0; needs_below = λ e f h v. (needs_earlier e f h v).1 }
