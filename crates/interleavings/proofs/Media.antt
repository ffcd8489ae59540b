-- A wait is over exactly where the event that it needs was made.
use Rattle.std.proofs.Common.{◌≡◌, ℕ, zero, suc, ◌+◌, ◌*◌, ◌/◌, ◌%◌, ◌<◌, ◌≤◌, ◌⊎◌, Bool, true, false, length, Option, Some, None, refl, sym, ap, subst, inl, inr, ⊎_elim, arith, ◌∙◌, eq-eqb}
use Rattle.std.specs.Prelude.{slice_get}
use Rattle.std.proofs.lemmas.Bool.{cases_lt, le-ltb, eqb-true, leb-true, le-leb}
use Rattle.std.proofs.lemmas.Option.{same_Some, slice_get_within}
use Rattle.std.proofs.lemmas.Nat.{div-add-mod', div-mul-add, mod-mul-add, mod_below}
use native.Mathlib.Nat.{suc-mul}
use Rattle.interleavings.specs.Precedence.{Event, event, IsMade, IsConsistent, IsReady}
use Rattle.interleavings.specs.Sites.{Code, step_at, reaction_at, nth, number_of}
use Rattle.interleavings.proofs.Numbers.{reaction_number, place_number}
use Rattle.interleavings.specs.System.{System, await, total, advances, stores, half_number, full}
use Rattle.interleavings.specs.Owners.{Owner, nth_of, nth_in}
use Rattle.interleavings.specs.Media.{Half, owner_of, advances_half, stores_access, writer_of, needed, needed_turn, precedence, IsMedium, IsOwnWait, IsWire, IsWireLoad}
use Rattle.interleavings.proofs.Families.{in_order, earlier, nth_at}
use Rattle.interleavings.proofs.Told.{IsSoundAt}

module _ {A : Type 0} (c : Code A) where
  pub step_there : (k l : ℕ) → l < length c.turn → step_at c (number_of c k l) ≡ slice_get c.turn l
  step_there k l h = rw (le-ltb (number_of c k l) (length c.prologue) (omega arith), place_number c k l h) refl

  pub nth_late : (a j : ℕ) → nth c (record { first = 0; early = 0; place = a }) j ≡ number_of c j a
  nth_late a j = rw (le-ltb j 0 (omega arith)) (ap (λ (i : ℕ). number_of c i a) (omega arith))

module _ {P : Type 0} (w : System P) (signaller : ℕ → Owner) (half : ℕ → ℕ → Half) (rank : Event → ℕ) (m : ℕ) (o : IsMedium w signaller half m)
    (c : ℕ → ℕ) (k : IsConsistent (precedence w signaller half rank) c) where
  abbrev H : ℕ
  H = w.halves m

  abbrev own : ℕ → Owner
  own i = owner_of (half m i)

  abbrev turn_event : ℕ → Event
  turn_event a = nth_in w H own a

  -- an advance was made only after its own wait, and so only after the advance before it
  wait_made : (i j : ℕ) → i < H → IsMade c (nth_of w (own i) j) → number_of (w.codes (half m i).sequence) j (half m i).waits < c (half m i).sequence
  wait_made i j h x = let e = nth_late (w.codes (half m i).sequence) (half m i).advances j in let b = o.before i h in omega arith

  needs_of : (i j a : ℕ) → i < H → j * H + i ≡ suc a → needed w signaller half (event (half m i).sequence (number_of (w.codes (half m i).sequence) j (half m i).waits))
      (step_at (w.codes (half m i).sequence) (number_of (w.codes (half m i).sequence) j (half m i).waits)) ≡ Some (turn_event a)
  needs_of i j a h e = let s : ℕ = (half m i).sequence in let n : ℕ = number_of (w.codes s) j (half m i).waits in
      let l : (half m i).waits < length (w.codes s).turn = slice_get_within (w.codes s).turn (half m i).waits (await m i true) (o.waiting i h) in
      let d : step_at (w.codes s) n ≡ Some (await m i true) = step_there (w.codes s) j (half m i).waits l ∙ o.waiting i h in
      let r : half_number w s n m i ≡ suc a = ap (λ (x : ℕ). x * H + i) (reaction_number (w.codes s) j (half m i).waits l) ∙ e in
      ap (needed w signaller half (event s n)) d ∙ ap (needed_turn w signaller half m) r

  pub chain : (a : ℕ) → IsMade c (turn_event (suc a)) → IsMade c (turn_event a)
  chain a x = let i : ℕ = suc a % H in let j : ℕ = suc a / H in
      let h : i < H = mod_below (suc a) H o.family.some in
      let e : j * H + i ≡ suc a = div-add-mod' (suc a) H in
      let q = wait_made i j h x in
      k.made (event (half m i).sequence (number_of (w.codes (half m i).sequence) j (half m i).waits)) (turn_event a) q (needs_of i j a h e)

  pub turn_law : (a : ℕ) → (a < total w (advances m) c → IsMade c (turn_event a)) × (IsMade c (turn_event a) → a < total w (advances m) c)
  turn_law a = in_order w H (advances m) (advances_half m) own o.family c chain a

  module _ (s i : ℕ) (b : Bool) (pending : c s < full w s) (e : step_at (w.codes s) (c s) ≡ Some (await m i b)) where
    abbrev Ready : Type 0
    Ready = IsReady (precedence w signaller half rank) c s

    abbrev a : ℕ
    a = half_number w s (c s) m i

    needs_it : needed w signaller half (event s (c s)) (step_at (w.codes s) (c s)) ≡ needed_turn w signaller half m a
    needs_it = ap (needed w signaller half (event s (c s))) e

    ready_from : (n : ℕ) → a ≡ n → n ≤ total w (advances m) c → Ready
    ready_from zero q l = record { pending = pending; met = λ f x. absurd (clash f (sym (needs_it ∙ ap (needed_turn w signaller half m) q) ∙ x)) }
      where
        clash : (f : Event) → ◌≡◌ {A = Option Event} None (Some f) → ⊥
        clash f x = cc
    ready_from (suc n) q l = record {
      pending = pending;
      met = λ f x.
          let y : Some (turn_event n) ≡ Some f = sym (needs_it ∙ ap (needed_turn w signaller half m) q) ∙ x in
          subst (IsMade c) (same_Some (turn_event n) f y) ((turn_law n).0 l);
    }

    reached_from : (n : ℕ) → a ≡ n → Ready → n ≤ total w (advances m) c
    reached_from zero q r = omega arith
    reached_from (suc n) q r = (turn_law n).1 (r.met (turn_event n) (needs_it ∙ ap (needed_turn w signaller half m) q))

  -- Waits are sound: `sync_` waits for at least its turn, and the send and the receive for exactly their own.
  pub sync_sound : (s i : ℕ) → c s < full w s → step_at (w.codes s) (c s) ≡ Some (await m i false) → IsSoundAt w (precedence w signaller half rank) c s (await m i false)
  sync_sound s i h e = (
    λ x. ready_from s i false h e (half_number w s (c s) m i) refl (leb-true (half_number w s (c s) m i) (total w (advances m) c) x),
    λ r. le-leb (half_number w s (c s) m i) (total w (advances m) c) (reached_from s i false h e (half_number w s (c s) m i) refl r),
  )

  -- the next step of s stands at place l of reaction j, before the advance of its half: that was not made
  not_past : (s l i j : ℕ) → IsOwnWait w signaller half s l m i → c s ≡ number_of (w.codes s) j l → total w (advances m) c ≤ j * H + i
  not_past s l i j x q = ⊎_elim
      (λ y. let t : IsMade c (turn_event (j * H + i)) = (turn_law (j * H + i)).0 y in
      let u : IsMade c (nth_of w (own i) j) = subst (IsMade c) (nth_at w H (advances m) (advances_half m) own o.family j i x.within) t in
      let n = nth_late (w.codes (half m i).sequence) (half m i).advances j in
      let g : c (half m i).sequence ≡ number_of (w.codes (half m i).sequence) j l = subst (λ (z : ℕ). c z ≡ number_of (w.codes z) j l) x.same q in
      let a = x.early in absurd (omega arith))
      (λ y. y) (cases_lt (j * H + i) (total w (advances m) c))

  pub own_sound : (s l i j : ℕ) → c s < full w s → IsOwnWait w signaller half s l m i → c s ≡ number_of (w.codes s) j l → l < length (w.codes s).turn
      → step_at (w.codes s) (c s) ≡ Some (await m i true) → IsSoundAt w (precedence w signaller half rank) c s (await m i true)
  own_sound s l i j h x q y e = (
    λ z. ready_from s i true h e a refl (omega (arith, eqb-true (total w (advances m) c) a z)),
    λ r. eq-eqb (total w (advances m) c) a (let low = reached_from s i true h e a refl r in let high = not_past s l i j x q in omega (arith, a_is)),
  )
    where
      a : ℕ
      a = half_number w s (c s) m i

      a_is : a ≡ j * H + i
      a_is = ap (λ (z : ℕ). reaction_at (w.codes s) z * H + i) q ∙ ap (λ (z : ℕ). z * H + i) (reaction_number (w.codes s) j l y)

  -- what a wait that is over tells: every half before it was done
  pub done_before : (i j : ℕ) → i < H → number_of (w.codes (half m i).sequence) j (half m i).waits < c (half m i).sequence → (a : ℕ) → a < j * H + i → IsMade c (turn_event a)
  done_before i j h q a l = by (j * H + i) refl
    where
      by : (n : ℕ) → j * H + i ≡ n → IsMade c (turn_event a)
      by zero e = absurd (omega arith)
      by (suc n) e = earlier w H (advances m) (advances_half m) own o.family c chain a n (omega arith)
          (k.made (event (half m i).sequence (number_of (w.codes (half m i).sequence) j (half m i).waits)) (turn_event n) q (needs_of i j n h e))

  module _ (y : ℕ) (half_of place_of : ℕ → ℕ) (x : IsWire w half y m half_of place_of) where
    abbrev p : ℕ
    p = w.period y

    abbrev writer : ℕ → Owner
    writer = writer_of w half m half_of place_of

    -- the half, over all reactions, in which round r is stored
    abbrev half_at : ℕ → ℕ
    half_at r = r / p * H + half_of (r % p)

    pub half_at_number : (j i : ℕ) → i < p → half_at (j * p + i) ≡ j * H + half_of i
    half_at_number j i h = λ n. div-mul-add j p i h n * H + half_of (mod-mul-add j p i h n)

    pub half_next : (r : ℕ) → half_at r + 2 ≤ half_at (suc r)
    half_next r = by (cases_lt (r % p + 1) p)
      where
        j : ℕ
        j = r / p

        i : ℕ
        i = r % p

        lt : i < p
        lt = mod_below r p x.family.some

        r_is : j * p + i ≡ r
        r_is = div-add-mod' r p

        by : (i + 1 < p) ⊎ (p ≤ i + 1) → half_at r + 2 ≤ half_at (suc r)
        by (inl l) = let e : suc r ≡ j * p + (i + 1) = omega (arith, r_is) in
            let f : half_at (suc r) ≡ j * H + half_of (i + 1) = ap half_at e ∙ half_at_number j (i + 1) l in let g = x.apart i l in omega (arith, f)
        by (inr l) = let e : suc r ≡ suc j * p + 0 = omega (arith, r_is, suc-mul j p) in
            let f : half_at (suc r) ≡ suc j * H + half_of 0 = ap half_at e ∙ half_at_number (suc j) 0 x.family.some in let g = x.within i lt in omega (arith, f, suc-mul j H)

    abbrev store_event : ℕ → Event
    store_event r = nth_in w p writer r

    module _ (j i : ℕ) (h : i < p) where
      abbrev S : ℕ
      S = (half m (half_of i)).sequence

      half_in : half_of i < H
      half_in = let a = x.within i h in omega arith

      pub event_is : store_event (j * p + i) ≡ event S (number_of (w.codes S) j (place_of i))
      event_is = nth_at w p (stores y) (stores_access y) writer x.family j i h ∙ ap (event S) (nth_late (w.codes S) (place_of i) j)

      -- a store that was made came after its half's wait
      store_waited : number_of (w.codes S) j (place_of i) ≤ c S → (a : ℕ) → a < half_at (j * p + i) → IsMade c (turn_event a)
      store_waited q a l = let b = x.after_wait i h in done_before (half_of i) j half_in (omega arith) a (omega (arith, half_at_number j i h))

      -- and before its half's advance
      advanced_stored : IsMade c (turn_event (half_at (j * p + i))) → IsMade c (store_event (j * p + i))
      advanced_stored q = subst (IsMade c) (sym event_is)
          (let e : turn_event (half_at (j * p + i)) ≡ nth_of w (own (half_of i)) j = ap turn_event (half_at_number j i h)
          ∙ nth_at w H (advances m) (advances_half m) own o.family j (half_of i) half_in in
          let t : IsMade c (nth_of w (own (half_of i)) j) = subst (IsMade c) e q in
          let n = nth_late (w.codes S) (half m (half_of i)).advances j in let b = x.before_advance i h in
          let g : number_of (w.codes S) j (place_of i) < c S = omega arith in g)

    at_round : (r : ℕ) → (Q : ℕ → Type 0) → ((j i : ℕ) → i < p → Q (j * p + i)) → Q r
    at_round r Q f = subst Q (div-add-mod' r p) (f (r / p) (r % p) (mod_below r p x.family.some))

    pub stored_before : (r : ℕ) → IsMade c (store_event r) → (a : ℕ) → a < half_at r → IsMade c (turn_event a)
    stored_before r = at_round r (λ n. IsMade c (store_event n) → (a : ℕ) → a < half_at n → IsMade c (turn_event a))
        (λ j i h q. store_waited j i h (let g : number_of (w.codes (half m (half_of i)).sequence) j (place_of i)
        < c (half m (half_of i)).sequence = subst (IsMade c) (event_is j i h) q in omega arith))

    pub advanced_store : (r : ℕ) → IsMade c (turn_event (half_at r)) → IsMade c (store_event r)
    advanced_store r = at_round r (λ n. IsMade c (turn_event (half_at n)) → IsMade c (store_event n)) (λ j i h. advanced_stored j i h)

    store_chain : (r : ℕ) → IsMade c (store_event (suc r)) → IsMade c (store_event r)
    store_chain r q = advanced_store r (stored_before (suc r) q (half_at r) (let a = half_next r in omega arith))

    pub store_law : (r : ℕ) → (r < total w (stores y) c → IsMade c (store_event r)) × (IsMade c (store_event r) → r < total w (stores y) c)
    store_law r = in_order w p (stores y) (stores_access y) writer x.family c store_chain r

    -- A load finds its own round.
    pub wire_load : (s l i j : ℕ) → i < p → IsWireLoad w half m half_of s l i → c s ≡ number_of (w.codes s) j l
        → (j * p + i < total w (stores y) c) × (total w (stores y) c ≤ j * p + i + w.depth y)
    wire_load s l i j h z q = ((store_law (j * p + i)).1 (advanced_store (j * p + i) came), most)
      where
        R : ℕ
        R = (half m (half_of i + 1)).sequence

        at : c R ≡ number_of (w.codes R) j l
        at = subst (λ (u : ℕ). c u ≡ number_of (w.codes u) j l) z.same q

        inside : half_of i + 1 < H
        inside = let a = x.within i h in omega arith

        came : IsMade c (turn_event (half_at (j * p + i)))
        came = let b = z.after_wait in done_before (half_of i + 1) j inside (omega (arith, at)) (half_at (j * p + i)) (omega (arith, half_at_number j i h))

        most : total w (stores y) c ≤ j * p + i + w.depth y
        most = let one = x.single in ⊎_elim
            (λ l'. let t = stored_before (suc (j * p + i)) ((store_law (suc (j * p + i))).0 (omega arith)) (j * H + (half_of i + 1))
            (let a = half_next (j * p + i) in omega (arith, half_at_number j i h)) in
            let u : IsMade c (nth_of w (own (half_of i + 1)) j) = subst (IsMade c) (nth_at w H (advances m) (advances_half m) own o.family j (half_of i + 1) inside) t in
            let n = nth_late (w.codes R) (half m (half_of i + 1)).advances j in let b = z.before_advance in absurd (omega (arith, at)))
            (λ l'. l') (cases_lt (j * p + i + w.depth y) (total w (stores y) c))

    -- A store is of the next round.
    pub wire_store : (i j : ℕ) → i < p → c (half m (half_of i)).sequence ≡ number_of (w.codes (half m (half_of i)).sequence) j (place_of i) → total w (stores y) c ≡ j * p + i
    wire_store i j h q = by (j * p + i) refl
      where
        not_made : total w (stores y) c ≤ j * p + i
        not_made = ⊎_elim
            (λ l. let t : number_of (w.codes (half m (half_of i)).sequence) j (place_of i)
            < c (half m (half_of i)).sequence = subst (IsMade c) (event_is j i h) ((store_law (j * p + i)).0 l) in absurd (omega arith))
            (λ l. l) (cases_lt (j * p + i) (total w (stores y) c))

        by : (r : ℕ) → j * p + i ≡ r → total w (stores y) c ≡ j * p + i
        by zero e = omega (arith, not_made)
        by (suc r) e = let a = half_next r in let f : half_at (j * p + i) ≡ half_at (suc r) = ap half_at e in
            let t = store_waited j i h (omega arith) (half_at r) (omega (arith, f)) in
            let u = (store_law r).1 (advanced_store r t) in omega (arith, not_made)
