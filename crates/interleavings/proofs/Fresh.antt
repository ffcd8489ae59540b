-- Consistent counts are fresh: by totals of stores, and then by the rounds of accesses.
use Rattle.std.proofs.Common.{◌≡◌, ℕ, suc, ◌+◌, ◌*◌, ◌/◌, ◌%◌, ◌<◌, ◌≤◌, ◌⊎◌, inl, inr, Bool, length, Option, Some, None, refl, sym, ap, subst, ⊎_elim, arith, ◌∙◌}
use Rattle.std.specs.Prelude.{slice_get}
use Rattle.std.proofs.lemmas.Bool.{cases_lt, cases_eq, eq-eqb, ne_eqb}
use Rattle.std.proofs.lemmas.Nat.{div-add-mod', mod_below}
use Rattle.std.proofs.lemmas.Option.{slice_get_within}
use Rattle.interleavings.specs.Precedence.{Event, IsMade, IsConsistent}
use Rattle.interleavings.specs.Sites.{Code, Site, hit, passes, IsSite, number_of}
use Rattle.interleavings.proofs.Counting.{nth_made}
use Rattle.interleavings.proofs.Between.{later_le, nth_plus}
use Rattle.interleavings.proofs.Numbers.{row_below}
use Rattle.interleavings.specs.System.{System, Micro, take, see, sub, signal, await, advance, load, store, is_take, is_signal, stores, advances, total}
use Rattle.interleavings.specs.Owners.{Owner, nth_of, nth_in}
use Rattle.interleavings.specs.Media.{Half, owner_of, precedence, advances_half, stores_access, IsMedium, IsWire}
use Rattle.interleavings.specs.Pairs.{late}
use Rattle.interleavings.specs.Synchronized.{IsBuffer, IsOwnLoad, IsPairLoad, IsFromWire, IsBufferStore, IsToWire, IsSynchronized}
use Rattle.interleavings.specs.Fresh.{IsStored, IsFresh}
use Rattle.interleavings.proofs.Rounds.{one_turn}
use Rattle.interleavings.proofs.Totals.{total_owned, total_nth}
use Rattle.interleavings.proofs.Families.{nth_at}
use Rattle.interleavings.proofs.Media.{nth_late, event_is, done_before, advanced_store, stored_before, store_law, half_at_number, half_next}
use Rattle.interleavings.proofs.Pairs.{takes_le, empties, fulls}

-- past its place in reaction k a test was passed, and before it was not
module _ {A : Type 0} (p : A → Bool) (c : Code A) (x : Site) (o : IsSite p c x) (n k l : ℕ) where
  pub passed_at : x.place ≤ l → number_of c k l < n → k + x.early < passes p c n
  passed_at h m = (nth_made p c x o n (k + x.early)).1 (let e = nth_plus p c x o k in omega arith)

  pub not_passed_at : l ≤ x.place → n ≤ number_of c k l → passes p c n ≤ k + x.early
  not_passed_at h m = ⊎_elim (λ q. let z = (nth_made p c x o n (k + x.early)).0 q in let e = nth_plus p c x o k in absurd (omega arith)) (λ q. q) (cases_lt (k + x.early) (passes p c n))

module _ {P : Type 0} (w : System P) (signaller : ℕ → Owner) (half : ℕ → ℕ → Half) (rank : Event → ℕ) (d : IsSynchronized w signaller half)
    (c : ℕ → ℕ) (k : IsConsistent (precedence w signaller half rank) c) (s l y i j : ℕ) (inside : l < length (w.codes s).turn) where
  abbrev round : ℕ
  round = j * w.period y + i

  abbrev Fresh : Type 0
  Fresh = (number_of (w.codes s) j l < c s → j * w.period y + i < total w (stores y) c) × (c s ≤ number_of (w.codes s) j l → total w (stores y) c ≤ j * w.period y + i + w.depth y)

  once_is : w.period y ≡ 1 → i ≡ 0 → j * w.period y + i ≡ j
  once_is p z = ap (λ (n : ℕ). j * n + i) p ∙ omega (arith, z)

  own_fresh : IsOwnLoad w signaller half s l y i → Fresh
  own_fresh x = let b = x.buffer in let t = total_owned w (stores y) (late s x.st) b.written c in let e = once_is b.once x.first in
      let a = x.after in let n = b.some in let ins = b.written.site.within in (
        λ m. let z = passed_at (stores y) (w.codes s) _ b.written.site (c s) j l (omega arith) m in omega (arith, e),
        λ m. let z = not_passed_at (stores y) (w.codes s) _ b.written.site (c s) (j + 1) 0 (omega arith) (let r = row_below (w.codes s) j (j + 1) (omega arith) in omega arith) in omega (arith, e),
      )

  pair_fresh : IsPairLoad w signaller half s l y i → Fresh
  pair_fresh x = let q = x.pair in let b = x.buffer in let o = x.is_pair in let e = once_is b.once x.first in let d = x.depth in
      let te = total_owned w (is_take q.empty) (late q.writer q.take_empty) o.empty_is.taken c in
      let em = empties w signaller half rank c k q o in
      let fu = fulls w signaller half rank c k q o in
      let se = total_owned w (is_signal q.empty) _ em c in
      let tf = total_owned w (is_take q.full) (late q.reader q.take_full) o.full_is.taken c in
      let sf = total_owned w (is_signal q.full) (late q.writer q.signal_full) fu c in
      let sv = total_owned w (stores y) (late q.writer x.st) b.written c in
      let h1 = x.store_after in let h2 = x.store_before in let h3 = x.load_after in let h4 = x.load_before in
      let o1 = later_le (is_take q.empty) (stores y) (w.codes q.writer) _ _ o.empty_is.taken.site b.written.site refl (omega arith) (c q.writer) in
      let o2 = later_le (stores y) (is_signal q.full) (w.codes q.writer) _ _ b.written.site fu.site refl (omega arith) (c q.writer) in
      let x1 = takes_le w signaller half rank c k q.empty q.writer q.ask_empty q.take_empty o.empty_is in
      let x2 = takes_le w signaller half rank c k q.full q.reader q.ask_full q.take_full o.full_is in (
        λ m. let m' = subst (λ (u : ℕ). number_of (w.codes u) j l < c u) x.same m in
            let z = passed_at (is_take q.full) (w.codes q.reader) _ o.full_is.taken.site (c q.reader) j l (omega arith) m' in omega (arith, e),
        λ m. let m' = subst (λ (u : ℕ). c u ≤ number_of (w.codes u) j l) x.same m in
            let z = not_passed_at (is_signal q.empty) (w.codes q.reader) _ em.site (c q.reader) j l (omega arith) m' in omega (arith, e),
      )

  abbrev half_at_of : IsFromWire w signaller half s l y i → ℕ
  half_at_of x = (j * w.period y + i) / w.period y * w.halves x.medium + x.half_of ((j * w.period y + i) % w.period y)

  abbrev turn_of : IsFromWire w signaller half s l y i → ℕ → Event
  turn_of x a = nth_in w (w.halves x.medium) (λ n. owner_of (half x.medium n)) a

  wire_fresh : IsFromWire w signaller half s l y i → Fresh
  wire_fresh x = (
    λ m. (store_law w signaller half rank x.medium x.medium_is c k y x.half_of x.place_of x.wire round).1
        (advanced_store w signaller half rank x.medium x.medium_is c k y x.half_of x.place_of x.wire round (came m)),
    most,
  )
    where
      R : ℕ
      R = (half x.medium (x.half_of i + 1)).sequence

      inside_half : x.half_of i + 1 < w.halves x.medium
      inside_half = let a = x.wire.within i x.within in omega arith

      at_half : half_at_of x ≡ j * w.halves x.medium + x.half_of i
      at_half = half_at_number w signaller half rank x.medium x.medium_is c k y x.half_of x.place_of x.wire j i x.within

      came : number_of (w.codes s) j l < c s → IsMade c (turn_of x (half_at_of x))
      came m = let z = x.load_is.after_wait in
          let m' : number_of (w.codes R) j l < c R = subst (λ (u : ℕ). number_of (w.codes u) j l < c u) x.load_is.same m in
          done_before w signaller half rank x.medium x.medium_is c k (x.half_of i + 1) j inside_half (omega arith) (half_at_of x) (omega (arith, at_half))

      most : c s ≤ number_of (w.codes s) j l → total w (stores y) c ≤ round + w.depth y
      most m = let one = x.wire.single in ⊎_elim
          (λ q. let t : IsMade c (turn_of x (j * w.halves x.medium + (x.half_of i + 1))) =
          stored_before w signaller half rank x.medium x.medium_is c k y x.half_of x.place_of x.wire (suc round)
          ((store_law w signaller half rank x.medium x.medium_is c k y x.half_of x.place_of x.wire (suc round)).0 (omega arith)) (j * w.halves x.medium + (x.half_of i + 1))
          (let a = half_next w signaller half rank x.medium x.medium_is c k y x.half_of x.place_of x.wire round in omega (arith, at_half)) in
          let u : IsMade c (nth_of w (owner_of (half x.medium (x.half_of i + 1))) j) =
          subst (IsMade c) (nth_at w (w.halves x.medium) (advances x.medium) (advances_half x.medium) (λ n. owner_of (half x.medium n)) x.medium_is.family j (x.half_of i + 1) inside_half) t in
          let n = nth_late (w.codes R) (half x.medium (x.half_of i + 1)).advances j in let b = x.load_is.before_advance in
          let m' : c R ≤ number_of (w.codes R) j l = subst (λ (u : ℕ). c u ≤ number_of (w.codes u) j l) x.load_is.same m in absurd (omega arith))
          (λ q. q) (cases_lt (round + w.depth y) (total w (stores y) c))

-- By totals: where a load was made its round is among those stored, and until it is made no later round that uses its place is.
module _ {P : Type 0} (w : System P) (signaller : ℕ → Owner) (half : ℕ → ℕ → Half) (rank : Event → ℕ) (d : IsSynchronized w signaller half)
    (c : ℕ → ℕ) (k : IsConsistent (precedence w signaller half rank) c) where
  by_total : (s l y i j : ℕ) → slice_get (w.codes s).turn l ≡ Some (load y i)
      → (number_of (w.codes s) j l < c s → j * w.period y + i < total w (stores y) c) × (c s ≤ number_of (w.codes s) j l → total w (stores y) c ≤ j * w.period y + i + w.depth y)
  by_total s l y i j e = let n = slice_get_within (w.codes s).turn l (load y i) e in
      ⊎_elim (own_fresh w signaller half rank d c k s l y i j n) (⊎_elim (pair_fresh w signaller half rank d c k s l y i j n) (wire_fresh w signaller half rank d c k s l y i j n)) (d.loads s l y i e)

  hit_store : (y : ℕ) (o : Option Micro) → hit (stores y) o ≡ 1 → (i : ℕ) × (o ≡ Some (store y i))
  hit_store y None h = absurd (omega arith)
  hit_store y (Some (store z i)) h = by (cases_eq z y)
    where
      by : (z ≡ y) ⊎ (z ≡ y → ⊥) → (n : ℕ) × (◌≡◌ {A = Option Micro} (Some (store z i)) (Some (store y n)))
      by (inl e) = (i, ap (λ (u : ℕ). Some (store u i)) e)
      by (inr n) = absurd (let q = h in let z : 0 ≡ 1 = rw (ne_eqb z y n) at q in omega arith)
  hit_store y (Some (take x)) h = absurd (omega arith)
  hit_store y (Some (see x)) h = absurd (omega arith)
  hit_store y (Some (sub x)) h = absurd (omega arith)
  hit_store y (Some (signal x)) h = absurd (omega arith)
  hit_store y (Some (await m i b)) h = absurd (omega arith)
  hit_store y (Some (advance m i)) h = absurd (omega arith)
  hit_store y (Some (load z i)) h = absurd (omega arith)

  hit_access : (y i : ℕ) (o : Option Micro) → hit (stores_access y i) o ≡ 1 → o ≡ Some (store y i)
  hit_access y i None h = absurd (omega arith)
  hit_access y i (Some (store z n)) h = by (cases_eq z y) (cases_eq n i)
    where
      by : (z ≡ y) ⊎ (z ≡ y → ⊥) → (n ≡ i) ⊎ (n ≡ i → ⊥) → ◌≡◌ {A = Option Micro} (Some (store z n)) (Some (store y i))
      by (inl e) (inl f) = λ t. Some (store (e t) (f t))
      by (inl e) (inr f) = absurd (let q = h in let u : 0 ≡ 1 = rw (eq-eqb z y e, ne_eqb n i f) at q in omega arith)
      by (inr e) f = absurd (let q = h in let u : 0 ≡ 1 = rw (ne_eqb z y e) at q in omega arith)
  hit_access y i (Some (take x)) h = absurd (omega arith)
  hit_access y i (Some (see x)) h = absurd (omega arith)
  hit_access y i (Some (sub x)) h = absurd (omega arith)
  hit_access y i (Some (signal x)) h = absurd (omega arith)
  hit_access y i (Some (await m n b)) h = absurd (omega arith)
  hit_access y i (Some (advance m n)) h = absurd (omega arith)
  hit_access y i (Some (load z n)) h = absurd (omega arith)

  -- a round that is among those stored has its store
  buffer_stored : (y s st t : ℕ) → IsBuffer w signaller half y s st → t < total w (stores y) c → IsStored w c y t
  buffer_stored y s st t b l =
      let h = hit_store y (slice_get (w.codes s).turn st) b.written.site.here in
      let z = ⊎_elim (λ (x : IsBufferStore w signaller half s st y h.0). x.first)
      (λ (x : IsToWire w signaller half s st y h.0). let a = x.within in let o = b.once in let r : h.0 ≡ 0 = omega arith in r) (d.stores s st y h.0 h.1) in
      let m = (total_nth w (stores y) (late s st) b.written c t).0 l in
      let n = nth_late (w.codes s) st t in record {
        sequence = s;
        place = st;
        access = h.0;
        reaction = t;
        stands = h.1;
        round = ap (λ (q : ℕ). t * q + h.0) b.once ∙ (let r : t * 1 + h.0 ≡ t = omega arith in r);
        made = subst (λ (q : ℕ). q < c s) n m;
      }

  module _ (m y : ℕ) (half_of place_of : ℕ → ℕ) (o : IsMedium w signaller half m) (x : IsWire w half y m half_of place_of) where
    wire_stored : (t : ℕ) → t < total w (stores y) c → IsStored w c y t
    wire_stored t l =
        let i : ℕ = t % w.period y in let j : ℕ = t / w.period y in
        let s : ℕ = (half m (half_of i)).sequence in
        let g = (store_law w signaller half rank m o c k y half_of place_of x t).0 l in
        let n = nth_late (w.codes s) (place_of i) j in record {
          sequence = s;
          place = place_of i;
          access = i;
          reaction = j;
          stands = hit_access y i (slice_get (w.codes s).turn (place_of i)) (x.family.owned i (mod_below t (w.period y) x.family.some)).site.here;
          round = div-add-mod' t (w.period y);
          made = subst (λ (q : ℕ). q < c s) n g;
        }

  load_stored : (s l y i t : ℕ) → slice_get (w.codes s).turn l ≡ Some (load y i) → t < total w (stores y) c → IsStored w c y t
  load_stored s l y i t e h = ⊎_elim (λ (x : IsOwnLoad w signaller half s l y i). buffer_stored y s x.st t x.buffer h)
      (⊎_elim (λ (x : IsPairLoad w signaller half s l y i). buffer_stored y x.pair.writer x.st t x.buffer h)
      (λ (x : IsFromWire w signaller half s l y i). wire_stored x.medium y x.half_of x.place_of x.medium_is x.wire t h)) (d.loads s l y i e)

  -- a store that was made is among the rounds stored
  stored_counts : (y t : ℕ) → IsStored w c y t → t < total w (stores y) c
  stored_counts y t z = ⊎_elim in_buffer in_wire (d.stores z.sequence z.place y z.access z.stands)
    where
      in_buffer : IsBufferStore w signaller half z.sequence z.place y z.access → t < total w (stores y) c
      in_buffer x =
          let n = nth_late (w.codes z.sequence) z.place z.reaction in
          let g = (total_nth w (stores y) (late z.sequence z.place) x.buffer.written c z.reaction).1 (subst (λ (q : ℕ). q < c z.sequence) (sym n) z.made) in
          let r = z.round in let f = x.first in let o = ap (λ (q : ℕ). z.reaction * q + z.access) x.buffer.once in omega arith

      in_wire : IsToWire w signaller half z.sequence z.place y z.access → t < total w (stores y) c
      in_wire x = subst (λ (q : ℕ). q < total w (stores y) c) z.round
          ((store_law w signaller half rank x.medium x.medium_is c k y x.half_of x.place_of x.wire (z.reaction * w.period y + z.access)).1
          (subst (IsMade c) (sym (event_is w signaller half rank x.medium x.medium_is c k y x.half_of x.place_of x.wire z.reaction z.access x.within)) there))
        where
          there : number_of (w.codes (half x.medium (x.half_of z.access)).sequence) z.reaction (x.place_of z.access) < c (half x.medium (x.half_of z.access)).sequence
          there = subst (λ (u : ℕ). number_of (w.codes u) z.reaction (x.place_of z.access) < c u) x.same (subst (λ (a : ℕ). number_of (w.codes z.sequence) z.reaction a < c z.sequence) x.place z.made)

  pub fresh : IsFresh w c
  fresh = record {
    kept = λ y t s l i j z e low same. ⊎_elim (λ q. q)
        (λ q. absurd (let a = (by_total s l y i j e).1 q in let b = stored_counts y t z in let u = one_turn (j * w.period y + i) t (w.depth y) (omega arith) (omega arith) same in omega arith))
        (cases_lt (number_of (w.codes s) j l) (c s));
    stored = λ y s l i j e m. load_stored s l y i (j * w.period y + i) e ((by_total s l y i j e).0 m);
  }
