-- A well-formed program's order is a serial order of its micro-steps.
use Rattle.std.proofs.Common.{◌≡◌, ℕ, zero, suc, ◌+◌, ◌-◌, ◌*◌, ◌<◌, ◌≤◌, ◌⊎◌, Bool, true, false, eqb, List, [], ◌∷◌, length, Some, refl, sym, ap, subst, inl, inr, arith, ◌∙◌}
use Rattle.std.specs.Prelude.{slice_get}
use Rattle.std.specs.List.{count_by}
use Rattle.std.proofs.lemmas.Option.{slice_get_within}
use Rattle.std.proofs.lemmas.Bool.{ne_eqb, eq-eqb, cases_eq, cases_order, cases_lt}
use Rattle.std.proofs.Math.Nat.{mul-le-mul_right}
use native.Mathlib.Nat.{suc-mul}
use Rattle.executive_program.specs.System.{System, Micro, take as taken, see, signal, await}
use Rattle.executive_program.proofs.InterleavingSums.{member_below}
use Rattle.executive_program.specs.Owners.{Owner}
use Rattle.executive_program.specs.Media.{Half}
use Rattle.executive_program.specs.Pairs.{IsSemaphore}
use Rattle.executive_program.specs.InterleavingOrder.{IsOrdered}
use Rattle.executive_program.specs.declared.program.Instr.{Instr}
use Rattle.executive_program.specs.declared.program.Instr.TheVariants.{Suc0, Suc1, Pre1, Sync}
use Rattle.executive_program.specs.declared.program.Program.{Program}
use Rattle.executive_program.specs.Blocks.{block_at}
use Rattle.executive_program.specs.Instructions.{is_communication, turn, communications, len_of, pair_depth}
use Rattle.executive_program.specs.MicroSteps.{code, begins, size, transfers, block}
use Rattle.executive_program.specs.Places.{Places}
use Rattle.executive_program.specs.WellFormed.{Stands, Before, place_in, place}
use Rattle.executive_program.specs.WellFormed as WF
use Rattle.phase_laws.specs.Discipline.{signaller, half, spot, stride, steps, front}
use Rattle.phase_laws.proofs.Blocks.{sum_same_block, sum_inside, block_at_is, inside, blocks_length}
use Rattle.phase_laws.proofs.Places.{stands_sequence, at_turn, Origin, origin, earlier, front_sequence, slice_get_some}
use Rattle.phase_laws.proofs.Setting.{Parts, Conditions, system_of}
use Rattle.phase_laws.proofs.Counting.{count_cons, one_if}
use Rattle.phase_laws.proofs.From.{IsHalf, sending, receiving, Takes}
use Rattle.phase_laws.proofs.Pairs.{writer, fills, signaller_empty, signaller_full}
use Rattle.phase_laws.proofs.Buffers.{MediumAt}
use Rattle.phase_laws.proofs.Media.{sender_half, receiver_half, half_even, half_odd, Part, part, Who, sends_it, receives_it, waits_for_it, who, send_advance, receive_advance}
use Rattle.phase_laws.proofs.Wires.{Sending, sending_is, Receiving, receiving_is}

abbrev names : ℕ → ℕ → Bool
names s t = eqb t s

place_below : (ts : List ℕ) (s a : ℕ) → a < count_by (names s) ts → place_in ts s a < length ts
place_below [] s a l = absurd (omega arith)
place_below (t ∷ ts) s zero l = by (cases_eq t s) (λ k. place_below ts s zero k)
  where
    by : (t ≡ s) ⊎ (t ≡ s → ⊥) → (zero < count_by (names s) ts → place_in ts s zero < length ts) → place_in (t ∷ ts) s zero < length (t ∷ ts)
    by (inl e) r = rw (eq-eqb t s e) (omega arith)
    by (inr e) r = let u = count_cons (names s) t ts in let v : one_if (names s) t ≡ 0 = rw (ne_eqb t s e) refl in let z = r (omega arith) in rw (ne_eqb t s e) (omega arith)
place_below (t ∷ ts) s (suc a) l = by (cases_eq t s) (λ k. place_below ts s a k) (λ k. place_below ts s (suc a) k)
  where
    by : (t ≡ s) ⊎ (t ≡ s → ⊥) → (a < count_by (names s) ts → place_in ts s a < length ts)
        → (suc a < count_by (names s) ts → place_in ts s (suc a) < length ts) → place_in (t ∷ ts) s (suc a) < length (t ∷ ts)
    by (inl e) r q = let u = count_cons (names s) t ts in let v : one_if (names s) t ≡ 1 = rw (eq-eqb t s e) refl in let z = r (omega arith) in rw (eq-eqb t s e) (omega arith)
    by (inr e) r q = let u = count_cons (names s) t ts in let v : one_if (names s) t ≡ 0 = rw (ne_eqb t s e) refl in let z = q (omega arith) in rw (ne_eqb t s e) (omega arith)

place_rises : (ts : List ℕ) (s a b : ℕ) → a < b → b < count_by (names s) ts → place_in ts s a < place_in ts s b
place_rises [] s a b h l = absurd (omega arith)
place_rises (t ∷ ts) s a zero h l = absurd (omega arith)
place_rises (t ∷ ts) s zero (suc b) h l = by (cases_eq t s) (λ k. place_rises ts s zero (suc b) h k)
  where
    by : (t ≡ s) ⊎ (t ≡ s → ⊥) → (suc b < count_by (names s) ts → place_in ts s zero < place_in ts s (suc b)) → place_in (t ∷ ts) s zero < place_in (t ∷ ts) s (suc b)
    by (inl e) r = rw (eq-eqb t s e) (omega arith)
    by (inr e) r = let u = count_cons (names s) t ts in let v : one_if (names s) t ≡ 0 = rw (ne_eqb t s e) refl in let z = r (omega arith) in rw (ne_eqb t s e) (omega arith)
place_rises (t ∷ ts) s (suc a) (suc b) h l = by (cases_eq t s) (λ k. place_rises ts s a b (omega arith) k) (λ k. place_rises ts s (suc a) (suc b) h k)
  where
    by : (t ≡ s) ⊎ (t ≡ s → ⊥) → (b < count_by (names s) ts → place_in ts s a < place_in ts s b)
        → (suc b < count_by (names s) ts → place_in ts s (suc a) < place_in ts s (suc b)) → place_in (t ∷ ts) s (suc a) < place_in (t ∷ ts) s (suc b)
    by (inl e) r q = let u = count_cons (names s) t ts in let v : one_if (names s) t ≡ 1 = rw (eq-eqb t s e) refl in let z = r (omega arith) in rw (eq-eqb t s e) (omega arith)
    by (inr e) r q = let u = count_cons (names s) t ts in let v : one_if (names s) t ≡ 0 = rw (ne_eqb t s e) refl in let z = q (omega arith) in rw (ne_eqb t s e) (omega arith)

index_sequence : (p : Program) (s a : ℕ) → a < length (turn p s) → s < length p.seqs
index_sequence p s a l = let q = slice_get_some (turn p s) a l in stands_sequence p s a q.0 q.1

module _ (p : Program) (w : Places) (c : Conditions p w) {P : Type 0} (reactions : ℕ) (own : Parts P) where
  abbrev pub W : System P
  W = system_of p c.media reactions own

  abbrev pub S : ℕ → Owner
  S = signaller p w

  abbrev pub H : ℕ → ℕ → Half
  H = half p w

  -- where a micro-step of the loop stands
  record Located (s l : ℕ) : Type 0 where
    index : ℕ
    at : ℕ
    within : index < length (turn p s)
    inner : at < size p s index
    is : l ≡ begins p s index + at
    spot_is : spot p c.order s l ≡ place p c.order s index * stride p c.order + l
    low : l < stride p c.order
    high : place p c.order s index < length c.order

  located : (s l : ℕ) → l < length (code p s).turn → Located s l
  located s l e = let f = blocks_length (block p s) (length (turn p s)) in let b = inside (size p s) (length (turn p s)) l (omega arith) in
      let here = index_sequence p s b.block b.within in let m = member_below (λ s. length (code p s).turn) (length p.seqs) s here in let n = c.holds.follows.lengths s here in let v = b.within in
      let y : block_at (size p s) (length (turn p s)) l ≡ b.block = ap (block_at (size p s) (length (turn p s))) b.is ∙ block_at_is (size p s) (length (turn p s)) b.block b.at b.within b.inner in
      record {
        index = b.block;
        at = b.at;
        within = b.within;
        inner = b.inner;
        is = b.is;
        spot_is = ap (λ (k : ℕ). place p c.order s k * stride p c.order + l) y;
        low = omega arith;
        high = place_below c.order s b.block (omega arith);
      }

  further : (i j k : ℕ) → i < j → i * k + k ≤ j * k
  further i j k l = let m : suc i * k ≤ j * k = mul-le-mul_right k l in omega (arith, suc-mul i k)

  before : (s l t m : ℕ) (x : Located s l) (y : Located t m) → place p c.order s x.index < place p c.order t y.index → spot p c.order s l < spot p c.order t m
  before s l t m x y e = let u = x.spot_is in let v = y.spot_is in let z = further _ _ (stride p c.order) e in let a = x.low in omega arith

  spot_below : (s l : ℕ) → l < length (code p s).turn → spot p c.order s l < steps p c.order
  spot_below s l e = let x = located s l e in let u = x.spot_is in let z = further _ _ (stride p c.order) x.high in let a = x.low in omega arith

  spot_rises : (s l m : ℕ) → l < m → m < length (code p s).turn → spot p c.order s l < spot p c.order s m
  spot_rises s l m a b = let x = located s l (omega arith) in let y = located s m b in by x y (cases_order x.index y.index)
    where
      by : (x : Located s l) (y : Located s m) → (x.index ≡ y.index) ⊎ ((x.index < y.index) ⊎ (y.index < x.index)) → spot p c.order s l < spot p c.order s m
      by x y (inl e) = let u = x.spot_is in let v = y.spot_is in let z = ap (λ (k : ℕ). place p c.order s k * stride p c.order) e in omega arith
      by x y (inr (inl e)) = let n = c.holds.follows.lengths s (index_sequence p s y.index y.within) in let v = y.within in before s l s m x y (place_rises c.order s x.index y.index e (omega arith))
      by x y (inr (inr e)) = let z = earlier p s y.index x.index y.at x.at e y.inner in let u = x.is in let v = y.is in absurd (omega arith)

  -- a place that is known by its instruction
  known : (s l a r : ℕ) (x : Located s l) → l ≡ begins p s a + r → r < size p s a → x.index ≡ a
  known s l a r x e f = (sum_same_block (size p s) x.index a x.at r x.inner f (sym x.is ∙ e)).0

  before_known : (s a r t b i l m : ℕ) → l < length (code p s).turn → m < length (code p t).turn → l ≡ begins p s a + r → r < size p s a
      → m ≡ begins p t b + i → i < size p t b → Before p c.order s a t b → spot p c.order s l < spot p c.order t m
  before_known s a r t b i l m k d e f e2 f2 z = let x = located s l k in let y = located t m d in let u = known s l a r x e f in let v = known t m b i y e2 f2 in
      before s l t m x y (let j = ap (place p c.order s) u in let k = ap (place p c.order t) v in omega arith)

  fronts : (s : ℕ) → length (code p s).prologue ≤ front p c.order
  fronts s = by (cases_lt 0 (length (code p s).prologue))
    where
      by : (0 < length (code p s).prologue) ⊎ (length (code p s).prologue ≤ 0) → length (code p s).prologue ≤ front p c.order
      by (inl l) = let q = slice_get_some (code p s).prologue 0 l in member_below (λ s. length (code p s).prologue) (length p.seqs) s (front_sequence p s 0 q.0 q.1)
      by (inr l) = omega arith

  -- the full semaphore is signalled earlier in the order than it is asked for
  signal_first : (x s l t : ℕ) → IsSemaphore W S x s l t → (S x).site.early ≡ 0 → spot p c.order (S x).sequence (S x).site.place < spot p c.order s l
  signal_first x s l t o e = by o.asked
    where
      full : (d : Micro) (q : ℕ) (r : Origin p s l d) → r.instr ≡ Suc1 q → x ≡ 2 * q + 1 → spot p c.order (S x).sequence (S x).site.place < spot p c.order s l
      full d q r i n = subst (λ (k : Owner). spot p c.order k.sequence k.site.place < spot p c.order s l) (sym (ap S n ∙ signaller_full p w c reactions own q)) here
        where
          st : Stands p s r.index (Suc1 q)
          st = subst (λ (y : Instr). Stands p s r.index y) i r.stands

          one : WF.IsPair p c.order w q
          one = c.holds.pairs q (c.holds.named s r.index (Suc1 q) st)

          u : (s ≡ (w.pair q).reader) × (r.index ≡ (w.pair q).take_full)
          u = one.take_full.only s r.index st

          at : (slice_get (code p (writer w q)).turn (fills p w q + 0) ≡ Some (signal (2 * q + 1))) × (0 < size p (writer w q) (w.pair q).signal_full)
          at = at_turn p (writer w q) (w.pair q).signal_full 0 (Pre1 q) (signal (2 * q + 1)) one.signal_full.stands refl

          l_below : l < length (code p s).turn
          l_below = let f = blocks_length (block p s) (length (turn p s)) in
              let z = sum_inside (size p s) (length (turn p s)) r.index r.at
              (slice_get_within (turn p s) r.index r.instr r.stands) r.inner in let v = r.is in omega arith

          here : spot p c.order (writer w q) (fills p w q) < spot p c.order s l
          here = let b = slice_get_within (code p (writer w q)).turn _ _ at.0 in
              before_known (writer w q) (w.pair q).signal_full 0 s r.index r.at (fills p w q) l (omega arith) l_below (omega arith) at.1 r.is r.inner
              (let f = one.full_first in let j = ap (λ (k : ℕ). place p c.order k r.index) u.0 in let k = ap (place p c.order (w.pair q).reader) u.1 in omega arith)

      -- the empty one is signalled before the loop
      empty : (d : Micro) (q : ℕ) (r : Origin p s l d) → r.instr ≡ Suc0 q → x ≡ 2 * q → spot p c.order (S x).sequence (S x).site.place < spot p c.order s l
      empty d q r i n = let st = subst (λ (y : Instr). Stands p s r.index y) i r.stands in let low = c.holds.named s r.index (Suc0 q) st in
          let k : (S x).site.early ≡ pair_depth p q = ap (λ (y : Owner). y.site.early) (ap S n ∙ signaller_empty p w c reactions own q) in
          let z = c.guarded.depth q low in let y = (c.holds.buffers (w.pair q).buffer (c.guarded.buffer q low)).some_place in absurd (omega arith)

      cases : (d : Micro) (r : Origin p s l d) (q : ℕ) → Takes r.instr x q → spot p c.order (S x).sequence (S x).site.place < spot p c.order s l
      cases d r q (inl u) = empty d q r u.0 u.1
      cases d r q (inr u) = full d q r u.0 u.1

      by : (slice_get (code p s).turn l ≡ Some (taken x)) ⊎ (slice_get (code p s).turn l ≡ Some (see x)) → spot p c.order (S x).sequence (S x).site.place < spot p c.order s l
      by (inl q) = let r = origin p s l (taken x) q in let f = r.from in cases (taken x) r f.0 f.3
      by (inr q) = let r = origin p s l (see x) q in let f = r.from in cases (see x) r f.0 f.3

  abbrev After : Half → ℕ → ℕ → Type 0
  After k s l = spot p c.order k.sequence k.advances < spot p c.order s l

  turn_low : (s l : ℕ) (d : Micro) → slice_get (code p s).turn l ≡ Some d → l < length (code p s).turn
  turn_low s l d e = slice_get_within (code p s).turn l d e

  -- what stands after a send, or a receive, stands after its advance
  module _ (m t : ℕ) (there : m < c.media) (below : t < transfers p m) (s a r l : ℕ) (low : l < length (code p s).turn) (is : l ≡ begins p s a + r) (inner : r < size p s a) where
    after_send : Before p c.order (w.transfer m t).sender (w.transfer m t).send_at s a → After (sender_half p w c reactions own m t) s l
    after_send e = let x = send_advance p w c reactions own m t there below in
        before_known (w.transfer m t).sender (w.transfer m t).send_at (suc (2 * len_of p (w.transfer m t).sent)) s a r _ l (turn_low _ _ _ x.0) low refl x.1 is inner e

    after_receive : Before p c.order (w.transfer m t).receiver (w.transfer m t).receive_at s a → After (receiver_half p w c reactions own m t) s l
    after_receive e = let x = receive_advance p w c reactions own m t there below in
        before_known (w.transfer m t).receiver (w.transfer m t).receive_at (suc (2 * len_of p (w.transfer m t).received)) s a r _ l (turn_low _ _ _ x.0) low refl x.1 is inner e

  after_half : (s l m i : ℕ) (e : Bool) → slice_get (code p s).turn l ≡ Some (await m (i + 1) e) → After (H m i) s l
  after_half s l m i true e = let o = origin p s l (await m (i + 1) true) e in by o o.from.0 o.from.2
    where
      by : (o : Origin p s l (await m (i + 1) true)) → m ≡ MediumAt p s → IsHalf p (MediumAt p s) (communications p s o.index) o.instr (i + 1) → After (H m i) s l
      by o n (sending b q y z) = subst (λ (k : ℕ). After (H k i) s l) (sym n) (subst (λ (k : ℕ). After (H (MediumAt p s) k) s l) back
          (subst (λ (k : Half). After k s l) (sym (half_odd p w c reactions own (MediumAt p s) (communications p s o.index - 1)))
          (after_receive (MediumAt p s) (communications p s o.index - 1) k.medium_there (let u = k.below in omega arith) s o.index o.at l (turn_low s l _ e) o.is o.inner before_it)))
        where
          k : Sending p w c reactions own s o.index b
          k = sending_is p w c reactions own s o.index b q (subst (λ (x : Instr). Stands p s o.index x) y o.stands)

          back : 2 * (communications p s o.index - 1) + 1 ≡ i
          back = omega arith

          up : communications p s o.index - 1 + 1 ≡ communications p s o.index
          up = omega arith

          before_it : Before p c.order (w.transfer (MediumAt p s) (communications p s o.index - 1)).receiver (w.transfer (MediumAt p s) (communications p s o.index - 1)).receive_at s o.index
          before_it = let f = (c.holds.transferred (MediumAt p s) (communications p s o.index - 1) k.medium_there (let u = k.below in omega arith)).next (let u = k.below in omega arith) in
              let u = ap (λ (n : ℕ). place p c.order (w.transfer (MediumAt p s) n).sender (w.transfer (MediumAt p s) n).send_at) up in
              let v = ap (λ (n : ℕ). place p c.order n o.index) k.sequence in let z = ap (place p c.order (w.transfer (MediumAt p s) (communications p s o.index)).sender) k.at in omega arith
      by o n (receiving b q y z) = subst (λ (k : ℕ). After (H k i) s l) (sym n) (subst (λ (k : ℕ). After (H (MediumAt p s) k) s l) back
          (subst (λ (k : Half). After k s l) (sym (half_even p w c reactions own (MediumAt p s) (communications p s o.index)))
          (after_send (MediumAt p s) (communications p s o.index) k.medium_there k.below s o.index o.at l (turn_low s l _ e) o.is o.inner before_it)))
        where
          k : Receiving p w c reactions own s o.index b
          k = receiving_is p w c reactions own s o.index b q (subst (λ (x : Instr). Stands p s o.index x) y o.stands)

          back : 2 * communications p s o.index ≡ i
          back = omega arith

          before_it : Before p c.order (w.transfer (MediumAt p s) (communications p s o.index)).sender (w.transfer (MediumAt p s) (communications p s o.index)).send_at s o.index
          before_it = let f = (c.holds.transferred (MediumAt p s) (communications p s o.index) k.medium_there k.below).in_order in
              let v = ap (λ (n : ℕ). place p c.order n o.index) k.sequence in let z = ap (place p c.order (w.transfer (MediumAt p s) (communications p s o.index)).receiver) k.at in omega arith
  after_half s l m i false e = let o = origin p s l (await m (i + 1) false) e in by o o.from.0 o.from.2
    where
      by : (o : Origin p s l (await m (i + 1) false)) → m ≡ MediumAt p s → (b : ℕ) × (q : ℕ) × (o.instr ≡ Sync b q) × (i + 1 ≡ 2 * communications p s o.index + 2) → After (H m i) s l
      by o n (b, q, y, z) = subst (λ (k : ℕ). After (H k i) s l) (sym n) (subst (λ (k : ℕ). After (H (MediumAt p s) k) s l) back
          (subst (λ (k : Half). After k s l) (sym (half_odd p w c reactions own (MediumAt p s) (communications p s o.index)))
          (after_receive (MediumAt p s) (communications p s o.index) k.there k.below s o.index o.at l (turn_low s l _ e) o.is o.inner
          (waits (who p w c reactions own (MediumAt p s) (communications p s o.index) k.there k.below s o.index o.instr k.communicates)))))
        where
          k : Part p w c reactions own s o.index o.instr
          k = part p w c reactions own s o.index o.instr o.stands (ap is_communication y)

          back : 2 * communications p s o.index + 1 ≡ i
          back = omega arith

          waits : Who p w c reactions own (MediumAt p s) (communications p s o.index) s o.index o.instr
              → Before p c.order (w.transfer (MediumAt p s) (communications p s o.index)).receiver (w.transfer (MediumAt p s) (communications p s o.index)).receive_at s o.index
          waits (sends_it u v x) = let z = sym y ∙ x in absurd cc
          waits (receives_it u v x) = let z = sym y ∙ x in absurd cc
          waits (waits_for_it x v) = v

  pub is_ordered : IsOrdered W S H (spot p c.order) (steps p c.order) (front p c.order)
  is_ordered = record {
    below = spot_below;
    rises = spot_rises;
    fronts = fronts;
    signal_first = signal_first;
    half_first = λ s l m i e q x. after_half s l m i e q;
  }
