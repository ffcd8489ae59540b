-- Transfers of a well-formed program: the halves of each medium, and the wires' elements.
use Rattle.std.proofs.Common.{◌≡◌, ℕ, suc, ◌+◌, ◌*◌, ◌/◌, ◌%◌, ◌<◌, ◌≤◌, ◌⊎◌, true, eqb, length, Some, refl, sym, ap, subst, inl, inr, ⊎_elim, arith, ◌∙◌}
use Rattle.std.specs.Prelude.{slice_get}
use Rattle.std.proofs.lemmas.Option.{same_Some}
use Rattle.std.proofs.lemmas.Bool.{eqb-true, eq-eqb, cases_eq, cases_order, lt-ltb, le-ltb, cases_lt, and_parts, and_from}
use Rattle.executive_program.specs.Sites.{step_at, place_at}
use Rattle.executive_program.specs.System.{System, Micro, take as taken, see, sub, signal, await, advance, load, store, advances}
use Rattle.executive_program.specs.Owners.{Owner, IsOwned}
use Rattle.executive_program.specs.Media.{Half, owner_of, advances_half, IsMedium}
use Rattle.executive_program.specs.declared.program.Instr.{Instr}
use Rattle.executive_program.specs.declared.program.Instr.TheVariants.{Send, Recv, Sync}
use Rattle.executive_program.specs.declared.program.Program.{Program}
use Rattle.executive_program.specs.Instructions.{is_communication, turn, medium, number_or, communications, len_of, operator}
use Rattle.executive_program.specs.MicroSteps.{micros_of, code, size, transfers}
use Rattle.executive_program.specs.Places.{Places}
use Rattle.executive_program.specs.WellFormed.{Stands, Communicates, IsTransfer, Before}
use Rattle.phase_laws.specs.Discipline.{signaller, half, half_by}
use Rattle.phase_laws.proofs.Places.{micros_at, stands_sequence, at_turn, at_first, Origin, origin, FromAt, owned_late}
use Rattle.phase_laws.proofs.Setting.{Parts, Conditions, system_of}
use Rattle.phase_laws.proofs.Counting.{count_more, count_less, covered}
use Rattle.phase_laws.proofs.From.{IsHalf, sending, receiving, half_len, send_advances, receive_advances}
use Rattle.phase_laws.proofs.Pairs.{even, odd, same_place, front_is}
use Rattle.phase_laws.proofs.Buffers.{MediumAt}

module _ (p : Program) where
  advance_from : (m i t a r : ℕ) (x : Instr) (d : Micro) → advances_half m i d ≡ true → FromAt p t a x r d
      → (MediumAt p t ≡ m) × (r ≡ 2 * half_len p (MediumAt p t) (communications p t a) x + 1) × IsHalf p (MediumAt p t) (communications p t a) x i
  advance_from m i t a r x (advance n j) e f = let q = and_parts (eqb n m) (eqb j i) e in
      (sym f.0 ∙ eqb-true n m q.0, f.1, subst (λ (k : ℕ). IsHalf p (MediumAt p t) (communications p t a) x k) (eqb-true j i q.1) f.2)
  advance_from m i t a r x (taken z) e f = absurd cc
  advance_from m i t a r x (see z) e f = absurd cc
  advance_from m i t a r x (sub z) e f = absurd cc
  advance_from m i t a r x (signal z) e f = absurd cc
  advance_from m i t a r x (await n j b) e f = absurd cc
  advance_from m i t a r x (load z j) e f = absurd cc
  advance_from m i t a r x (store z j) e f = absurd cc

  pub half_is_communication : (m t : ℕ) (x : Instr) (i : ℕ) → IsHalf p m t x i → is_communication x ≡ true
  half_is_communication m t x i (sending b o e n) = ap is_communication e
  half_is_communication m t x i (receiving b o e n) = ap is_communication e

module _ (p : Program) (w : Places) (c : Conditions p w) {P : Type 0} (reactions : ℕ) (own : Parts P) where
  abbrev pub W : System P
  W = system_of p c.media reactions own

  abbrev pub S : ℕ → Owner
  S = signaller p w

  abbrev pub H : ℕ → ℕ → Half
  H = half p w

  abbrev pub sender_half : ℕ → ℕ → Half
  sender_half m t = half_by p w (w.transfer m t).sender (w.transfer m t).send_at (len_of p (w.transfer m t).sent)

  abbrev pub receiver_half : ℕ → ℕ → Half
  receiver_half m t = half_by p w (w.transfer m t).receiver (w.transfer m t).receive_at (len_of p (w.transfer m t).received)

  pub half_even : (m t : ℕ) → H m (2 * t) ≡ sender_half m t
  half_even m t = rw ((even t).0, (even t).1) refl

  pub half_odd : (m t : ℕ) → H m (2 * t + 1) ≡ receiver_half m t
  half_odd m t = rw ((odd t).0, (odd t).1) refl

  -- a communication is part of a transfer of its sequence's medium
  pub record Part (s a : ℕ) (x : Instr) : Type 0 where
    pub communicates : Communicates p (MediumAt p s) (communications p s a) s a x
    pub there : MediumAt p s < c.media
    pub below : communications p s a < transfers p (MediumAt p s)

  pub part : (s a : ℕ) (x : Instr) → Stands p s a x → is_communication x ≡ true → Part s a x
  part s a x e f = by (c.holds.communicators s a x e f)
    where
      by : (m : ℕ) × (medium p s ≡ Some m) → Part s a x
      by (m, q) = let same : MediumAt p s ≡ m = ap (number_or 0) q in let on : medium p s ≡ Some (MediumAt p s) = q ∙ ap (λ (k : ℕ). Some k) (sym same) in record {
        communicates = record { on = on; stands = e; is_one = f; number = refl };
        there = c.holds.on_media s (MediumAt p s) on;
        below = let z = count_less is_communication (turn p s) a x e f in let y = c.holds.counts s (MediumAt p s) on in omega arith;
      }

  same_communication : (m t s a b : ℕ) (x y : Instr) → Communicates p m t s a x → Communicates p m t s b y → a ≡ b
  same_communication m t s a b x y e f =
      ⊎_elim (λ q. q) (λ q. absurd (⊎_elim
      (λ l. let z = count_more is_communication (turn p s) a b x e.stands e.is_one l in let u = e.number in let v = f.number in omega arith)
      (λ l. let z = count_more is_communication (turn p s) b a y f.stands f.is_one l in let u = e.number in let v = f.number in omega arith) q)) (cases_order a b)

  -- who makes transfer t
  pub data Who (m t s a : ℕ) (x : Instr) : Type 0 where
    sends_it : s ≡ (w.transfer m t).sender → a ≡ (w.transfer m t).send_at → x ≡ Send (w.transfer m t).sent (operator p (w.transfer m t).receiver) → Who m t s a x
    receives_it : s ≡ (w.transfer m t).receiver → a ≡ (w.transfer m t).receive_at → x ≡ Recv (w.transfer m t).received (operator p (w.transfer m t).sender) → Who m t s a x
    waits_for_it : x ≡ Sync (operator p (w.transfer m t).sender) (operator p (w.transfer m t).receiver) → Before p c.order (w.transfer m t).receiver (w.transfer m t).receive_at s a → Who m t s a x

  module _ (m t : ℕ) (there : m < c.media) (below : t < transfers p m) where
    abbrev one : IsTransfer p c.order w m t
    one = c.holds.transferred m t there below

    pub who : (s a : ℕ) (x : Instr) → Communicates p m t s a x → Who m t s a x
    who s a x e = by (cases_eq s (w.transfer m t).sender) (cases_eq s (w.transfer m t).receiver)
      where
        at : (r b : ℕ) (y : Instr) → s ≡ r → Communicates p m t r b y → (a ≡ b) × (x ≡ y)
        at r b y f d = let u = subst (λ (k : ℕ). Communicates p m t k a x) f e in let q = same_communication m t r a b x y u d in
            (q, same_Some x y (sym u.stands ∙ ap (λ (k : ℕ). slice_get (turn p r) k) q ∙ d.stands))

        by : (s ≡ (w.transfer m t).sender) ⊎ (s ≡ (w.transfer m t).sender → ⊥) → (s ≡ (w.transfer m t).receiver) ⊎ (s ≡ (w.transfer m t).receiver → ⊥) → Who m t s a x
        by (inl f) q = let z = at (w.transfer m t).sender _ _ f one.sends in sends_it f z.0 z.1
        by (inr n) (inl f) = let z = at (w.transfer m t).receiver _ _ f one.receives in receives_it f z.0 z.1
        by (inr n) (inr k) = let z = one.others s a x e n k in waits_for_it z.0 z.1

    sender_at : MediumAt p (w.transfer m t).sender ≡ m
    sender_at = ap (number_or 0) one.sends.on

    receiver_at : MediumAt p (w.transfer m t).receiver ≡ m
    receiver_at = ap (number_or 0) one.receives.on

    -- what a micro-step of the send or of the receive is, by the place in the instruction
    pub in_send : (r : ℕ) (d : Micro) → slice_get (micros_of p m t (Send (w.transfer m t).sent (operator p (w.transfer m t).receiver))) r ≡ Some d
        → slice_get (micros_at p (w.transfer m t).sender (w.transfer m t).send_at (Send (w.transfer m t).sent (operator p (w.transfer m t).receiver))) r ≡ Some d
    in_send r d e = subst (λ (i : ℕ). slice_get
        (micros_of p i (communications p (w.transfer m t).sender (w.transfer m t).send_at)
        (Send (w.transfer m t).sent (operator p (w.transfer m t).receiver))) r ≡ Some d) (sym sender_at)
        (subst (λ (i : ℕ). slice_get (micros_of p m i (Send (w.transfer m t).sent (operator p (w.transfer m t).receiver))) r ≡ Some d) (sym one.sends.number) e)

    pub in_receive : (r : ℕ) (d : Micro) → slice_get (micros_of p m t (Recv (w.transfer m t).received (operator p (w.transfer m t).sender))) r ≡ Some d
        → slice_get (micros_at p (w.transfer m t).receiver (w.transfer m t).receive_at (Recv (w.transfer m t).received (operator p (w.transfer m t).sender))) r ≡ Some d
    in_receive r d e = subst (λ (i : ℕ). slice_get
        (micros_of p i (communications p (w.transfer m t).receiver (w.transfer m t).receive_at)
        (Recv (w.transfer m t).received (operator p (w.transfer m t).sender))) r ≡ Some d) (sym receiver_at)
        (subst (λ (i : ℕ). slice_get (micros_of p m i (Recv (w.transfer m t).received (operator p (w.transfer m t).sender))) r ≡ Some d) (sym one.receives.number) e)

    pub send_advance : (slice_get (code p (w.transfer m t).sender).turn (sender_half m t).advances ≡ Some (advance m (2 * t)))
        × (suc (2 * len_of p (w.transfer m t).sent) < size p (w.transfer m t).sender (w.transfer m t).send_at)
    send_advance = at_turn p (w.transfer m t).sender (w.transfer m t).send_at (suc (2 * len_of p (w.transfer m t).sent)) _
        (advance m (2 * t)) one.sends.stands
        (in_send (suc (2 * len_of p (w.transfer m t).sent)) _ (send_advances p m t (w.transfer m t).sent (operator p (w.transfer m t).receiver)))

    pub receive_advance : (slice_get (code p (w.transfer m t).receiver).turn (receiver_half m t).advances ≡ Some (advance m (2 * t + 1)))
        × (suc (2 * len_of p (w.transfer m t).received) < size p (w.transfer m t).receiver (w.transfer m t).receive_at)
    receive_advance = at_turn p (w.transfer m t).receiver (w.transfer m t).receive_at (suc (2 * len_of p (w.transfer m t).received)) _
        (advance m (2 * t + 1)) one.receives.stands
        (in_receive (suc (2 * len_of p (w.transfer m t).received)) _ (receive_advances p m t (w.transfer m t).received (operator p (w.transfer m t).sender)))

  pub front_no_advance : (m i t l : ℕ) (d : Micro) → slice_get (code p t).prologue l ≡ Some d → advances_half m i d ≡ true → ⊥
  front_no_advance m i t l d e k = let f = front_is p w c reactions own t l d e in let z : advances_half m i (signal (2 * f.0)) ≡ true = ap (advances_half m i) f.5 ∙ k in cc

  -- the communication from block_at a micro-step comes, on medium m, as part t
  pub moved : (m t s a : ℕ) (x : Instr) → MediumAt p s ≡ m → communications p s a ≡ t → Part s a x → Communicates p m t s a x
  moved m t s a x e f q = let u = q.communicates in record { on = u.on ∙ ap (λ (k : ℕ). Some k) e; stands = u.stands; is_one = u.is_one; number = f }

  -- an advance of half i stands at the half's own place
  module _ (m t : ℕ) (there : m < c.media) (below : t < transfers p m) where
    only_send : (s l : ℕ) (d : Micro) → slice_get (code p s).turn l ≡ Some d → advances_half m (2 * t) d ≡ true → (s ≡ (w.transfer m t).sender) × (l ≡ (sender_half m t).advances)
    only_send s l d e k = let o = origin p s l d e in by o (advance_from p m (2 * t) s o.index o.at o.instr d k o.from)
      where
        found : (o : Origin p s l d) (b q : ℕ) → o.instr ≡ Send b q → MediumAt p s ≡ m → communications p s o.index ≡ t → o.at ≡ 2 * half_len p (MediumAt p s) (communications p s o.index) o.instr + 1
            → Who m t s o.index o.instr → (s ≡ (w.transfer m t).sender) × (l ≡ (sender_half m t).advances)
        found o b q y z n r (sends_it u v x) = (u, same_place p s _ o.index _ o.at _ l o.is u v (let k = ap (half_len p (MediumAt p s) (communications p s o.index)) x in omega arith))
        found o b q y z n r (receives_it u v x) = let k = sym y ∙ x in absurd cc
        found o b q y z n r (waits_for_it x v) = let k = sym y ∙ x in absurd cc

        by : (o : Origin p s l d) → (MediumAt p s ≡ m) × (o.at ≡ 2 * half_len p (MediumAt p s) (communications p s o.index) o.instr + 1)
            × IsHalf p (MediumAt p s) (communications p s o.index) o.instr (2 * t)
            → (s ≡ (w.transfer m t).sender) × (l ≡ (sender_half m t).advances)
        by o (z, r, sending b q y n) = let f : communications p s o.index ≡ t = omega arith in
            found o b q y z f r (who m t there below s o.index o.instr (moved m t s o.index o.instr z f (part s o.index o.instr o.stands (ap is_communication y))))
        by o (z, r, receiving b q y n) = absurd (omega arith)

    only_receive : (s l : ℕ) (d : Micro) → slice_get (code p s).turn l ≡ Some d → advances_half m (2 * t + 1) d ≡ true → (s ≡ (w.transfer m t).receiver) × (l ≡ (receiver_half m t).advances)
    only_receive s l d e k = let o = origin p s l d e in by o (advance_from p m (2 * t + 1) s o.index o.at o.instr d k o.from)
      where
        found : (o : Origin p s l d) (b q : ℕ) → o.instr ≡ Recv b q → MediumAt p s ≡ m → communications p s o.index ≡ t → o.at ≡ 2 * half_len p (MediumAt p s) (communications p s o.index) o.instr + 1
            → Who m t s o.index o.instr → (s ≡ (w.transfer m t).receiver) × (l ≡ (receiver_half m t).advances)
        found o b q y z n r (receives_it u v x) = (u, same_place p s _ o.index _ o.at _ l o.is u v (let k = ap (half_len p (MediumAt p s) (communications p s o.index)) x in omega arith))
        found o b q y z n r (sends_it u v x) = let k = sym y ∙ x in absurd cc
        found o b q y z n r (waits_for_it x v) = let k = sym y ∙ x in absurd cc

        by : (o : Origin p s l d) → (MediumAt p s ≡ m) × (o.at ≡ 2 * half_len p (MediumAt p s) (communications p s o.index) o.instr + 1)
            × IsHalf p (MediumAt p s) (communications p s o.index) o.instr (2 * t + 1)
            → (s ≡ (w.transfer m t).receiver) × (l ≡ (receiver_half m t).advances)
        by o (z, r, receiving b q y n) = let f : communications p s o.index ≡ t = omega arith in
            found o b q y z f r (who m t there below s o.index o.instr (moved m t s o.index o.instr z f (part s o.index o.instr o.stands (ap is_communication y))))
        by o (z, r, sending b q y n) = absurd (omega arith)

    send_owned : IsOwned W (advances_half m (2 * t)) (owner_of (sender_half m t))
    send_owned = owned_late p c.media reactions own (advances_half m (2 * t)) (w.transfer m t).sender (sender_half m t).advances (advance m (2 * t)) (send_advance m t there below).0
        (and_from _ _ (eq-eqb m m refl) (eq-eqb (2 * t) (2 * t) refl)) (stands_sequence p _ _ _ (one m t there below).sends.stands) only_send (front_no_advance m (2 * t))

    receive_owned : IsOwned W (advances_half m (2 * t + 1)) (owner_of (receiver_half m t))
    receive_owned = owned_late p c.media reactions own (advances_half m (2 * t + 1)) (w.transfer m t).receiver (receiver_half m t).advances (advance m (2 * t + 1)) (receive_advance m t there below).0
        (and_from _ _ (eq-eqb m m refl) (eq-eqb (2 * t + 1) (2 * t + 1) refl)) (stands_sequence p _ _ _ (one m t there below).receives.stands) only_receive (front_no_advance m (2 * t + 1))

  -- a micro-step that advances m is one of the halves
  module _ (m : ℕ) (there : m < c.media) where
    abbrev T : ℕ
    T = transfers p m

    by_half : (Q : ℕ → Type 0) → ((t : ℕ) → t < transfers p m → Q (2 * t)) → ((t : ℕ) → t < transfers p m → Q (2 * t + 1)) → (i : ℕ) → i < 2 * transfers p m → Q i
    by_half Q f g i l = by (cases_eq (i % 2) 0)
      where
        by : (i % 2 ≡ 0) ⊎ (i % 2 ≡ 0 → ⊥) → Q i
        by (inl e) = let z : 2 * (i / 2) ≡ i = omega arith in subst Q z (f (i / 2) (omega arith))
        by (inr e) = let z : 2 * (i / 2) + 1 ≡ i = omega arith in subst Q z (g (i / 2) (omega arith))

    half_owned : (i : ℕ) → i < 2 * transfers p m → IsOwned W (advances_half m i) (owner_of (H m i))
    half_owned = by_half (λ i. IsOwned W (advances_half m i) (owner_of (H m i)))
        (λ t l. subst (λ (k : Half). IsOwned W (advances_half m (2 * t)) (owner_of k)) (sym (half_even m t)) (send_owned m t there l))
        (λ t l. subst (λ (k : Half). IsOwned W (advances_half m (2 * t + 1)) (owner_of k)) (sym (half_odd m t)) (receive_owned m t there l))

    -- halves are below the number of halves
    pub half_below : (s a : ℕ) (x : Instr) (i : ℕ) → Stands p s a x → MediumAt p s ≡ m → IsHalf p (MediumAt p s) (communications p s a) x i → i < 2 * transfers p m
    half_below s a x i st e (sending b o y n) = let q = (part s a x st (ap is_communication y)).below in let z = ap (transfers p) e in omega arith
    half_below s a x i st e (receiving b o y n) = let q = (part s a x st (ap is_communication y)).below in let z = ap (transfers p) e in omega arith

    abbrev Advanced : Micro → Type 0
    Advanced d = (i : ℕ) × (i < 2 * transfers p m) × (advances_half m i d ≡ true) × ((j : ℕ) → advances_half m j d ≡ true → j ≡ i)

    advanced : (s l : ℕ) (d : Micro) → slice_get (code p s).turn l ≡ Some d → advances m d ≡ true → Advanced d
    advanced s l (advance n i) e k = let o = origin p s l (advance n i) e in let q = eqb-true n m k in
        (i, half_below s o.index o.instr i o.stands (sym o.from.0 ∙ q) o.from.2, and_from _ _ k (eq-eqb i i refl), λ j u. sym (eqb-true i j (and_parts (eqb n m) (eqb i j) u).1))
    advanced s l (taken z) e k = absurd cc
    advanced s l (see z) e k = absurd cc
    advanced s l (sub z) e k = absurd cc
    advanced s l (signal z) e k = absurd cc
    advanced s l (await n i b) e k = absurd cc
    advanced s l (load z i) e k = absurd cc
    advanced s l (store z i) e k = absurd cc

    advances_all : (d : Micro) (j : ℕ) → advances_half m j d ≡ true → advances m d ≡ true
    advances_all (advance n i) j k = (and_parts (eqb n m) (eqb i j) k).0
    advances_all (taken z) j k = absurd cc
    advances_all (see z) j k = absurd cc
    advances_all (sub z) j k = absurd cc
    advances_all (signal z) j k = absurd cc
    advances_all (await n i b) j k = absurd cc
    advances_all (load z i) j k = absurd cc
    advances_all (store z i) j k = absurd cc

    advanced_step : (s n : ℕ) (d : Micro) → step_at (code p s) n ≡ Some d → advances m d ≡ true → Advanced d
    advanced_step s n d e k = by (cases_lt n (length (code p s).prologue))
      where
        by : (n < length (code p s).prologue) ⊎ (length (code p s).prologue ≤ n) → Advanced d
        by (inl l) = let u : step_at (code p s) n ≡ slice_get (code p s).prologue n = rw (lt-ltb n (length (code p s).prologue) l) refl in
            let f = front_is p w c reactions own s n d (sym u ∙ e) in let z : advances m (signal (2 * f.0)) ≡ true = ap (advances m) f.5 ∙ k in absurd cc
        by (inr l) = let u : step_at (code p s) n ≡ slice_get (code p s).turn (place_at (code p s) n) = rw (le-ltb n (length (code p s).prologue) l) refl in
            advanced s (place_at (code p s) n) d (sym u ∙ e) k

    pub medium_is : 0 < transfers p m → IsMedium W S H m
    medium_is some = record {
      family = record {
        some = omega arith;
        owned = half_owned;
        late = λ i l. refl;
        covers = λ s n. covered (advances m) (advances_half m) (2 * transfers p m) (step_at (code p s) n) (advanced_step s n) advances_all;
      };
      before = by_half (λ i. (H m i).waits < (H m i).advances) (λ t l. rw (half_even m t) (omega arith)) (λ t l. rw (half_odd m t) (omega arith));
      waiting = by_half (λ i. slice_get (code p (H m i).sequence).turn (H m i).waits ≡ Some (await m i true))
          (λ t l. rw (half_even m t) (at_first p _ _ _ (await m (2 * t) true) (one m t there l).sends.stands (in_send m t there l 0 (await m (2 * t) true) refl)))
          (λ t l. rw (half_odd m t) (at_first p _ _ _ (await m (2 * t + 1) true) (one m t there l).receives.stands (in_receive m t there l 0 (await m (2 * t + 1) true) refl)));
    }
