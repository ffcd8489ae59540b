-- Waits of a well-formed program, and the elements of its wires.
use Rattle.std.proofs.Common.{◌≡◌, ℕ, zero, suc, ◌+◌, ◌-◌, ◌*◌, ◌<◌, ◌≤◌, ◌⊎◌, Bool, true, false, cond, nat_lt, eqb, List, [], ◌∷◌, length, Some, refl, sym, ap, subst, inl, inr, ⊎_elim, arith, ◌∙◌}
use Rattle.std.specs.Prelude.{slice_get}
use Rattle.std.proofs.lemmas.Bool.{eqb-true, eq-eqb, lt-ltb, le-ltb, cases_lt, and_parts, and_from}
use Rattle.std.proofs.lemmas.Option.{same_Some}
use Rattle.std.proofs.Math.Nat.{le-max_left, le-max_right}
use Rattle.executive_program.specs.Sites.{step_at, place_at}
use Rattle.executive_program.specs.System.{System, Micro, take as taken, see, sub, signal, await, advance, load, store, stores}
use Rattle.executive_program.specs.Owners.{Owner, IsOwned, sum_below}
use Rattle.executive_program.specs.Media.{Half, stores_access, writer_of, IsMedium, IsOwnWait, IsWire}
use Rattle.executive_program.specs.Pairs.{late}
use Rattle.executive_program.specs.Synchronized as V
use Rattle.executive_program.specs.declared.program.Instr.{Instr}
use Rattle.executive_program.specs.declared.program.Instr.TheVariants.{Send, Recv, Sync}
use Rattle.executive_program.specs.declared.program.Program.{Program}
use Rattle.executive_program.specs.declared.program.SeqCode.{SeqCode}
use Rattle.executive_program.specs.Blocks.{block_at}
use Rattle.executive_program.specs.Instructions.{is_communication, communications, len_of, operator, depth_of, medium_in, turn_of, turn, len_by}
use Rattle.executive_program.specs.MicroSteps.{code, begins, transfers, wire_of, buffer_elements, uses, access, longest_sent, longest_in, longest_on, sent_len, is_on, wire_len, transfer_len}
use Rattle.executive_program.specs.Places.{Places}
use Rattle.executive_program.specs.WellFormed.{Stands, Communicates}
use Rattle.semaphore_core.specs.Job.{buffer_at, wire_at, number_at}
use Rattle.phase_laws.specs.Discipline.{signaller, half}
use Rattle.phase_laws.proofs.Blocks.{sum_same_block, sum_inside, sum_rises, block_at_is, inside}
use Rattle.phase_laws.proofs.Places.{stands_sequence, at_turn, Origin, origin, FromAt, owned_late}
use Rattle.phase_laws.proofs.Setting.{Parts, Conditions, system_of}
use Rattle.phase_laws.proofs.Counting.{covered}
use Rattle.phase_laws.proofs.From.{IsHalf, sending, receiving, LoadsWire, StoresBuffer, StoresWire, wire_store_stands}
use Rattle.phase_laws.proofs.Pairs.{same_place, front_is}
use Rattle.phase_laws.proofs.Buffers.{MediumAt, element_low, front_no_store}
use Rattle.phase_laws.proofs.Media.{receiver_half, half_even, half_odd, Part, part, Who, sends_it, receives_it, waits_for_it, who, in_send, medium_is}
use Rattle.phase_laws.proofs.Sent.{found}

module _ (p : Program) where
  stores_access_from : (y i t a r : ℕ) (x : Instr) (d : Micro) → stores_access y i d ≡ true → FromAt p t a x r d
      → StoresBuffer p x r y i ⊎ StoresWire p (MediumAt p t) (communications p t a) x r y i
  stores_access_from y i t a r x (store z j) e f = let q = and_parts (eqb z y) (eqb j i) e in
      subst (λ (k : ℕ). StoresBuffer p x r k i ⊎ StoresWire p (MediumAt p t) (communications p t a) x r k i) (eqb-true z y q.0)
      (subst (λ (k : ℕ). StoresBuffer p x r z k ⊎ StoresWire p (MediumAt p t) (communications p t a) x r z k) (eqb-true j i q.1) f)
  stores_access_from y i t a r x (taken z) e f = absurd cc
  stores_access_from y i t a r x (see z) e f = absurd cc
  stores_access_from y i t a r x (sub z) e f = absurd cc
  stores_access_from y i t a r x (signal z) e f = absurd cc
  stores_access_from y i t a r x (await n j b) e f = absurd cc
  stores_access_from y i t a r x (advance n j) e f = absurd cc
  stores_access_from y i t a r x (load z j) e f = absurd cc

  -- what is sent over a wire is no longer than the wire
  sent_within : (xs : List Instr) (a b o : ℕ) → slice_get xs a ≡ Some (Send b o) → len_of p b ≤ longest_sent p xs
  sent_within [] a b o e = absurd cc
  sent_within (x ∷ xs) zero b o e = let z = ap (sent_len p) (same_Some x (Send b o) e) in let y = le-max_left (sent_len p x) (longest_sent p xs) in omega arith
  sent_within (x ∷ xs) (suc a) b o e = let z = sent_within xs a b o e in let y = le-max_right (sent_len p x) (longest_sent p xs) in omega arith

  within_wire : (qs : List SeqCode) (s m n : ℕ) → medium_in (slice_get qs s) ≡ Some m → n ≤ longest_sent p (turn_of (slice_get qs s)) → n ≤ longest_on p qs m
  within_wire [] s m n e l = absurd cc
  within_wire (q ∷ qs) zero m n e l = let on : is_on m q.seq.medium ≡ true = ap (is_on m) e ∙ eq-eqb m m refl in
      let z : longest_in p m q ≡ longest_sent p q.turn = ap (λ (b : Bool). cond b (longest_sent p q.turn) 0) on in let y = le-max_left (longest_in p m q) (longest_on p qs m) in omega arith
  within_wire (q ∷ qs) (suc s) m n e l = let z = within_wire qs s m n e l in let y = le-max_right (longest_in p m q) (longest_on p qs m) in omega arith

  uses_one : (m j t : ℕ) → j < transfer_len p m t → uses p m j t ≡ 1
  uses_one m j t l = rw (lt-ltb j (transfer_len p m t) l) refl

  uses_less : (m j t : ℕ) → 0 < uses p m j t → j < transfer_len p m t
  uses_less m j t l = ⊎_elim (λ k. k) (λ k. absurd (let z : uses p m j t ≡ 0 = rw (le-ltb j (transfer_len p m t) k) refl in omega arith)) (cases_lt j (transfer_len p m t))

  -- the transfer of access i, and its number of transfers before that use the element
  module _ (m j : ℕ) where
    abbrev pub user : ℕ → ℕ
    user i = block_at (uses p m j) (transfers p m) i

    pub user_of : (t : ℕ) → t < transfers p m → j < transfer_len p m t → (user (access p m j t) ≡ t) × (access p m j t < access p m j (transfers p m))
    user_of t l k = let z = uses_one m j t k in let y : access p m j t + 0 ≡ access p m j t = omega arith in
        (ap (λ (n : ℕ). user n) (sym y) ∙ block_at_is (uses p m j) (transfers p m) t 0 l (omega arith), let u = sum_inside (uses p m j) (transfers p m) t 0 l (omega arith) in omega arith)

    pub record User (i : ℕ) : Type 0 where
      pub below : user i < transfers p m
      pub uses_it : j < transfer_len p m (user i)
      pub number : access p m j (user i) ≡ i

    uses_at_most : (t : ℕ) → uses p m j t ≤ 1
    uses_at_most t = ⊎_elim (λ k. let z = uses_one m j t k in omega arith) (λ k. let z : uses p m j t ≡ 0 = rw (le-ltb j (transfer_len p m t) k) refl in omega arith) (cases_lt j (transfer_len p m t))

    pub user_is : (i : ℕ) → i < access p m j (transfers p m) → User i
    user_is i l = let b = inside (uses p m j) (transfers p m) i l in let u = b.is in let v = uses_at_most b.block in let v2 = b.inner in let z : i ≡ access p m j b.block = omega arith in
        let y = user_of b.block b.within (uses_less m j b.block (omega arith)) in
        let e : user i ≡ b.block = ap (λ (n : ℕ). user n) z ∙ y.0 in
        let f = ap (λ (n : ℕ). access p m j n) e in let w = b.within in
        record { below = omega arith; uses_it = subst (λ (n : ℕ). j < transfer_len p m n) (sym e) (uses_less m j b.block (omega arith)); number = omega arith }

    pub user_rises : (i : ℕ) → i + 1 < access p m j (transfers p m) → user i < user (i + 1)
    user_rises i l = let a = user_is i (omega arith) in let b = user_is (i + 1) l in let u = a.number in let v = b.number in
        ⊎_elim (λ k. k) (λ k. absurd (let z = sum_rises (uses p m j) (user i) (user (i + 1)) k in omega arith)) (cases_lt (user i) (user (i + 1)))

module _ (p : Program) (w : Places) (c : Conditions p w) {P : Type 0} (reactions : ℕ) (own : Parts P) where
  abbrev pub W : System P
  W = system_of p c.media reactions own

  abbrev pub S : ℕ → Owner
  S = signaller p w

  abbrev pub H : ℕ → ℕ → Half
  H = half p w

  abbrev Part' : ℕ → ℕ → Instr → Type 0
  Part' = Part p w c reactions own

  abbrev the_part : (s a : ℕ) (x : Instr) → Stands p s a x → is_communication x ≡ true → Part' s a x
  the_part = part p w c reactions own

  abbrev the_who : (m t : ℕ) → m < c.media → t < transfers p m → (s a : ℕ) (x : Instr) → Communicates p m t s a x → Who p w c reactions own m t s a x
  the_who = who p w c reactions own

  len_is : (m t : ℕ) → m < c.media → t < transfers p m → transfer_len p m t ≡ len_of p (w.transfer m t).sent
  len_is m t a b = ap (len_by p) (found p w c reactions own m t a b)

  -- a transfer is no longer than the wire
  pub wire_holds : (m t : ℕ) → m < c.media → t < transfers p m → transfer_len p m t ≤ wire_len p m
  wire_holds m t a b = let one = (c.holds.transferred m t a b).sends in let e = len_is m t a b in
      let z = within_wire p p.seqs (w.transfer m t).sender m (len_of p (w.transfer m t).sent) one.on
      (sent_within p (turn p (w.transfer m t).sender) (w.transfer m t).send_at (w.transfer m t).sent _ one.stands) in omega arith

  -- The instruction sends, or it receives: what transfer it is part of.
  pub record Sending (s a b : ℕ) : Type 0 where
    pub medium_there : MediumAt p s < c.media
    pub below : communications p s a < transfers p (MediumAt p s)
    pub sequence : s ≡ (w.transfer (MediumAt p s) (communications p s a)).sender
    pub at : a ≡ (w.transfer (MediumAt p s) (communications p s a)).send_at
    pub buffer : b ≡ (w.transfer (MediumAt p s) (communications p s a)).sent
    pub len : len_of p b ≡ transfer_len p (MediumAt p s) (communications p s a)

  pub sending_is : (s a b o : ℕ) → Stands p s a (Send b o) → Sending s a b
  sending_is s a b o st = by (the_part s a (Send b o) st refl)
    where
      by : Part' s a (Send b o) → Sending s a b
      by q = go (the_who (MediumAt p s) (communications p s a) q.there q.below s a (Send b o) q.communicates)
        where
          go : Who p w c reactions own (MediumAt p s) (communications p s a) s a (Send b o) → Sending s a b
          go (sends_it u v x) = let e : b ≡ (w.transfer (MediumAt p s) (communications p s a)).sent = cc in record {
            medium_there = q.there;
            below = q.below;
            sequence = u;
            at = v;
            buffer = e;
            len = ap (len_of p) e ∙ sym (len_is (MediumAt p s) (communications p s a) q.there q.below);
          }
          go (receives_it u v x) = absurd cc
          go (waits_for_it x v) = absurd cc

  pub record Receiving (s a b : ℕ) : Type 0 where
    pub medium_there : MediumAt p s < c.media
    pub below : communications p s a < transfers p (MediumAt p s)
    pub sequence : s ≡ (w.transfer (MediumAt p s) (communications p s a)).receiver
    pub at : a ≡ (w.transfer (MediumAt p s) (communications p s a)).receive_at
    pub buffer : b ≡ (w.transfer (MediumAt p s) (communications p s a)).received
    pub len : len_of p b ≡ transfer_len p (MediumAt p s) (communications p s a)

  pub receiving_is : (s a b o : ℕ) → Stands p s a (Recv b o) → Receiving s a b
  receiving_is s a b o st = by (the_part s a (Recv b o) st refl)
    where
      by : Part' s a (Recv b o) → Receiving s a b
      by q = go (the_who (MediumAt p s) (communications p s a) q.there q.below s a (Recv b o) q.communicates)
        where
          go : Who p w c reactions own (MediumAt p s) (communications p s a) s a (Recv b o) → Receiving s a b
          go (receives_it u v x) = let e : b ≡ (w.transfer (MediumAt p s) (communications p s a)).received = cc in record {
            medium_there = q.there;
            below = q.below;
            sequence = u;
            at = v;
            buffer = e;
            len = ap (len_of p) e ∙ (c.holds.transferred (MediumAt p s) (communications p s a) q.there q.below).lengths ∙ sym (len_is (MediumAt p s) (communications p s a) q.there q.below);
          }
          go (sends_it u v x) = absurd cc
          go (waits_for_it x v) = absurd cc

  -- a wait for exactly its turn stands in its own half
  abbrev OwnWait : ℕ → ℕ → ℕ → ℕ → Type 0
  OwnWait s l m i = IsMedium W S H m × IsOwnWait W S H s l m i

  pub own_wait : (s l m i : ℕ) → slice_get (code p s).turn l ≡ Some (await m i true) → OwnWait s l m i
  own_wait s l m i e = let o = origin p s l (await m i true) e in by o o.from.0 o.from.1 o.from.2
    where
      at : (o : Origin p s l (await m i true)) → o.at ≡ 0 → l ≡ begins p s o.index
      at o e = let z = o.is in omega arith

      by : (o : Origin p s l (await m i true)) → m ≡ MediumAt p s → o.at ≡ 0 → IsHalf p (MediumAt p s) (communications p s o.index) o.instr i → OwnWait s l m i
      by o n r (sending b q y z) = let k = sending_is s o.index b q (subst (λ (x : Instr). Stands p s o.index x) y o.stands) in let u = k.below in let v = at o r in
          subst (λ (x : ℕ). OwnWait s l x i) (sym n) (subst (λ (x : ℕ). OwnWait s l (MediumAt p s) x) (sym z) (
            medium_is p w c reactions own (MediumAt p s) k.medium_there (omega arith),
            record {
              within = omega arith;
              same = rw (half_even p w c reactions own (MediumAt p s) (communications p s o.index)) k.sequence;
              early = rw (half_even p w c reactions own (MediumAt p s) (communications p s o.index))
                  (let e1 = ap (λ (t : ℕ). begins p t o.index) k.sequence in
                  let e2 = ap (λ (t : ℕ). begins p (w.transfer (MediumAt p s) (communications p s o.index)).sender t) k.at in omega arith);
            },
          ))
      by o n r (receiving b q y z) = let k = receiving_is s o.index b q (subst (λ (x : Instr). Stands p s o.index x) y o.stands) in let u = k.below in let v = at o r in
          subst (λ (x : ℕ). OwnWait s l x i) (sym n) (subst (λ (x : ℕ). OwnWait s l (MediumAt p s) x) (sym z) (
            medium_is p w c reactions own (MediumAt p s) k.medium_there (omega arith),
            record {
              within = omega arith;
              same = rw (half_odd p w c reactions own (MediumAt p s) (communications p s o.index)) k.sequence;
              early = rw (half_odd p w c reactions own (MediumAt p s) (communications p s o.index))
                  (let e1 = ap (λ (t : ℕ). begins p t o.index) k.sequence in
                  let e2 = ap (λ (t : ℕ). begins p (w.transfer (MediumAt p s) (communications p s o.index)).receiver t) k.at in omega arith);
            },
          ))

  pub sync_wait : (s l m i : ℕ) → slice_get (code p s).turn l ≡ Some (await m i false) → IsMedium W S H m × (0 < i) × (i ≤ W.halves m)
  sync_wait s l m i e = let o = origin p s l (await m i false) e in by o o.from.0 o.from.2
    where
      by : (o : Origin p s l (await m i false)) → m ≡ MediumAt p s → (b : ℕ) × (q : ℕ) × (o.instr ≡ Sync b q)
          × (i ≡ 2 * communications p s o.index + 2) → IsMedium W S H m × (0 < i) × (i ≤ 2 * transfers p m)
      by o n (b, q, y, z) = let k = the_part s o.index o.instr o.stands (ap is_communication y) in let u = k.below in
          subst (λ (x : ℕ). IsMedium W S H x × (0 < i) × (i ≤ 2 * transfers p x)) (sym n)
          (medium_is p w c reactions own (MediumAt p s) k.there (omega arith), omega arith, omega arith)

  -- element j of the wire of m
  module _ (m j : ℕ) (there : m < c.media) (long : j < wire_len p m) where
    high : nat_lt (wire_of p m j) (buffer_elements p) ≡ false
    high = le-ltb (wire_of p m j) (buffer_elements p) (omega arith)

    pub wire_at_is : wire_at p c.media (wire_of p m j) ≡ m
    wire_at_is = let less : wire_of p m j - buffer_elements p ≡ sum_below (wire_len p) m + j = omega arith in ap (block_at (wire_len p) c.media) less ∙ block_at_is (wire_len p) c.media m j there long

    pub number_at_is : number_at p c.media (wire_of p m j) ≡ j
    number_at_is = let e = ap (sum_below (wire_len p)) wire_at_is in
        ap (λ (b : Bool). cond b (wire_of p m j - sum_below (len_of p) (buffer_at p c.media (wire_of p m j)))
        (wire_of p m j - buffer_elements p - sum_below (wire_len p) (wire_at p c.media (wire_of p m j)))) high ∙ (omega arith)

    depth_is : W.depth (wire_of p m j) ≡ 1
    depth_is = ap (λ (b : Bool). cond b (depth_of p (buffer_at p c.media (wire_of p m j))) 1) high

    pub period_is : W.period (wire_of p m j) ≡ access p m j (transfers p m)
    period_is = ap (λ (b : Bool). cond b 1 (access p (wire_at p c.media (wire_of p m j)) (number_at p c.media (wire_of p m j)) (transfers p (wire_at p c.media (wire_of p m j))))) high
        ∙ ap (λ (k : ℕ). access p k (number_at p c.media (wire_of p m j)) (transfers p k)) wire_at_is ∙ ap (λ (n : ℕ). access p m n (transfers p m)) number_at_is

    abbrev pub half_of : ℕ → ℕ
    half_of i = 2 * user p m j i

    abbrev pub place_of : ℕ → ℕ
    place_of i = begins p (w.transfer m (user p m j i)).sender (w.transfer m (user p m j i)).send_at + suc (2 * j + 1)

    -- what stores or loads this element is part of the transfer that uses it
    same_transfer : (s a n i : ℕ) → MediumAt p s < c.media → communications p s a < transfers p (MediumAt p s) → n < transfer_len p (MediumAt p s) (communications p s a)
        → wire_of p m j ≡ wire_of p (MediumAt p s) n → i ≡ access p (MediumAt p s) n (communications p s a)
        → (MediumAt p s ≡ m) × (n ≡ j) × (communications p s a ≡ user p m j i) × (i < access p m j (transfers p m))
    same_transfer s a n i a1 a2 a3 e f = (
      sym b.0,
      sym b.1,
      sym (ap (user p m j) f ∙ ap (λ (k : ℕ). user p k j (access p (MediumAt p s) n (communications p s a))) b.0
          ∙ ap (λ (k : ℕ). user p (MediumAt p s) k (access p (MediumAt p s) n (communications p s a))) b.1 ∙ of.0),
      let z = of.1 in let y = ap (λ (k : ℕ). access p k j (transfers p k)) b.0 in let x = ap (λ (k : ℕ). access p (MediumAt p s) k (transfers p (MediumAt p s))) b.1 in omega arith,
    )
      where
        b : (m ≡ MediumAt p s) × (j ≡ n)
        b = sum_same_block (wire_len p) m (MediumAt p s) j n long (let z = wire_holds (MediumAt p s) (communications p s a) a1 a2 in omega arith) (omega arith)

        of : (user p (MediumAt p s) n (access p (MediumAt p s) n (communications p s a)) ≡ communications p s a)
            × (access p (MediumAt p s) n (communications p s a) < access p (MediumAt p s) n (transfers p (MediumAt p s)))
        of = user_of p (MediumAt p s) n (communications p s a) a2 a3

    only_store : (i s l a r b o n : ℕ) → Stands p s a (Send b o) → l ≡ begins p s a + r → r ≡ 2 * n + 2 → n < len_of p b → wire_of p m j
        ≡ wire_of p (MediumAt p s) n → i ≡ access p (MediumAt p s) n (communications p s a)
        → (s ≡ (w.transfer m (user p m j i)).sender) × (l ≡ place_of i) × (i < access p m j (transfers p m))
    only_store i s l a r b o n st e f x y z = let k = sending_is s a b o st in let u = k.len in let q = same_transfer s a n i k.medium_there k.below (omega arith) y z in
        let sq : s ≡ (w.transfer m (user p m j i)).sender = k.sequence ∙ ap (λ (v : ℕ). (w.transfer v (communications p s a)).sender) q.0 ∙ ap (λ (v : ℕ). (w.transfer m v).sender) q.2 in
        let aq : a ≡ (w.transfer m (user p m j i)).send_at = k.at ∙ ap (λ (v : ℕ). (w.transfer v (communications p s a)).send_at) q.0 ∙ ap (λ (v : ℕ). (w.transfer m v).send_at) q.2 in
        (sq, same_place p s _ a _ r (suc (2 * j + 1)) l e sq aq (let v = q.1 in omega arith), q.3)

    only_access : (i s l : ℕ) (d : Micro) → slice_get (code p s).turn l ≡ Some d → stores_access (wire_of p m j) i d ≡ true
        → (s ≡ (w.transfer m (user p m j i)).sender) × (l ≡ place_of i) × (i < access p m j (transfers p m))
    only_access i s l d e k = let o = origin p s l d e in by o (stores_access_from p (wire_of p m j) i s o.index o.at o.instr d k o.from)
      where
        by : (o : Origin p s l d) → StoresBuffer p o.instr o.at (wire_of p m j) i ⊎ StoresWire p (MediumAt p s) (communications p s o.index) o.instr o.at (wire_of p m j) i
            → (s ≡ (w.transfer m (user p m j i)).sender) × (l ≡ place_of i) × (i < access p m j (transfers p m))
        by o (inl f) = let z = f.is in let y = element_low p f.buffer f.number f.inside in absurd (omega arith)
        by o (inr f) = only_store i s l o.index o.at f.buffer f.to f.number (subst (λ (x : Instr). Stands p s o.index x) f.sends o.stands) o.is f.at f.inside f.is f.access_is

    front_no_access : (i t l : ℕ) (d : Micro) → slice_get (code p t).prologue l ≡ Some d → stores_access (wire_of p m j) i d ≡ true → ⊥
    front_no_access i t l d e k = let f = front_is p w c reactions own t l d e in let z : stores_access (wire_of p m j) i (signal (2 * f.0)) ≡ true = ap (stores_access (wire_of p m j) i) f.5 ∙ k in cc

    module _ (i : ℕ) (low : i < access p m j (transfers p m)) where
      abbrev t : ℕ
      t = user p m j i

      wire_len_is : j < len_of p (w.transfer m (user p m j i)).sent
      wire_len_is = let u = user_is p m j i low in let z = len_is m t there u.below in let y = u.uses_it in omega arith

      store_here : slice_get (code p (w.transfer m (user p m j i)).sender).turn (place_of i) ≡ Some (store (wire_of p m j) i)
      store_here = let u = user_is p m j i low in
          (at_turn p (w.transfer m t).sender (w.transfer m t).send_at (suc (2 * j + 1)) _ (store (wire_of p m j) i)
          (c.holds.transferred m t there u.below).sends.stands
          (in_send p w c reactions own m t there u.below (suc (2 * j + 1)) (store (wire_of p m j) i)
          (wire_store_stands p m t (w.transfer m t).sent (operator p (w.transfer m t).receiver) j wire_len_is
          ∙ ap (λ (k : ℕ). Some (store (wire_of p m j) k)) u.number))).0

      access_owned : IsOwned W (stores_access (wire_of p m j) i) (writer_of W H m half_of place_of i)
      access_owned = let u = user_is p m j i low in subst (λ (x : Half). IsOwned W (stores_access (wire_of p m j) i) (late x.sequence (place_of i))) (sym (half_even p w c reactions own m t))
          (owned_late p c.media reactions own (stores_access (wire_of p m j) i) (w.transfer m t).sender (place_of i)
          (store (wire_of p m j) i) store_here (and_from _ _ (eq-eqb (wire_of p m j) (wire_of p m j) refl) (eq-eqb i i refl))
          (stands_sequence p _ _ _ (c.holds.transferred m t there u.below).sends.stands) (λ s l d e k. let q = only_access i s l d e k in (q.0, q.1)) (front_no_access i))

    abbrev Stored : Micro → Type 0
    Stored d = (i : ℕ) × (i < W.period (wire_of p m j)) × (stores_access (wire_of p m j) i d ≡ true) × ((k : ℕ) → stores_access (wire_of p m j) k d ≡ true → k ≡ i)

    stored : (s l : ℕ) (d : Micro) → slice_get (code p s).turn l ≡ Some d → stores (wire_of p m j) d ≡ true → Stored d
    stored s l (store y i) e k = let acc : stores_access (wire_of p m j) i (store y i) ≡ true = and_from _ _ k (eq-eqb i i refl) in
        (i, rw period_is (only_access i s l (store y i) e acc).2, acc, λ n u. sym (eqb-true i n (and_parts (eqb y (wire_of p m j)) (eqb i n) u).1))
    stored s l (taken z) e k = absurd cc
    stored s l (see z) e k = absurd cc
    stored s l (sub z) e k = absurd cc
    stored s l (signal z) e k = absurd cc
    stored s l (await n i b) e k = absurd cc
    stored s l (advance n i) e k = absurd cc
    stored s l (load z i) e k = absurd cc

    stores_all : (d : Micro) (i : ℕ) → stores_access (wire_of p m j) i d ≡ true → stores (wire_of p m j) d ≡ true
    stores_all (store y n) i k = (and_parts (eqb y (wire_of p m j)) (eqb n i) k).0
    stores_all (taken z) i k = absurd cc
    stores_all (see z) i k = absurd cc
    stores_all (sub z) i k = absurd cc
    stores_all (signal z) i k = absurd cc
    stores_all (await n q b) i k = absurd cc
    stores_all (advance n q) i k = absurd cc
    stores_all (load z q) i k = absurd cc

    stored_step : (s n : ℕ) (d : Micro) → step_at (code p s) n ≡ Some d → stores (wire_of p m j) d ≡ true → Stored d
    stored_step s n d e k = by (cases_lt n (length (code p s).prologue))
      where
        by : (n < length (code p s).prologue) ⊎ (length (code p s).prologue ≤ n) → Stored d
        by (inl l) = let u : step_at (code p s) n ≡ slice_get (code p s).prologue n = rw (lt-ltb n (length (code p s).prologue) l) refl in
            absurd (front_no_store p w c reactions own (wire_of p m j) s n d (sym u ∙ e) k)
        by (inr l) = let u : step_at (code p s) n ≡ slice_get (code p s).turn (place_at (code p s) n) = rw (le-ltb n (length (code p s).prologue) l) refl in
            stored s (place_at (code p s) n) d (sym u ∙ e) k

    pub wire_is : 0 < access p m j (transfers p m) → IsWire W H (wire_of p m j) m half_of place_of
    wire_is some = record {
      family = record {
        some = rw period_is some;
        owned = λ i l. access_owned i (rw period_is at l);
        late = λ i l. refl;
        covers = λ s n. covered (stores (wire_of p m j)) (stores_access (wire_of p m j)) (W.period (wire_of p m j)) (step_at (code p s) n) (stored_step s n) stores_all;
      };
      single = depth_is;
      apart = λ i l. let z = user_rises p m j i (rw period_is at l) in omega arith;
      within = λ i l. let z = (user_is p m j i (rw period_is at l)).below in omega arith;
      after_wait = λ i l. rw (half_even p w c reactions own m (user p m j i)) (omega arith);
      before_advance = λ i l. rw (half_even p w c reactions own m (user p m j i)) (let z = wire_len_is i (rw period_is at l) in omega arith);
    }

  pub to_wire : (s a r l y i : ℕ) (x : Instr) → Stands p s a x → StoresWire p (MediumAt p s) (communications p s a) x r y i → l ≡ begins p s a + r → V.IsToWire W S H s l y i
  to_wire s a r l y i x st f at = subst (λ (k : ℕ). V.IsToWire W S H s l k i) (sym f.is) (record {
    medium = MediumAt p s;
    half_of = half_of (MediumAt p s) f.number k.medium_there long;
    place_of = place_of (MediumAt p s) f.number k.medium_there long;
    medium_is = medium_is p w c reactions own (MediumAt p s) k.medium_there (let z = k.below in omega arith);
    wire = wire_is (MediumAt p s) f.number k.medium_there long (let z = q.2 in omega arith);
    within = rw (period_is (MediumAt p s) f.number k.medium_there long) q.2;
    same = rw (half_even p w c reactions own (MediumAt p s) (user p (MediumAt p s) f.number i)) q.0;
    place = q.1;
  })
    where
      st' : Stands p s a (Send f.buffer f.to)
      st' = subst (λ (v : Instr). Stands p s a v) f.sends st

      k : Sending s a f.buffer
      k = sending_is s a f.buffer f.to st'

      long : f.number < wire_len p (MediumAt p s)
      long = let z = wire_holds (MediumAt p s) (communications p s a) k.medium_there k.below in let u = k.len in let v = f.inside in omega arith

      q : (s ≡ (w.transfer (MediumAt p s) (user p (MediumAt p s) f.number i)).sender)
          × (l ≡ place_of (MediumAt p s) f.number k.medium_there long i) × (i < access p (MediumAt p s) f.number (transfers p (MediumAt p s)))
      q = only_store (MediumAt p s) f.number k.medium_there long i s l a r f.buffer f.to f.number st' at f.at f.inside refl f.access_is

  pub from_wire : (s a r l y i : ℕ) (x : Instr) → Stands p s a x → LoadsWire p (MediumAt p s) (communications p s a) x r y i → l ≡ begins p s a + r → V.IsFromWire W S H s l y i
  from_wire s a r l y i x st f at = subst (λ (k : ℕ). V.IsFromWire W S H s l k i) (sym f.is) (record {
    medium = MediumAt p s;
    half_of = half_of (MediumAt p s) f.number k.medium_there long;
    place_of = place_of (MediumAt p s) f.number k.medium_there long;
    medium_is = medium_is p w c reactions own (MediumAt p s) k.medium_there (let z = k.below in omega arith);
    wire = wire_is (MediumAt p s) f.number k.medium_there long (let z = q.3 in omega arith);
    within = rw (period_is (MediumAt p s) f.number k.medium_there long) q.3;
    load_is = record {
      same = rw half_is k.sequence;
      after_wait = rw half_is (let z = place in let v = f.at in omega arith);
      before_advance = rw half_is (let z = place in let v = f.at in let u = ap (len_of p) k.buffer in let n = f.inside in omega arith);
    };
  })
    where
      st' : Stands p s a (Recv f.buffer f.from)
      st' = subst (λ (v : Instr). Stands p s a v) f.receives st

      k : Receiving s a f.buffer
      k = receiving_is s a f.buffer f.from st'

      long : f.number < wire_len p (MediumAt p s)
      long = let z = wire_holds (MediumAt p s) (communications p s a) k.medium_there k.below in let u = k.len in let v = f.inside in omega arith

      q : (MediumAt p s ≡ MediumAt p s) × (f.number ≡ f.number) × (communications p s a ≡ user p (MediumAt p s) f.number i) × (i < access p (MediumAt p s) f.number (transfers p (MediumAt p s)))
      q = same_transfer (MediumAt p s) f.number k.medium_there long s a f.number i k.medium_there k.below (let u = k.len in let v = f.inside in omega arith) refl f.access_is

      half_is : H (MediumAt p s) (2 * user p (MediumAt p s) f.number i + 1) ≡ receiver_half p w c reactions own (MediumAt p s) (communications p s a)
      half_is = half_odd p w c reactions own (MediumAt p s) (user p (MediumAt p s) f.number i) ∙ ap (receiver_half p w c reactions own (MediumAt p s)) (sym q.2)

      place : l ≡ begins p (w.transfer (MediumAt p s) (communications p s a)).receiver (w.transfer (MediumAt p s) (communications p s a)).receive_at + r
      place = same_place p s _ a _ r r l at k.sequence k.at refl
