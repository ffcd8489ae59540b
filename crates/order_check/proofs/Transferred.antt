-- The test of transfers is true exactly where each transfer is right.
use Rattle.std.proofs.Common.{◌≡◌, ◌≢◌, ℕ, zero, suc, ◌+◌, ◌<◌, Bool, true, false, ◌&&◌, not, cond, nat_eq, List, [], ◌∷◌, take, refl, sym, ap, subst, eq-eqb, arith, ◌∙◌}
use Rattle.std.specs.Prelude.{slice_get, Option, Some, None, nat_lt}
use Rattle.std.specs.List.{count_by}
use Rattle.std.specs.Cmp.Derive.{both_true}
use Rattle.std.proofs.lemmas.Bool.{false≢true, and_parts, eqb-true, ltb-true, lt-ltb}
use Rattle.std.proofs.lemmas.List.Sums.{sum_by-cons}
use Rattle.executive_program.specs.declared.program.Instr.{Instr}
use Rattle.executive_program.specs.declared.program.Instr.TheVariants.{Suc0, Suc1, Pre0, Pre1, Call, Send, Recv, Sync}
use Rattle.executive_program.specs.declared.program.SeqCode.{SeqCode}
use Rattle.executive_program.specs.declared.program.Program.{Program}
use Rattle.executive_program.specs.Instructions.{is_communication, len_of, medium, medium_in, operator, turn, turn_of}
use Rattle.executive_program.specs.MicroSteps.{is_on, transfers}
use Rattle.executive_program.specs.Places.{buffer_in, communication_at, places}
use Rattle.executive_program.specs.WellFormed.{Communicates, IsTransfer, place_in}
use Rattle.executive_program.proofs.Passing.{on_is, is_on_it}
use Rattle.program_walks.specs.Walks.{all_at, all_below, implies}
use Rattle.order_check.specs.Transfers.{
  are_transfers,
  buffer_at,
  is_before_next,
  is_later,
  is_other,
  is_receive_from,
  is_received,
  is_send_to,
  is_sent,
  is_transfer,
  is_wait,
  place_of,
  receiver_of,
  sender_of,
  stands_at,
  waits,
}
use Rattle.program_walks.proofs.ListTests.{below_of, of_below, from_zero, to_zero, implied, implying, not_true}
use Rattle.program_walks.proofs.Readings.{same_numbers}

counted : (y : Instr) (zs : List Instr) → count_by is_communication (y ∷ zs) ≡ cond (is_communication y) 1 0 + count_by is_communication zs
counted y zs = sum_by-cons (λ x. cond (is_communication x) 1 0) y zs

-- what stands at the place of communication t is one, and t others stand before it
found_at : (xs : List Instr) (t : ℕ) (x : Instr) → slice_get xs (communication_at xs t) ≡ Some x → (is_communication x ≡ true) × (count_by is_communication (take (communication_at xs t) xs) ≡ t)
found_at [] t x h = absurd (cc)
found_at (y ∷ ys) zero x h = by (is_communication y) refl (λ k e. found_at ys k x e) h
  where
    by : (b : Bool) → is_communication y ≡ b
        → ((k : ℕ) → slice_get ys (communication_at ys k) ≡ Some x → (is_communication x ≡ true)
        × (count_by is_communication (take (communication_at ys k) ys) ≡ k))
        → slice_get (y ∷ ys) (cond b 0 (suc (communication_at ys zero))) ≡ Some x → (is_communication x ≡ true)
        × (count_by is_communication (take (cond b 0 (suc (communication_at ys zero))) (y ∷ ys)) ≡ zero)
    by true e more h = let same : y ≡ x = cc in (ap is_communication (sym same) ∙ e, refl)
    by false e more h =
        let r = more zero h in (
          r.0,
          counted y (take (communication_at ys zero) ys)
              ∙ ap (λ (b : Bool). cond b 1 0 + count_by is_communication (take (communication_at ys zero) ys)) e
              ∙ (let z : 0 + count_by is_communication (take (communication_at ys zero) ys) ≡ zero = omega (arith, r.1) in z),
        )
found_at (y ∷ ys) (suc t) x h = by (is_communication y) refl (λ k e. found_at ys k x e) h
  where
    by : (b : Bool) → is_communication y ≡ b
        → ((k : ℕ) → slice_get ys (communication_at ys k) ≡ Some x → (is_communication x ≡ true)
        × (count_by is_communication (take (communication_at ys k) ys) ≡ k)) → slice_get ys (communication_at ys (cond b t (suc t)))
        ≡ Some x → (is_communication x ≡ true) × (count_by is_communication (y ∷ take (communication_at ys (cond b t (suc t))) ys) ≡ suc t)
    by true e more h =
        let r = more t h in (
          r.0,
          counted y (take (communication_at ys t) ys)
              ∙ ap (λ (b : Bool). cond b 1 0 + count_by is_communication (take (communication_at ys t) ys)) e
              ∙ (let z : 1 + count_by is_communication (take (communication_at ys t) ys) ≡ suc t = omega (arith, r.1) in z),
        )
    by false e more h =
        let r = more (suc t) h in (
          r.0,
          counted y (take (communication_at ys (suc t)) ys)
              ∙ ap (λ (b : Bool). cond b 1 0 + count_by is_communication (take (communication_at ys (suc t)) ys)) e
              ∙ (let z : 0 + count_by is_communication (take (communication_at ys (suc t)) ys) ≡ suc t = omega (arith, r.1) in z),
        )

past : (y : Instr) (ys : List Instr) (t : ℕ) → is_communication y ≡ false → communication_at (y ∷ ys) t ≡ suc (communication_at ys t)
past y ys zero e = ap (λ (b : Bool). cond b 0 (suc (communication_at ys zero))) e
past y ys (suc t) e = ap (λ (b : Bool). suc (communication_at ys (cond b t (suc t)))) e

-- a communication stands at the place of its number
placed : (xs : List Instr) (a : ℕ) (x : Instr) (t : ℕ) → slice_get xs a ≡ Some x → is_communication x ≡ true → count_by is_communication (take a xs) ≡ t → communication_at xs t ≡ a
placed [] a x t e c h = absurd (cc)
placed (y ∷ ys) zero x t e c h =
    let same : y ≡ x = cc in
    subst (λ (n : ℕ). communication_at (y ∷ ys) n ≡ zero) h (ap (λ (b : Bool). cond b 0 (suc (communication_at ys zero))) (ap is_communication same ∙ c))
placed (y ∷ ys) (suc a) x t e c h = by (is_communication y) refl (λ k f. placed ys a x k e c f)
  where
    by : (b : Bool) → is_communication y ≡ b → ((k : ℕ) → count_by is_communication (take a ys) ≡ k → communication_at ys k ≡ a) → communication_at (y ∷ ys) t ≡ suc a
    by true k rest =
        let more : suc (count_by is_communication (take a ys)) ≡ t =
        (let one : 1 + count_by is_communication (take a ys) ≡ suc (count_by is_communication (take a ys)) = omega arith in
        sym one ∙ (sym (ap (λ (b : Bool). cond b 1 0 + count_by is_communication (take a ys)) k) ∙ (sym (counted y (take a ys)) ∙ h))) in
        subst (λ (n : ℕ). communication_at (y ∷ ys) n ≡ suc a) more
        (ap (λ (b : Bool). suc (communication_at ys (cond b (count_by is_communication (take a ys)) (suc (count_by is_communication (take a ys)))))) k
        ∙ ap (λ (n : ℕ). suc n) (rest (count_by is_communication (take a ys)) refl))
    by false k rest =
        let none : count_by is_communication (take a ys) ≡ t =
        (let zero_more : 0 + count_by is_communication (take a ys) ≡ count_by is_communication (take a ys) = omega arith in
        sym zero_more ∙ (sym (ap (λ (b : Bool). cond b 1 0 + count_by is_communication (take a ys)) k) ∙ (sym (counted y (take a ys)) ∙ h))) in
        past y ys t k ∙ ap (λ (n : ℕ). suc n) (rest t none)

send_is : (o : ℕ) (x : Option Instr) → is_send_to o x ≡ true → x ≡ Some (Send (buffer_in x) o)
send_is o None h = absurd (false≢true h)
send_is o (Some (Send b q)) h = ap (λ (n : ℕ). Some (Send b n)) (eqb-true q o h)
send_is o (Some (Suc0 q)) h = absurd (false≢true h)
send_is o (Some (Suc1 q)) h = absurd (false≢true h)
send_is o (Some (Pre0 q)) h = absurd (false≢true h)
send_is o (Some (Pre1 q)) h = absurd (false≢true h)
send_is o (Some (Call v ins outs)) h = absurd (false≢true h)
send_is o (Some (Recv b q)) h = absurd (false≢true h)
send_is o (Some (Sync q r)) h = absurd (false≢true h)

receive_is : (o : ℕ) (x : Option Instr) → is_receive_from o x ≡ true → x ≡ Some (Recv (buffer_in x) o)
receive_is o None h = absurd (false≢true h)
receive_is o (Some (Recv b q)) h = ap (λ (n : ℕ). Some (Recv b n)) (eqb-true q o h)
receive_is o (Some (Suc0 q)) h = absurd (false≢true h)
receive_is o (Some (Suc1 q)) h = absurd (false≢true h)
receive_is o (Some (Pre0 q)) h = absurd (false≢true h)
receive_is o (Some (Pre1 q)) h = absurd (false≢true h)
receive_is o (Some (Call v ins outs)) h = absurd (false≢true h)
receive_is o (Some (Send b q)) h = absurd (false≢true h)
receive_is o (Some (Sync q r)) h = absurd (false≢true h)

wait_is : (from to : ℕ) (b : Bool) (x : Instr) → is_wait from to b (Some x) ≡ true → (x ≡ Sync from to) × (b ≡ true)
wait_is from to b (Sync c d) h =
    let parts = and_parts (nat_eq c from && nat_eq d to) b h in
    let names = and_parts (nat_eq c from) (nat_eq d to) parts.0 in
    (ap (λ (n : ℕ). Sync n d) (eqb-true c from names.0) ∙ ap (λ (n : ℕ). Sync from n) (eqb-true d to names.1), parts.1)
wait_is from to b (Suc0 q) h = absurd (false≢true h)
wait_is from to b (Suc1 q) h = absurd (false≢true h)
wait_is from to b (Pre0 q) h = absurd (false≢true h)
wait_is from to b (Pre1 q) h = absurd (false≢true h)
wait_is from to b (Call v ins outs) h = absurd (false≢true h)
wait_is from to b (Send c q) h = absurd (false≢true h)
wait_is from to b (Recv c q) h = absurd (false≢true h)

is_waiting : (from to : ℕ) (b : Bool) (x : Instr) → x ≡ Sync from to → b ≡ true → is_wait from to b (Some x) ≡ true
is_waiting from to b x e h = subst (λ (y : Instr). is_wait from to b (Some y) ≡ true) (sym e) (both_true (both_true (same_numbers from) (same_numbers to)) h)

module _ (p : Program) where
  -- communication t of sequence s, once it is found there
  communicates : (m t s : ℕ) (x : Instr) → is_on m (medium p s) ≡ true → slice_get (turn p s) (stands_at p s t) ≡ Some x → Communicates p m t s (stands_at p s t) x
  communicates m t s x on e =
      let f = found_at (turn p s) t x e in
      record {
        on = on_is m (medium p s) on;
        stands = e;
        is_one = f.0;
        number = f.1;
      }

  -- the tests of both ends
  pub sends_of : (m t s r : ℕ) → is_sent p m t s r ≡ true → Communicates p m t s (stands_at p s t) (Send (buffer_at p s t) (operator p r))
  sends_of m t s r h =
      let sent = and_parts (is_on m (medium p s)) (is_send_to (operator p r) (slice_get (turn p s) (stands_at p s t))) h in
      communicates m t s (Send (buffer_at p s t) (operator p r)) sent.0 (send_is (operator p r) (slice_get (turn p s) (stands_at p s t)) sent.1)

  pub of_sends : (m t s r : ℕ) → Communicates p m t s (stands_at p s t) (Send (buffer_at p s t) (operator p r)) → is_sent p m t s r ≡ true
  of_sends m t s r c = both_true (is_on_it m (medium p s) c.on) (subst (λ (o : Option Instr). is_send_to (operator p r) o ≡ true) (sym c.stands) (same_numbers (operator p r)))

  pub receives_of : (m t s r : ℕ) → is_received p m t s r ≡ true → Communicates p m t r (stands_at p r t) (Recv (buffer_at p r t) (operator p s))
  receives_of m t s r h =
      let received = and_parts (is_on m (medium p r)) (is_receive_from (operator p s) (slice_get (turn p r) (stands_at p r t))) h in
      communicates m t r (Recv (buffer_at p r t) (operator p s)) received.0 (receive_is (operator p s) (slice_get (turn p r) (stands_at p r t)) received.1)

  pub of_receives : (m t s r : ℕ) → Communicates p m t r (stands_at p r t) (Recv (buffer_at p r t) (operator p s)) → is_received p m t s r ≡ true
  of_receives m t s r c = both_true (is_on_it m (medium p r) c.on) (subst (λ (o : Option Instr). is_receive_from (operator p s) o ≡ true) (sym c.stands) (same_numbers (operator p s)))

  -- whatever else is asked of the place at which another communicator waits
  module _ (later : ℕ → ℕ → Bool) where
    abbrev waits_when : ℕ → ℕ → ℕ → List Instr → ℕ → Bool
    waits_when sender receiver s list a = is_wait (operator p sender) (operator p receiver) (later s a) (slice_get list a)

    abbrev waits_so : ℕ → ℕ → ℕ → ℕ → ℕ → SeqCode → Bool
    waits_so m t sender receiver s q = implies (is_other m sender receiver s q.seq.medium) (waits_when sender receiver s q.turn (communication_at q.turn t))

    pub others_of : (m t sender receiver : ℕ) → all_at (waits_so m t sender receiver) 0 p.seqs ≡ true → (s a : ℕ) (x : Instr) → Communicates p m t s a x → s ≢ sender → s ≢ receiver
        → (x ≡ Sync (operator p sender) (operator p receiver)) × (later s a ≡ true)
    others_of m t sender receiver h s a x c other_sender other_receiver = by (slice_get p.seqs s) refl c.on c.stands c.number
      where
        by : (o : Option SeqCode) → slice_get p.seqs s ≡ o → medium_in o ≡ Some m → slice_get (turn_of o) a ≡ Some x → count_by is_communication (take a (turn_of o)) ≡ t
            → (x ≡ Sync (operator p sender) (operator p receiver)) × (later s a ≡ true)
        by None i on e n = absurd (cc)
        by (Some q) i on e n =
            let here : communication_at q.turn t ≡ a = placed q.turn a x t e c.is_one n in
            let is_it : is_other m sender receiver s q.seq.medium ≡ true =
            both_true (both_true (is_on_it m q.seq.medium on) (not_true (nat_eq s sender) (λ k. other_sender (eqb-true s sender k))))
            (not_true (nat_eq s receiver) (λ k. other_receiver (eqb-true s receiver k))) in
            let there = implied (is_other m sender receiver s q.seq.medium)
            (waits_when sender receiver s q.turn (communication_at q.turn t)) (from_zero (waits_so m t sender receiver) p.seqs h s q i) is_it in
            let at_a : waits_when sender receiver s q.turn a ≡ true = subst (λ (k : ℕ). waits_when sender receiver s q.turn k ≡ true) here there in
            wait_is (operator p sender) (operator p receiver) (later s a) x
            (subst (λ (o : Option Instr). is_wait (operator p sender) (operator p receiver) (later s a) o ≡ true) e at_a)

    pub of_others : (m t sender receiver : ℕ)
        → ((s a : ℕ) (x : Instr) → Communicates p m t s a x → s ≢ sender → s ≢ receiver
        → (x ≡ Sync (operator p sender) (operator p receiver)) × (later s a ≡ true))
        → all_at (waits_so m t sender receiver) 0 p.seqs ≡ true
    of_others m t sender receiver h =
        to_zero (waits_so m t sender receiver) p.seqs (λ s q i.
        implying (is_other m sender receiver s q.seq.medium) (waits_when sender receiver s q.turn (communication_at q.turn t)) (λ other.
        let last = and_parts (is_on m q.seq.medium && not (nat_eq s sender)) (not (nat_eq s receiver)) other in
        let first = and_parts (is_on m q.seq.medium) (not (nat_eq s sender)) last.0 in
        by s q i first.0 (differ s sender first.1) (differ s receiver last.1) (slice_get q.turn (communication_at q.turn t)) refl))
      where
        differ : (a b : ℕ) → not (nat_eq a b) ≡ true → a ≢ b
        differ a b h e = let k : not true ≡ true = subst (λ (t : Bool). not t ≡ true) (eq-eqb a b e) h in false≢true k

        by : (s : ℕ) (q : SeqCode) → slice_get p.seqs s ≡ Some q → is_on m q.seq.medium ≡ true → s ≢ sender → s ≢ receiver → (o : Option Instr) → slice_get q.turn (communication_at q.turn t) ≡ o
            → is_wait (operator p sender) (operator p receiver) (later s (communication_at q.turn t)) o ≡ true
        by s q i on a b None e = refl
        by s q i on a b (Some x) e =
            let f = found_at q.turn t x e in
            let c : Communicates p m t s (communication_at q.turn t) x =
            record {
              on = ap medium_in i ∙ on_is m q.seq.medium on;
              stands = subst (λ (o : Option SeqCode). slice_get (turn_of o) (communication_at q.turn t) ≡ Some x) (sym i) e;
              is_one = f.0;
              number = subst (λ (o : Option SeqCode). count_by is_communication (take (communication_at q.turn t) (turn_of o)) ≡ t) (sym i) f.1;
            } in
            let r = h s (communication_at q.turn t) x c a b in
            is_waiting (operator p sender) (operator p receiver) (later s (communication_at q.turn t)) x r.0 r.1

module _ (p : Program) (order : List ℕ) where
  transfer_of : (m t : ℕ) → is_transfer p order m t ≡ true → IsTransfer p order (places p) m t
  transfer_of m t h =
      let s = sender_of p m t in
      let r = receiver_of p m t in
      let long = and_parts _ (nat_eq (len_of p (buffer_at p r t)) (len_of p (buffer_at p s t))) h in
      let next = and_parts _ (is_before_next p order m t r) long.0 in
      let ordered = and_parts _ (nat_lt (place_of p order s t) (place_of p order r t)) next.0 in
      let others = and_parts _ (all_at (waits p order m t s r) 0 p.seqs) ordered.0 in
      let ends = and_parts (is_sent p m t s r) (is_received p m t s r) others.0 in
      record {
        sends = sends_of p m t s r ends.0;
        receives = receives_of p m t s r ends.1;
        others = λ u a x c d e. let w = others_of p (is_later p order t r) m t s r others.1 u a x c d e in (w.0, ltb-true (place_of p order r t) (place_in order u a) w.1);
        in_order = ltb-true (place_of p order s t) (place_of p order r t) ordered.1;
        next = λ l. ltb-true (place_of p order r t) (place_of p order (sender_of p m (t + 1)) (t + 1))
            (implied (nat_lt (t + 1) (transfers p m))
            (nat_lt (place_of p order r t) (place_of p order (sender_of p m (t + 1)) (t + 1))) next.1 (lt-ltb (t + 1) (transfers p m) l));
        lengths = eqb-true (len_of p (buffer_at p r t)) (len_of p (buffer_at p s t)) long.1;
      }

  of_transfer : (m t : ℕ) → IsTransfer p order (places p) m t → is_transfer p order m t ≡ true
  of_transfer m t i =
      let s = sender_of p m t in
      let r = receiver_of p m t in
      both_true (both_true (both_true (both_true (both_true
      (of_sends p m t s r i.sends)
      (of_receives p m t s r i.receives))
      (of_others p (is_later p order t r) m t s r (λ u a x c d e. let w = i.others u a x c d e in (w.0, lt-ltb (place_of p order r t) (place_in order u a) w.1))))
      (lt-ltb (place_of p order s t) (place_of p order r t) i.in_order))
      (implying (nat_lt (t + 1) (transfers p m)) (nat_lt (place_of p order r t) (place_of p order (sender_of p m (t + 1)) (t + 1))) (λ l.
      lt-ltb (place_of p order r t) (place_of p order (sender_of p m (t + 1)) (t + 1)) (i.next (ltb-true (t + 1) (transfers p m) l)))))
      (eq-eqb (len_of p (buffer_at p r t)) (len_of p (buffer_at p s t)) i.lengths)

  pub transfers_of : (media : ℕ) → are_transfers p order media ≡ true → (m t : ℕ) → m < media → t < transfers p m → IsTransfer p order (places p) m t
  transfers_of media h m t l k = transfer_of m t (below_of (λ t. is_transfer p order m t) (transfers p m) (below_of (λ m. all_below (λ t. is_transfer p order m t) (transfers p m)) media h m l) t k)

  pub of_transfers : (media : ℕ) → ((m t : ℕ) → m < media → t < transfers p m → IsTransfer p order (places p) m t) → are_transfers p order media ≡ true
  of_transfers media h = of_below (λ m. all_below (λ t. is_transfer p order m t) (transfers p m)) media
      (λ m l. of_below (λ t. is_transfer p order m t) (transfers p m) (λ t k. of_transfer m t (h m t l k)))
