-- Where transfers are wrong: what a place shows of its sequence or its transfer, and what is right of all before it.
use Rattle.std.proofs.Common.{◌≡◌, ◌≢◌, ℕ, suc, ◌+◌, ◌<◌, ◌≤◌, Bool, true, false, not, cond, nat_eq, ◌||◌, ◌&&◌, List, [], ◌∷◌, length, refl, sym, ap, subst, eq-eqb, arith, inl, inr, ◌∙◌}
use Rattle.std.specs.Prelude.{Option, Some, None, nat_lt, slice_get}
use Rattle.std.specs.List.{count_by, list_all, list_any, position_or_len}
use Rattle.std.specs.Cmp.Derive.{both_true}
use Rattle.std.proofs.lemmas.Bool.{and_parts, eqb-true, false≢true, ltb-false, ltb-true}
use Rattle.sequence_build_laws.specs.Graph.{Graph}
use Rattle.sequence_build_laws.specs.declared.Seq.{Seq}
use Rattle.sequence_build_laws.specs.declared.Instr.{Instr}
use Rattle.sequence_build_laws.specs.declared.Instr.TheVariants.{Suc0, Suc1, Pre0, Pre1, Call, Send, Recv, Sync}
use Rattle.sequence_build_laws.specs.declared.SeqCode.{SeqCode}
use Rattle.sequence_build_laws.specs.declared.Program.{Program}
use Rattle.sequence_build_laws.specs.Instructions.{is_communication, medium, medium_in, operator, turn, turn_of}
use Rattle.sequence_build_laws.specs.MicroSteps.{is_on, transfers}
use Rattle.sequence_build_laws.specs.Places.{communication_at, is_receive, is_send, receives_at, sends_at}
use Rattle.sequence_build_laws.proofs.Reading.{any_at}
use Rattle.program_walks.specs.Walks.{all_below, implies}
use Rattle.program_walks.proofs.ListTests.{all_here, all_there as each_there, implied, not_true, of_below, to_zero}
use Rattle.program_walks.proofs.Readings.{same_numbers}
use Rattle.program_tables.specs.declared.crossings.Crossing.{Crossing}
use Rattle.program_tables.specs.Crossings.{crossing}
use Rattle.order_check.specs.Checked.{is_at_medium, is_counted, is_medium}
use Rattle.order_check.specs.Transfers.{is_other, is_receive_from, is_send_to, is_wait, receiver_of, sender_of}
use Rattle.order_check.proofs.Transferred.{receives_of, sends_of}
use Rattle.check_laws.specs.Items.{AreTransferred, IsTransferred}
use Rattle.check_laws.specs.Tests.{are_transferred, is_moved, transfers_wrong, waits_between}
use Rattle.check_laws.proofs.Causes.{moved_of as transferred_of}
use Rattle.check_laws.proofs.Moved.{moved_of}
use Rattle.check_places.specs.declared.place.Place.{Place}
use Rattle.check_places.specs.declared.place.Rule.TheVariants.{NotAwaited, NotReceived, NotSent, OutsideThread, ReceivedElsewhere, SentElsewhere, UnequalTransfers, UnknownMedium}
use Rattle.check_places.specs.declared.place.Subject.TheVariants.{Sequence, Transfer}
use Rattle.check_places.specs.Ahead.{HoldsEarlier, IsAtMedium, IsAttached, IsAwaitedBefore, IsCounted, IsReceived, IsReceivedThere, IsSent, IsSentThere}
use Rattle.check_places.specs.First.{first_from, in_loop}
use Rattle.check_places.specs.Shown.{AreMovedBefore, IsFirst, Shows, cause_of}
use Rattle.check_places.specs.Transfers.{awaited_place, count_place, first_on, medium_place, moved_place, outside_place, transfers_place}
use Rattle.check_places.specs.Wrong.{IsNotAwaited, IsNotReceived, IsNotSent, IsReceivedElsewhere, IsSentElsewhere}
use Rattle.check_places.proofs.Numbering.{communicates, communicates_in, first_one, in_sequence, none_earlier}
use Rattle.check_places.proofs.Places.{holds_of, none_parts}
use Rattle.check_places.proofs.Telling.{Tells, none_at, none_below_at, tells_below, tells_each, tells_first, tells_unless}

-- what stands at the place of the first that passes
module _ {X : Type 0} (test : X → Bool) where
  pub first_there : (xs : List X) → position_or_len test xs < length xs
      → (x : X) × (slice_get xs (position_or_len test xs) ≡ Some x) × (test x ≡ true)
  first_there [] l = absurd (omega arith)
  first_there (x ∷ xs) l = by (test x) refl l (λ k. first_there xs k)
    where
      by : (b : Bool) → test x ≡ b → cond (not b) (1 + position_or_len test xs) 0 < suc (length xs)
          → (position_or_len test xs < length xs → (y : X) × (slice_get xs (position_or_len test xs) ≡ Some y) × (test y ≡ true))
          → (y : X) × (slice_get (x ∷ xs) (cond (not b) (1 + position_or_len test xs) 0) ≡ Some y) × (test y ≡ true)
      by true h l more = (x, refl, h)
      by false h l more =
          let r = more (omega arith) in
          let one : 1 + position_or_len test xs ≡ suc (position_or_len test xs) = omega arith in
          (r.0, ap (λ (k : ℕ). slice_get (x ∷ xs) k) one ∙ r.1, r.2)

pub within_first : {X : Type 0} (test : X → Bool) (xs : List X) → list_any test xs ≡ true → position_or_len test xs < length xs
within_first test [] h = absurd (false≢true h)
within_first test (x ∷ xs) h = by (test x) h (λ k. within_first test xs k)
  where
    by : (b : Bool) → (b || list_any test xs) ≡ true → (list_any test xs ≡ true → position_or_len test xs < length xs)
        → cond (not b) (1 + position_or_len test xs) 0 < suc (length xs)
    by true h more = omega arith
    by false h more = let l = more h in omega arith

module _ (p : Program) where
  -- the first sequence that sends, or receives, is on the medium
  sends_on : (m t : ℕ) → sender_of p m t < length p.seqs → is_on m (medium p (sender_of p m t)) ≡ true
  sends_on m t l =
      let r = first_there (sends_at p m t) p.seqs l in
      ap (λ (o : Option SeqCode). is_on m (medium_in o)) r.1
      ∙ (and_parts (is_on m r.0.seq.medium) (is_send (slice_get r.0.turn (communication_at r.0.turn t))) r.2).0

  receives_on : (m t : ℕ) → receiver_of p m t < length p.seqs → is_on m (medium p (receiver_of p m t)) ≡ true
  receives_on m t l =
      let r = first_there (receives_at p m t) p.seqs l in
      ap (λ (o : Option SeqCode). is_on m (medium_in o)) r.1
      ∙ (and_parts (is_on m r.0.seq.medium) (is_receive (slice_get r.0.turn (communication_at r.0.turn t))) r.2).0

  moved : (m t : ℕ) → moved_place p m t ≡ None → is_moved p m t ≡ true
  moved m t e =
      let sent = none_parts _ _ e in
      let received = none_parts _ _ sent.1 in
      let to = none_parts _ _ received.1 in
      let from = none_parts _ _ to.1 in
      let c : Crossing = crossing p m t in
      let low : nat_lt c.sender (length p.seqs) ≡ true = holds_of (nat_lt c.sender (length p.seqs)) _ sent.0 in
      let under : nat_lt c.receiver (length p.seqs) ≡ true = holds_of (nat_lt c.receiver (length p.seqs)) _ received.0 in
      let sends : is_send_to (operator p c.receiver) (slice_get (turn p c.sender) c.send_at) ≡ true = holds_of (is_send_to (operator p c.receiver) (slice_get (turn p c.sender) c.send_at)) _ to.0 in
      let receives : is_receive_from (operator p c.sender) (slice_get (turn p c.receiver) c.receive_at)
      ≡ true = holds_of (is_receive_from (operator p c.sender) (slice_get (turn p c.receiver) c.receive_at)) _ from.0 in
      both_true (both_true
      (both_true (sends_on m t (ltb-true (sender_of p m t) (length p.seqs) low)) sends)
      (both_true (receives_on m t (ltb-true (receiver_of p m t) (length p.seqs) under)) receives))
      (to_zero (waits_between p m t c.sender c.receiver) p.seqs (λ s q h.
      holds_of (waits_between p m t c.sender c.receiver s q) _ (none_at (awaited_place p m t c) p.seqs from.1 s q h)))

-- where a condition is passed over or not
pub implies_false : (a b : Bool) → implies a b ≡ false → (a ≡ true) × (b ≡ false)
implies_false true b h = (refl, h)
implies_false false b h = absurd (false≢true (sym h))

outside_thread : (o : Option ℕ) (xs : List Instr) → is_at_medium o xs ≡ false → (o ≡ None) × (list_all (λ x. not (is_communication x)) xs ≡ false)
outside_thread None xs h = (refl, h)
outside_thread (Some m) xs h = absurd (false≢true (sym h))

no_such_medium : (media : ℕ) (o : Option ℕ) → is_medium media o ≡ false → (m : ℕ) × (o ≡ Some m) × (media ≤ m)
no_such_medium media None h = absurd (false≢true (sym h))
no_such_medium media (Some m) h = (m, refl, ltb-false m media h)

sends_one : (o : Option Instr) → is_send o ≡ true → (b : ℕ) × (q : ℕ) × (o ≡ Some (Send b q))
sends_one None h = absurd (false≢true h)
sends_one (Some (Send b q)) h = (b, q, refl)
sends_one (Some (Suc0 q)) h = absurd (false≢true h)
sends_one (Some (Suc1 q)) h = absurd (false≢true h)
sends_one (Some (Pre0 q)) h = absurd (false≢true h)
sends_one (Some (Pre1 q)) h = absurd (false≢true h)
sends_one (Some (Call v ins outs)) h = absurd (false≢true h)
sends_one (Some (Recv b q)) h = absurd (false≢true h)
sends_one (Some (Sync q r)) h = absurd (false≢true h)

receives_one : (o : Option Instr) → is_receive o ≡ true → (b : ℕ) × (q : ℕ) × (o ≡ Some (Recv b q))
receives_one None h = absurd (false≢true h)
receives_one (Some (Recv b q)) h = (b, q, refl)
receives_one (Some (Suc0 q)) h = absurd (false≢true h)
receives_one (Some (Suc1 q)) h = absurd (false≢true h)
receives_one (Some (Pre0 q)) h = absurd (false≢true h)
receives_one (Some (Pre1 q)) h = absurd (false≢true h)
receives_one (Some (Call v ins outs)) h = absurd (false≢true h)
receives_one (Some (Send b q)) h = absurd (false≢true h)
receives_one (Some (Sync q r)) h = absurd (false≢true h)

no_wait : (from to : ℕ) (o : Option Instr) → is_wait from to true o ≡ false → (x : Instr) × (o ≡ Some x) × (x ≢ Sync from to)
no_wait from to None h = absurd (false≢true (sym h))
no_wait from to (Some x) h =
    (x, refl, λ e. false≢true (sym h ∙ (ap (λ (y : Instr). is_wait from to true (Some y)) e ∙ both_true (both_true (same_numbers from) (same_numbers to)) refl)))

wait_is : (from to : ℕ) (x : Instr) → is_wait from to true (Some x) ≡ true → x ≡ Sync from to
wait_is from to (Sync c d) h =
    let names = and_parts (nat_eq c from) (nat_eq d to) (and_parts (nat_eq c from && nat_eq d to) true h).0 in
    λ i. Sync (eqb-true c from names.0 i) (eqb-true d to names.1 i)
wait_is from to (Suc0 q) h = absurd (false≢true h)
wait_is from to (Suc1 q) h = absurd (false≢true h)
wait_is from to (Pre0 q) h = absurd (false≢true h)
wait_is from to (Pre1 q) h = absurd (false≢true h)
wait_is from to (Call v ins outs) h = absurd (false≢true h)
wait_is from to (Send c q) h = absurd (false≢true h)
wait_is from to (Recv c q) h = absurd (false≢true h)

differ : (a b : ℕ) → not (nat_eq a b) ≡ true → a ≢ b
differ a b h e = let k : not true ≡ true = subst (λ (t : Bool). not t ≡ true) (eq-eqb a b e) h in false≢true k

module _ (p : Program) where
  miscounted : (o : Option ℕ) (xs : List Instr) → is_counted p o xs ≡ false → (m : ℕ) × (o ≡ Some m) × (count_by is_communication xs ≢ transfers p m)
  miscounted None xs h = absurd (false≢true (sym h))
  miscounted (Some m) xs h = (m, refl, λ e. false≢true (sym h ∙ eq-eqb (count_by is_communication xs) (transfers p m) e))

  -- what holds of each code of a sequence holds of the sequence
  attached : (s : ℕ) → ((q : SeqCode) → slice_get p.seqs s ≡ Some q → is_at_medium q.seq.medium q.turn ≡ true) → IsAttached p s
  attached s h a x e c = by (slice_get p.seqs s) refl e
    where
      on : (xs : List Instr) (o : Option ℕ) → is_at_medium o xs ≡ true → slice_get xs a ≡ Some x → (m : ℕ) × (o ≡ Some m)
      on xs None k e = absurd (false≢true (sym (ap not c) ∙ all_here (λ x. not (is_communication x)) xs k a x e))
      on xs (Some m) k e = (m, refl)

      by : (o : Option SeqCode) → slice_get p.seqs s ≡ o → slice_get (turn_of o) a ≡ Some x → (m : ℕ) × (medium_in o ≡ Some m)
      by None i e = absurd cc
      by (Some q) i e = on q.turn q.seq.medium (h q i) e

  at_medium : (media s : ℕ) → ((q : SeqCode) → slice_get p.seqs s ≡ Some q → is_medium media q.seq.medium ≡ true) → IsAtMedium p media s
  at_medium media s h m e = by (slice_get p.seqs s) refl e
    where
      by : (o : Option SeqCode) → slice_get p.seqs s ≡ o → medium_in o ≡ Some m → m < media
      by None i e = absurd cc
      by (Some q) i e = ltb-true m media (sym (ap (is_medium media) e) ∙ h q i)

  counted : (s : ℕ) → ((q : SeqCode) → slice_get p.seqs s ≡ Some q → is_counted p q.seq.medium q.turn ≡ true) → IsCounted p s
  counted s h m e = by (slice_get p.seqs s) refl e
    where
      by : (o : Option SeqCode) → slice_get p.seqs s ≡ o → medium_in o ≡ Some m → count_by is_communication (turn_of o) ≡ transfers p m
      by None i e = absurd cc
      by (Some q) i e = eqb-true (count_by is_communication q.turn) (transfers p m) (sym (ap (λ (o : Option ℕ). is_counted p o q.turn) e) ∙ h q i)

  -- what is wrong of transfer t of medium m
  module _ (m t : ℕ) where
    abbrev c : Crossing
    c = crossing p m t

    not_sent : nat_lt c.sender (length p.seqs) ≡ false → IsNotSent p m t
    not_sent f s a b o k =
        let r = in_sequence p m t s a (Send b o) k in
        let test : sends_at p m t r.code ≡ true = both_true r.on (ap is_send r.found) in
        let l = within_first (sends_at p m t) p.seqs (any_at (sends_at p m t) p.seqs s r.code r.there test) in
        let far : length p.seqs ≤ sender_of p m t = ltb-false (sender_of p m t) (length p.seqs) f in
        absurd (omega arith)

    not_received : nat_lt c.receiver (length p.seqs) ≡ false → IsNotReceived p m t
    not_received f s a b o k =
        let r = in_sequence p m t s a (Recv b o) k in
        let test : receives_at p m t r.code ≡ true = both_true r.on (ap is_receive r.found) in
        let l = within_first (receives_at p m t) p.seqs (any_at (receives_at p m t) p.seqs s r.code r.there test) in
        let far : length p.seqs ≤ receiver_of p m t = ltb-false (receiver_of p m t) (length p.seqs) f in
        absurd (omega arith)

    -- what is right of it
    sent : nat_lt c.sender (length p.seqs) ≡ true → IsSent p m t
    sent l =
        let r = first_there (sends_at p m t) p.seqs (ltb-true (sender_of p m t) (length p.seqs) l) in
        let both = and_parts (is_on m r.0.seq.medium) (is_send (slice_get r.0.turn (communication_at r.0.turn t))) r.2 in
        let x = sends_one (slice_get r.0.turn (communication_at r.0.turn t)) both.1 in
        (c.sender, communication_at r.0.turn t, x.0, x.1, communicates_in p m t c.sender r.0 (Send x.0 x.1) r.1 both.0 x.2)

    received : nat_lt c.receiver (length p.seqs) ≡ true → IsReceived p m t
    received l =
        let r = first_there (receives_at p m t) p.seqs (ltb-true (receiver_of p m t) (length p.seqs) l) in
        let both = and_parts (is_on m r.0.seq.medium) (is_receive (slice_get r.0.turn (communication_at r.0.turn t))) r.2 in
        let x = receives_one (slice_get r.0.turn (communication_at r.0.turn t)) both.1 in
        (c.receiver, communication_at r.0.turn t, x.0, x.1, communicates_in p m t c.receiver r.0 (Recv x.0 x.1) r.1 both.0 x.2)

    sent_there : nat_lt c.sender (length p.seqs) ≡ true → is_send_to (operator p c.receiver) (slice_get (turn p c.sender) c.send_at) ≡ true → IsSentThere p m t
    sent_there l h = sends_of p m t c.sender c.receiver (both_true (sends_on p m t (ltb-true (sender_of p m t) (length p.seqs) l)) h)

    received_there : nat_lt c.receiver (length p.seqs) ≡ true → is_receive_from (operator p c.sender) (slice_get (turn p c.receiver) c.receive_at) ≡ true → IsReceivedThere p m t
    received_there l h = receives_of p m t c.sender c.receiver (both_true (receives_on p m t (ltb-true (receiver_of p m t) (length p.seqs) l)) h)

    awaited_before : (s : ℕ) → ((n : ℕ) (q : SeqCode) → n < s → slice_get p.seqs n ≡ Some q → waits_between p m t c.sender c.receiver n q ≡ true) → IsAwaitedBefore p m t s
    awaited_before s before n a x l k other_sender other_receiver =
        let r = in_sequence p m t n a x k in
        let other : is_other m c.sender c.receiver n r.code.seq.medium ≡ true =
        both_true (both_true r.on (not_true (nat_eq n c.sender) (λ e. other_sender (eqb-true n c.sender e)))) (not_true (nat_eq n c.receiver) (λ e. other_receiver (eqb-true n c.receiver e))) in
        let wait = implied (is_other m c.sender c.receiver n r.code.seq.medium)
        (is_wait (operator p c.sender) (operator p c.receiver) true (slice_get r.code.turn (communication_at r.code.turn t)))
        (before n r.code l r.there) other in
        wait_is (operator p c.sender) (operator p c.receiver) x (sym (ap (is_wait (operator p c.sender) (operator p c.receiver) true) r.found) ∙ wait)

    sent_elsewhere : nat_lt c.sender (length p.seqs) ≡ true → is_send_to (operator p c.receiver) (slice_get (turn p c.sender) c.send_at) ≡ false → IsSentElsewhere p m t c.sender c.send_at
    sent_elsewhere l f =
        let r = first_there (sends_at p m t) p.seqs (ltb-true (sender_of p m t) (length p.seqs) l) in
        let both = and_parts (is_on m r.0.seq.medium) (is_send (slice_get r.0.turn (communication_at r.0.turn t))) r.2 in
        let list : turn p c.sender ≡ r.0.turn = ap turn_of r.1 in
        let x = sends_one (slice_get (turn p c.sender) c.send_at) (ap (λ (xs : List Instr). is_send (slice_get xs (communication_at xs t))) list ∙ both.1) in (
          x.0,
          x.1,
          communicates p m t c.sender (Send x.0 x.1) (ap (λ (o : Option SeqCode). is_on m (medium_in o)) r.1 ∙ both.0) x.2,
          λ e. false≢true (sym f ∙ (ap (is_send_to (operator p c.receiver)) x.2 ∙ eq-eqb x.1 (operator p c.receiver) e)),
        )

    received_elsewhere : nat_lt c.receiver (length p.seqs) ≡ true
        → is_receive_from (operator p c.sender) (slice_get (turn p c.receiver) c.receive_at) ≡ false → IsReceivedElsewhere p m t c.receiver c.receive_at
    received_elsewhere l f =
        let r = first_there (receives_at p m t) p.seqs (ltb-true (receiver_of p m t) (length p.seqs) l) in
        let both = and_parts (is_on m r.0.seq.medium) (is_receive (slice_get r.0.turn (communication_at r.0.turn t))) r.2 in
        let list : turn p c.receiver ≡ r.0.turn = ap turn_of r.1 in
        let x = receives_one (slice_get (turn p c.receiver) c.receive_at) (ap (λ (xs : List Instr). is_receive (slice_get xs (communication_at xs t))) list ∙ both.1) in (
          x.0,
          x.1,
          communicates p m t c.receiver (Recv x.0 x.1) (ap (λ (o : Option SeqCode). is_on m (medium_in o)) r.1 ∙ both.0) x.2,
          λ e. false≢true (sym f ∙ (ap (is_receive_from (operator p c.sender)) x.2 ∙ eq-eqb x.1 (operator p c.sender) e)),
        )

    not_awaited : (s : ℕ) (q : SeqCode) → slice_get p.seqs s ≡ Some q → waits_between p m t c.sender c.receiver s q ≡ false → IsNotAwaited p m t s (communication_at q.turn t)
    not_awaited s q i f =
        let h = implies_false (is_other m c.sender c.receiver s q.seq.medium) (is_wait (operator p c.sender) (operator p c.receiver) true (slice_get q.turn (communication_at q.turn t))) f in
        let last = and_parts (is_on m q.seq.medium && not (nat_eq s c.sender)) (not (nat_eq s c.receiver)) h.0 in
        let first = and_parts (is_on m q.seq.medium) (not (nat_eq s c.sender)) last.0 in
        let x = no_wait (operator p c.sender) (operator p c.receiver) (slice_get q.turn (communication_at q.turn t)) h.1 in
        (x.0, communicates_in p m t s q x.0 i first.0 x.1, differ s c.sender first.1, differ s c.receiver last.1, x.2)

    earlier_moved : ((n : ℕ) → n < m → first_on p (moved_place p) n ≡ None) → ((u : ℕ) → u < t → moved_place p m u ≡ None) → HoldsEarlier p (IsTransferred p) m t
    earlier_moved media_before before n u (inl l) k = moved_of p n u (moved p n u (none_below_at (moved_place p n) (transfers p n) (media_before n l) u k))
    earlier_moved media_before before n u (inr (e, l)) k = subst (λ (j : ℕ). IsTransferred p j u) (sym e) (moved_of p m u (moved p m u (before u l)))

module _ (p : Program) (g : Graph) (seqs : List Seq) (operators media : ℕ) where
  abbrev pub ShowsTransfers : Place → Type 0
  ShowsTransfers y = (cause_of y.rule ≡ transfers_wrong) × Shows p g seqs operators media y × IsFirst p g seqs operators media y

  moved_told : (m t : ℕ) → m < media → t < transfers p m → AreMovedBefore p g seqs operators media m t → Tells ShowsTransfers (moved_place p m t)
  moved_told m t l k first =
      tells_first ShowsTransfers _ _
      (tells_unless ShowsTransfers (nat_lt (crossing p m t).sender (length p.seqs)) (record { rule = NotSent; subject = Transfer m t; spot = None })
      (λ f. (refl, (l, k, not_sent p m t f), first)))
      (λ some_send.
      let send : nat_lt (crossing p m t).sender (length p.seqs) ≡ true = holds_of (nat_lt (crossing p m t).sender (length p.seqs)) _ some_send in
      tells_first ShowsTransfers _ _
      (tells_unless ShowsTransfers (nat_lt (crossing p m t).receiver (length p.seqs)) (record { rule = NotReceived; subject = Transfer m t; spot = None })
      (λ f. (refl, (l, k, not_received p m t f), (first, sent p m t send))))
      (λ some_receive.
      let receive : nat_lt (crossing p m t).receiver (length p.seqs) ≡ true = holds_of (nat_lt (crossing p m t).receiver (length p.seqs)) _ some_receive in
      tells_first ShowsTransfers _ _
      (tells_unless ShowsTransfers _ (record { rule = SentElsewhere; subject = Transfer m t; spot = in_loop (crossing p m t).sender (crossing p m t).send_at })
      (λ f. (refl, (l, k, (refl, sent_elsewhere p m t send f)), (first, received p m t receive))))
      (λ to.
      let there : IsSentThere p m t = sent_there p m t send (holds_of (is_send_to (operator p (crossing p m t).receiver) (slice_get (turn p (crossing p m t).sender) (crossing p m t).send_at)) _ to) in
      tells_first ShowsTransfers _ _
      (tells_unless ShowsTransfers _ (record { rule = ReceivedElsewhere; subject = Transfer m t; spot = in_loop (crossing p m t).receiver (crossing p m t).receive_at })
      (λ f. (refl, (l, k, (refl, received_elsewhere p m t receive f)), (first, there))))
      (λ from.
      let here : IsReceivedThere p m t =
      received_there p m t receive (holds_of
      (is_receive_from (operator p (crossing p m t).sender) (slice_get (turn p (crossing p m t).receiver) (crossing p m t).receive_at)) _ from) in
      tells_each ShowsTransfers (awaited_place p m t (crossing p m t)) p.seqs (λ s q i before.
      tells_unless ShowsTransfers (waits_between p m t (crossing p m t).sender (crossing p m t).receiver s q)
      (record { rule = NotAwaited; subject = Transfer m t; spot = in_loop s (communication_at q.turn t) })
      (λ f. (
        refl,
        (l, k, (refl, not_awaited p m t s q i f)),
        (first, there, here, (refl, awaited_before p m t s (λ n d a e. holds_of (waits_between p m t (crossing p m t).sender (crossing p m t).receiver n d) _ (before n d a e)))),
      )))))))

  outside_told : Tells ShowsTransfers (first_from outside_place 0 p.seqs)
  outside_told = tells_each ShowsTransfers outside_place p.seqs (λ s q i before.
      tells_unless ShowsTransfers (is_at_medium q.seq.medium q.turn) (record { rule = OutsideThread; subject = Sequence s; spot = in_loop s (communication_at q.turn 0) })
      (λ f.
      let o = outside_thread q.seq.medium q.turn f in
      let x = first_one q.turn o.1 in
      let list : turn p s ≡ q.turn = ap turn_of i in (
        refl,
        (
          refl,
          (
            refl,
            (
              ap medium_in i ∙ o.0,
              (x.0, ap (λ (xs : List Instr). slice_get xs (communication_at q.turn 0)) list ∙ x.1, x.2),
              λ b y l e. none_earlier q.turn b y l (sym (ap (λ (xs : List Instr). slice_get xs b) list) ∙ e),
            ),
          ),
        ),
        λ t l. attached p t (λ d e. holds_of (is_at_medium d.seq.medium d.turn) _ (before t d l e)),
      )))

  unknown_told : ((t : ℕ) → IsAttached p t) → Tells ShowsTransfers (first_from (medium_place media) 0 p.seqs)
  unknown_told all = tells_each ShowsTransfers (medium_place media) p.seqs (λ s q i before.
      tells_unless ShowsTransfers (is_medium media q.seq.medium) (record { rule = UnknownMedium; subject = Sequence s; spot = None })
      (λ f.
      let m = no_such_medium media q.seq.medium f in
      (refl, (m.0, ap medium_in i ∙ m.1, m.2), (all, λ t l. at_medium p media t (λ d e. holds_of (is_medium media d.seq.medium) _ (before t d l e))))))

  unequal_told : ((t : ℕ) → IsAttached p t) → ((t : ℕ) → IsAtMedium p media t) → Tells ShowsTransfers (first_from (count_place p) 0 p.seqs)
  unequal_told all known = tells_each ShowsTransfers (count_place p) p.seqs (λ s q i before.
      tells_unless ShowsTransfers (is_counted p q.seq.medium q.turn) (record { rule = UnequalTransfers; subject = Sequence s; spot = None })
      (λ f.
      let m = miscounted p q.seq.medium q.turn f in (
        refl,
        (m.0, ap medium_in i ∙ m.1, subst (λ (xs : List Instr). count_by is_communication xs ≢ transfers p m.0) (sym (ap turn_of i)) m.2),
        (all, known, λ t l. counted p t (λ d e. holds_of (is_counted p d.seq.medium d.turn) _ (before t d l e))),
      )))

  pub transfers_told : Tells ShowsTransfers (transfers_place p media)
  transfers_told =
      tells_first ShowsTransfers _ _ outside_told (λ outside.
      let all : (t : ℕ) → IsAttached p t = (λ t. attached p t (λ d e. holds_of (is_at_medium d.seq.medium d.turn) _ (none_at outside_place p.seqs outside t d e))) in
      tells_first ShowsTransfers _ _ (unknown_told all) (λ unknown.
      let known : (t : ℕ) → IsAtMedium p media t = (λ t. at_medium p media t (λ d e. holds_of (is_medium media d.seq.medium) _ (none_at (medium_place media) p.seqs unknown t d e))) in
      tells_first ShowsTransfers _ _ (unequal_told all known) (λ unequal.
      let equal : (t : ℕ) → IsCounted p t = (λ t. counted p t (λ d e. holds_of (is_counted p d.seq.medium d.turn) _ (none_at (count_place p) p.seqs unequal t d e))) in
      tells_below ShowsTransfers (first_on p (moved_place p)) media (λ m l media_before.
      tells_below ShowsTransfers (moved_place p m) (transfers p m) (λ t k before.
      moved_told m t l k (all, known, equal, earlier_moved p m t media_before before))))))

  pub transferred : transfers_place p media ≡ None → AreTransferred p media
  transferred e =
      let outside = none_parts _ _ e in
      let unknown = none_parts _ _ outside.1 in
      let unequal = none_parts _ _ unknown.1 in
      let test : are_transferred p media ≡ true = both_true (both_true (both_true
      (each_there (λ (q : SeqCode). is_at_medium q.seq.medium q.turn) p.seqs (λ s q i. holds_of (is_at_medium q.seq.medium q.turn) _ (none_at outside_place p.seqs outside.0 s q i)))
      (each_there (λ (q : SeqCode). is_medium media q.seq.medium) p.seqs (λ s q i. holds_of (is_medium media q.seq.medium) _ (none_at (medium_place media) p.seqs unknown.0 s q i))))
      (each_there (λ (q : SeqCode). is_counted p q.seq.medium q.turn) p.seqs (λ s q i. holds_of (is_counted p q.seq.medium q.turn) _ (none_at (count_place p) p.seqs unequal.0 s q i))))
      (of_below (λ m. all_below (λ t. is_moved p m t) (transfers p m)) media (λ m l. of_below (λ t. is_moved p m t) (transfers p m) (λ t k.
      moved p m t (none_below_at (moved_place p m) (transfers p m) (none_below_at (first_on p (moved_place p)) media unequal.1 m l) t k)))) in
      transferred_of p g seqs operators media test
