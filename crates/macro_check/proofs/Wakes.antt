-- A step wakes each sequence that it makes ready.
use Rattle.std.proofs.Common.{◌≡◌, ℕ, zero, suc, ◌+◌, ◌<◌, Bool, true, false, cond, nat_eq, List, [], ◌∷◌, length, Option, Some, None, refl, sym, ap, subst, inl, arith, ◌∙◌, eq-eqb}
use Rattle.std.specs.Prelude.{slice_get}
use Rattle.std.specs.List.{filter}
use Rattle.std.proofs.lemmas.Bool.{false≢true}
use Rattle.std.proofs.lemmas.Option.{same_Some}
use Rattle.program_tables.specs.declared.mark_table.Mark.{Mark}
use Rattle.sequence_build_laws.specs.declared.Instr.{Instr}
use Rattle.sequence_build_laws.specs.declared.Instr.TheVariants.{Suc0, Suc1, Pre0, Pre1, Call, Send, Recv, Sync}
use Rattle.sequence_build_laws.specs.declared.SeqCode.{SeqCode}
use Rattle.sequence_build_laws.specs.declared.Program.{Program}
use Rattle.sequence_build_laws.specs.Instructions.{communications, medium, medium_in, operator, turn}
use Rattle.sequence_build_laws.specs.MicroSteps.{transfers}
use Rattle.sequence_build_laws.specs.Places.{pair, transfer, writing}
use Rattle.sequence_build_laws.specs.WellFormed.{Stands}
use Rattle.program_tables.specs.Communications.{communicators_from, communicators_of, joining}
use Rattle.check_laws.specs.Run.{Place, awaited, on_medium, receive_before, receive_of, send_of}
use Rattle.macro_check.specs.Awaiting.{MayRun, first_in, on_it, sequences_in, woken}
use Rattle.macro_check.proofs.Told.{part_of, waiter_is}

abbrev pub Among : ℕ → List ℕ → Type 0
Among u xs = (i : ℕ) × (slice_get xs i ≡ Some u)

later : (u x : ℕ) (xs : List ℕ) → Among u xs → Among u (x ∷ xs)
later u x xs h = (suc h.0, h.1)

-- the communicators of a medium are all there
on_medium_there : (m : ℕ) (s : ℕ) (qs : List SeqCode) (i : ℕ) (q : SeqCode) → slice_get qs i ≡ Some q → q.seq.medium ≡ Some m
    → Among (s + i) (sequences_in (filter (λ (x : Mark). nat_eq x.number m) (communicators_from s qs)))
on_medium_there m s [] i q e f = absurd cc
on_medium_there m s (y ∷ ys) zero q e f = by y.seq.medium (ap (λ (z : SeqCode). z.seq.medium) (same_Some y q e) ∙ f)
  where
    by : (o : Option ℕ) → o ≡ Some m → Among (s + 0) (sequences_in (filter (λ (x : Mark). nat_eq x.number m) (joining s o (communicators_from (s + 1) ys))))
    by None g = absurd cc
    by (Some n) g = on (nat_eq n m) (eq-eqb n m (same_Some n m g))
      where
        on : (b : Bool) → b ≡ true → Among (s + 0)
            (sequences_in (cond b (record { number = n; sequence = s; at = 0; port = 0 }
            ∷ filter (λ (x : Mark). nat_eq x.number m) (communicators_from (s + 1) ys))
            (filter (λ (x : Mark). nat_eq x.number m) (communicators_from (s + 1) ys))))
        on true k = (0, ap (λ (j : ℕ). Some j) (let z : s ≡ s + 0 = omega arith in z))
        on false k = absurd (false≢true k)
on_medium_there m s (y ∷ ys) (suc i) q e f =
    by y.seq.medium (subst (λ (k : ℕ). Among k (sequences_in (filter (λ (x : Mark). nat_eq x.number m) (communicators_from (s + 1) ys))))
    (let z : s + 1 + i ≡ s + suc i = omega arith in z) (on_medium_there m (s + 1) ys i q e f))
  where
    by : (o : Option ℕ) → Among (s + suc i) (sequences_in (filter (λ (x : Mark). nat_eq x.number m) (communicators_from (s + 1) ys)))
        → Among (s + suc i) (sequences_in (filter (λ (x : Mark). nat_eq x.number m) (joining s o (communicators_from (s + 1) ys))))
    by None h = h
    by (Some n) h = on (nat_eq n m)
      where
        on : (b : Bool) → Among (s + suc i)
            (sequences_in (cond b (record { number = n; sequence = s; at = 0; port = 0 }
            ∷ filter (λ (x : Mark). nat_eq x.number m) (communicators_from (s + 1) ys))
            (filter (λ (x : Mark). nat_eq x.number m) (communicators_from (s + 1) ys))))
        on true = later (s + suc i) s (sequences_in (filter (λ (x : Mark). nat_eq x.number m) (communicators_from (s + 1) ys))) h
        on false = h

module _ (p : Program) (media : ℕ) (r : MayRun p media) where
  on_it_there : (u m : ℕ) → u < length p.seqs → medium p u ≡ Some m → (s : ℕ) → medium p s ≡ Some m → Among u (on_it p (medium p s))
  on_it_there u m l e s f =
      let q = there p.seqs u l in
      let w = on_medium_there m 0 p.seqs u q.0 q.1 (sym (ap medium_in q.1) ∙ e) in
      subst (λ (o : Option ℕ). Among u (on_it p o)) (sym f) (subst (λ (k : ℕ). Among k (sequences_in (communicators_of p m))) (let z : 0 + u ≡ u = omega arith in z) w)
    where
      there : (qs : List SeqCode) (i : ℕ) → i < length qs → (q : SeqCode) × (slice_get qs i ≡ Some q)
      there [] i l = absurd (omega arith)
      there (q ∷ qs) zero l = (q, refl)
      there (q ∷ qs) (suc i) l = there qs i (omega arith)

  -- Where instruction b of u awaits instruction a of s, which is x, u is woken by it.
  pub wakes : (u b : ℕ) (x : Instr) (s a : ℕ) (z : Instr) → u < length p.seqs → Stands p u b x → Stands p s a z → (y : Place)
      → awaited p u b x ≡ Some y → y.sequence ≡ s → y.at ≡ a → Among u (woken p s z)
  wakes u b (Suc1 q) s a z l h k y e f g =
      let n = r.named u b q (inl h) in
      let w = waiter_is p r.guarded q n in
      let pq = r.guarded.pairs q n in
      let same = same_Some (record { sequence = (writing p (pair p q).buffer).writer; at = (pair p q).signal_full }) y e in
      let here : Stands p s a (Pre1 q) = (λ i. slice_get (turn p ((sym f ∙ ap (λ (v : Place). v.sequence) (sym same)) i)) ((sym g ∙ ap (λ (v : Place). v.at) (sym same)) i)) ∙ pq.signal_full.stands in
      let is : z ≡ Pre1 q = same_Some z (Pre1 q) (sym k ∙ here) in
      let mine = pq.take_full.only u b h in
      subst (λ (v : Instr). Among u (woken p s v)) (sym is)
      (0, ap (λ (ms : List Mark). slice_get (first_in ms) 0) w.is ∙ ap (λ (v : ℕ). Some v) (w.sequence ∙ sym mine.0))
  wakes u b (Recv c o) s a z l h k y e f g =
      let d = part_of p media r.transferred u b (Recv c o) h refl in
      let t = r.transferred.transfers d.on (communications p u b) d.low d.inside in
      let same = same_Some (record {
        sequence = (transfer p d.on (communications p u b)).sender;
        at =
            (transfer p d.on (communications p u b)).send_at;
      }) y (sym (ap (λ (m : Option ℕ). on_medium m (λ m. send_of p m (communications p u b))) d.at) ∙ e) in
      sent u d.on s a z l d.at (ap (medium p) (sym f ∙ ap (λ (v : Place). v.sequence) (sym same)) ∙ t.sends.on)
      (Send (transfer p d.on (communications p u b)).sent (operator p (transfer p d.on (communications p u b)).receiver)) refl
      ((λ i. slice_get (turn p ((sym f ∙ ap (λ (v : Place). v.sequence) (sym same)) i)) ((sym g ∙ ap (λ (v : Place). v.at) (sym same)) i)) ∙ t.sends.stands) k
    where
      sent : (u m s a : ℕ) (z : Instr) → u < length p.seqs → medium p u ≡ Some m → medium p s ≡ Some m → (x : Instr) → woken p s x
          ≡ on_it p (medium p s) → Stands p s a x → Stands p s a z → Among u (woken p s z)
      sent u m s a z l d f x w h k = subst (λ (v : Instr). Among u (woken p s v)) (same_Some x z (sym h ∙ k)) (subst (λ (xs : List ℕ). Among u xs) (sym w) (on_it_there u m l d s f))
  wakes u b (Sync o q) s a z l h k y e f g =
      let d = part_of p media r.transferred u b (Sync o q) h refl in
      let t = r.transferred.transfers d.on (communications p u b) d.low d.inside in
      let same = same_Some (record {
        sequence = (transfer p d.on (communications p u b)).receiver;
        at =
            (transfer p d.on (communications p u b)).receive_at;
      }) y
      (sym (ap (λ (m : Option ℕ). on_medium m (λ m. receive_of p m (communications p u b))) d.at) ∙ e) in
      got u d.on s a z l d.at (ap (medium p) (sym f ∙ ap (λ (v : Place). v.sequence) (sym same)) ∙ t.receives.on)
      (Recv (transfer p d.on (communications p u b)).received (operator p (transfer p d.on (communications p u b)).sender)) refl
      ((λ i. slice_get (turn p ((sym f ∙ ap (λ (v : Place). v.sequence) (sym same)) i)) ((sym g ∙ ap (λ (v : Place). v.at) (sym same)) i)) ∙ t.receives.stands) k
    where
      got : (u m s a : ℕ) (z : Instr) → u < length p.seqs → medium p u ≡ Some m → medium p s ≡ Some m → (x : Instr) → woken p s x
          ≡ on_it p (medium p s) → Stands p s a x → Stands p s a z → Among u (woken p s z)
      got u m s a z l d f x w h k = subst (λ (v : Instr). Among u (woken p s v)) (same_Some x z (sym h ∙ k)) (subst (λ (xs : List ℕ). Among u xs) (sym w) (on_it_there u m l d s f))
  wakes u b (Send c o) s a z l h k y e f g =
      let d = part_of p media r.transferred u b (Send c o) h refl in
      before d.on d.low d.at (communications p u b) d.inside (sym (ap (λ (m : Option ℕ). on_medium m (λ m. receive_before p m (communications p u b))) d.at) ∙ e)
    where
      before : (m : ℕ) → m < media → medium p u ≡ Some m → (t : ℕ) → t < transfers p m → receive_before p m t ≡ Some y → Among u (woken p s z)
      before m low at zero i e = absurd cc
      before m low at (suc t) i e =
          let moved = r.transferred.transfers m t low (omega arith) in
          let same = same_Some (record { sequence = (transfer p m t).receiver; at = (transfer p m t).receive_at }) y e in
          let here : Stands p s a (Recv (transfer p m t).received (operator p (transfer p m t).sender)) =
          (λ i. slice_get (turn p ((sym f ∙ ap (λ (v : Place). v.sequence) (sym same)) i))
          ((sym g ∙ ap (λ (v : Place). v.at) (sym same)) i)) ∙ moved.receives.stands in
          subst (λ (v : Instr). Among u (woken p s v)) (same_Some (Recv (transfer p m t).received (operator p (transfer p m t).sender)) z (sym here ∙ k))
          (on_it_there u m l at s (ap (medium p) (sym f ∙ ap (λ (v : Place). v.sequence) (sym same)) ∙ moved.receives.on))
  wakes u b (Suc0 q) s a z l h k y e f g = absurd cc
  wakes u b (Pre0 q) s a z l h k y e f g = absurd cc
  wakes u b (Pre1 q) s a z l h k y e f g = absurd cc
  wakes u b (Call v ins outs) s a z l h k y e f g = absurd cc
