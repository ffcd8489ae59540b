-- The buffer that a transfer sends is found in the program.
use Rattle.std.proofs.Common.{◌≡◌, ℕ, zero, suc, Bool, true, false, cond, List, [], ◌∷◌, take, Option, Some, None, refl, sym, ap, arith, ◌∙◌, eq-eqb}
use Rattle.std.specs.Prelude.{slice_get}
use Rattle.std.proofs.lemmas.Option.{same_Some}
use Rattle.sequence_build_laws.specs.declared.Instr.{Instr}
use Rattle.sequence_build_laws.specs.declared.Instr.TheVariants.{Suc0, Suc1, Pre0, Pre1, Call, Send, Recv, Sync}
use Rattle.sequence_build_laws.specs.declared.SeqCode.{SeqCode}
use Rattle.sequence_build_laws.specs.declared.Program.{Program}
use Rattle.sequence_build_laws.specs.Instructions.{is_communication, medium_in, turn_of, turn, operator}
use Rattle.sequence_build_laws.specs.MicroSteps.{sent_in, sent_by, sent, is_on, first_of}
use Rattle.sequence_build_laws.specs.Places.{transfer}
use Rattle.sequence_build_laws.proofs.Passing.{on_is}
use Rattle.sequence_build_laws.proofs.Lists.{tally, counts_tally}
use Rattle.check_laws.specs.Items.{IsTransferred}
use Rattle.check_laws.proofs.Orders.{Part, sends, receives, waits, part}

pub record Sends (xs : List Instr) (t b : ℕ) : Type 0 where
  pub at : ℕ
  pub to : ℕ
  pub stands : slice_get xs at ≡ Some (Send b to)
  pub number : tally is_communication (take at xs) ≡ t

one : (x : Instr) (xs : List Instr) (t b : ℕ) → is_communication x ≡ true → Sends xs t b → Sends (x ∷ xs) (suc t) b
one x xs t b e s = record {
  at = suc s.at;
  to = s.to;
  stands = s.stands;
  number =
      ap (λ (c : Bool). cond c (suc (tally is_communication (take s.at xs))) (tally is_communication (take s.at xs))) e ∙ ap (λ (n : ℕ). suc n) s.number;
}

none : (x : Instr) (xs : List Instr) (t b : ℕ) → is_communication x ≡ false → Sends xs t b → Sends (x ∷ xs) t b
none x xs t b e s = record {
  at = suc s.at;
  to = s.to;
  stands = s.stands;
  number =
      ap (λ (c : Bool). cond c (suc (tally is_communication (take s.at xs))) (tally is_communication (take s.at xs))) e ∙ s.number;
}

sent_from : (xs : List Instr) (t b : ℕ) → sent_in xs t ≡ Some b → Sends xs t b
sent_from [] t b e = absurd cc
sent_from (Send c q ∷ xs) zero b e = record { at = 0; to = q; stands = ap (λ (k : ℕ). Some (Send k q)) (same_Some c b e); number = refl }
sent_from (Send c q ∷ xs) (suc t) b e = one (Send c q) xs t b refl (sent_from xs t b e)
sent_from (Recv c q ∷ xs) zero b e = absurd cc
sent_from (Recv c q ∷ xs) (suc t) b e = one (Recv c q) xs t b refl (sent_from xs t b e)
sent_from (Sync c q ∷ xs) zero b e = absurd cc
sent_from (Sync c q ∷ xs) (suc t) b e = one (Sync c q) xs t b refl (sent_from xs t b e)
sent_from (Suc0 q ∷ xs) t b e = none (Suc0 q) xs t b refl (sent_from xs t b e)
sent_from (Suc1 q ∷ xs) t b e = none (Suc1 q) xs t b refl (sent_from xs t b e)
sent_from (Pre0 q ∷ xs) t b e = none (Pre0 q) xs t b refl (sent_from xs t b e)
sent_from (Pre1 q ∷ xs) t b e = none (Pre1 q) xs t b refl (sent_from xs t b e)
sent_from (Call v ins outs ∷ xs) t b e = none (Call v ins outs) xs t b refl (sent_from xs t b e)

sent_at : (xs : List Instr) (a b o t : ℕ) → slice_get xs a ≡ Some (Send b o) → tally is_communication (take a xs) ≡ t → sent_in xs t ≡ Some b
sent_at [] a b o t e h = absurd cc
sent_at (x ∷ xs) zero b o t e h = ap (λ (y : Instr). sent_in (y ∷ xs) t) (same_Some x (Send b o) e) ∙ ap (sent_in (Send b o ∷ xs)) (sym h)
sent_at (Send c q ∷ xs) (suc a) b o zero e h = absurd (omega arith)
sent_at (Send c q ∷ xs) (suc a) b o (suc t) e h = sent_at xs a b o t e (omega arith)
sent_at (Recv c q ∷ xs) (suc a) b o zero e h = absurd (omega arith)
sent_at (Recv c q ∷ xs) (suc a) b o (suc t) e h = sent_at xs a b o t e (omega arith)
sent_at (Sync c q ∷ xs) (suc a) b o zero e h = absurd (omega arith)
sent_at (Sync c q ∷ xs) (suc a) b o (suc t) e h = sent_at xs a b o t e (omega arith)
sent_at (Suc0 q ∷ xs) (suc a) b o t e h = sent_at xs a b o t e h
sent_at (Suc1 q ∷ xs) (suc a) b o t e h = sent_at xs a b o t e h
sent_at (Pre0 q ∷ xs) (suc a) b o t e h = sent_at xs a b o t e h
sent_at (Pre1 q ∷ xs) (suc a) b o t e h = sent_at xs a b o t e h
sent_at (Call v ins outs ∷ xs) (suc a) b o t e h = sent_at xs a b o t e h

chosen : (b : Bool) (x : Option ℕ) (c : ℕ) → cond b x None ≡ Some c → (b ≡ true) × (x ≡ Some c)
chosen true x c e = (refl, e)
chosen false x c e = absurd cc

found_in : (qs : List SeqCode) (m t s b : ℕ) → medium_in (slice_get qs s) ≡ Some m → sent_in (turn_of (slice_get qs s)) t ≡ Some b
    → ((r c : ℕ) → medium_in (slice_get qs r) ≡ Some m → sent_in (turn_of (slice_get qs r)) t ≡ Some c → c ≡ b) → sent_by qs m t ≡ Some b
found_in [] m t s b e f u = absurd cc
found_in (q ∷ qs) m t zero b e f u = let on : is_on m q.seq.medium ≡ true = ap (is_on m) e ∙ eq-eqb m m refl in
    ap (λ (k : Bool). first_of (cond k (sent_in q.turn t) None) (sent_by qs m t)) on ∙ ap (λ (o : Option ℕ). first_of o (sent_by qs m t)) f
found_in (q ∷ qs) m t (suc s) b e f u = by (cond (is_on m q.seq.medium) (sent_in q.turn t) None) refl (found_in qs m t s b e f (λ r c. u (suc r) c))
  where
    by : (o : Option ℕ) → cond (is_on m q.seq.medium) (sent_in q.turn t) None ≡ o → sent_by qs m t ≡ Some b → sent_by (q ∷ qs) m t ≡ Some b
    by None g r = ap (λ (o : Option ℕ). first_of o (sent_by qs m t)) g ∙ r
    by (Some c) g r = let z = chosen (is_on m q.seq.medium) (sent_in q.turn t) c g in
        ap (λ (o : Option ℕ). first_of o (sent_by qs m t)) g ∙ ap (λ (k : ℕ). Some k) (u 0 c (on_is m q.seq.medium z.0) z.1)

abbrev buffer_of : Instr → ℕ
buffer_of (Send b o) = b
buffer_of _ = 0

module _ (p : Program) where
  pub found : (m t : ℕ) → IsTransferred p m t → sent p m t ≡ Some (transfer p m t).sent
  found m t h = found_in p.seqs m t (transfer p m t).sender (transfer p m t).sent h.sends.on
      (sent_at (turn p (transfer p m t).sender) (transfer p m t).send_at (transfer p m t).sent (operator p (transfer p m t).receiver) t h.sends.stands
      (sym (counts_tally is_communication (take (transfer p m t).send_at (turn p (transfer p m t).sender))) ∙ h.sends.number)) only
    where
      by : (r d n q : ℕ) → Part p m t r n (Send d q) → d ≡ (transfer p m t).sent
      by r d n q (sends u v x) = ap buffer_of x
      by r d n q (receives u v x) = absurd cc
      by r d n q (waits u v x) = absurd cc

      only : (r d : ℕ) → medium_in (slice_get p.seqs r) ≡ Some m → sent_in (turn_of (slice_get p.seqs r)) t ≡ Some d → d ≡ (transfer p m t).sent
      only r d e f = let s = sent_from (turn_of (slice_get p.seqs r)) t d f in
          by r d s.at s.to (part p m t r s.at (Send d s.to) h
          (record {
            on = e;
            stands = s.stands;
            is_one = refl;
            number =
                counts_tally is_communication (take s.at (turn_of (slice_get p.seqs r))) ∙ s.number;
          }))
