-- The buffer that a transfer sends is found in the program.
use Rattle.std.proofs.Common.{◌≡◌, ℕ, zero, suc, ◌+◌, ◌<◌, Bool, true, false, cond, List, [], ◌∷◌, take, Option, Some, None, refl, sym, ap, arith, ◌∙◌}
use Rattle.std.specs.Prelude.{slice_get}
use Rattle.std.specs.List.{count_by}
use Rattle.std.proofs.lemmas.Option.{same_Some}
use Rattle.std.proofs.lemmas.Bool.{eq-eqb, eqb-true}
use Rattle.executive_program.specs.declared.program.Instr.{Instr}
use Rattle.executive_program.specs.declared.program.Instr.TheVariants.{Suc0, Suc1, Pre0, Pre1, Call, Send, Recv, Sync}
use Rattle.executive_program.specs.declared.program.SeqCode.{SeqCode}
use Rattle.executive_program.specs.declared.program.Program.{Program}
use Rattle.executive_program.specs.Instructions.{is_communication, medium_in, turn_of, operator, turn}
use Rattle.executive_program.specs.MicroSteps.{sent_in, sent_by, sent, is_on, first_of, transfers}
use Rattle.executive_program.specs.Places.{Places}
use Rattle.phase_laws.proofs.Setting.{Parts, Conditions}
use Rattle.phase_laws.proofs.Counting.{count_cons}
use Rattle.phase_laws.proofs.Media.{Who, sends_it, receives_it, waits_for_it, who}

pub record Sends (xs : List Instr) (t b : ℕ) : Type 0 where
  pub at : ℕ
  pub to : ℕ
  pub stands : slice_get xs at ≡ Some (Send b to)
  pub number : count_by is_communication (take at xs) ≡ t

later : (x : Instr) (xs : List Instr) (u t b n : ℕ) → cond (is_communication x) 1 0 ≡ n → n + u ≡ t → Sends xs u b → Sends (x ∷ xs) t b
later x xs u t b n e h s = record { at = suc s.at; to = s.to; stands = s.stands; number = let z = count_cons is_communication x (take s.at xs) in let y = s.number in omega (arith, e) }

sent_from : (xs : List Instr) (t b : ℕ) → sent_in xs t ≡ Some b → Sends xs t b
sent_from [] t b e = absurd cc
sent_from (Send c q ∷ xs) zero b e = record { at = 0; to = q; stands = ap (λ (k : ℕ). Some (Send k q)) (same_Some c b e); number = refl }
sent_from (Send c q ∷ xs) (suc t) b e = later (Send c q) xs t (suc t) b 1 refl (omega arith) (sent_from xs t b e)
sent_from (Recv c q ∷ xs) zero b e = absurd cc
sent_from (Recv c q ∷ xs) (suc t) b e = later (Recv c q) xs t (suc t) b 1 refl (omega arith) (sent_from xs t b e)
sent_from (Sync c q ∷ xs) zero b e = absurd cc
sent_from (Sync c q ∷ xs) (suc t) b e = later (Sync c q) xs t (suc t) b 1 refl (omega arith) (sent_from xs t b e)
sent_from (Suc0 q ∷ xs) t b e = later (Suc0 q) xs t t b 0 refl (omega arith) (sent_from xs t b e)
sent_from (Suc1 q ∷ xs) t b e = later (Suc1 q) xs t t b 0 refl (omega arith) (sent_from xs t b e)
sent_from (Pre0 q ∷ xs) t b e = later (Pre0 q) xs t t b 0 refl (omega arith) (sent_from xs t b e)
sent_from (Pre1 q ∷ xs) t b e = later (Pre1 q) xs t t b 0 refl (omega arith) (sent_from xs t b e)
sent_from (Call v ins outs ∷ xs) t b e = later (Call v ins outs) xs t t b 0 refl (omega arith) (sent_from xs t b e)

fewer : (x : Instr) (xs : List Instr) (a t n : ℕ) → cond (is_communication x) 1 0 ≡ n → count_by is_communication (take (suc a) (x ∷ xs)) ≡ t → n + count_by is_communication (take a xs) ≡ t
fewer x xs a t n e h = let z = count_cons is_communication x (take a xs) in omega (arith, e)

sent_at : (xs : List Instr) (a b o t : ℕ) → slice_get xs a ≡ Some (Send b o) → count_by is_communication (take a xs) ≡ t → sent_in xs t ≡ Some b
sent_at [] a b o t e h = absurd cc
sent_at (x ∷ xs) zero b o t e h = ap (λ (y : Instr). sent_in (y ∷ xs) t) (same_Some x (Send b o) e) ∙ ap (sent_in (Send b o ∷ xs)) (sym h)
sent_at (Send c q ∷ xs) (suc a) b o zero e h = let z = fewer (Send c q) xs a 0 1 refl h in absurd (omega arith)
sent_at (Send c q ∷ xs) (suc a) b o (suc t) e h = let z = fewer (Send c q) xs a (suc t) 1 refl h in sent_at xs a b o t e (omega arith)
sent_at (Recv c q ∷ xs) (suc a) b o zero e h = let z = fewer (Recv c q) xs a 0 1 refl h in absurd (omega arith)
sent_at (Recv c q ∷ xs) (suc a) b o (suc t) e h = let z = fewer (Recv c q) xs a (suc t) 1 refl h in sent_at xs a b o t e (omega arith)
sent_at (Sync c q ∷ xs) (suc a) b o zero e h = let z = fewer (Sync c q) xs a 0 1 refl h in absurd (omega arith)
sent_at (Sync c q ∷ xs) (suc a) b o (suc t) e h = let z = fewer (Sync c q) xs a (suc t) 1 refl h in sent_at xs a b o t e (omega arith)
sent_at (Suc0 q ∷ xs) (suc a) b o t e h = let z = fewer (Suc0 q) xs a t 0 refl h in sent_at xs a b o t e (omega arith)
sent_at (Suc1 q ∷ xs) (suc a) b o t e h = let z = fewer (Suc1 q) xs a t 0 refl h in sent_at xs a b o t e (omega arith)
sent_at (Pre0 q ∷ xs) (suc a) b o t e h = let z = fewer (Pre0 q) xs a t 0 refl h in sent_at xs a b o t e (omega arith)
sent_at (Pre1 q ∷ xs) (suc a) b o t e h = let z = fewer (Pre1 q) xs a t 0 refl h in sent_at xs a b o t e (omega arith)
sent_at (Call v ins outs ∷ xs) (suc a) b o t e h = let z = fewer (Call v ins outs) xs a t 0 refl h in sent_at xs a b o t e (omega arith)

on_is : (m : ℕ) (o : Option ℕ) → is_on m o ≡ true → o ≡ Some m
on_is m None e = absurd cc
on_is m (Some n) e = ap (λ (k : ℕ). Some k) (eqb-true n m e)

chosen : (b : Bool) (x : Option ℕ) (c : ℕ) → cond b x None ≡ Some c → (b ≡ true) × (x ≡ Some c)
chosen true x c e = (refl, e)
chosen false x c e = absurd cc

found_in : (qs : List SeqCode) (m t s b : ℕ) → medium_in (slice_get qs s) ≡ Some m → sent_in (turn_of (slice_get qs s)) t ≡ Some b
    → ((r c : ℕ) → medium_in (slice_get qs r) ≡ Some m → sent_in (turn_of (slice_get qs r)) t ≡ Some c → c ≡ b) → sent_by qs m t ≡ Some b
found_in [] m t s b e f u = absurd cc
found_in (q ∷ qs) m t zero b e f u = let on : is_on m q.seq.medium ≡ true = ap (is_on m) e ∙ eq-eqb m m refl in
    ap (λ (k : Bool). first_of (cond k (sent_in q.turn t) None) (sent_by qs m t)) on ∙ ap (λ (o : Option ℕ). first_of o (sent_by qs m t)) f
found_in (q ∷ qs) m t (suc s) b e f u = by (cond (is_on m q.seq.medium) (sent_in q.turn t) None) refl (found_in qs m t s b e f (λ r c. u (suc r) c))
  where
    by : (o : Option ℕ) → cond (is_on m q.seq.medium) (sent_in q.turn t) None ≡ o → sent_by qs m t ≡ Some b → sent_by (q ∷ qs) m t ≡ Some b
    by None g r = ap (λ (o : Option ℕ). first_of o (sent_by qs m t)) g ∙ r
    by (Some c) g r = let z = chosen (is_on m q.seq.medium) (sent_in q.turn t) c g in
        ap (λ (o : Option ℕ). first_of o (sent_by qs m t)) g ∙ ap (λ (k : ℕ). Some k) (u 0 c (on_is m q.seq.medium z.0) z.1)

abbrev buffer_of : Instr → ℕ
buffer_of (Send b o) = b
buffer_of _ = 0

module _ (p : Program) (w : Places) (c : Conditions p w) {P : Type 0} (reactions : ℕ) (own : Parts P) where
  pub found : (m t : ℕ) → m < c.media → t < transfers p m → sent p m t ≡ Some (w.transfer m t).sent
  found m t a b = found_in p.seqs m t (w.transfer m t).sender (w.transfer m t).sent (c.holds.transferred m t a b).sends.on
      (sent_at (turn p (w.transfer m t).sender) (w.transfer m t).send_at (w.transfer m t).sent (operator p (w.transfer m t).receiver) t
      (c.holds.transferred m t a b).sends.stands (c.holds.transferred m t a b).sends.number) only
    where
      by : (r d n q : ℕ) → Who p w c reactions own m t r n (Send d q) → d ≡ (w.transfer m t).sent
      by r d n q (sends_it u v x) = ap buffer_of x
      by r d n q (receives_it u v x) = absurd cc
      by r d n q (waits_for_it x v) = absurd cc

      only : (r d : ℕ) → medium_in (slice_get p.seqs r) ≡ Some m → sent_in (turn_of (slice_get p.seqs r)) t ≡ Some d → d ≡ (w.transfer m t).sent
      only r d e f = let s = sent_from (turn_of (slice_get p.seqs r)) t d f in
          by r d s.at s.to (who p w c reactions own m t a b r s.at (Send d s.to) (record { on = e; stands = s.stands; is_one = refl; number = s.number }))
