-- A test of the sequences on a medium, as a test of its communicators.
use Rattle.std.proofs.Common.{◌≡◌, ℕ, suc, ◌+◌, Bool, true, false, ◌&&◌, not, cond, nat_eq, List, [], ◌∷◌, ◌++◌, length, map, Option, Some, None, refl, sym, ap, subst, arith, ◌∙◌}
use Rattle.std.specs.Prelude.{slice_get}
use Rattle.std.specs.List.{filter, list_all, position_or_len, range_with_len}
use Rattle.std.proofs.lemmas.List.FromFn.{map-range_with_len_more}
use Rattle.program_tables.specs.declared.mark_table.Mark.{Mark}
use Rattle.executive_program.specs.declared.program.Instr.{Instr}
use Rattle.executive_program.specs.declared.program.SeqCode.{SeqCode}
use Rattle.executive_program.specs.declared.program.Program.{Program}
use Rattle.executive_program.specs.Instructions.{turn, turn_of}
use Rattle.executive_program.specs.MicroSteps.{is_on}
use Rattle.executive_program.specs.Places.{communication_at, is_receive, is_send, receives_at, sends_at, sequence_where}
use Rattle.program_walks.specs.Walks.{all_at, implies}
use Rattle.program_tables.specs.Communications.{communicators_from, communicators_of, joining}
use Rattle.program_tables.specs.Crossings.{crossing, crossing_by, first_where, receives_in, sends_in}

abbrev of_medium : ℕ → Mark → Bool
of_medium m x = nat_eq x.number m

-- one entry more of a table
pub one_more : {X : Type 0} (f : ℕ → X) (n : ℕ) (xs ys : List X) (x : X) → ys ≡ xs ++ x ∷ [] → xs ≡ map f (range_with_len 0 n) → x ≡ f n → ys ≡ map f (range_with_len 0 (n + 1))
one_more f n xs ys x e was one = e ∙ (λ i. was i ++ one i ∷ []) ∙ sym (map-range_with_len_more f 0 n n (omega arith))

module _ (m : ℕ) (g : ℕ → Bool) (h : SeqCode → Bool) where
  first_from : (s : ℕ) (qs : List SeqCode) → ((i : ℕ) (q : SeqCode) → slice_get qs i ≡ Some q → g (s + i) ≡ h q)
      → first_where (s + length qs) g (filter (of_medium m) (communicators_from s qs)) ≡ s + position_or_len (λ (q : SeqCode). is_on m q.seq.medium && h q) qs
  first_from s [] f = refl
  first_from s (q ∷ qs) f = by q.seq.medium (f 0 q refl) (first_from (s + 1) qs (λ i x e. ap g (let z : s + 1 + i ≡ s + suc i = omega arith in z) ∙ f (suc i) x e))
    where
      later : (n : ℕ) → first_where (s + 1 + length qs) g (filter (of_medium m) (communicators_from (s + 1) qs)) ≡ s + 1 + n
          → first_where (s + length (q ∷ qs)) g (filter (of_medium m) (communicators_from (s + 1) qs)) ≡ s + (1 + n)
      later n e = ap (λ (k : ℕ). first_where k g (filter (of_medium m) (communicators_from (s + 1) qs)))
          (let z : s + length (q ∷ qs) ≡ s + 1 + length qs = omega arith in z) ∙ e ∙ (let z : s + 1 + n ≡ s + (1 + n) = omega arith in z)

      by : (o : Option ℕ) → g (s + 0) ≡ h q → first_where (s + 1 + length qs) g (filter (of_medium m) (communicators_from (s + 1) qs))
          ≡ s + 1 + position_or_len (λ (q : SeqCode). is_on m q.seq.medium && h q) qs
          → first_where (s + length (q ∷ qs)) g (filter (of_medium m) (joining s o (communicators_from (s + 1) qs)))
          ≡ s + cond (not (is_on m o && h q)) (1 + position_or_len (λ (q : SeqCode). is_on m q.seq.medium && h q) qs) 0
      by None here rest = later (position_or_len (λ (q : SeqCode). is_on m q.seq.medium && h q) qs) rest
      by (Some n) here rest = on (nat_eq n m)
        where
          two : (u t : Bool) → u ≡ t → cond u s
              (first_where (s + length (q ∷ qs)) g (filter (of_medium m) (communicators_from (s + 1) qs)))
              ≡ s + cond (not t) (1 + position_or_len (λ (q : SeqCode). is_on m q.seq.medium && h q) qs) 0
          two true true e = let z : s ≡ s + 0 = omega arith in z
          two false false e = later (position_or_len (λ (q : SeqCode). is_on m q.seq.medium && h q) qs) rest
          two true false e = absurd cc
          two false true e = absurd cc

          on : (b : Bool) → first_where (s + length (q ∷ qs)) g
              (cond b (record { number = n; sequence = s; at = 0; port = 0 } ∷ filter (of_medium m) (communicators_from (s + 1) qs))
              (filter (of_medium m) (communicators_from (s + 1) qs)))
              ≡ s + cond (not (b && h q)) (1 + position_or_len (λ (q : SeqCode). is_on m q.seq.medium && h q) qs) 0
          on true = two (g s) (h q) (ap g (let z : s ≡ s + 0 = omega arith in z) ∙ here)
          on false = later (position_or_len (λ (q : SeqCode). is_on m q.seq.medium && h q) qs) rest

  pub all_from : (a b : ℕ → Bool) (w : ℕ → SeqCode → Bool) (v : ℕ → Bool) (s : ℕ) (qs : List SeqCode) → ((i : ℕ) (q : SeqCode) → slice_get qs i ≡ Some q → v (s + i) ≡ w (s + i) q)
      → list_all (λ (x : Mark). implies (a x.sequence && b x.sequence) (v x.sequence)) (filter (of_medium m) (communicators_from s qs))
      ≡ all_at (λ s (q : SeqCode). implies (is_on m q.seq.medium && a s && b s) (w s q)) s qs
  all_from a b w v s [] f = refl
  all_from a b w v s (q ∷ qs) f =
      by q.seq.medium (subst (λ (k : ℕ). v k ≡ w k q) (let z : s + 0 ≡ s = omega arith in z) (f 0 q refl))
      (all_from a b w v (s + 1) qs (λ i x e. subst (λ (k : ℕ). v k ≡ w k x) (let z : s + suc i ≡ s + 1 + i = omega arith in z) (f (suc i) x e)))
    where
      by : (o : Option ℕ) → v s ≡ w s q
          → list_all (λ (x : Mark). implies (a x.sequence && b x.sequence) (v x.sequence))
          (filter (of_medium m) (communicators_from (s + 1) qs))
          ≡ all_at (λ s (q : SeqCode). implies (is_on m q.seq.medium && a s && b s) (w s q)) (s + 1) qs
          → list_all (λ (x : Mark). implies (a x.sequence && b x.sequence) (v x.sequence))
          (filter (of_medium m) (joining s o (communicators_from (s + 1) qs)))
          ≡ (implies (is_on m o && a s && b s) (w s q) && all_at (λ s (q : SeqCode). implies (is_on m q.seq.medium && a s && b s) (w s q)) (s + 1) qs)
      by None here rest = rest
      by (Some n) here rest = on (nat_eq n m)
        where
          on : (c : Bool) → list_all (λ (x : Mark). implies (a x.sequence && b x.sequence) (v x.sequence))
              (cond c (record { number = n; sequence = s; at = 0; port = 0 } ∷ filter (of_medium m) (communicators_from (s + 1) qs))
              (filter (of_medium m) (communicators_from (s + 1) qs)))
              ≡ (implies (c && a s && b s) (w s q) && all_at (λ s (q : SeqCode). implies (is_on m q.seq.medium && a s && b s) (w s q)) (s + 1) qs)
          on true = λ i. implies (a s && b s) (here i) && rest i
          on false = rest

module _ (p : Program) (m t : ℕ) where
  turn_is : (s : ℕ) (q : SeqCode) → slice_get p.seqs s ≡ Some q → turn p s ≡ q.turn
  turn_is s q e = ap turn_of e

  zero_more : (s : ℕ) → 0 + s ≡ s
  zero_more s = omega arith

  pub sender_is : first_where (length p.seqs) (sends_in p t) (communicators_of p m) ≡ sequence_where p (sends_at p m t)
  sender_is =
      ap (λ (n : ℕ). first_where n (sends_in p t) (communicators_of p m)) (sym (zero_more (length p.seqs)))
      ∙ first_from m (sends_in p t) (λ (q : SeqCode). is_send (slice_get q.turn (communication_at q.turn t))) 0 p.seqs
      (λ i q e. ap (sends_in p t) (zero_more i) ∙ ap (λ (xs : List Instr). is_send (slice_get xs (communication_at xs t))) (turn_is i q e))
      ∙ zero_more (position_or_len (sends_at p m t) p.seqs)

  pub receiver_is : first_where (length p.seqs) (receives_in p t) (communicators_of p m) ≡ sequence_where p (receives_at p m t)
  receiver_is =
      ap (λ (n : ℕ). first_where n (receives_in p t) (communicators_of p m)) (sym (zero_more (length p.seqs)))
      ∙ first_from m (receives_in p t) (λ (q : SeqCode). is_receive (slice_get q.turn (communication_at q.turn t))) 0 p.seqs
      (λ i q e. ap (receives_in p t) (zero_more i) ∙ ap (λ (xs : List Instr). is_receive (slice_get xs (communication_at xs t))) (turn_is i q e))
      ∙ zero_more (position_or_len (receives_at p m t) p.seqs)

  pub crossing_is : (ms : List Mark) → ms ≡ communicators_of p m → crossing_by p t (first_where (length p.seqs) (sends_in p t) ms) (first_where (length p.seqs) (receives_in p t) ms) ≡ crossing p m t
  crossing_is ms e = (λ i. crossing_by p t (first_where (length p.seqs) (sends_in p t) (e i))
      (first_where (length p.seqs) (receives_in p t) (e i))) ∙ (λ i. crossing_by p t (sender_is i) (receiver_is i))
