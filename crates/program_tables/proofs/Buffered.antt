-- The tests of a buffer, as tests of the places at which it is written and read.
use Rattle.std.proofs.Common.{◌≡◌, ℕ, zero, suc, Bool, true, false, ◌&&◌, ◌||◌, not, nat_eq, List, [], ◌∷◌, Some, refl, sym, ap, subst, inl, inr, ◌∙◌, eq-eqb}
use Rattle.std.specs.Prelude.{slice_get}
use Rattle.std.specs.List.{list_all, list_any}
use Rattle.std.specs.Cmp.Derive.{both_true}
use Rattle.std.proofs.lemmas.Bool.{false≢true, and_parts, eqb-true, or_left, or_right, or_cases}
use Rattle.std.proofs.Math.Bool.{and-true}
use Rattle.program_tables.specs.declared.mark_table.Mark.{Mark}
use Rattle.executive_program.specs.declared.program.Instr.{Instr}
use Rattle.executive_program.specs.declared.program.Instr.TheVariants.{Suc0, Suc1, Pre0, Pre1, Call, Send, Recv, Sync}
use Rattle.executive_program.specs.declared.program.SeqCode.{SeqCode}
use Rattle.executive_program.specs.declared.program.Program.{Program}
use Rattle.executive_program.specs.Instructions.{is_guarded, operator, operator_in, reads, turn, turn_of, waits_for, writes}
use Rattle.executive_program.specs.WellFormed.{Stands}
use Rattle.program_walks.specs.Buffers.{is_near, is_operator, is_written_once, touches, writes_only}
use Rattle.program_walks.specs.Walks.{all_at, every, implies}
use Rattle.program_walks.proofs.ListTests.{all_here, all_there, every_of, of_every, from_zero, to_zero, implied, implying}
use Rattle.program_tables.specs.declared.roles.Role.TheVariants.{Written, Read}
use Rattle.program_tables.specs.Marks.{named, marks_of}
use Rattle.program_tables.proofs.Naming.{all_marks}
use Rattle.program_tables.proofs.Lone.{same_tests, stands_are}

-- written once
only_one : (b port : ℕ) (here : Bool) (x : Instr) → all_at (λ k c. implies (nat_eq c b) (here && nat_eq k port)) 0 (named Written x) ≡ writes_only b port here x
only_one b port here (Call v ins outs) = refl
only_one b port here (Recv c q) = and-true (implies (nat_eq c b) (here && nat_eq 0 port))
only_one b port here (Suc0 q) = refl
only_one b port here (Suc1 q) = refl
only_one b port here (Pre0 q) = refl
only_one b port here (Pre1 q) = refl
only_one b port here (Send c q) = refl
only_one b port here (Sync q r) = refl

pub once_is : (p : Program) (b writer at port : ℕ)
    → list_all (λ (m : Mark). nat_eq m.sequence writer && nat_eq m.at at && nat_eq m.port port) (marks_of p Written b) ≡ is_written_once p b writer at port
once_is p b writer at port = all_marks (λ s a k. nat_eq s writer && nat_eq a at && nat_eq k port) b p Written ∙ ap (every p) (λ i s a x. only_one b port (nat_eq s writer && nat_eq a at) x i)

module _ (p : Program) (b : ℕ) where
  -- near
  abbrev on_it : ℕ → Bool
  on_it s = is_operator (slice_get p.buffers b) (operator p s)

  near_test : SeqCode → Instr → Bool
  near_test q x = implies (touches b x) (is_operator (slice_get p.buffers b) q.seq.operator)

  operator_is : (s : ℕ) (q : SeqCode) → slice_get p.seqs s ≡ Some q → operator p s ≡ q.seq.operator
  operator_is s q e = ap operator_in e

  abbrev touched_near : (Instr → Bool) → Bool
  touched_near test = every p (λ s a x. implies (test x) (on_it s))

  near_apart : (test : Instr → Bool) → ((x : Instr) → test x ≡ true → touches b x ≡ true) → is_near p b ≡ true → touched_near test ≡ true
  near_apart test f h = to_zero (λ s (q : SeqCode). all_at (λ a x. implies (test x) (on_it s)) 0 q.turn) p.seqs (λ s q i.
      to_zero (λ a x. implies (test x) (on_it s)) q.turn (λ a x e.
      implying (test x) (on_it s) (λ t.
      ap (is_operator (slice_get p.buffers b)) (operator_is s q i)
      ∙ implied (touches b x) (is_operator (slice_get p.buffers b) q.seq.operator)
      (all_here (λ x. implies (touches b x) (is_operator (slice_get p.buffers b) q.seq.operator)) q.turn
      (all_here (λ (q : SeqCode). list_all (λ x. implies (touches b x) (is_operator (slice_get p.buffers b) q.seq.operator)) q.turn) p.seqs h s q i) a x e)
      (f x t))))

  near_both : touched_near (writes b) ≡ true → touched_near (reads b) ≡ true → is_near p b ≡ true
  near_both w r = all_there (λ (q : SeqCode). list_all (λ x. implies (touches b x) (is_operator (slice_get p.buffers b) q.seq.operator)) q.turn) p.seqs (λ s q i.
      all_there (λ x. implies (touches b x) (is_operator (slice_get p.buffers b) q.seq.operator)) q.turn (λ a x e.
      implying (touches b x) (is_operator (slice_get p.buffers b) q.seq.operator) (λ t.
      ap (is_operator (slice_get p.buffers b)) (sym (operator_is s q i))
      ∙ elim (or_cases (writes b x) (reads b x) t) [
        | inl h ↦ implied (writes b x) (on_it s) (at_of (writes b) w s q i a x e) h
        | inr h ↦ implied (reads b x) (on_it s) (at_of (reads b) r s q i a x e) h
      ])))
    where
      at_of : (test : Instr → Bool) → touched_near test ≡ true → (s : ℕ) (q : SeqCode) → slice_get p.seqs s ≡ Some q → (a : ℕ) (x : Instr)
          → slice_get q.turn a ≡ Some x → implies (test x) (on_it s) ≡ true
      at_of test h s q i a x e = from_zero (λ a x. implies (test x) (on_it s)) q.turn (from_zero (λ s (q : SeqCode). all_at (λ a x. implies (test x) (on_it s)) 0 q.turn) p.seqs h s q i) a x e

  pub near_is : (list_all (λ (m : Mark). is_operator (slice_get p.buffers b) (operator p m.sequence)) (marks_of p Written b)
      && list_all (λ (m : Mark). is_operator (slice_get p.buffers b) (operator p m.sequence)) (marks_of p Read b)) ≡ is_near p b
  near_is =
      (λ i. stands_are (λ s a. on_it s) b p Written i && stands_are (λ s a. on_it s) b p Read i)
      ∙ same_tests (touched_near (writes b) && touched_near (reads b)) (is_near p b)
      (λ h. let r = and_parts (touched_near (writes b)) (touched_near (reads b)) h in near_both r.0 r.1)
      (λ h. both_true (near_apart (writes b) (λ x t. or_left (writes b x) (reads b x) t) h) (near_apart (reads b) (λ x t. or_right (writes b x) (reads b x) t) h))

  -- of the reads in one sequence
  pub reads_in_is : (f : ℕ → Bool) (s : ℕ) → list_all (λ (m : Mark). implies (nat_eq m.sequence s) (f m.at)) (marks_of p Read b) ≡ all_at (λ a x. implies (reads b x) (f a)) 0 (turn p s)
  reads_in_is f s =
      stands_are (λ t a. implies (nat_eq t s) (f a)) b p Read
      ∙ same_tests (every p (λ t a x. implies (reads b x) (implies (nat_eq t s) (f a)))) (all_at (λ a x. implies (reads b x) (f a)) 0 (turn p s))
      (λ h. to_zero (λ a x. implies (reads b x) (f a)) (turn p s) (λ a x e. implying (reads b x) (f a) (λ t.
      implied (nat_eq s s) (f a) (implied (reads b x) (implies (nat_eq s s) (f a)) (every_of p (λ t a x. implies (reads b x) (implies (nat_eq t s) (f a))) h s a x e) t) (eq-eqb s s refl))))
      (λ h. of_every p (λ t a x. implies (reads b x) (implies (nat_eq t s) (f a))) (λ t a x e. implying (reads b x) (implies (nat_eq t s) (f a)) (λ r. implying (nat_eq t s) (f a) (λ k.
      implied (reads b x) (f a) (from_zero (λ a x. implies (reads b x) (f a)) (turn p s) h a x (subst (λ (u : ℕ). Stands p u a x) (eqb-true t s k) e)) r))))

  -- a sequence in which the buffer is written
  any_not : {X : Type 0} (test : X → Bool) (xs : List X) → list_any test xs ≡ not (list_all (λ x. not (test x)) xs)
  any_not test [] = refl
  any_not test (x ∷ xs) = by (test x) (any_not test xs)
    where
      by : (t : Bool) → list_any test xs ≡ not (list_all (λ x. not (test x)) xs) → (t || list_any test xs) ≡ not (not t && list_all (λ x. not (test x)) xs)
      by true e = refl
      by false e = e

  not_not : (a c : Bool) → not a ≡ not c → a ≡ c
  not_not true true e = refl
  not_not false false e = refl
  not_not true false e = absurd cc
  not_not false true e = absurd cc

  no_write : (s : ℕ) → list_all (λ (w : Mark). not (nat_eq w.sequence s)) (marks_of p Written b) ≡ list_all (λ x. not (writes b x)) (turn p s)
  no_write s =
      stands_are (λ t a. not (nat_eq t s)) b p Written
      ∙ same_tests (every p (λ t a x. implies (writes b x) (not (nat_eq t s)))) (list_all (λ x. not (writes b x)) (turn p s))
      (λ h. all_there (λ x. not (writes b x)) (turn p s)
      (λ a x e. none_there x (implies (writes b x) (not (nat_eq s s))) refl (every_of p (λ t a x. implies (writes b x) (not (nat_eq t s))) h s a x e)))
      (λ h. of_every p (λ t a x. implies (writes b x) (not (nat_eq t s))) (λ t a x e. implying (writes b x) (not (nat_eq t s)) (λ w. other (nat_eq t s) (λ k.
      clash (writes b x) w (all_here (λ x. not (writes b x)) (turn p s) h a x (subst (λ (u : ℕ). Stands p u a x) (eqb-true t s k) e))))))
    where
      clash : (w : Bool) → w ≡ true → not w ≡ true → ⊥
      clash true e f = false≢true f
      clash false e f = false≢true e

      other : (t : Bool) → (t ≡ true → ⊥) → not t ≡ true
      other true f = absurd (f refl)
      other false f = refl

      none_there : (x : Instr) (c : Bool) → implies (writes b x) (not (nat_eq s s)) ≡ c → c ≡ true → not (writes b x) ≡ true
      none_there x c e f = other (writes b x) (λ w. clash (nat_eq s s) (eq-eqb s s refl) (implied (writes b x) (not (nat_eq s s)) (e ∙ f) w))

  pub written_in : (s : ℕ) → list_any (λ (w : Mark). nat_eq w.sequence s) (marks_of p Written b) ≡ list_any (writes b) (turn p s)
  written_in s = any_not (λ (w : Mark). nat_eq w.sequence s) (marks_of p Written b) ∙ ap not (no_write s) ∙ sym (any_not (writes b) (turn p s))

  -- guarded: not each read is in a sequence that writes the buffer
  own_reads : list_all (λ (r : Mark). list_any (λ (w : Mark). nat_eq w.sequence r.sequence) (marks_of p Written b)) (marks_of p Read b) ≡ list_all (λ q. not (waits_for b q)) p.seqs
  own_reads =
      stands_are (λ s a. list_any (λ (w : Mark). nat_eq w.sequence s) (marks_of p Written b)) b p Read
      ∙ ap (every p) (λ i s a x. implies (reads b x) (written_in s i))
      ∙ same_tests (every p (λ s a x. implies (reads b x) (list_any (writes b) (turn p s)))) (list_all (λ q. not (waits_for b q)) p.seqs)
      (λ h. all_there (λ q. not (waits_for b q)) p.seqs (λ s q i. waits_not q (λ a x e r.
      ap (λ (xs : List Instr). list_any (writes b) xs) (sym (ap turn_of i))
      ∙ implied (reads b x) (list_any (writes b) (turn p s))
      (every_of p (λ s a x. implies (reads b x) (list_any (writes b) (turn p s))) h s a x
      (ap (λ (xs : List Instr). slice_get xs a) (ap turn_of i) ∙ e)) r)))
      (λ h. to_zero (λ s (q : SeqCode). all_at (λ a x. implies (reads b x) (list_any (writes b) (turn p s))) 0 q.turn) p.seqs (λ s q i.
      to_zero (λ a x. implies (reads b x) (list_any (writes b) (turn p s))) q.turn (λ a x e. implying (reads b x) (list_any (writes b) (turn p s)) (λ r.
      ap (λ (xs : List Instr). list_any (writes b) xs) (ap turn_of i) ∙ waits_none q a x e r (all_here (λ q. not (waits_for b q)) p.seqs h s q i)))))
    where
      some_read : (xs : List Instr) → list_any (reads b) xs ≡ true → (a : ℕ) × (x : Instr) × (slice_get xs a ≡ Some x) × (reads b x ≡ true)
      some_read [] h = absurd (false≢true h)
      some_read (x ∷ xs) h = elim (or_cases (reads b x) (list_any (reads b) xs) h) [
        | inl t ↦ (0, x, refl, t)
        | inr t ↦ (let r = some_read xs t in (suc r.0, r.1, r.2, r.3))
      ]

      read_some : (xs : List Instr) (a : ℕ) (x : Instr) → slice_get xs a ≡ Some x → reads b x ≡ true → list_any (reads b) xs ≡ true
      read_some [] a x e r = absurd cc
      read_some (y ∷ ys) zero x e r = let same : y ≡ x = cc in or_left (reads b y) (list_any (reads b) ys) (ap (reads b) same ∙ r)
      read_some (y ∷ ys) (suc a) x e r = or_right (reads b y) (list_any (reads b) ys) (read_some ys a x e r)

      waits_not : (q : SeqCode) → ((a : ℕ) (x : Instr) → slice_get q.turn a ≡ Some x → reads b x ≡ true → list_any (writes b) q.turn ≡ true) → not (waits_for b q) ≡ true
      waits_not q f = by (list_any (reads b) q.turn) refl (list_any (writes b) q.turn) refl
        where
          by : (r : Bool) → list_any (reads b) q.turn ≡ r → (w : Bool) → list_any (writes b) q.turn ≡ w → not (r && not w) ≡ true
          by false e w d = refl
          by true e true d = refl
          by true e false d = let s = some_read q.turn e in absurd (false≢true (sym d ∙ f s.0 s.1 s.2 s.3))

      waits_none : (q : SeqCode) (a : ℕ) (x : Instr) → slice_get q.turn a ≡ Some x → reads b x ≡ true → not (waits_for b q) ≡ true → list_any (writes b) q.turn ≡ true
      waits_none q a x e r h = by (list_any (writes b) q.turn) refl
        where
          by : (w : Bool) → list_any (writes b) q.turn ≡ w → w ≡ true
          by true d = refl
          by false d = absurd (false≢true (sym (ap (λ (t : Bool). not (t && not (list_any (writes b) q.turn))) (read_some q.turn a x e r) ∙ ap (λ (t : Bool). not (true && not t)) d) ∙ h))

  pub guarded_is : not (list_all (λ (r : Mark). list_any (λ (w : Mark). nat_eq w.sequence r.sequence) (marks_of p Written b)) (marks_of p Read b)) ≡ is_guarded p b
  guarded_is = ap not own_reads ∙ sym (any_not (waits_for b) p.seqs)
