-- The first place that names a number, in the words of programs.
use Rattle.std.proofs.Common.{◌≡◌, ℕ, suc, ◌+◌, Bool, true, false, ◌||◌, not, cond, nat_eq, List, [], ◌∷◌, length, Some, None, refl, sym, ap, subst, arith, ◌∙◌}
use Rattle.std.specs.Prelude.{slice_get}
use Rattle.std.specs.List.{list_any, position_or_len}
use Rattle.std.proofs.lemmas.Bool.{false≢true}
use Rattle.std.proofs.lemmas.Option.{same_Some, slice_get_past}
use Rattle.program_tables.specs.declared.mark_table.Mark.{Mark}
use Rattle.executive_program.specs.declared.program.Instr.{Instr}
use Rattle.executive_program.specs.declared.program.Instr.TheVariants.{Suc0, Suc1, Pre0, Pre1, Call, Send, Recv, Sync}
use Rattle.executive_program.specs.declared.program.SeqCode.{SeqCode}
use Rattle.executive_program.specs.declared.program.Program.{Program}
use Rattle.executive_program.specs.Instructions.{turn, turn_of, writes}
use Rattle.executive_program.specs.Places.{output_at, sequence_where}
use Rattle.program_tables.specs.declared.roles.Role.{Role}
use Rattle.program_tables.specs.declared.roles.Role.TheVariants.{Written}
use Rattle.program_tables.specs.Marks.{named, names, marks_of}
use Rattle.program_tables.proofs.Naming.{IsFirst, first_is, named_in, port_in}
use Rattle.program_tables.proofs.Lone.{names_is, names_are, test_of}

none_found : {X : Type 0} (test : X → Bool) (xs : List X) → list_any test xs ≡ false → position_or_len test xs ≡ length xs
none_found test [] e = refl
none_found test (x ∷ xs) e = by (test x) e (λ d. none_found test xs d)
  where
    by : (b : Bool) → (b || list_any test xs) ≡ false → (list_any test xs ≡ false → position_or_len test xs ≡ length xs) → cond (not b) (1 + position_or_len test xs) 0 ≡ length (x ∷ xs)
    by true e r = absurd cc
    by false e r = let z = r e in omega arith

module _ (p : Program) (role : Role) (n : ℕ) where
  abbrev has_one : SeqCode → Bool
  has_one q = list_any (test_of role n) q.turn

  same_where : sequence_where p (λ (q : SeqCode). list_any (names role n) q.turn) ≡ sequence_where p has_one
  same_where = λ i. sequence_where p (λ (q : SeqCode). list_any (names_are role n i) q.turn)

  same_at : position_or_len (names role n) (turn p (sequence_where p (λ (q : SeqCode). list_any (names role n) q.turn))) ≡ position_or_len (test_of role n) (turn p (sequence_where p has_one))
  same_at = λ i. position_or_len (names_are role n i) (turn p (sequence_where p (λ (q : SeqCode). list_any (names_are role n i) q.turn)))

  first : (m : Mark) (ms : List Mark) → marks_of p role n ≡ m ∷ ms → (m.sequence ≡ sequence_where p has_one) × (m.at ≡ position_or_len (test_of role n) (turn p (sequence_where p has_one)))
      × (m.port ≡ port_in role n (turn p (sequence_where p has_one)))
  first m ms e =
      let P : List Mark → Type 0 = λ xs. IsFirst xs (list_any (λ (q : SeqCode). list_any (names role n) q.turn) p.seqs) (sequence_where p (λ (q : SeqCode). list_any (names role n) q.turn))
      (position_or_len (names role n) (turn p (sequence_where p (λ (q : SeqCode). list_any (names role n) q.turn))))
      (port_in role n (turn p (sequence_where p (λ (q : SeqCode). list_any (names role n) q.turn)))) in
      let f = subst P e (first_is role n p) in
      (f.1 ∙ same_where, f.2 ∙ same_at, f.3 ∙ ap (λ (s : ℕ). port_in role n (turn p s)) same_where)

  none_where : marks_of p role n ≡ [] → sequence_where p has_one ≡ length p.seqs
  none_where e =
      let P : List Mark → Type 0 = λ xs. IsFirst xs (list_any (λ (q : SeqCode). list_any (names role n) q.turn) p.seqs) (sequence_where p (λ (q : SeqCode). list_any (names role n) q.turn))
      (position_or_len (names role n) (turn p (sequence_where p (λ (q : SeqCode). list_any (names role n) q.turn))))
      (port_in role n (turn p (sequence_where p (λ (q : SeqCode). list_any (names role n) q.turn)))) in
      let f = subst P e (first_is role n p) in
      sym same_where ∙ none_found (λ (q : SeqCode). list_any (names role n) q.turn) p.seqs f

  past : turn p (length p.seqs) ≡ []
  past = ap turn_of (slice_get_past p.seqs (length p.seqs) (omega arith))

  starts : (ms : List Mark) (m : Mark) → Some m ≡ slice_get ms 0 → (xs : List Mark) × (ms ≡ m ∷ xs)
  starts [] m e = absurd cc
  starts (x ∷ xs) m e = (xs, ap (λ (y : Mark). y ∷ xs) (sym (same_Some m x e)))

  empty : (ms : List Mark) → None ≡ slice_get ms 0 → ms ≡ []
  empty [] e = refl
  empty (x ∷ xs) e = absurd cc

  -- where it is found
  pub sequence_is : (ms : List Mark) (m : Mark) → ms ≡ marks_of p role n → Some m ≡ slice_get ms 0 → m.sequence ≡ sequence_where p has_one
  sequence_is ms m e f = let s = starts ms m f in (first m s.0 (sym e ∙ s.1)).0

  pub at_is : (ms : List Mark) (m : Mark) → ms ≡ marks_of p role n → Some m ≡ slice_get ms 0 → m.at ≡ position_or_len (test_of role n) (turn p (sequence_where p has_one))
  at_is ms m e f = let s = starts ms m f in (first m s.0 (sym e ∙ s.1)).1

  pub port_is : (ms : List Mark) (m : Mark) → ms ≡ marks_of p role n → Some m ≡ slice_get ms 0 → m.port ≡ port_in role n (turn p (sequence_where p has_one))
  port_is ms m e f = let s = starts ms m f in (first m s.0 (sym e ∙ s.1)).2

  -- where it is not
  pub no_sequence : (ms : List Mark) → ms ≡ marks_of p role n → None ≡ slice_get ms 0 → length p.seqs ≡ sequence_where p has_one
  no_sequence ms e f = sym (none_where (sym e ∙ empty ms f))

  past_is : (ms : List Mark) → ms ≡ marks_of p role n → None ≡ slice_get ms 0 → turn p (sequence_where p has_one) ≡ []
  past_is ms e f = ap (turn p) (sym (no_sequence ms e f)) ∙ past

  pub no_at : (ms : List Mark) → ms ≡ marks_of p role n → None ≡ slice_get ms 0 → 0 ≡ position_or_len (test_of role n) (turn p (sequence_where p has_one))
  no_at ms e f = ap (λ (xs : List Instr). position_or_len (test_of role n) xs) (sym (past_is ms e f))

  pub no_port : (ms : List Mark) → ms ≡ marks_of p role n → None ≡ slice_get ms 0 → 0 ≡ port_in role n (turn p (sequence_where p has_one))
  no_port ms e f = ap (λ (xs : List Instr). port_in role n xs) (sym (past_is ms e f))

-- as which output the first write of a buffer writes it
module _ (b : ℕ) where
  written_port : (xs : List Instr)
      → position_or_len (λ c. nat_eq c b) (named_in Written (slice_get xs (position_or_len (names Written b) xs)))
      ≡ output_at b (slice_get xs (position_or_len (names Written b) xs))
  written_port [] = refl
  written_port (x ∷ xs) = by (names Written b x) refl (written_port xs)
    where
      here : (x : Instr) → names Written b x ≡ true → position_or_len (λ c. nat_eq c b) (named Written x) ≡ output_at b (Some x)
      here (Call v ins outs) e = refl
      here (Recv c q) e = let t : nat_eq c b ≡ true = sym (names_is Written b (Recv c q)) ∙ e in ap (λ (u : Bool). cond (not u) (1 + 0) 0) t
      here (Suc0 q) e = absurd (false≢true e)
      here (Suc1 q) e = absurd (false≢true e)
      here (Pre0 q) e = absurd (false≢true e)
      here (Pre1 q) e = absurd (false≢true e)
      here (Send c q) e = absurd (false≢true e)
      here (Sync c q) e = absurd (false≢true e)

      by : (t : Bool) → names Written b x ≡ t
          → position_or_len (λ c. nat_eq c b) (named_in Written (slice_get xs (position_or_len (names Written b) xs)))
          ≡ output_at b (slice_get xs (position_or_len (names Written b) xs))
          → position_or_len (λ c. nat_eq c b)
          (named_in Written (slice_get (x ∷ xs) (cond (not t) (1 + position_or_len (names Written b) xs) 0)))
          ≡ output_at b (slice_get (x ∷ xs) (cond (not t) (1 + position_or_len (names Written b) xs) 0))
      by true e r = here x e
      by false e r =
          let one : 1 + position_or_len (names Written b) xs ≡ suc (position_or_len (names Written b) xs) = omega arith in
          ap (λ (i : ℕ). position_or_len (λ c. nat_eq c b) (named_in Written (slice_get (x ∷ xs) i))) one ∙ r ∙ ap (λ (i : ℕ). output_at b (slice_get (x ∷ xs) i)) (sym one)

  pub output_is : (xs : List Instr) → port_in Written b xs ≡ output_at b (slice_get xs (position_or_len (writes b) xs))
  output_is xs = written_port xs ∙ (λ i. output_at b (slice_get xs (position_or_len (names_are Written b i) xs)))
