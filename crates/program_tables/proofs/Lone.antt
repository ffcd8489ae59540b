-- The tests that speak of whole programs, as tests of the places that name a number.
use Rattle.std.proofs.Common.{◌≡◌, ℕ, Bool, true, false, ◌&&◌, ◌||◌, nat_eq, List, [], ◌∷◌, Option, Some, None, refl, sym, ap, subst, ◌∙◌}
use Rattle.std.specs.Prelude.{slice_get}
use Rattle.std.specs.List.{list_all, list_any, position_or_len}
use Rattle.std.specs.Cmp.Derive.{both_true}
use Rattle.std.proofs.lemmas.Bool.{false≢true, and_parts, eqb-true}
use Rattle.program_tables.specs.declared.mark_table.Mark.{Mark}
use Rattle.executive_program.specs.declared.program.Instr.{Instr}
use Rattle.executive_program.specs.declared.program.Instr.TheVariants.{Suc0, Suc1, Pre0, Pre1, Call, Send, Recv, Sync}
use Rattle.executive_program.specs.declared.program.Program.{Program}
use Rattle.executive_program.specs.Instructions.{turn, reads, writes}
use Rattle.executive_program.specs.Places.{sequence_where, calls, signals_empty, signals_full, takes_empty, takes_full}
use Rattle.program_walks.specs.Acts.{is_only, passes}
use Rattle.program_walks.specs.Walks.{every, implies}
use Rattle.program_walks.proofs.ListTests.{every_of, of_every, implied, implying}
use Rattle.program_tables.specs.declared.roles.Role.{Role}
use Rattle.program_tables.specs.declared.roles.Role.TheVariants.{Called, Written, Read, EmptyTaken, FullSignalled, FullTaken, EmptySignalled}
use Rattle.program_tables.specs.Marks.{names, marks_of, lone, first_at}
use Rattle.program_tables.proofs.Naming.{all_stands, IsFirst, first_is, port_in}

-- The test of an instruction by which other definitions ask whether it names a number in this role.
abbrev pub test_of : Role → ℕ → Instr → Bool
test_of Called = calls
test_of Written = writes
test_of Read = reads
test_of EmptyTaken = takes_empty
test_of FullSignalled = signals_full
test_of FullTaken = takes_full
test_of EmptySignalled = signals_empty

-- two tests that are true together are one
pub same_tests : (a b : Bool) → (a ≡ true → b ≡ true) → (b ≡ true → a ≡ true) → a ≡ b
same_tests true b f g = sym (f refl)
same_tests false true f g = g refl
same_tests false false f g = refl

or_none : (b : Bool) → (b || false) ≡ b
or_none true = refl
or_none false = refl

pub names_is : (role : Role) (n : ℕ) (x : Instr) → names role n x ≡ test_of role n x
names_is Called n (Call v ins outs) = or_none (nat_eq v n)
names_is Called n (Suc0 q) = refl
names_is Called n (Suc1 q) = refl
names_is Called n (Pre0 q) = refl
names_is Called n (Pre1 q) = refl
names_is Called n (Send b q) = refl
names_is Called n (Recv b q) = refl
names_is Called n (Sync q r) = refl
names_is Written n (Call v ins outs) = refl
names_is Written n (Suc0 q) = refl
names_is Written n (Suc1 q) = refl
names_is Written n (Pre0 q) = refl
names_is Written n (Pre1 q) = refl
names_is Written n (Send b q) = refl
names_is Written n (Recv b q) = or_none (nat_eq b n)
names_is Written n (Sync q r) = refl
names_is Read n (Call v ins outs) = refl
names_is Read n (Suc0 q) = refl
names_is Read n (Suc1 q) = refl
names_is Read n (Pre0 q) = refl
names_is Read n (Pre1 q) = refl
names_is Read n (Send b q) = or_none (nat_eq b n)
names_is Read n (Recv b q) = refl
names_is Read n (Sync q r) = refl
names_is EmptyTaken n (Suc0 q) = or_none (nat_eq q n)
names_is EmptyTaken n (Call v ins outs) = refl
names_is EmptyTaken n (Suc1 q) = refl
names_is EmptyTaken n (Pre0 q) = refl
names_is EmptyTaken n (Pre1 q) = refl
names_is EmptyTaken n (Send b q) = refl
names_is EmptyTaken n (Recv b q) = refl
names_is EmptyTaken n (Sync q r) = refl
names_is FullSignalled n (Pre1 q) = or_none (nat_eq q n)
names_is FullSignalled n (Call v ins outs) = refl
names_is FullSignalled n (Suc0 q) = refl
names_is FullSignalled n (Suc1 q) = refl
names_is FullSignalled n (Pre0 q) = refl
names_is FullSignalled n (Send b q) = refl
names_is FullSignalled n (Recv b q) = refl
names_is FullSignalled n (Sync q r) = refl
names_is FullTaken n (Suc1 q) = or_none (nat_eq q n)
names_is FullTaken n (Call v ins outs) = refl
names_is FullTaken n (Suc0 q) = refl
names_is FullTaken n (Pre0 q) = refl
names_is FullTaken n (Pre1 q) = refl
names_is FullTaken n (Send b q) = refl
names_is FullTaken n (Recv b q) = refl
names_is FullTaken n (Sync q r) = refl
names_is EmptySignalled n (Pre0 q) = or_none (nat_eq q n)
names_is EmptySignalled n (Call v ins outs) = refl
names_is EmptySignalled n (Suc0 q) = refl
names_is EmptySignalled n (Suc1 q) = refl
names_is EmptySignalled n (Pre1 q) = refl
names_is EmptySignalled n (Send b q) = refl
names_is EmptySignalled n (Recv b q) = refl
names_is EmptySignalled n (Sync q r) = refl

pub names_are : (role : Role) (n : ℕ) → names role n ≡ test_of role n
names_are role n = λ i x. names_is role n x i

-- a test at each place of such an instruction
pub stands_are : (f : ℕ → ℕ → Bool) (n : ℕ) (p : Program) (role : Role) → list_all (λ (m : Mark). f m.sequence m.at) (marks_of p role n) ≡ every p (λ s a x. implies (test_of role n x) (f s a))
stands_are f n p role = all_stands f n p role ∙ ap (every p) (λ i s a x. implies (names_is role n x i) (f s a))

module _ (p : Program) (role : Role) (n : ℕ) where
  abbrev here : ℕ → ℕ → Mark → Bool
  here s a u = nat_eq u.sequence s && nat_eq u.at a

  -- such an instruction stands at each place
  stands : list_all (λ (m : Mark). passes (test_of role n) (slice_get (turn p m.sequence) m.at)) (marks_of p role n) ≡ true
  stands = stands_are (λ s a. passes (test_of role n) (slice_get (turn p s) a)) n p role
      ∙ of_every p (λ s a x. implies (test_of role n x) (passes (test_of role n) (slice_get (turn p s) a)))
      (λ s a x e. implying (test_of role n x) (passes (test_of role n) (slice_get (turn p s) a)) (λ h. ap (passes (test_of role n)) e ∙ h))

  abbrev first_place : ℕ → ℕ
  first_place s = position_or_len (test_of role n) (turn p s)

  first_of : (ms : List Mark) (s : ℕ) → marks_of p role n ≡ ms → lone s ms ≡ true → first_at ms ≡ first_place s
  first_of [] s e h = absurd (false≢true h)
  first_of (m ∷ ms) s e h =
      let f : IsFirst (m ∷ ms) (list_any (λ q. list_any (names role n) q.turn) p.seqs)
      (sequence_where p (λ q. list_any (names role n) q.turn))
      (position_or_len (names role n) (turn p (sequence_where p (λ q. list_any (names role n) q.turn))))
      (port_in role n (turn p (sequence_where p (λ q. list_any (names role n) q.turn)))) =
      (let P : List Mark → Type 0 = λ ms. IsFirst ms (list_any (λ q. list_any (names role n) q.turn) p.seqs)
      (sequence_where p (λ q. list_any (names role n) q.turn))
      (position_or_len (names role n) (turn p (sequence_where p (λ q. list_any (names role n) q.turn))))
      (port_in role n (turn p (sequence_where p (λ q. list_any (names role n) q.turn)))) in subst P e (first_is role n p)) in
      let at_s = (and_parts (nat_eq m.sequence s) (nat_eq m.at m.at) (and_parts (here s m.at m) (list_all (here s m.at) ms) h).0).0 in
      f.2 ∙ ap (λ (t : ℕ). position_or_len (names role n) (turn p t)) (sym f.1 ∙ eqb-true m.sequence s at_s) ∙ ap (λ (t : Instr → Bool). position_or_len t (turn p s)) (names_are role n)

  pub lone_at : (s : ℕ) → lone s (marks_of p role n) ≡ true → first_at (marks_of p role n) ≡ first_place s
  lone_at s h = first_of (marks_of p role n) s refl h

  to_only : (ms : List Mark) (s : ℕ) → marks_of p role n ≡ ms → lone s ms ≡ true → is_only p (test_of role n) s (first_at ms) ≡ true
  to_only [] s e h = absurd (false≢true h)
  to_only (m ∷ ms) s e h =
      let at_s = (and_parts (nat_eq m.sequence s) (nat_eq m.at m.at) (and_parts (here s m.at m) (list_all (here s m.at) ms) h).0).0 in
      let one = and_parts (passes (test_of role n) (slice_get (turn p m.sequence) m.at))
      (list_all (λ (m : Mark). passes (test_of role n) (slice_get (turn p m.sequence) m.at)) ms)
      (ap (list_all (λ (m : Mark). passes (test_of role n) (slice_get (turn p m.sequence) m.at))) (sym e) ∙ stands) in
      both_true (ap (λ (t : ℕ). passes (test_of role n) (slice_get (turn p t) m.at)) (sym (eqb-true m.sequence s at_s)) ∙ one.0)
      (sym (stands_are (λ t b. nat_eq t s && nat_eq b m.at) n p role) ∙ ap (list_all (here s m.at)) e ∙ h)

  to_lone : (ms : List Mark) (s a : ℕ) → marks_of p role n ≡ ms → is_only p (test_of role n) s a ≡ true → lone s ms ≡ true
  to_lone ms s a e h = by ms e (ap (list_all (here s a)) (sym e) ∙ stands_are (λ t b. nat_eq t s && nat_eq b a) n p role ∙ parts.1)
    where
      parts : (passes (test_of role n) (slice_get (turn p s) a) ≡ true) × (every p (λ t b y. implies (test_of role n y) (nat_eq t s && nat_eq b a)) ≡ true)
      parts = and_parts (passes (test_of role n) (slice_get (turn p s) a)) (every p (λ t b y. implies (test_of role n y) (nat_eq t s && nat_eq b a))) h

      some : (o : Option Instr) → slice_get (turn p s) a ≡ o → passes (test_of role n) o ≡ true → every p (λ t b y. implies (test_of role n y) false) ≡ true → ⊥
      some None q k l = false≢true k
      some (Some x) q k l = false≢true (implied (test_of role n x) false (every_of p (λ t b y. implies (test_of role n y) false) l s a x q) k)

      by : (ms : List Mark) → marks_of p role n ≡ ms → list_all (here s a) ms ≡ true → lone s ms ≡ true
      by [] q l = absurd (some (slice_get (turn p s) a) refl parts.0 (sym (stands_are (λ t b. false) n p role) ∙ ap (list_all (λ (m : Mark). false)) q))
      by (m ∷ ms) q l =
          let first = and_parts (nat_eq m.sequence s) (nat_eq m.at a) (and_parts (here s a m) (list_all (here s a) ms) l).0 in
          ap (λ (b : ℕ). list_all (here s b) (m ∷ ms)) (eqb-true m.at a first.1) ∙ l

  pub lone_is : (s : ℕ) → lone s (marks_of p role n) ≡ is_only p (test_of role n) s (first_place s)
  lone_is s = same_tests (lone s (marks_of p role n)) (is_only p (test_of role n) s (first_place s))
      (λ h. ap (is_only p (test_of role n) s) (sym (lone_at s h)) ∙ to_only (marks_of p role n) s refl h)
      (λ h. to_lone (marks_of p role n) s (first_place s) refl h)

  -- where one instruction alone is such, the first place is its place
  pub record FirstIs (s a : ℕ) : Type 0 where
    pub first : Mark
    pub others : List Mark
    pub is : marks_of p role n ≡ first ∷ others
    pub sequence : first.sequence ≡ s
    pub at : first.at ≡ a

  pub only_first : (s a : ℕ) → is_only p (test_of role n) s a ≡ true → FirstIs s a
  only_first s a h = by (marks_of p role n) refl (ap (list_all (here s a)) refl ∙ stands_are (λ t b. nat_eq t s && nat_eq b a) n p role ∙ parts.1) (to_lone (marks_of p role n) s a refl h)
    where
      parts : (passes (test_of role n) (slice_get (turn p s) a) ≡ true) × (every p (λ t b y. implies (test_of role n y) (nat_eq t s && nat_eq b a)) ≡ true)
      parts = and_parts (passes (test_of role n) (slice_get (turn p s) a)) (every p (λ t b y. implies (test_of role n y) (nat_eq t s && nat_eq b a))) h

      by : (ms : List Mark) → marks_of p role n ≡ ms → list_all (here s a) (marks_of p role n) ≡ true → lone s (marks_of p role n) ≡ true → FirstIs s a
      by [] e l k = absurd (false≢true (ap (lone s) (sym e) ∙ k))
      by (m ∷ ms) e l k =
          let one = and_parts (nat_eq m.sequence s) (nat_eq m.at a) (and_parts (here s a m) (list_all (here s a) ms) (ap (list_all (here s a)) (sym e) ∙ l)).0 in
          record { first = m; others = ms; is = e; sequence = eqb-true m.sequence s one.0; at = eqb-true m.at a one.1 }
