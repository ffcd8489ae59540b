-- The places that name a number, as instructions of the program.
use Rattle.std.proofs.Common.{◌≡◌, ℕ, zero, suc, ◌+◌, ◌≤◌, ◌⊎◌, Bool, true, false, ◌&&◌, not, nat_eq, List, [], ◌∷◌, refl, sym, ap, subst, inl, inr, eq-eqb, ◌∙◌}
use Rattle.std.specs.Prelude.{Option, Some, None, slice_get}
use Rattle.std.specs.Cmp.Derive.{both_true}
use Rattle.std.specs.List.{list_all}
use Rattle.std.proofs.lemmas.Bool.{and_parts, false≢true, eqb-true}
use Rattle.std.proofs.lemmas.Option.{same_Some}
use Rattle.sequence_build_laws.specs.declared.Instr.{Instr}
use Rattle.sequence_build_laws.specs.declared.Instr.TheVariants.{Suc0, Suc1, Pre0, Pre1, Call, Send, Recv, Sync}
use Rattle.sequence_build_laws.specs.declared.Program.{Program}
use Rattle.sequence_build_laws.specs.Instructions.{turn}
use Rattle.sequence_build_laws.specs.WellFormed.{ReadsAt, Stands, WritesAt}
use Rattle.program_walks.specs.Walks.{all_at, every, implies, names as names_it}
use Rattle.program_walks.proofs.ListTests.{all_here, every_of, from_zero, implied, implying, of_every, to_zero}
use Rattle.program_walks.proofs.Readings.{entry_is, is_entry}
use Rattle.program_tables.specs.declared.mark_table.Mark.{Mark}
use Rattle.program_tables.specs.declared.roles.Role.{Role}
use Rattle.program_tables.specs.declared.roles.Role.TheVariants.{Called, Read, Written}
use Rattle.program_tables.specs.Marks.{marks_of, named}
use Rattle.program_tables.proofs.Lone.{stands_are, test_of}
use Rattle.program_tables.proofs.Naming.{all_marks, named_in}
use Rattle.check_places.specs.First.{first_failing}
use Rattle.check_places.specs.Wrong.{Calls, IsEarlier, Reads, WritesAs}
use Rattle.check_places.proofs.Places.{all_pass, failing}
use Rattle.check_places.proofs.Rising.{IsFrom, Rising, each_after, not_earlier, not_lower, passed_or_later, rising}

pub not_false : (t : Bool) → not t ≡ false → t ≡ true
not_false true e = refl
not_false false e = absurd cc

module _ (p : Program) (role : Role) (n : ℕ) where
  -- where no place names the number, no instruction does
  pub none_named : marks_of p role n ≡ [] → (s a : ℕ) (x : Instr) → Stands p s a x → test_of role n x ≡ true → ⊥
  none_named e s a x i h =
      let all : every p (λ s a x. implies (test_of role n x) false) ≡ true =
      sym (sym (ap (list_all (λ (m : Mark). false)) e) ∙ stands_are (λ s a. false) n p role) in
      false≢true (implied (test_of role n x) false (every_of p (λ s a x. implies (test_of role n x) false) all s a x i) h)

  -- the number that instruction a of s names as its k-th in this role
  abbrev names_at : ℕ → ℕ → ℕ → Bool
  names_at s a k = names_it (slice_get (named_in role (slice_get (turn p s) a)) k) n

  all_name : list_all (λ (m : Mark). names_at m.sequence m.at m.port) (marks_of p role n) ≡ true
  all_name =
      all_marks names_at n p role
      ∙ of_every p (λ s a x. all_at (λ j c. implies (nat_eq c n) (names_at s a j)) 0 (named role x)) (λ s a x e.
      to_zero (λ j c. implies (nat_eq c n) (names_at s a j)) (named role x) (λ j c h.
      implying (nat_eq c n) (names_at s a j) (λ t.
      is_entry (slice_get (named_in role (slice_get (turn p s) a)) j) n
      (ap (λ (o : Option Instr). slice_get (named_in role o) j) e ∙ (h ∙ ap (λ (k : ℕ). Some k) (eqb-true c n t))))))

  -- the instruction of a place
  pub record Names (s a k : ℕ) : Type 0 where
    pub instr : Instr
    pub stands : Stands p s a instr
    pub names : slice_get (named role instr) k ≡ Some n

  pub names_of : (i : ℕ) (m : Mark) → slice_get (marks_of p role n) i ≡ Some m → Names m.sequence m.at m.port
  names_of i m e =
      by (slice_get (turn p m.sequence) m.at) refl (all_here (λ (m : Mark). names_at m.sequence m.at m.port) (marks_of p role n) all_name i m e)
    where
      by : (o : Option Instr) → slice_get (turn p m.sequence) m.at ≡ o → names_it (slice_get (named_in role o) m.port) n ≡ true → Names m.sequence m.at m.port
      by None f h = absurd (false≢true h)
      by (Some x) f h = record { instr = x; stands = f; names = entry_is (slice_get (named role x) m.port) n h }

  pub names_in : (ms : List Mark) → marks_of p role n ≡ ms → (i : ℕ) (m : Mark) → slice_get ms i ≡ Some m → Names m.sequence m.at m.port
  names_in ms e i m h = names_of i m (ap (λ (us : List Mark). slice_get us i) e ∙ h)

  -- an instruction that names the number has a place
  pub record Has (s a k : ℕ) : Type 0 where
    pub at : ℕ
    pub place : Mark
    pub there : slice_get (marks_of p role n) at ≡ Some place
    pub sequence : place.sequence ≡ s
    pub instr : place.at ≡ a
    pub port : place.port ≡ k

  abbrev is_other : ℕ → ℕ → ℕ → ℕ → ℕ → ℕ → Bool
  is_other s a k t c j = not (nat_eq t s && nat_eq c a && nat_eq j k)

  pub has : (s a k : ℕ) → Names s a k → Has s a k
  has s a k r = by (first_failing (λ (m : Mark). is_other s a k m.sequence m.at m.port) (marks_of p role n)) refl
    where
      same : (nat_eq s s && nat_eq a a && nat_eq k k) ≡ true
      same = both_true (both_true (eq-eqb s s refl) (eq-eqb a a refl)) (eq-eqb k k refl)

      by : (o : Option Mark) → first_failing (λ (m : Mark). is_other s a k m.sequence m.at m.port) (marks_of p role n) ≡ o → Has s a k
      by None e =
          let all : every p (λ t c x. all_at (λ j d. implies (nat_eq d n) (is_other s a k t c j)) 0 (named role x)) ≡ true =
          sym (all_marks (is_other s a k) n p role) ∙ all_pass (λ (m : Mark). is_other s a k m.sequence m.at m.port) (marks_of p role n) e in
          let here = from_zero (λ j d. implies (nat_eq d n) (is_other s a k s a j)) (named role r.instr)
          (every_of p (λ t c x. all_at (λ j d. implies (nat_eq d n) (is_other s a k t c j)) 0 (named role x)) all s a r.instr r.stands) k n r.names in
          absurd (false≢true (sym (ap not same) ∙ implied (nat_eq n n) (is_other s a k s a k) here (eq-eqb n n refl)))
      by (Some m) e =
          let f = failing (λ (m : Mark). is_other s a k m.sequence m.at m.port) (marks_of p role n) m e in
          let whole = and_parts (nat_eq m.sequence s && nat_eq m.at a) (nat_eq m.port k) (not_false _ f.fails) in
          let parts = and_parts (nat_eq m.sequence s) (nat_eq m.at a) whole.0 in
          record {
            at = f.at;
            place = m;
            there = f.there;
            sequence = eqb-true m.sequence s parts.0;
            instr = eqb-true m.at a parts.1;
            port = eqb-true m.port k whole.1;
          }

  -- a later place is in a later sequence, at a later instruction, or a later number of the same one
  pub later : (m u : Mark) (ms : List Mark) → marks_of p role n ≡ m ∷ ms → (i : ℕ) → slice_get ms i ≡ Some u → IsFrom m.sequence m.at (m.port + 1) u
  later m u ms e i h =
      let up : Rising 0 0 0 (m ∷ ms) = subst (λ (us : List Mark). Rising 0 0 0 us) e (rising p role n) in
      each_after m.sequence m.at (m.port + 1) ms up.1 i u h

  -- a number whose first place is m
  module _ (m : Mark) (ms : List Mark) (e : marks_of p role n ≡ m ∷ ms) where
    -- the place of an instruction that names it is the first, or one of the others
    pub record Found (s a k : ℕ) : Type 0 where
      pub place : Mark
      pub is : (m ≡ place) ⊎ ((i : ℕ) × (slice_get ms i ≡ Some place))
      pub sequence : place.sequence ≡ s
      pub instr : place.at ≡ a
      pub port : place.port ≡ k

    listed_in : (u : Mark) (i : ℕ) → slice_get (m ∷ ms) i ≡ Some u → (m ≡ u) ⊎ ((j : ℕ) × (slice_get ms j ≡ Some u))
    listed_in u zero f = inl (same_Some m u f)
    listed_in u (suc i) f = inr (i, f)

    pub found : (s a k : ℕ) → Names s a k → Found s a k
    found s a k r =
        let h = has s a k r in
        record {
          place = h.place;
          is = listed_in h.place h.at (sym (ap (λ (us : List Mark). slice_get us h.at) e) ∙ h.there);
          sequence = h.sequence;
          instr = h.instr;
          port = h.port;
        }

    -- before the first of the others that fails, the others pass
    pub passes_before : (test : Mark → Bool) (u : Mark) → first_failing test ms ≡ Some u → (s a k : ℕ) (r : Found s a k) → IsEarlier s a u.sequence u.at
        → (m ≡ r.place) ⊎ (test r.place ≡ true)
    passes_before test u h s a k r l = elim r.is [
      | inl same ↦ inl same
      | inr (i, f) ↦ (
          let up : Rising 0 0 0 (m ∷ ms) = subst (λ (us : List Mark). Rising 0 0 0 us) e (rising p role n) in
          elim (passed_or_later test m.sequence m.at (m.port + 1) ms u up.1 h i r.place f) [
            | inl t ↦ inr t
            | inr later ↦ absurd (not_earlier u r.place u.port later
                (subst (λ (t : ℕ). IsEarlier t r.place.at u.sequence u.at) (sym r.sequence) (subst (λ (c : ℕ). IsEarlier s c u.sequence u.at) (sym r.instr) l)))
          ])
    ]

-- what is named, by role
calls_it : (v k : ℕ) (x : Instr) → slice_get (named Called x) k ≡ Some v → (ins : List ℕ) × (outs : List ℕ) × (x ≡ Call v ins outs)
calls_it v zero (Call u ins outs) e = (ins, outs, ap (λ (w : ℕ). Call w ins outs) (same_Some u v e))
calls_it v (suc k) (Call u ins outs) e = absurd cc
calls_it v k (Suc0 q) e = absurd cc
calls_it v k (Suc1 q) e = absurd cc
calls_it v k (Pre0 q) e = absurd cc
calls_it v k (Pre1 q) e = absurd cc
calls_it v k (Send b o) e = absurd cc
calls_it v k (Recv b o) e = absurd cc
calls_it v k (Sync o q) e = absurd cc

writes_it : (b k : ℕ) (x : Instr) → slice_get (named Written x) k ≡ Some b → WritesAt x k b
writes_it b k (Call u ins outs) e = e
writes_it b zero (Recv c o) e = (same_Some c b e, refl)
writes_it b (suc k) (Recv c o) e = absurd cc
writes_it b k (Suc0 q) e = absurd cc
writes_it b k (Suc1 q) e = absurd cc
writes_it b k (Pre0 q) e = absurd cc
writes_it b k (Pre1 q) e = absurd cc
writes_it b k (Send c o) e = absurd cc
writes_it b k (Sync o q) e = absurd cc

it_writes : (b k : ℕ) (x : Instr) → WritesAt x k b → slice_get (named Written x) k ≡ Some b
it_writes b k (Call u ins outs) h = h
it_writes b k (Recv c o) h = ap (slice_get (c ∷ [])) h.1 ∙ ap (λ (d : ℕ). Some d) h.0
it_writes b k _ h = absurd h

it_reads : (b k : ℕ) (x : Instr) → ReadsAt x k b → slice_get (named Read x) k ≡ Some b
it_reads b k (Call u ins outs) h = h
it_reads b k (Send c o) h = ap (slice_get (c ∷ [])) h.1 ∙ ap (λ (d : ℕ). Some d) h.0
it_reads b k _ h = absurd h

reads_it : (b k : ℕ) (x : Instr) → slice_get (named Read x) k ≡ Some b → ReadsAt x k b
reads_it b k (Call u ins outs) e = e
reads_it b zero (Send c o) e = (same_Some c b e, refl)
reads_it b (suc k) (Send c o) e = absurd cc
reads_it b k (Suc0 q) e = absurd cc
reads_it b k (Suc1 q) e = absurd cc
reads_it b k (Pre0 q) e = absurd cc
reads_it b k (Pre1 q) e = absurd cc
reads_it b k (Recv c o) e = absurd cc
reads_it b k (Sync o q) e = absurd cc

module _ (p : Program) where
  pub calls_there : (v s a k : ℕ) → Names p Called v s a k → Calls p v s a
  calls_there v s a k r =
      let c = calls_it v k r.instr r.names in
      (c.0, c.1, r.stands ∙ ap (λ (x : Instr). Some x) c.2)

  pub writes_there : (b s a k : ℕ) → Names p Written b s a k → WritesAs p b s a k
  writes_there b s a k r = (r.instr, r.stands, writes_it b k r.instr r.names)

  -- and back
  pub there_calls : (v s a : ℕ) → Calls p v s a → Names p Called v s a 0
  there_calls v s a c = record { instr = Call v c.0 c.1; stands = c.2; names = refl }

  pub there_writes : (b s a k : ℕ) → WritesAs p b s a k → Names p Written b s a k
  there_writes b s a k w = record { instr = w.0; stands = w.1; names = it_writes b k w.0 w.2 }

  pub there_reads : (b s a : ℕ) (r : Reads p b s a) → Names p Read b s a r.0
  there_reads b s a r = record { instr = r.1; stands = r.2; names = it_reads b r.0 r.1 r.3 }

  pub reads_there : (b s a k : ℕ) → Names p Read b s a k → Reads p b s a
  reads_there b s a k r = (k, r.instr, r.stands, reads_it b k r.instr r.names)

  -- the first place of a sequence that reads a buffer, and all others of it
  pub record FirstRead (b s : ℕ) (m : Mark) : Type 0 where
    pub here : m.sequence ≡ s
    pub reads : Reads p b s m.at
    pub least : (c : ℕ) → Reads p b s c → m.at ≤ c

  pub first_read : (b s : ℕ) (m : Mark) → first_failing (λ (u : Mark). not (nat_eq u.sequence s)) (marks_of p Read b) ≡ Some m → FirstRead b s m
  first_read b s m e =
      let f = failing (λ (u : Mark). not (nat_eq u.sequence s)) (marks_of p Read b) m e in
      let same : m.sequence ≡ s = eqb-true m.sequence s (not_false (nat_eq m.sequence s) f.fails) in
      record {
        here = same;
        reads = subst (λ (t : ℕ). Reads p b t m.at) same (reads_there b m.sequence m.at m.port (names_of p Read b f.at m f.there));
        least = λ c r.
            let h = has p Read b s c r.0 (there_reads b s c r) in
            subst (λ (k : ℕ). m.at ≤ k) h.instr
            (elim (passed_or_later (λ (u : Mark). not (nat_eq u.sequence s)) 0 0 0 (marks_of p Read b) m (rising p Read b) e h.at h.place h.there) [
              | inl t ↦ absurd (false≢true (sym (ap not (eq-eqb h.place.sequence s h.sequence)) ∙ t))
              | inr l ↦ not_lower m h.place m.port l (h.sequence ∙ sym same)
            ]);
      }

  -- some place is found where the sequence reads the buffer
  pub read_found : (b s : ℕ) → first_failing (λ (u : Mark). not (nat_eq u.sequence s)) (marks_of p Read b) ≡ None → (c : ℕ) → Reads p b s c → ⊥
  read_found b s e c r =
      let h = has p Read b s c r.0 (there_reads b s c r) in
      let other = all_here (λ (u : Mark). not (nat_eq u.sequence s)) (marks_of p Read b) (all_pass (λ (u : Mark). not (nat_eq u.sequence s)) (marks_of p Read b) e) h.at h.place h.there in
      false≢true (sym (ap not (eq-eqb h.place.sequence s h.sequence)) ∙ other)
