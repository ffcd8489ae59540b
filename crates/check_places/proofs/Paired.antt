-- The pair of a reader: what is wrong where a test of it fails, and that it is right where none does.
use Rattle.std.proofs.Common.{◌≡◌, ℕ, ◌<◌, ◌≤◌, Bool, true, false, ◌&&◌, not, nat_eq, ◌∷◌, length, map, refl, sym, ap, subst, arith, eq-eqb, zero-add, ◌∙◌}
use Rattle.std.specs.Prelude.{Option, Some, None, nat_lt, option_map, slice_get}
use Rattle.std.specs.List.{list_all, list_any}
use Rattle.std.specs.Cmp.Derive.{both_true}
use Rattle.std.proofs.lemmas.Bool.{and_parts, eqb-true, false≢true, lt-ltb, ltb-false, ltb-true}
use Rattle.std.proofs.lemmas.Option.{slice_get-map}
use Rattle.sequence_build_laws.specs.Graph.{Graph}
use Rattle.sequence_build_laws.specs.declared.Instr.TheVariants.{Suc0, Suc1, Pre0, Pre1}
use Rattle.sequence_build_laws.specs.declared.Program.{Program}
use Rattle.sequence_build_laws.specs.declared.SeqCode.{SeqCode}
use Rattle.sequence_build_laws.specs.Instructions.{Reader, reads, readers, readers_from, turn, turn_of, writes}
use Rattle.sequence_build_laws.specs.Places.{reader, reader_or, signals_empty, signals_full, takes_empty, takes_full, writer_of, writing, written_at}
use Rattle.sequence_build_laws.specs.WellFormed.{operator_of}
use Rattle.sequence_build_laws.proofs.Passing.{empty_signalled, empty_taken, full_signalled, full_taken}
use Rattle.sequence_build_laws.proofs.Reading.{any_of, from_readers, reads_of}
use Rattle.sequence_build_laws.proofs.Guards.{in_blocks}
use Rattle.program_walks.specs.Acts.{is_only, passes}
use Rattle.program_walks.specs.Pairs.{has_operator, is_read_between, is_written_between}
use Rattle.program_walks.specs.Walks.{every, implies}
use Rattle.program_walks.proofs.Guarded.{of_only, only_of, read_of, written_of}
use Rattle.program_walks.proofs.ListTests.{all_here, all_there, implied, implying}
use Rattle.program_walks.proofs.Readings.{same_numbers}
use Rattle.program_tables.specs.declared.mark_table.Mark.{Mark}
use Rattle.program_tables.specs.declared.roles.Role.{Role}
use Rattle.program_tables.specs.declared.roles.Role.TheVariants.{Read, EmptyTaken, FullSignalled, FullTaken, EmptySignalled}
use Rattle.program_tables.specs.Marks.{first_at, lone, marks_of}
use Rattle.program_tables.proofs.Lone.{lone_at, lone_is, only_first, stands_are, test_of}
use Rattle.check_laws.specs.Items.{AreWritten}
use Rattle.check_laws.specs.Tests.{guards}
use Rattle.check_places.specs.declared.place.Spot.{Spot}
use Rattle.check_places.specs.Ahead.{IsDeclared, IsEmptyTaken, IsFullSignalled, IsFullTaken, IsPaired}
use Rattle.check_places.specs.First.{first_failing}
use Rattle.check_places.specs.Pairs.{is_signalled_after, is_signalled_last, is_taken_before, is_taken_first, spot_in, spot_of}
use Rattle.check_places.specs.Shown.{IsInLoop}
use Rattle.check_places.specs.Wrong.{IsEmptyNotSignalled, IsEmptyNotTaken, IsFullNotSignalled, IsFullNotTaken, IsMissingPair, IsPairElsewhere, Reads, ReadsFirst, Writes}
use Rattle.check_places.proofs.Marked.{FirstRead, first_read, names_of, read_found, reads_there}
use Rattle.check_places.proofs.Places.{failing}
use Rattle.check_places.proofs.Telling.{some_at}

same_operator : (o n : Option ℕ) → has_operator o n ≡ true → (k : ℕ) × (o ≡ Some k) × (n ≡ Some k)
same_operator (Some a) (Some b) h = (a, refl, ap (λ (k : ℕ). Some k) (sym (eqb-true a b h)))
same_operator (Some a) None h = absurd (false≢true h)
same_operator None n h = absurd (false≢true h)

module _ (p : Program) where
  -- where one instruction alone does something with a semaphore, it is the only place of that
  lone_of : (role : Role) (n s c : ℕ) → is_only p (test_of role n) s c ≡ true → (lone s (marks_of p role n) ≡ true) × (first_at (marks_of p role n) ≡ c)
  lone_of role n s c h =
      let f = only_first p role n s c h in
      let parts = and_parts (passes (test_of role n) (slice_get (turn p s) c)) (every p (λ t b y. implies (test_of role n y) (nat_eq t s && nat_eq b c))) h in
      let all : list_all (λ (u : Mark). nat_eq u.sequence s && nat_eq u.at c) (marks_of p role n) ≡ true =
      stands_are (λ t b. nat_eq t s && nat_eq b c) n p role ∙ parts.1 in
      let one : list_all (λ (u : Mark). nat_eq u.sequence s && nat_eq u.at f.first.at) (f.first ∷ f.others) ≡ true =
      subst (λ (a : ℕ). list_all (λ (u : Mark). nat_eq u.sequence s && nat_eq u.at a) (f.first ∷ f.others) ≡ true) (sym f.at)
      (ap (list_all (λ (u : Mark). nat_eq u.sequence s && nat_eq u.at c)) (sym f.is) ∙ all) in
      (ap (lone s) f.is ∙ one, ap first_at f.is ∙ f.at)

  -- a pair that passes is right
  pub paired : (q : ℕ) (x : Reader) → slice_get (readers p) q ≡ Some x → guards p q x ≡ true → IsPaired p q
  paired q x there h =
      let r : x ≡ reader p q = sym (ap reader_or there) in
      let own : guards p q (reader p q) ≡ true = subst (λ (y : Reader). guards p q y ≡ true) r h in
      let b : ℕ = (reader p q).buffer in
      let read = and_parts _ (is_read_between p q b (reader p q).sequence) own in
      let written = and_parts (nat_lt q (length p.pairs) && has_operator (slice_get p.pairs q) (operator_of p b)) (is_written_between p q (writer_of p b) (written_at p b)) read.0 in
      let declared = and_parts (nat_lt q (length p.pairs)) (has_operator (slice_get p.pairs q) (operator_of p b)) written.0 in
      let k = same_operator (slice_get p.pairs q) (operator_of p b) declared.1 in
      let write = written_of p q (writer_of p b) (written_at p b) written.1 in
      let reads = read_of p q b (reader p q).sequence read.1 in
      let left : slice_get (map (λ (n : ℕ). Some n) p.pairs) q ≡ Some (Some k.0) = slice_get-map (λ (n : ℕ). Some n) p.pairs q ∙ ap (option_map (λ (n : ℕ). Some n)) k.1 in
      let right : slice_get (map (λ (y : Reader). operator_of p y.buffer) (readers p)) q ≡ Some (Some k.0) =
      slice_get-map (λ (y : Reader). operator_of p y.buffer) (readers p) q
      ∙ (ap (option_map (λ (y : Reader). operator_of p y.buffer)) there
      ∙ ap (λ (o : Option ℕ). Some o) (ap (λ (y : Reader). operator_of p y.buffer) r ∙ k.2)) in (
        left ∙ sym right,
        record {
          take_empty = write.0;
          signal_full = write.1;
          take_full = reads.0;
          signal_empty = reads.1;
          before_write = write.2;
          after_write = write.3;
          reads = reads.2;
        },
      )

  -- the only instruction at the first place of those that do it
  only_at : (role : Role) (n s : ℕ) → lone s (marks_of p role n) ≡ true → is_only p (test_of role n) s (first_at (marks_of p role n)) ≡ true
  only_at role n s h = subst (λ (c : ℕ). is_only p (test_of role n) s c ≡ true) (sym (lone_at p role n s h)) (sym (lone_is p role n s) ∙ h)

  pub taken_before : (q s a : ℕ) → is_taken_before s a (marks_of p EmptyTaken q) ≡ true → IsEmptyTaken p q s a
  taken_before q s a h =
      let r = and_parts (lone s (marks_of p EmptyTaken q)) (nat_lt (first_at (marks_of p EmptyTaken q)) a) h in
      (first_at (marks_of p EmptyTaken q), ltb-true _ _ r.1, only_of p (takes_empty q) (Suc0 q) (same_numbers q) (empty_taken q) s (first_at (marks_of p EmptyTaken q)) (only_at EmptyTaken q s r.0))

  pub signalled_after : (q s a : ℕ) → is_signalled_after s a (marks_of p FullSignalled q) ≡ true → IsFullSignalled p q s a
  signalled_after q s a h =
      let r = and_parts (lone s (marks_of p FullSignalled q)) (nat_lt a (first_at (marks_of p FullSignalled q))) h in (
        first_at (marks_of p FullSignalled q),
        ltb-true _ _ r.1,
        only_of p (signals_full q) (Pre1 q) (same_numbers q) (full_signalled q) s (first_at (marks_of p FullSignalled q)) (only_at FullSignalled q s r.0),
      )

  pub declared : (q : ℕ) (x : Reader) → has_operator (slice_get p.pairs q) (operator_of p x.buffer) ≡ true → IsDeclared p q x
  declared q x h = same_operator (slice_get p.pairs q) (operator_of p x.buffer) h

  -- a buffer and a sequence that need a pair: the buffer is there, and the sequence reads it
  record Needed (q : ℕ) (x : Reader) : Type 0 where
    below : x.buffer < length p.buffers
    at : ℕ
    reads : Reads p x.buffer x.sequence at

  needed : (q : ℕ) (x : Reader) → slice_get (readers p) q ≡ Some x → Needed q x
  needed q x e =
      let b = in_blocks (readers_from 0 p.seqs) (length p.buffers) q x e in
      let w = from_readers 0 p.seqs b.block b.at x b.stands in
      let parts = and_parts (list_any (reads b.block) w.code.turn) (not (list_any (writes b.block) w.code.turn)) w.waits in
      let i = any_of (reads b.block) w.code.turn parts.0 in
      let k = reads_of b.block i.1 i.3 in
      let here : Reads p b.block w.at i.0 = (k.0, i.1, ap (λ (o : Option SeqCode). slice_get (turn_of o) i.0) w.stands ∙ i.2, k.1) in
      record {
        below = subst (λ (y : Reader). y.buffer < length p.buffers) (sym w.is) b.within;
        at = i.0;
        reads = subst (λ (y : Reader). Reads p y.buffer y.sequence i.0) (sym w.is) (subst (λ (s : ℕ). Reads p b.block s i.0) (sym (zero-add w.at)) here);
      }

  module _ (q : ℕ) (x : Reader) (there : slice_get (readers p) q ≡ Some x) where
    abbrev is_elsewhere : Mark → Bool
    is_elsewhere m = not (nat_eq m.sequence x.sequence)

    -- the first place at which the reader reads the buffer
    pub record First : Type 0 where
      pub mark : Mark
      pub is : first_failing is_elsewhere (marks_of p Read x.buffer) ≡ Some mark

    pub first : First
    first = by (first_failing is_elsewhere (marks_of p Read x.buffer)) refl
      where
        by : (o : Option Mark) → first_failing is_elsewhere (marks_of p Read x.buffer) ≡ o → First
        by (Some m) e = record { mark = m; is = e }
        by None e = absurd (read_found p x.buffer x.sequence e (needed q x there).at (needed q x there).reads)

    abbrev m : Mark
    m = first.mark

    found : FirstRead p x.buffer x.sequence m
    found = first_read p x.buffer x.sequence m first.is

    -- what holds there, of the place as it is told
    pub in_read : (Holds : ℕ → ℕ → Type 0) → Holds x.sequence m.at → IsInLoop (spot_in x.sequence (marks_of p Read x.buffer)) Holds
    in_read Holds h =
        subst (λ (o : Option Spot). IsInLoop o Holds) (sym (ap spot_of first.is)) (refl, subst (λ (t : ℕ). Holds t m.at) (sym found.here) h)

    reads_first : ReadsFirst p x x.sequence m.at
    reads_first = (refl, found.reads, found.least)

    pub missing : nat_lt q (length p.pairs) ≡ false → IsMissingPair p q x x.sequence m.at
    missing f = (reads_first, ltb-false q (length p.pairs) f)

    pub elsewhere : q < length p.pairs → has_operator (slice_get p.pairs q) (operator_of p x.buffer) ≡ false → IsPairElsewhere p q x x.sequence m.at
    elsewhere l f =
        let o = some_at p.pairs q l in
        (reads_first, (o.0, o.1, λ same. false≢true (sym f ∙ ((λ i. has_operator (o.1 i) (same i)) ∙ same_numbers o.0))))

    pub not_taken_first : is_taken_first x.sequence (marks_of p Read x.buffer) (marks_of p FullTaken q) ≡ false → IsFullNotTaken p q x x.sequence m.at
    not_taken_first f = (
      reads_first,
      λ c l only.
          let one = lone_of FullTaken q x.sequence c (of_only p (takes_full q) (Suc1 q) (same_numbers q) (full_taken q) x.sequence c only) in
          let all : list_all (λ (u : Mark). implies (nat_eq u.sequence x.sequence) (nat_lt c u.at)) (marks_of p Read x.buffer) ≡ true =
          all_there (λ (u : Mark). implies (nat_eq u.sequence x.sequence) (nat_lt c u.at)) (marks_of p Read x.buffer) (λ i u e.
          implying (nat_eq u.sequence x.sequence) (nat_lt c u.at) (λ t.
          let least : m.at ≤ u.at = found.least u.at
          (subst (λ (s : ℕ). Reads p x.buffer s u.at) (eqb-true u.sequence x.sequence t)
          (reads_there p x.buffer u.sequence u.at u.port (names_of p Read x.buffer i u e))) in
          lt-ltb c u.at (omega arith))) in
          false≢true (sym f ∙ both_true one.0 (ap (λ (k : ℕ). list_all (λ (u : Mark). implies (nat_eq u.sequence x.sequence) (nat_lt k u.at)) (marks_of p Read x.buffer)) one.1 ∙ all)),
    )

    pub not_signalled_last : is_signalled_last x.sequence (marks_of p Read x.buffer) (marks_of p EmptySignalled q) ≡ false → IsEmptyNotSignalled p q x x.sequence m.at
    not_signalled_last f = (
      reads_first,
      λ c after only.
          let one = lone_of EmptySignalled q x.sequence c (of_only p (signals_empty q) (Pre0 q) (same_numbers q) (empty_signalled q) x.sequence c only) in
          let all : list_all (λ (u : Mark). implies (nat_eq u.sequence x.sequence) (nat_lt u.at c)) (marks_of p Read x.buffer) ≡ true =
          all_there (λ (u : Mark). implies (nat_eq u.sequence x.sequence) (nat_lt u.at c)) (marks_of p Read x.buffer) (λ i u e.
          implying (nat_eq u.sequence x.sequence) (nat_lt u.at c) (λ t.
          lt-ltb u.at c (after u.at (subst (λ (s : ℕ). Reads p x.buffer s u.at) (eqb-true u.sequence x.sequence t)
          (reads_there p x.buffer u.sequence u.at u.port (names_of p Read x.buffer i u e)))))) in
          false≢true (sym f ∙ both_true one.0 (ap (λ (k : ℕ). list_all (λ (u : Mark). implies (nat_eq u.sequence x.sequence) (nat_lt u.at k)) (marks_of p Read x.buffer)) one.1 ∙ all)),
    )

    pub taken_first : is_taken_first x.sequence (marks_of p Read x.buffer) (marks_of p FullTaken q) ≡ true → IsFullTaken p q x.sequence m.at
    taken_first h =
        let r = and_parts (lone x.sequence (marks_of p FullTaken q))
        (list_all (λ (u : Mark). implies (nat_eq u.sequence x.sequence) (nat_lt (first_at (marks_of p FullTaken q)) u.at)) (marks_of p Read x.buffer)) h in
        let f = failing is_elsewhere (marks_of p Read x.buffer) m first.is in
        let here = all_here (λ (u : Mark). implies (nat_eq u.sequence x.sequence) (nat_lt (first_at (marks_of p FullTaken q)) u.at)) (marks_of p Read x.buffer) r.1 f.at m f.there in
        let low = ltb-true _ _ (implied (nat_eq m.sequence x.sequence) (nat_lt (first_at (marks_of p FullTaken q)) m.at) here (eq-eqb m.sequence x.sequence found.here)) in
        (first_at (marks_of p FullTaken q), low, only_of p (takes_full q) (Suc1 q) (same_numbers q) (full_taken q) x.sequence (first_at (marks_of p FullTaken q)) (only_at FullTaken q x.sequence r.0))

    -- its write, where buffers are written as they are to be
    module _ (g : Graph) (media : ℕ) (right : AreWritten p g media) where
      abbrev w : ℕ
      w = writer_of p x.buffer

      abbrev a : ℕ
      a = written_at p x.buffer

      writes_it : Writes p x.buffer w a
      writes_it = let r = right.buffers x.buffer (needed q x there).below in ((writing p x.buffer).port, (r.instr, r.stands, r.writes))

      pub not_taken_before : is_taken_before w a (marks_of p EmptyTaken q) ≡ false → IsEmptyNotTaken p q x w a
      not_taken_before f = (
        writes_it,
        λ c l only.
            let one = lone_of EmptyTaken q w c (of_only p (takes_empty q) (Suc0 q) (same_numbers q) (empty_taken q) w c only) in
            false≢true (sym f ∙ both_true one.0 (ap (λ (k : ℕ). nat_lt k a) one.1 ∙ lt-ltb c a l)),
      )

      pub not_signalled_after : is_signalled_after w a (marks_of p FullSignalled q) ≡ false → IsFullNotSignalled p q x w a
      not_signalled_after f = (
        writes_it,
        λ c l only.
            let one = lone_of FullSignalled q w c (of_only p (signals_full q) (Pre1 q) (same_numbers q) (full_signalled q) w c only) in
            false≢true (sym f ∙ both_true one.0 (ap (λ (k : ℕ). nat_lt a k) one.1 ∙ lt-ltb a c l)),
      )
