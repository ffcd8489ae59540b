-- Single buffers: what is wrong where a test of one fails, and that it is right where none does.
use Rattle.std.proofs.Common.{◌≡◌, ℕ, zero, suc, ◌+◌, ◌<◌, ◌≤◌, ◌⊎◌, Bool, true, false, cond, ◌&&◌, ◌||◌, nat_eq, List, [], ◌∷◌, length, refl, sym, ap, subst, eq-eqb, arith, inl, inr, ◌∙◌}
use Rattle.std.specs.Prelude.{Option, Some, None, nat_lt, slice_get}
use Rattle.std.specs.List.{list_all, list_any, position_or_len}
use Rattle.std.specs.Cmp.Derive.{both_true}
use Rattle.std.proofs.lemmas.Bool.{and_parts, eqb-true, false≢true, le-leb, ltb-false, ltb-true}
use Rattle.std.proofs.lemmas.Option.{same_Some}
use Rattle.sequence_build_laws.specs.declared.Instr.{Instr}
use Rattle.sequence_build_laws.specs.declared.Instr.TheVariants.{Suc0, Suc1, Pre0, Pre1, Call, Send, Recv, Sync}
use Rattle.sequence_build_laws.specs.declared.Buffer as declared_buffer
use Rattle.sequence_build_laws.specs.declared.SeqCode.{SeqCode}
use Rattle.sequence_build_laws.specs.declared.Program.{Program}
use Rattle.sequence_build_laws.specs.Instructions.{depth_of, is_guarded, operator, turn, turn_of, writes}
use Rattle.sequence_build_laws.specs.Places.{output_at, sequence_where, written_at, writer_of, writing}
use Rattle.sequence_build_laws.specs.WellFormed.{operator_is}
use Rattle.sequence_build_laws.proofs.Reading.{of_writes}
use Rattle.program_walks.specs.Walks.{implies, names as names_it}
use Rattle.program_tables.specs.declared.mark_table.Mark.{Mark}
use Rattle.program_tables.specs.declared.roles.Role.TheVariants.{Read, Written}
use Rattle.program_tables.specs.Marks.{marks_of, names}
use Rattle.program_tables.proofs.Buffered.{near_is, once_is, reads_in_is}
use Rattle.program_tables.proofs.Found.{at_is, output_is, port_is, sequence_is}
use Rattle.program_tables.proofs.Lone.{names_are}
use Rattle.program_tables.proofs.Naming.{IsFirst, first_is, port_in}
use Rattle.program_walks.specs.Buffers.{has_places, is_buffer, is_operator, writes_at}
use Rattle.program_walks.proofs.ListTests.{all_here, implied}
use Rattle.program_walks.proofs.Readings.{or_left, or_right}
use Rattle.program_walks.proofs.Written.{buffer_of}
use Rattle.check_laws.specs.Items.{IsWrittenOnce, is_made}
use Rattle.check_places.specs.Ahead.{AreNear, AreReadAfter, HasOneWrite, IsFirstFar, IsFirstRead, IsNear, IsRight, IsSecond}
use Rattle.check_places.specs.Buffers.{buffer_place, buffer_place_by, is_near_at, is_not_before}
use Rattle.check_places.specs.First.{first_failing}
use Rattle.check_places.specs.Wrong.{HasWrongPlaces, IsEarlier, IsNotWritten, IsReadTooEarly, IsTouchedElsewhere, IsWrittenAgain, Reads, Writes, WritesAs}
use Rattle.check_places.proofs.Marked.{found, has, later, names_in, names_of, none_named, passes_before, reads_there, there_reads, there_writes, writes_there as written_as}
use Rattle.check_places.proofs.Places.{all_pass, failing, holds_of, no_mark, none_parts}
use Rattle.check_places.proofs.Rising.{IsFrom, not_earlier, not_lower, passed_or_later, rising}
use Rattle.check_places.proofs.TransfersTold.{first_there, implies_false, within_first}

-- what writes a buffer writes it as the output at which it is found
writes_there : (b : ℕ) (x : Instr) → writes b x ≡ true → writes_at b (output_at b (Some x)) (Some x) ≡ true
writes_there b (Call v ins outs) h =
    let r = first_there (λ (c : ℕ). nat_eq c b) outs (within_first (λ (c : ℕ). nat_eq c b) outs h) in
    ap (λ (o : Option ℕ). names_it o b) r.1 ∙ r.2
writes_there b (Recv c q) h = both_true h refl
writes_there b (Suc0 q) h = absurd (false≢true h)
writes_there b (Suc1 q) h = absurd (false≢true h)
writes_there b (Pre0 q) h = absurd (false≢true h)
writes_there b (Pre1 q) h = absurd (false≢true h)
writes_there b (Send c q) h = absurd (false≢true h)
writes_there b (Sync q r) h = absurd (false≢true h)

module _ (p : Program) (b : ℕ) where
  abbrev w : ℕ
  w = writer_of p b

  abbrev a : ℕ
  a = written_at p b

  abbrev reads : List Mark
  reads = marks_of p Read b

  abbrev named_in_it : SeqCode → Bool
  named_in_it q = list_any (names Written b) q.turn

  abbrev HasFirst : List Mark → Type 0
  HasFirst ms = IsFirst ms (list_any named_in_it p.seqs) (sequence_where p named_in_it) (position_or_len (names Written b) (turn p (sequence_where p named_in_it)))
      (port_in Written b (turn p (sequence_where p named_in_it)))

  -- some sequence writes it
  some_writes : (m : Mark) (ms : List Mark) → marks_of p Written b ≡ m ∷ ms → list_any (λ (q : SeqCode). list_any (writes b) q.turn) p.seqs ≡ true
  some_writes m ms e =
      let f : HasFirst (m ∷ ms) = subst HasFirst e (first_is Written b p) in
      sym (λ i. list_any (λ (q : SeqCode). list_any (names_are Written b i) q.turn) p.seqs) ∙ f.0

  written_there : (m : Mark) (ms : List Mark) → marks_of p Written b ≡ m ∷ ms → writes_at b (writing p b).port (slice_get (turn p w) a) ≡ true
  written_there m ms e =
      let q = first_there (λ (q : SeqCode). list_any (writes b) q.turn) p.seqs (within_first (λ (q : SeqCode). list_any (writes b) q.turn) p.seqs (some_writes m ms e)) in
      let list : turn p w ≡ q.0.turn = ap turn_of q.1 in
      let x = first_there (writes b) q.0.turn (within_first (writes b) q.0.turn q.2) in
      let there : slice_get (turn p w) a ≡ Some x.0 = (λ i. slice_get (list i) (position_or_len (writes b) (list i))) ∙ x.1 in
      subst (λ (o : Option Instr). writes_at b (output_at b o) o ≡ true) (sym there) (writes_there b x.0 x.2)

  -- of the only place that writes it
  right_by : (m : Mark) → m ∷ [] ≡ marks_of p Written b → buffer_place_by p b (m ∷ []) reads ≡ None → is_buffer p b ≡ true
  right_by m e h =
      let near = none_parts _ _ h in
      let late = none_parts _ _ near.1 in
      let s : m.sequence ≡ w = sequence_is p Written b (m ∷ []) m e refl in
      let at : m.at ≡ a = at_is p Written b (m ∷ []) m e refl in
      let port : m.port ≡ (writing p b).port = port_is p Written b (m ∷ []) m e refl ∙ output_is b (turn p w) in
      let alone : list_all (λ (u : Mark). nat_eq u.sequence w && nat_eq u.at a && nat_eq u.port (writing p b).port) (m ∷ []) ≡ true =
      both_true (both_true (both_true (eq-eqb m.sequence w s) (eq-eqb m.at a at)) (eq-eqb m.port (writing p b).port port)) refl in
      let close = all_pass (is_near_at p b) (m ∷ reads) (no_mark _ _ _ near.0) in
      let each = and_parts (is_near_at p b m) (list_all (is_near_at p b) reads) close in
      let after : list_all (λ (u : Mark). implies (nat_eq u.sequence w) (nat_lt a u.at)) reads ≡ true =
      sym (λ i. list_all (λ (u : Mark). implies (nat_eq u.sequence (s i)) (nat_lt (at i) u.at)) reads) ∙ all_pass (is_not_before m) reads (no_mark _ _ _ late.0) in
      both_true (both_true (both_true (both_true
      (written_there m [] (sym e))
      (sym (once_is p b w a (writing p b).port)
      ∙ (ap (list_all (λ (u : Mark). nat_eq u.sequence w && nat_eq u.at a && nat_eq u.port (writing p b).port)) (sym e) ∙ alone)))
      (sym (near_is p b) ∙ both_true (ap (list_all (is_near_at p b)) (sym e) ∙ both_true each.0 refl) each.1))
      (sym (reads_in_is p b (λ (c : ℕ). nat_lt a c) w) ∙ after))
      (holds_of (has_places p b) _ late.1)

  pub buffer_right : buffer_place p b ≡ None → is_buffer p b ≡ true
  buffer_right h = by (marks_of p Written b) refl h
    where
      by : (ms : List Mark) → ms ≡ marks_of p Written b → buffer_place_by p b ms reads ≡ None → is_buffer p b ≡ true
      by [] e h = absurd cc
      by (m ∷ []) e h = right_by m e h
      by (m ∷ u ∷ ms) e h = absurd cc

  -- of itself it is right
  pub right : buffer_place p b ≡ None → IsRight p b
  right h = buffer_of p [] b (buffer_right h)

  -- with what it comes from, all of it is
  pub written_once : IsRight p b → is_made p (length p.buffers) b ≡ true → IsWrittenOnce p b
  written_once it made = record {
    instr = it.instr;
    stands = it.stands;
    writes = it.writes;
    only = it.only;
    near = it.near;
    own_reads = it.own_reads;
    some_place = it.some_place;
    few_places = it.few_places;
    one_place = it.one_place;
    made = made;
  }

  -- what is wrong where it is not
  pub not_written : marks_of p Written b ≡ [] → IsNotWritten p b
  not_written e s c h = none_named p Written b e s c h.1.0 h.1.1 (of_writes b h.0 h.1.0 h.1.2)

  module _ (m : Mark) (ms : List Mark) (e : marks_of p Written b ≡ m ∷ ms) where
    writes_as : WritesAs p b m.sequence m.at m.port
    writes_as = written_as p b m.sequence m.at m.port (names_in p Written b (m ∷ ms) e 0 m refl)

    writes_it : Writes p b m.sequence m.at
    writes_it = (m.port, writes_as)

    order : (u : Mark) → IsFrom m.sequence m.at (m.port + 1) u
        → IsEarlier m.sequence m.at u.sequence u.at ⊎ ((m.sequence ≡ u.sequence) × (m.at ≡ u.at) × (m.port < u.port))
    order u (inl l) = inl (inl l)
    order u (inr (same, inl l)) = inl (inr (same, l))
    order u (inr (same, inr (at, l))) = inr (same, at, omega arith)

    pub written_again : (u : Mark) (us : List Mark) → ms ≡ u ∷ us → IsWrittenAgain p b u.sequence u.at
    written_again u us f =
        let there : slice_get ms 0 ≡ Some u = ap (λ (xs : List Mark). slice_get xs 0) f in (
          u.port,
          m.sequence,
          m.at,
          m.port,
          written_as p b u.sequence u.at u.port (names_in p Written b (m ∷ ms) e 1 u there),
          writes_as,
          order u (later p Written b m u ms e 0 there),
        )

    told_operator : (o : Option declared_buffer.Buffer) (n : ℕ) → operator_is p o n → is_operator o n ≡ true
    told_operator None n h = absurd h
    told_operator (Some x) n h = eq-eqb x.operator n h

    touches : (u : Mark) (i : ℕ) → slice_get (m ∷ reads) i ≡ Some u → Writes p b u.sequence u.at ⊎ Reads p b u.sequence u.at
    touches u zero f = inl (subst (λ (z : Mark). Writes p b z.sequence z.at) (same_Some m u f) writes_it)
    touches u (suc i) f = inr (reads_there p b u.sequence u.at u.port (names_of p Read b i u f))

    -- an earlier write than the second one is the first
    at_first : (u : Mark) (us : List Mark) → ms ≡ u ∷ us → (t c : ℕ) → Writes p b t c → IsEarlier t c u.sequence u.at → (t ≡ m.sequence) × (c ≡ m.at)
    at_first u us f t c h l =
        let r = found p Written b m ms e t c h.0 (there_writes p b t c h.0 h.1) in
        elim (passes_before p Written b m ms e (λ z. false) u (ap (first_failing (λ z. false)) f) t c h.0 r l) [
          | inl same ↦ (sym r.sequence ∙ sym (ap (λ (z : Mark). z.sequence) same), sym r.instr ∙ sym (ap (λ (z : Mark). z.at) same))
          | inr test ↦ absurd (false≢true test)
        ]

    pub second : (u : Mark) (us : List Mark) → ms ≡ u ∷ us → IsSecond (Writes p b) u.sequence u.at
    second u us f t c s d x y l k =
        let r = at_first u us f t c x l in
        let q = at_first u us f s d y k in
        (r.0 ∙ sym q.0, r.1 ∙ sym q.1)

    -- the only write
    module _ (none : ms ≡ []) where
      only_here : (t c j : ℕ) → WritesAs p b t c j → (t ≡ m.sequence) × (c ≡ m.at) × (j ≡ m.port)
      only_here t c j h =
          let r = found p Written b m ms e t c j (there_writes p b t c j h) in
          elim r.is [
            | inl same ↦ (
              sym r.sequence ∙ sym (ap (λ (z : Mark). z.sequence) same),
              sym r.instr ∙ sym (ap (λ (z : Mark). z.at) same),
              sym r.port ∙ sym (ap (λ (z : Mark). z.port) same),
            )
            | inr (i, f) ↦ (let gone : slice_get [] i ≡ Some r.place = sym (ap (λ (us : List Mark). slice_get us i) none) ∙ f in absurd cc)
          ]

      pub one_write : HasOneWrite p b
      one_write = (m.sequence, m.at, m.port, (writes_as, only_here))

      operator_told : (o : Option declared_buffer.Buffer) (n : ℕ) → is_operator o n ≡ true → operator_is p o n
      operator_told None n h = absurd (false≢true h)
      operator_told (Some x) n h = eqb-true x.operator n h

      near_write : is_near_at p b m ≡ true → (t c : ℕ) → Writes p b t c → IsNear p b t
      near_write h t c w =
          subst (λ (s : ℕ). IsNear p b s) (sym (only_here t c w.0 w.1).0) (operator_told (slice_get p.buffers b) (operator p m.sequence) h)

      near_read : (t c : ℕ) (r : Reads p b t c) → is_near_at p b (has p Read b t c r.0 (there_reads p b t c r)).place ≡ true → IsNear p b t
      near_read t c r h =
          let q = has p Read b t c r.0 (there_reads p b t c r) in
          subst (λ (s : ℕ). IsNear p b s) q.sequence (operator_told (slice_get p.buffers b) (operator p q.place.sequence) h)

      pub first_far : (u : Mark) → first_failing (is_near_at p b) (m ∷ reads) ≡ Some u → IsFirstFar p b u.sequence u.at
      first_far u h no_write t c x = by (is_near_at p b m) refl h
        where
          by : (y : Bool) → is_near_at p b m ≡ y → cond y (first_failing (is_near_at p b) reads) (Some m) ≡ Some u → IsNear p b t
          by false q f = absurd (no_write (subst (λ (z : Mark). Writes p b z.sequence z.at) (same_Some m u f) writes_it))
          by true q f = elim x [
            | inl w ↦ near_write q t c w
            | inr (r, l) ↦ (
                let k = has p Read b t c r.0 (there_reads p b t c r) in
                elim (passed_or_later (is_near_at p b) 0 0 0 reads u (rising p Read b) f k.at k.place k.there) [
                  | inl near ↦ near_read t c r near
                  | inr later ↦ absurd (not_earlier u k.place u.port later
                      (subst (λ (s : ℕ). IsEarlier s k.place.at u.sequence u.at) (sym k.sequence)
                      (subst (λ (d : ℕ). IsEarlier t d u.sequence u.at) (sym k.instr) l)))
                ])
          ]

      pub all_near : first_failing (is_near_at p b) (m ∷ reads) ≡ None → AreNear p b
      all_near n t c x =
          let close = all_pass (is_near_at p b) (m ∷ reads) n in
          let each = and_parts (is_near_at p b m) (list_all (is_near_at p b) reads) close in
          elim x [
            | inl w ↦ near_write each.0 t c w
            | inr r ↦ (let k = has p Read b t c r.0 (there_reads p b t c r) in near_read t c r (all_here (is_near_at p b) reads each.1 k.at k.place k.there))
          ]

    after_write : (s c : ℕ) (r : Reads p b s c) → s ≡ m.sequence → is_not_before m (has p Read b s c r.0 (there_reads p b s c r)).place ≡ true → m.at < c
    after_write s c r same h =
        let q = has p Read b s c r.0 (there_reads p b s c r) in
        subst (λ (d : ℕ). m.at < d) q.instr
        (ltb-true m.at q.place.at (implied (nat_eq q.place.sequence m.sequence) (nat_lt m.at q.place.at) h (eq-eqb q.place.sequence m.sequence (q.sequence ∙ same))))

    pub first_early : (u : Mark) → first_failing (is_not_before m) reads ≡ Some u → IsFirstRead p b u.sequence u.at
    first_early u h c r =
        let f = failing (is_not_before m) reads u h in
        let parts = implies_false (nat_eq u.sequence m.sequence) (nat_lt m.at u.at) f.fails in
        let early : u.at ≤ m.at = ltb-false m.at u.at parts.1 in
        let q = has p Read b u.sequence c r.0 (there_reads p b u.sequence c r) in
        elim (passed_or_later (is_not_before m) 0 0 0 reads u (rising p Read b) h q.at q.place q.there) [
          | inl t ↦ (let late : m.at < c = after_write u.sequence c r (eqb-true u.sequence m.sequence parts.0) t in omega arith)
          | inr later ↦ subst (λ (d : ℕ). u.at ≤ d) q.instr (not_lower u q.place u.port later q.sequence)
        ]

    pub read_after : first_failing (is_not_before m) reads ≡ None → AreReadAfter p b m.sequence m.at
    read_after n c r =
        let q = has p Read b m.sequence c r.0 (there_reads p b m.sequence c r) in
        after_write m.sequence c r refl (all_here (is_not_before m) reads (all_pass (is_not_before m) reads n) q.at q.place q.there)

    pub touched_elsewhere : (u : Mark) → first_failing (is_near_at p b) (m ∷ reads) ≡ Some u → IsTouchedElsewhere p b u.sequence u.at
    touched_elsewhere u h =
        let f = failing (is_near_at p b) (m ∷ reads) u h in
        (touches u f.at f.there, λ on. false≢true (sym f.fails ∙ told_operator (slice_get p.buffers b) (operator p u.sequence) on))

    pub read_too_early : (u : Mark) → first_failing (is_not_before m) reads ≡ Some u → IsReadTooEarly p b u.sequence u.at
    read_too_early u h =
        let f = failing (is_not_before m) reads u h in
        let parts = implies_false (nat_eq u.sequence m.sequence) (nat_lt m.at u.at) f.fails in (
          reads_there p b u.sequence u.at u.port (names_of p Read b f.at u f.there),
          (m.at, subst (λ (s : ℕ). Writes p b s m.at) (sym (eqb-true u.sequence m.sequence parts.0)) writes_it, ltb-false m.at u.at parts.1),
        )

    -- a buffer that no other sequence reads has one place
    shallow : (guarded : Bool) → is_guarded p b ≡ guarded → (is_guarded p b ≡ false → depth_of p b ≡ 1) → (nat_eq (depth_of p b) 1 || is_guarded p b) ≡ true
    shallow true is one = or_right (nat_eq (depth_of p b) 1) (is_guarded p b) is
    shallow false is one = or_left (nat_eq (depth_of p b) 1) (is_guarded p b) (eq-eqb (depth_of p b) 1 (one is))

    pub wrong_places : has_places p b ≡ false → HasWrongPlaces p b m.sequence m.at
    wrong_places f = (
      writes_it,
      λ r. false≢true (sym f ∙ both_true (both_true (le-leb 1 (depth_of p b) r.0) (le-leb (depth_of p b) 4 r.1)) (shallow (is_guarded p b) refl r.2)),
    )
