-- Where sequences and names are wrong: what a place shows, and what is right of all before it.
use Rattle.std.proofs.Common.{◌≡◌, ℕ, zero, suc, ◌+◌, ◌<◌, Bool, true, false, cond, ◌&&◌, List, [], ◌∷◌, map, length, refl, sym, ap, subst, arith, zero-add, inl, inr, ◌∙◌}
use Rattle.std.specs.Prelude.{Option, Some, None, nat_lt, slice_get}
use Rattle.std.specs.List.{list_all}
use Rattle.std.specs.Cmp.Derive.{both_true}
use Rattle.std.proofs.lemmas.Bool.{and_parts, false≢true, ltb-true}
use Rattle.std.proofs.lemmas.Option.{same_Some}
use Rattle.sequence_build_laws.specs.declared.Seq.{Seq}
use Rattle.sequence_build_laws.specs.Graph.{Graph}
use Rattle.sequence_build_laws.specs.declared.Instr.{Instr}
use Rattle.sequence_build_laws.specs.declared.Instr.TheVariants.{Suc0, Suc1, Pre0, Pre1, Call, Send, Recv, Sync}
use Rattle.sequence_build_laws.specs.declared.SeqCode.{SeqCode}
use Rattle.sequence_build_laws.specs.declared.Program.{Program}
use Rattle.sequence_build_laws.specs.Instructions.{prologue_of, turn_of}
use Rattle.program_walks.proofs.ListTests.{all_there as each_there}
use Rattle.order_check.specs.Checked.{are_below}
use Rattle.order_check.specs.Sequenced.{is_of}
use Rattle.order_check.proofs.Exact.{below_each}
use Rattle.order_check.proofs.Listed.{test_of_sequences}
use Rattle.check_laws.specs.Items.{AreNamed, NamesThere}
use Rattle.check_laws.specs.Tests.{all_there, sequences_differ}
use Rattle.check_laws.proofs.Named.{named_of, of_names}
use Rattle.check_places.specs.declared.place.Part.{Part}
use Rattle.check_places.specs.declared.place.Part.TheVariants.{Loop, Prologue}
use Rattle.check_places.specs.declared.place.Place.{Place}
use Rattle.check_places.specs.declared.place.Rule.TheVariants.{MissingName, OtherSequence}
use Rattle.check_places.specs.declared.place.Subject.TheVariants.{Expected, Sequence}
use Rattle.check_places.specs.Ahead.{AreNamedAhead, AreNamedBefore, AreSameBefore}
use Rattle.check_places.specs.First.{first_from, spot_at}
use Rattle.check_places.specs.Names.{name_place, names_place, sequence_place}
use Rattle.check_places.specs.Shown.{IsFirst, Shows, cause_of}
use Rattle.check_places.specs.Wrong.{IsOther, instructions}
use Rattle.check_places.proofs.Places.{holds_of, none_parts}
use Rattle.check_places.proofs.Sequenced.{is_code, seq_is, sequences_are}
use Rattle.check_places.proofs.Telling.{Tells, none_at, tells_each, tells_first, tells_unless}

-- a sequence that is another one than it is to be, and those before it
abbrev seq_of : SeqCode → Seq
seq_of q = q.seq

abbrev Same : List SeqCode → List Seq → ℕ → Type 0
Same qs xs i = slice_get (map seq_of qs) i ≡ slice_get xs i

record Differs (s : ℕ) (qs : List SeqCode) (xs : List Seq) (y : Place) : Type 0 where
  at : ℕ
  number : ℕ
  counted : number ≡ s + at
  is : record { rule = OtherSequence; subject = Expected number; spot = None } ≡ y
  other : Same qs xs at → ⊥
  before : (i : ℕ) → i < at → Same qs xs i

same_before : (q : SeqCode) (x : Seq) (qs : List SeqCode) (xs : List Seq) (n : ℕ) → q.seq ≡ x → ((i : ℕ) → i < n → Same qs xs i) → (i : ℕ) → i < suc n → Same (q ∷ qs) (x ∷ xs) i
same_before q x qs xs n e h zero l = ap (λ (z : Seq). Some z) e
same_before q x qs xs n e h (suc i) l = h i (omega arith)

differs : (s : ℕ) (qs : List SeqCode) (xs : List Seq) (y : Place) → sequence_place s qs xs ≡ Some y → Differs s qs xs y
differs s [] [] y e = absurd cc
differs s (q ∷ qs) [] y e = record { at = 0; number = s; counted = omega arith; is = same_Some _ y e; other = λ f. absurd cc; before = λ i l. absurd (omega arith) }
differs s [] (x ∷ xs) y e = record { at = 0; number = s; counted = omega arith; is = same_Some _ y e; other = λ f. absurd cc; before = λ i l. absurd (omega arith) }
differs s (q ∷ qs) (x ∷ xs) y e = by (is_of (Some q) x) refl e (λ f. differs (s + 1) qs xs y f)
  where
    by : (b : Bool) → is_of (Some q) x ≡ b → cond b (sequence_place (s + 1) qs xs) (Some (record { rule = OtherSequence; subject = Expected s; spot = None })) ≡ Some y
        → (sequence_place (s + 1) qs xs ≡ Some y → Differs (s + 1) qs xs y) → Differs s (q ∷ qs) (x ∷ xs) y
    by true h e more =
        let r = more e in
        record {
          at = suc r.at;
          number = r.number;
          counted = (let c = r.counted in omega arith);
          is = r.is;
          other = r.other;
          before = same_before q x qs xs r.at (seq_is q x h) r.before;
        }
    by false h e more = record {
      at = 0;
      number = s;
      counted = omega arith;
      is = same_Some _ y e;
      other = λ f. false≢true (sym h ∙ subst (λ (z : Seq). is_of (Some q) z ≡ true) (same_Some q.seq x f) (is_code q));
      before = λ i l. absurd (omega arith);
    }

-- the instructions of a part of a sequence
abbrev listed : Part → Option SeqCode → List Instr
listed Loop o = turn_of o
listed Prologue o = prologue_of o

module _ (p : Program) where
  list_is : (part : Part) (s : ℕ) → instructions p part s ≡ listed part (slice_get p.seqs s)
  list_is Loop s = refl
  list_is Prologue s = refl

  no_list : (part : Part) (a : ℕ) (x : Instr) → slice_get (listed part None) a ≡ Some x → ⊥
  no_list Loop a x e = absurd cc
  no_list Prologue a x e = absurd cc

module _ (p : Program) (operations operators : ℕ) where
  abbrev test : Instr → Bool
  test x = all_there p operations operators x

  -- what passes the test is there
  names_of : (x : Instr) → all_there p operations operators x ≡ true → NamesThere p operations operators x
  names_of (Suc0 q) h = ltb-true q (length p.pairs) (and_parts (nat_lt q (length p.pairs)) true h).0
  names_of (Suc1 q) h = ltb-true q (length p.pairs) (and_parts (nat_lt q (length p.pairs)) true h).0
  names_of (Pre0 q) h = ltb-true q (length p.pairs) (and_parts (nat_lt q (length p.pairs)) true h).0
  names_of (Pre1 q) h = ltb-true q (length p.pairs) (and_parts (nat_lt q (length p.pairs)) true h).0
  names_of (Call v ins outs) h =
      let most = and_parts (nat_lt v operations && are_below (length p.buffers) ins) (are_below (length p.buffers) outs) (and_parts _ true h).0 in
      let first = and_parts (nat_lt v operations) (are_below (length p.buffers) ins) most.0 in
      (ltb-true v operations first.0, λ k b e. elim e [ inl i ↦ below_each (length p.buffers) ins first.1 k b i | inr o ↦ below_each (length p.buffers) outs most.1 k b o ])
  names_of (Send b o) h = let r = and_parts (nat_lt b (length p.buffers)) (nat_lt o operators) h in (ltb-true b (length p.buffers) r.0, ltb-true o operators r.1)
  names_of (Recv b o) h = let r = and_parts (nat_lt b (length p.buffers)) (nat_lt o operators) h in (ltb-true b (length p.buffers) r.0, ltb-true o operators r.1)
  names_of (Sync o q) h = let r = and_parts (nat_lt o operators) (nat_lt q operators) h in (ltb-true o operators r.0, ltb-true q operators r.1)

  -- the first place of a part
  abbrev in_list : Part → ℕ → SeqCode → Option Place
  in_list part s c = first_from (name_place p operations operators part s) 0 (listed part (Some c))

  abbrev part_place : Part → Option Place
  part_place part = first_from (in_list part) 0 p.seqs

  -- what names the instructions of a sequence name where it has no place
  list_named : (part : Part) (s : ℕ) (c : SeqCode) → in_list part s c ≡ None → (a : ℕ) (x : Instr) → slice_get (listed part (Some c)) a ≡ Some x → NamesThere p operations operators x
  list_named part s c e a x i = names_of x (holds_of (test x) _ (none_at (name_place p operations operators part s) (listed part (Some c)) e a x i))

  code_named : (part : Part) (s : ℕ) → ((c : SeqCode) → slice_get p.seqs s ≡ Some c → in_list part s c ≡ None)
      → (a : ℕ) (x : Instr) → slice_get (instructions p part s) a ≡ Some x → NamesThere p operations operators x
  code_named part s none a x i = by (slice_get p.seqs s) refl (ap (λ (xs : List Instr). slice_get xs a) (sym (list_is p part s)) ∙ i)
    where
      by : (o : Option SeqCode) → slice_get p.seqs s ≡ o → slice_get (listed part o) a ≡ Some x → NamesThere p operations operators x
      by None e h = absurd (no_list p part a x h)
      by (Some c) e h = list_named part s c (none c e) a x h

  part_named : (part : Part) → part_place part ≡ None → (s a : ℕ) (x : Instr) → slice_get (instructions p part s) a ≡ Some x → NamesThere p operations operators x
  part_named part e s = code_named part s (λ c i. none_at (in_list part) p.seqs e s c i)

  -- what is named before an instruction
  named_before : (part : Part) (s a : ℕ) (c : SeqCode) → slice_get p.seqs s ≡ Some c
      → ((t : ℕ) (d : SeqCode) → t < s → slice_get p.seqs t ≡ Some d → in_list part t d ≡ None)
      → ((b : ℕ) (x : Instr) → b < a → slice_get (listed part (Some c)) b ≡ Some x → name_place p operations operators part s b x ≡ None)
      → AreNamedBefore p operations operators part s a
  named_before part s a c i seqs_before before t b x (inl l) h = code_named part t (λ d e. seqs_before t d l e) b x h
  named_before part s a c i seqs_before before t b x (inr (same, l)) h =
      let at_s : slice_get (listed part (Some c)) b ≡ Some x =
      sym (ap (λ (u : ℕ). slice_get (instructions p part u) b) same ∙ (ap (λ (xs : List Instr). slice_get xs b) (list_is p part s) ∙ ap (λ (o : Option SeqCode). slice_get (listed part o) b) i)) ∙ h in
      names_of x (holds_of (test x) _ (before b x l at_s))

module _ (p : Program) (g : Graph) (seqs : List Seq) (operators media : ℕ) where
  abbrev pub ShowsNames : Place → Type 0
  ShowsNames y = (cause_of y.rule ≡ sequences_differ) × Shows p g seqs operators media y × IsFirst p g seqs operators media y

  other_told : Tells ShowsNames (sequence_place 0 p.seqs seqs)
  other_told y e =
      let r = differs 0 p.seqs seqs y e in
      let same : r.number ≡ r.at = r.counted ∙ zero-add r.at in
      subst ShowsNames r.is
      (refl, subst (λ (n : ℕ). IsOther p seqs n) (sym same) r.other, subst (λ (n : ℕ). AreSameBefore p seqs n) (sym same) r.before)

  -- a part after what comes before it
  part_told : (part : Part) → map seq_of p.seqs ≡ seqs
      → ((s a : ℕ) → AreNamedBefore p (length g.vertices) operators part s a → AreNamedAhead p (length g.vertices) operators part s a)
      → Tells ShowsNames (part_place p (length g.vertices) operators part)
  part_told part same ahead = tells_each ShowsNames (in_list p (length g.vertices) operators part) p.seqs (λ s c i seqs_before.
      tells_each ShowsNames (name_place p (length g.vertices) operators part s) (listed part (Some c)) (λ a x h before.
      tells_unless ShowsNames (all_there p (length g.vertices) operators x) (record { rule = MissingName; subject = Sequence s; spot = spot_at part s a })
      (λ f. (
        refl,
        (refl, (x, ap (λ (xs : List Instr). slice_get xs a) (list_is p part s ∙ ap (listed part) i) ∙ h, λ n. false≢true (sym f ∙ of_names p (length g.vertices) operators x n))),
        (same, ahead s a (named_before p (length g.vertices) operators part s a c i seqs_before before)),
      ))))

  pub names_told : Tells ShowsNames (names_place p (length g.vertices) operators seqs)
  names_told =
      tells_first ShowsNames _ _ other_told (λ none.
      let same : map seq_of p.seqs ≡ seqs = sequences_are 0 p.seqs seqs none in
      tells_first ShowsNames _ _ (part_told Loop same (λ s a before. before))
      (λ loops. part_told Prologue same (λ s a before. (part_named p (length g.vertices) operators Loop loops, before))))

  pub named : names_place p (length g.vertices) operators seqs ≡ None → AreNamed p (length g.vertices) operators seqs
  named e =
      let parts = none_parts _ _ e in
      let lists = none_parts _ _ parts.1 in
      let test : Instr → Bool = all_there p (length g.vertices) operators in
      named_of p (length g.vertices) operators seqs (both_true (both_true
      (test_of_sequences p.seqs seqs (sequences_are 0 p.seqs seqs parts.0))
      (each_there (λ (q : SeqCode). list_all test q.turn) p.seqs (λ s q i. each_there test q.turn (λ a x h.
      holds_of (test x) _ (none_at (name_place p (length g.vertices) operators Loop s) q.turn
      (none_at (λ s (c : SeqCode). first_from (name_place p (length g.vertices) operators Loop s) 0 c.turn) p.seqs lists.0 s q i) a x h)))))
      (each_there (λ (q : SeqCode). list_all test q.prologue) p.seqs (λ s q i. each_there test q.prologue (λ a x h.
      holds_of (test x) _ (none_at (name_place p (length g.vertices) operators Prologue s) q.prologue
      (none_at (λ s (c : SeqCode). first_from (name_place p (length g.vertices) operators Prologue s) 0 c.prologue) p.seqs lists.1 s q i) a x h)))))
