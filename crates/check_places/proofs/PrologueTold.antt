-- Where prologues are wrong: what a place shows of its line, and that all before it are right.
use Rattle.std.proofs.Common.{◌≡◌, ℕ, suc, ◌+◌, ◌<◌, ◌⊎◌, Bool, true, false, cond, List, [], ◌∷◌, map, length, take, refl, sym, ap, subst, arith, add-zero, zero-add, inl, inr, ◌∙◌}
use Rattle.std.specs.Prelude.{Some, None, slice_get}
use Rattle.std.proofs.lemmas.Bool.{false≢true}
use Rattle.std.proofs.lemmas.Option.{same_Some, slice_get_within}
use Rattle.sequence_build_laws.specs.Graph.{Graph}
use Rattle.sequence_build_laws.specs.declared.Seq.{Seq}
use Rattle.sequence_build_laws.specs.declared.Instr.{Instr}
use Rattle.sequence_build_laws.specs.declared.Instr.TheVariants.{Pre0}
use Rattle.sequence_build_laws.specs.declared.SeqCode.{SeqCode}
use Rattle.sequence_build_laws.specs.declared.Program.{Program}
use Rattle.sequence_build_laws.specs.Instructions.{prologue, prologue_of}
use Rattle.sequence_build_laws.specs.Places.{signals_empty, AreOpened}
use Rattle.program_walks.proofs.Readings.{same_numbers}
use Rattle.check_laws.specs.Tests.{prologue_wrong}
use Rattle.check_places.specs.declared.place.Part.TheVariants.{Prologue}
use Rattle.check_places.specs.declared.place.Place.{Place}
use Rattle.check_places.specs.declared.place.Rule.TheVariants.{FurtherLine, MissingSignal}
use Rattle.check_places.specs.declared.place.Subject.TheVariants.{Pair, Sequence}
use Rattle.check_places.specs.Ahead.{HoldsBelow, IsOpened}
use Rattle.check_places.specs.First.{broken, spot_at}
use Rattle.check_places.specs.Pairs.{pairs_signalled, prologue_place, signal_place}
use Rattle.check_places.specs.Shown.{IsFirst, Shows, cause_of}
use Rattle.check_places.specs.Wrong.{IsFurtherLine, IsMissingSignal}
use Rattle.check_places.proofs.Opening.{is_signal, opened, opening_is, signal}
use Rattle.check_places.proofs.Telling.{Tells, none_at, some_at, tells_each}

-- Line i of these, the first of which has place a, is not the signal that is there, or goes on after all of them.
record Misses (s a i : ℕ) (xs : List Instr) (qs : List ℕ) (y : Place) : Type 0 where
  pair : ℕ
  is : record { rule = MissingSignal; subject = Pair pair; spot = spot_at Prologue s (a + i) } ≡ y
  same : take i xs ≡ take i (map signal qs)
  there : slice_get (map signal qs) i ≡ Some (Pre0 pair)
  other : slice_get xs i ≡ Some (Pre0 pair) → ⊥

record GoesOn (s a i : ℕ) (xs : List Instr) (qs : List ℕ) (y : Place) : Type 0 where
  is : record { rule = FurtherLine; subject = Sequence s; spot = spot_at Prologue s (a + i) } ≡ y
  same : take i xs ≡ map signal qs
  within : i < length xs

abbrev IsWrong : ℕ → ℕ → List Instr → List ℕ → Place → Type 0
IsWrong s a xs qs y = (i : ℕ) × (Misses s a i xs qs y ⊎ GoesOn s a i xs qs y)

next_spot : (s a i : ℕ) → spot_at Prologue s (a + suc i) ≡ spot_at Prologue s (a + 1 + i)
next_spot s a i = ap (λ (k : ℕ). spot_at Prologue s k) (let e : a + suc i ≡ a + 1 + i = omega arith in e)

this_spot : (s a : ℕ) → spot_at Prologue s (a + 0) ≡ spot_at Prologue s a
this_spot s a = ap (λ (k : ℕ). spot_at Prologue s k) (add-zero a)

later : (s a q : ℕ) (x : Instr) (xs : List Instr) (qs : List ℕ) (y : Place) → x ≡ Pre0 q → IsWrong s (a + 1) xs qs y → IsWrong s a (x ∷ xs) (q ∷ qs) y
later s a q x xs qs y e (i, inl r) = (
  suc i,
  inl (record {
    pair = r.pair;
    is = (λ j. record { rule = MissingSignal; subject = Pair r.pair; spot = next_spot s a i j }) ∙ r.is;
    same = λ j. e j ∷ r.same j;
    there = r.there;
    other = r.other;
  }),
)
later s a q x xs qs y e (i, inr r) = (
  suc i,
  inr (record {
    is = (λ j. record { rule = FurtherLine; subject = Sequence s; spot = next_spot s a i j }) ∙ r.is;
    same = λ j. e j ∷ r.same j;
    within = (let l = r.within in omega arith);
  }),
)

wrong_line : (s a : ℕ) (xs : List Instr) (qs : List ℕ) (y : Place) → signal_place s a xs qs ≡ Some y → IsWrong s a xs qs y
wrong_line s a [] [] y e = absurd cc
wrong_line s a (x ∷ xs) [] y e = (
  0,
  inr (record {
    is = (λ j. record { rule = FurtherLine; subject = Sequence s; spot = this_spot s a j }) ∙ same_Some _ y e;
    same = refl;
    within = omega arith;
  }),
)
wrong_line s a [] (q ∷ qs) y e = (
  0,
  inl (record {
    pair = q;
    is = (λ j. record { rule = MissingSignal; subject = Pair q; spot = this_spot s a j }) ∙ same_Some _ y e;
    same = refl;
    there = refl;
    other = λ f. absurd cc;
  }),
)
wrong_line s a (x ∷ xs) (q ∷ qs) y e = by (signals_empty q x) refl e (λ f. wrong_line s (a + 1) xs qs y f)
  where
    by : (b : Bool) → signals_empty q x ≡ b → cond b (signal_place s (a + 1) xs qs) (broken MissingSignal (Pair q) (spot_at Prologue s a)) ≡ Some y
        → (signal_place s (a + 1) xs qs ≡ Some y → IsWrong s (a + 1) xs qs y) → IsWrong s a (x ∷ xs) (q ∷ qs) y
    by true h e more = later s a q x xs qs y (is_signal q x h) (more e)
    by false h e more = (
      0,
      inl (record {
        pair = q;
        is = (λ j. record { rule = MissingSignal; subject = Pair q; spot = this_spot s a j }) ∙ same_Some _ y e;
        same = refl;
        there = refl;
        other = λ f. false≢true (sym h ∙ (ap (signals_empty q) (same_Some x (Pre0 q) f) ∙ same_numbers q));
      }),
    )

module _ (p : Program) (g : Graph) (seqs : List Seq) (operators media : ℕ) where
  abbrev pub ShowsPrologue : Place → Type 0
  ShowsPrologue y = (cause_of y.rule ≡ prologue_wrong) × Shows p g seqs operators media y × IsFirst p g seqs operators media y

  missed : (s i : ℕ) (c : SeqCode) (y : Place) → slice_get p.seqs s ≡ Some c → Misses s 0 i c.prologue (pairs_signalled p s) y → HoldsBelow (IsOpened p) s → ShowsPrologue y
  missed s i c y e r first =
      let list : prologue p s ≡ c.prologue = ap prologue_of e in
      let wrong : IsMissingSignal p r.pair s i = (
        ap (take i) list ∙ (r.same ∙ ap (take i) (opening_is p s)),
        ap (λ (xs : List Instr). slice_get xs i) (sym (opening_is p s)) ∙ r.there,
        λ h. r.other (ap (λ (xs : List Instr). slice_get xs i) (sym list) ∙ h),
      ) in
      subst ShowsPrologue r.is
      (refl, (refl, (slice_get_within p.seqs s c e, subst (λ (k : ℕ). IsMissingSignal p r.pair s k) (sym (zero-add i)) wrong)), first)

  gone_on : (s i : ℕ) (c : SeqCode) (y : Place) → slice_get p.seqs s ≡ Some c → GoesOn s 0 i c.prologue (pairs_signalled p s) y → HoldsBelow (IsOpened p) s → ShowsPrologue y
  gone_on s i c y e r first =
      let list : prologue p s ≡ c.prologue = ap prologue_of e in
      let wrong : IsFurtherLine p s i = (
        ap (take i) list ∙ (r.same ∙ opening_is p s),
        subst (λ (xs : List Instr). i < length xs) (sym list) r.within,
      ) in
      subst ShowsPrologue r.is
      (refl, (refl, (refl, subst (λ (k : ℕ). IsFurtherLine p s k) (sym (zero-add i)) wrong)), first)

  pub prologue_told : Tells ShowsPrologue (prologue_place p)
  prologue_told = tells_each ShowsPrologue (λ s (c : SeqCode). signal_place s 0 c.prologue (pairs_signalled p s)) p.seqs (λ s c e before y f.
      let l : s < length p.seqs = slice_get_within p.seqs s c e in
      let first : HoldsBelow (IsOpened p) s = (λ t m.
      let d = some_at p.seqs t (omega arith) in
      ap prologue_of d.1 ∙ opened p t d.0.prologue (before t d.0 m d.1)) in
      let w = wrong_line s 0 c.prologue (pairs_signalled p s) y f in
      elim w.1 [ inl r ↦ missed s w.0 c y e r first | inr r ↦ gone_on s w.0 c y e r first ])

  pub all_opened : prologue_place p ≡ None → AreOpened p
  all_opened e s l =
      let c = some_at p.seqs s l in
      ap prologue_of c.1
      ∙ opened p s c.0.prologue (none_at (λ s (c : SeqCode). signal_place s 0 c.prologue (pairs_signalled p s)) p.seqs e s c.0 c.1)
