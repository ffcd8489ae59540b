-- Where calls are wrong: what a place shows of its operation, and that all before it are called once.
use Rattle.std.proofs.Common.{◌≡◌, ℕ, suc, ◌+◌, ◌<◌, true, false, nat_eq, List, [], ◌∷◌, refl, sym, ap, inl, inr, eq-eqb, ◌∙◌}
use Rattle.std.specs.Prelude.{Option, Some, None, is_none, slice_get, ℤ}
use Rattle.std.specs.Cmp.Derive.{both_true}
use Rattle.std.proofs.lemmas.Bool.{and_parts, eqb-true, false≢true, lt-ltb}
use Rattle.sequence_build_laws.specs.declared.Kind.{Kind}
use Rattle.sequence_build_laws.specs.declared.Kind.TheVariants.{Get}
use Rattle.sequence_build_laws.specs.declared.Vertex.{Vertex}
use Rattle.sequence_build_laws.specs.Graph.{Graph}
use Rattle.sequence_build_laws.specs.declared.Seq.{Seq}
use Rattle.sequence_build_laws.specs.declared.Instr.TheVariants.{Call}
use Rattle.sequence_build_laws.specs.declared.Program.{Program}
use Rattle.sequence_build_laws.specs.Instructions.{medium}
use Rattle.sequence_build_laws.specs.Places.{caller_of, calling}
use Rattle.program_walks.proofs.ListTests.{all_here}
use Rattle.program_walks.proofs.Readings.{same_numbers}
use Rattle.program_tables.specs.declared.mark_table.Mark.{Mark}
use Rattle.program_tables.specs.declared.roles.Role.TheVariants.{Called}
use Rattle.program_tables.specs.Marks.{marks_of}
use Rattle.order_check.specs.Calls.{called_at, is_before_twin}
use Rattle.check_laws.specs.Items.{IsCalledOnce}
use Rattle.check_laws.specs.Tests.{calls_wrong}
use Rattle.check_places.specs.declared.place.Place.{Place}
use Rattle.check_places.specs.declared.place.Rule.TheVariants.{CalledAgain, CalledInThread, GetNotBeforeSet, NotCalled}
use Rattle.check_places.specs.declared.place.Subject.TheVariants.{Operation}
use Rattle.check_places.specs.Ahead.{AreCalledBefore, IsAlone, IsSecond}
use Rattle.check_places.specs.Calls.{call_place, call_place_by, calls_place, is_same}
use Rattle.check_places.specs.First.{first_failing, in_loop}
use Rattle.check_places.specs.Shown.{IsFirst, Shows, cause_of}
use Rattle.check_places.specs.Wrong.{Calls, IsCalledAgain, IsEarlier}
use Rattle.check_places.proofs.Called.{once}
use Rattle.check_places.proofs.Marked.{calls_there, found, later, names_in, none_named, passes_before, there_calls}
use Rattle.check_places.proofs.Places.{all_pass, failing, holds_of, no_mark}
use Rattle.check_places.proofs.Rising.{IsFrom}
use Rattle.check_places.proofs.Telling.{Tells, none_at, tells_each, tells_first, tells_mark, tells_one, tells_unless}

-- what is not the same instruction, and comes later
is_earlier : (m u : Mark) (k : ℕ) → is_same m u ≡ false → IsFrom m.sequence m.at k u → IsEarlier m.sequence m.at u.sequence u.at
is_earlier m u k h (inl l) = inl l
is_earlier m u k h (inr (e, inl l)) = inr (e, l)
is_earlier m u k h (inr (e, inr (a, l))) =
    absurd (false≢true (sym h ∙ both_true (eq-eqb u.sequence m.sequence (sym e)) (eq-eqb u.at m.at (sym a))))

medium_of : (o : Option ℕ) → is_none o ≡ false → (m : ℕ) × (o ≡ Some m)
medium_of None h = absurd (false≢true (sym h))
medium_of (Some m) h = (m, refl)

no_medium : (o : Option ℕ) → is_none o ≡ true → o ≡ None
no_medium None h = refl
no_medium (Some m) h = absurd (false≢true h)

module _ (p : Program) where
  twin_of : (s a : ℕ) (kind : Kind) (twin : Option ℕ) → is_before_twin p s a kind twin ≡ false
      → (z : List ℤ) × (u : ℕ) × (kind ≡ Get z) × (twin ≡ Some u) × ((s ≡ (calling p u).sequence) × (a < (calling p u).at) → ⊥)
  twin_of s a (Get z) (Some u) h =
      (z, u, refl, refl, λ r. false≢true (sym h ∙ both_true (eq-eqb s (caller_of p u) r.0) (lt-ltb a (called_at p u) r.1)))
  twin_of s a _ _ h = absurd (false≢true (sym h))

  module _ (v : ℕ) (m : Mark) (ms : List Mark) (e : marks_of p Called v ≡ m ∷ ms) where
    here : Calls p v m.sequence m.at
    here = calls_there p v m.sequence m.at m.port (names_in p Called v (m ∷ ms) e 0 m refl)

    again : (u : Mark) → first_failing (is_same m) ms ≡ Some u → IsCalledAgain p v u.sequence u.at
    again u h =
        let f = failing (is_same m) ms u h in (
          calls_there p v u.sequence u.at u.port (names_in p Called v (m ∷ ms) e (suc f.at) u f.there),
          (m.sequence, m.at, here, is_earlier m u (m.port + 1) f.fails (later p Called v m u ms e f.at f.there)),
        )

    -- the same instruction as the first call
    same_as : (u : Mark) (t b : ℕ) → u.sequence ≡ t → u.at ≡ b → is_same m u ≡ true → (t ≡ m.sequence) × (b ≡ m.at)
    same_as u t b d c h =
        let r = and_parts (nat_eq u.sequence m.sequence) (nat_eq u.at m.at) h in
        (sym d ∙ eqb-true u.sequence m.sequence r.0, sym c ∙ eqb-true u.at m.at r.1)

    at_first : (u : Mark) → first_failing (is_same m) ms ≡ Some u → (t b : ℕ) → Calls p v t b → IsEarlier t b u.sequence u.at → (t ≡ m.sequence) × (b ≡ m.at)
    at_first u h t b c l =
        let r = found p Called v m ms e t b 0 (there_calls p v t b c) in
        elim (passes_before p Called v m ms e (is_same m) u h t b 0 r l) [
          | inl same ↦ (sym r.sequence ∙ sym (ap (λ (z : Mark). z.sequence) same), sym r.instr ∙ sym (ap (λ (z : Mark). z.at) same))
          | inr test ↦ same_as r.place t b r.sequence r.instr test
        ]

    second : (u : Mark) → first_failing (is_same m) ms ≡ Some u → IsSecond (Calls p v) u.sequence u.at
    second u h t b w c d f l k =
        let x = at_first u h t b d l in
        let y = at_first u h w c f k in
        (x.0 ∙ sym y.0, x.1 ∙ sym y.1)

    alone : first_failing (is_same m) ms ≡ None → IsAlone (Calls p v) m.sequence m.at
    alone n t b c =
        let r = found p Called v m ms e t b 0 (there_calls p v t b c) in
        elim r.is [
          | inl same ↦ (sym r.sequence ∙ sym (ap (λ (z : Mark). z.sequence) same), sym r.instr ∙ sym (ap (λ (z : Mark). z.at) same))
          | inr (i, f) ↦ same_as r.place t b r.sequence r.instr (all_here (is_same m) ms (all_pass (is_same m) ms n) i r.place f)
        ]

module _ (p : Program) (g : Graph) (seqs : List Seq) (operators media : ℕ) where
  abbrev pub ShowsCalls : Place → Type 0
  ShowsCalls y = (cause_of y.rule ≡ calls_wrong) × Shows p g seqs operators media y × IsFirst p g seqs operators media y

  call_told : (v : ℕ) (x : Vertex) → slice_get g.vertices v ≡ Some x → AreCalledBefore p g v → Tells ShowsCalls (call_place p v x)
  call_told v x there first = by (marks_of p Called v) refl
    where
      by : (ms : List Mark) → marks_of p Called v ≡ ms → Tells ShowsCalls (call_place_by p v x ms)
      by [] e =
          tells_one ShowsCalls (record { rule = NotCalled; subject = Operation v; spot = None })
          (refl, (x, there, λ s a c. none_named p Called v e s a (Call v c.0 c.1) c.2 (same_numbers v)), first)
      by (m ∷ ms) e =
          tells_first ShowsCalls _ _
          (tells_mark ShowsCalls CalledAgain (Operation v) (first_failing (is_same m) ms) (λ u h. (refl, (x, there, (refl, again p v m ms e u h)), (first, (refl, second p v m ms e u h)))))
          (λ n. tells_first ShowsCalls _ _
          (tells_unless ShowsCalls (is_none (medium p m.sequence)) (record { rule = CalledInThread; subject = Operation v; spot = in_loop m.sequence m.at })
          (λ f. (refl, (x, there, (refl, (here p v m ms e, medium_of (medium p m.sequence) f))), (first, (refl, alone p v m ms e (no_mark _ _ _ n))))))
          (λ k. tells_unless ShowsCalls (is_before_twin p m.sequence m.at x.kind x.twin) (record { rule = GetNotBeforeSet; subject = Operation v; spot = in_loop m.sequence m.at })
          (λ f. (
            refl,
            (x, there, (refl, (here p v m ms e, twin_of p m.sequence m.at x.kind x.twin f))),
            (first, (refl, (alone p v m ms e (no_mark _ _ _ n), no_medium (medium p m.sequence) (holds_of (is_none (medium p m.sequence)) _ k)))),
          ))))

  pub calls_told : Tells ShowsCalls (calls_place p g.vertices)
  calls_told = tells_each ShowsCalls (call_place p) g.vertices (λ v x there before. call_told v x there (λ u z l e. once p u z (before u z l e)))

  pub called : calls_place p g.vertices ≡ None → (v : ℕ) (x : Vertex) → slice_get g.vertices v ≡ Some x → IsCalledOnce p v x
  called e v x h = once p v x (none_at (call_place p) g.vertices e v x h)
