-- Where buffers are wrong: what a place shows of its buffer, its operation or its transfer, and what is right of all
-- before it.
use Rattle.std.proofs.Common.{◌≡◌, ℕ, ◌+◌, ◌<◌, true, nat_eq, List, ◌∷◌, [], drop, length, refl, sym, subst, eq-eqb, arith, inl, inr, ◌∙◌}
use Rattle.std.specs.Prelude.{Option, Some, None, slice_get}
use Rattle.std.specs.Cmp.Derive.{both_true}
use Rattle.std.proofs.lemmas.Bool.{eqb-true, false≢true}
use Rattle.std.proofs.lemmas.Option.{slice_get_within}
use Rattle.sequence_build_laws.specs.declared.Guard.{Guard}
use Rattle.sequence_build_laws.specs.declared.Source.{Source}
use Rattle.sequence_build_laws.specs.declared.Vertex.{Vertex}
use Rattle.sequence_build_laws.specs.Graph.{Graph}
use Rattle.sequence_build_laws.specs.declared.Seq.{Seq}
use Rattle.sequence_build_laws.specs.declared.Program.{Program}
use Rattle.sequence_build_laws.specs.Instructions.{len_of, turn}
use Rattle.sequence_build_laws.specs.MicroSteps.{first_of, transfers}
use Rattle.sequence_build_laws.specs.Places.{caller_of, carried, ins_in, outs_in, transfer, writing, written_at, writer_of}
use Rattle.program_walks.specs.Buffers.{has_places, is_buffer}
use Rattle.program_walks.specs.Walks.{all_below}
use Rattle.program_walks.proofs.ListTests.{of_below, to_zero}
use Rattle.program_tables.specs.declared.mark_table.Mark.{Mark}
use Rattle.program_tables.specs.declared.roles.Role.TheVariants.{Read, Written}
use Rattle.program_tables.specs.Crossings.{crossing}
use Rattle.program_tables.specs.Marks.{marks_of}
use Rattle.order_check.specs.Calls.{called_at, carries, gives, gives_at, takes}
use Rattle.order_check.specs.Carries.{is_kept}
use Rattle.order_check.proofs.Kept.{is_same_source, same_source_is}
use Rattle.check_laws.specs.Items.{AreTransferred, AreWritten, IsCalledOnce, IsWrittenOnce, is_made}
use Rattle.check_laws.specs.Tests.{buffers_wrong, fits, has_same_len}
use Rattle.check_laws.proofs.CalledOnce.{of_called}
use Rattle.check_laws.proofs.Named.{written_of}
use Rattle.check_places.specs.declared.place.Place.{Place}
use Rattle.check_places.specs.declared.place.Rule.TheVariants.{
  NotWritten,
  WrittenAgain,
  TouchedElsewhere,
  ReadTooEarly,
  WrongPlaces,
  NotMade,
  UnequalInputs,
  OtherInput,
  UnequalOutputs,
  OtherOutput,
  UnequalLengths,
  OtherValue,
}
use Rattle.check_places.specs.declared.place.Subject.TheVariants.{Buffer, Operation, Input, Output, Transfer}
use Rattle.check_places.specs.Ahead.{AreRight, FitBefore, HoldsBelow, HoldsEarlier, IsRight, Keeps, Takes}
use Rattle.check_places.specs.Buffers.{
  buffer_place,
  buffer_place_by,
  buffers_place,
  fit_place,
  given_place,
  guard_place,
  input_place,
  is_near_at,
  is_not_before,
  kept_place,
  made_place,
  output_place,
  taken_place,
}
use Rattle.check_places.specs.First.{first_failing, first_from, in_loop}
use Rattle.check_places.specs.Shown.{IsFirst, Shows, cause_of}
use Rattle.check_places.specs.Transfers.{first_on, first_over}
use Rattle.check_places.proofs.BuffersTold.{
  all_near,
  buffer_right,
  first_early,
  first_far,
  not_written,
  one_write,
  read_after,
  read_too_early,
  right,
  second,
  touched_elsewhere,
  written_again,
  written_once,
  wrong_places,
}
use Rattle.check_places.proofs.Carrying.{carry_below, fits_it, give_below, guard_passes, input_passes, other_guard, other_input, other_output, output_passes, takes_it, unequal_inputs, unequal_outputs}
use Rattle.check_places.proofs.Places.{holds_of, no_mark, none_parts}
use Rattle.check_places.proofs.Telling.{Tells, none_at, none_below_at, tells_below, tells_each, tells_first, tells_mark, tells_one, tells_unless}

module _ (p : Program) (g : Graph) where
  -- what a call takes and gives
  taken : (v : ℕ) (x : Vertex) (s a : ℕ) (ins : List ℕ) → taken_place p g.vertices v x s a ins ≡ None → takes p g.vertices ins x.guards x.ins ≡ true
  taken v x s a ins e =
      let many = none_parts _ _ e in
      let each = none_parts _ _ many.1 in
      both_true (both_true (holds_of (nat_eq (length ins) (length x.guards + length x.ins)) _ many.0)
      (to_zero (λ (k : ℕ) (d : Guard). carries p g.vertices d.source (slice_get ins k)) x.guards
      (λ k d h. holds_of (carries p g.vertices d.source (slice_get ins k)) _ (none_at (guard_place p g.vertices v s a ins) x.guards each.0 k d h))))
      (to_zero (λ (k : ℕ) (y : Source). carries p g.vertices y (slice_get (drop (length x.guards) ins) k)) x.ins
      (λ k y h. holds_of (carries p g.vertices y (slice_get (drop (length x.guards) ins) k)) _
      (none_at (input_place p g.vertices v s a (length x.guards) (drop (length x.guards) ins)) x.ins each.1 k y h)))

  given : (v : ℕ) (x : Vertex) (s a : ℕ) (outs : List ℕ) → given_place p g.vertices v x s a outs ≡ None → gives p v outs x.outs ≡ true
  given v x s a outs e =
      let many = none_parts _ _ e in
      both_true (holds_of (nat_eq (length outs) (length x.outs)) _ many.0)
      (to_zero (λ (k n : ℕ). gives_at p v k n (slice_get outs k)) x.outs
      (λ k n h. holds_of (gives_at p v k n (slice_get outs k)) _ (none_at (output_place p g.vertices v s a outs) x.outs many.1 k n h)))

  fit : (v : ℕ) (x : Vertex) → fit_place p g.vertices v x ≡ None → fits p g.vertices v x ≡ true
  fit v x e =
      let parts = none_parts _ _ e in
      both_true
      (taken v x (caller_of p v) (called_at p v) (ins_in (slice_get (turn p (caller_of p v)) (called_at p v))) parts.0)
      (given v x (caller_of p v) (called_at p v) (outs_in (slice_get (turn p (caller_of p v)) (called_at p v))) parts.1)

module _ (p : Program) (g : Graph) (seqs : List Seq) (operators media : ℕ) where
  abbrev pub ShowsBuffers : Place → Type 0
  ShowsBuffers y = (cause_of y.rule ≡ buffers_wrong) × Shows p g seqs operators media y × IsFirst p g seqs operators media y

  buffer_told : (b : ℕ) → b < length p.buffers → HoldsBelow (IsRight p) b → Tells ShowsBuffers (buffer_place p b)
  buffer_told b l first = by (marks_of p Written b) refl
    where
      by : (ms : List Mark) → marks_of p Written b ≡ ms → Tells ShowsBuffers (buffer_place_by p b ms (marks_of p Read b))
      by [] e = tells_one ShowsBuffers (record { rule = NotWritten; subject = Buffer b; spot = None }) (refl, (l, not_written p b e), first)
      by (m ∷ u ∷ ms) e =
          tells_one ShowsBuffers (record { rule = WrittenAgain; subject = Buffer b; spot = in_loop u.sequence u.at })
          (refl, (l, (refl, written_again p b m (u ∷ ms) e u ms refl)), (first, (refl, second p b m (u ∷ ms) e u ms refl)))
      by (m ∷ []) e =
          tells_first ShowsBuffers _ _
          (tells_mark ShowsBuffers TouchedElsewhere (Buffer b) (first_failing (is_near_at p b) (m ∷ marks_of p Read b))
          (λ u h. (refl, (l, (refl, touched_elsewhere p b m [] e u h)), (first, one_write p b m [] e refl, (refl, first_far p b m [] e refl u h)))))
          (λ n. tells_first ShowsBuffers _ _
          (tells_mark ShowsBuffers ReadTooEarly (Buffer b) (first_failing (is_not_before m) (marks_of p Read b))
          (λ u h. (
            refl,
            (l, (refl, read_too_early p b m [] e u h)),
            (first, one_write p b m [] e refl, all_near p b m [] e refl (no_mark _ _ _ n), (refl, first_early p b m [] e u h)),
          )))
          (λ k. tells_unless ShowsBuffers (has_places p b) (record { rule = WrongPlaces; subject = Buffer b; spot = in_loop m.sequence m.at })
          (λ f. (
            refl,
            (l, (refl, wrong_places p b m [] e f)),
            (first, one_write p b m [] e refl, all_near p b m [] e refl (no_mark _ _ _ n), (refl, read_after p b m [] e (no_mark _ _ _ k))),
          ))))

  made_told : HoldsBelow (IsRight p) (length p.buffers) → (b : ℕ) → b < length p.buffers → HoldsBelow (IsWrittenOnce p) b → Tells ShowsBuffers (made_place p b)
  made_told all b l first =
      tells_unless ShowsBuffers (is_made p (length p.buffers) b) (record { rule = NotMade; subject = Buffer b; spot = in_loop (writer_of p b) (written_at p b) })
      (λ f. let r = all b l in (refl, (l, (refl, (((writing p b).port, (r.instr, r.stands, r.writes)), f))), (all, first)))

  module _ (called : (v : ℕ) (x : Vertex) → slice_get g.vertices v ≡ Some x → IsCalledOnce p v x) (moved : AreTransferred p media) where
    module _ (all_right : AreRight p) where
      module _ (v : ℕ) (x : Vertex) (there : slice_get g.vertices v ≡ Some x) (first : FitBefore p g v) where
        abbrev s : ℕ
        s = caller_of p v

        abbrev a : ℕ
        a = called_at p v

        abbrev ins : List ℕ
        ins = ins_in (slice_get (turn p s) a)

        abbrev outs : List ℕ
        outs = outs_in (slice_get (turn p s) a)

        once : IsCalledOnce p v x
        once = called v x there

        abbrev guards_place : Option Place
        guards_place = first_from (guard_place p g.vertices v s a ins) 0 x.guards

        guards_told : length ins ≡ length x.guards + length x.ins → Tells ShowsBuffers guards_place
        guards_told e = tells_each ShowsBuffers (guard_place p g.vertices v s a ins) x.guards (λ k d i before.
            tells_unless ShowsBuffers (carries p g.vertices d.source (slice_get ins k)) (record { rule = OtherInput; subject = Input v k; spot = in_loop s a })
            (λ f. (
              refl,
              (x, there, (refl, other_guard p g v x once e k d i f)),
              (
                all_right,
                first,
                (
                  x,
                  there,
                  (
                    e,
                    carry_below p g v x once k
                        (λ j c l h. guard_passes p g v x once j c (before j c l h))
                        (λ j c l h. (let m : k < length x.guards = slice_get_within x.guards k d i in absurd (omega arith))),
                  ),
                ),
              ),
            )))

        inputs_told : length ins ≡ length x.guards + length x.ins → guards_place ≡ None
            → Tells ShowsBuffers (first_from (input_place p g.vertices v s a (length x.guards) (drop (length x.guards) ins)) 0 x.ins)
        inputs_told e none = tells_each ShowsBuffers (input_place p g.vertices v s a (length x.guards) (drop (length x.guards) ins)) x.ins (λ k z i before.
            tells_unless ShowsBuffers (carries p g.vertices z (slice_get (drop (length x.guards) ins) k)) (record { rule = OtherInput; subject = Input v (length x.guards + k); spot = in_loop s a })
            (λ f. (
              refl,
              (x, there, (refl, other_input p g v x once e k z i f)),
              (
                all_right,
                first,
                (
                  x,
                  there,
                  (
                    e,
                    carry_below p g v x once (length x.guards + k)
                        (λ j d l h. guard_passes p g v x once j d (none_at (guard_place p g.vertices v s a ins) x.guards none j d h))
                        (λ j c l h. input_passes p g v x once j c (before j c (omega arith) h)),
                  ),
                ),
              ),
            )))

        taken_told : Tells ShowsBuffers (taken_place p g.vertices v x s a ins)
        taken_told =
            tells_first ShowsBuffers _ _
            (tells_unless ShowsBuffers (nat_eq (length ins) (length x.guards + length x.ins)) (record { rule = UnequalInputs; subject = Operation v; spot = in_loop s a })
            (λ f. (refl, (x, there, (refl, unequal_inputs p g v x once f)), (all_right, first))))
            (λ n.
            let e : length ins ≡ length x.guards + length x.ins = eqb-true (length ins) (length x.guards + length x.ins) (holds_of (nat_eq (length ins) (length x.guards + length x.ins)) _ n) in
            tells_first ShowsBuffers _ _ (guards_told e) (λ none. inputs_told e none))

        given_told : Takes p g v x → Tells ShowsBuffers (given_place p g.vertices v x s a outs)
        given_told took =
            tells_first ShowsBuffers _ _
            (tells_unless ShowsBuffers (nat_eq (length outs) (length x.outs)) (record { rule = UnequalOutputs; subject = Operation v; spot = in_loop s a })
            (λ f. (refl, (x, there, (refl, unequal_outputs p g v x once f)), (all_right, first, (x, there, took)))))
            (λ n.
            let e : length outs ≡ length x.outs = eqb-true (length outs) (length x.outs) (holds_of (nat_eq (length outs) (length x.outs)) _ n) in
            tells_each ShowsBuffers (output_place p g.vertices v s a outs) x.outs (λ k m i before.
            tells_unless ShowsBuffers (gives_at p v k m (slice_get outs k)) (record { rule = OtherOutput; subject = Output v k; spot = in_loop s a })
            (λ f. (
              refl,
              (x, there, (refl, other_output p g v x once e k m i f)),
              (all_right, first, (x, there, (took, e, give_below p g v x once k (λ j c l h. output_passes p g v x once j c (before j c l h))))),
            ))))

        fit_told : Tells ShowsBuffers (fit_place p g.vertices v x)
        fit_told = tells_first ShowsBuffers _ _ taken_told (λ none. given_told (takes_it p g v x once none))

      kept_told : FitBefore p g (length g.vertices) → (m t : ℕ) → m < media → t < transfers p m → HoldsEarlier p (Keeps p) m t → Tells ShowsBuffers (kept_place p m t)
      kept_told fits_all m t l k first =
          tells_first ShowsBuffers _ _
          (tells_unless ShowsBuffers (has_same_len p m t) (record { rule = UnequalLengths; subject = Transfer m t; spot = in_loop (crossing p m t).receiver (crossing p m t).receive_at })
          (λ f. (
            refl,
            (l, k, (refl, ((refl, refl, moved.transfers m t l k), λ e. false≢true (sym f ∙ eq-eqb (len_of p (transfer p m t).received) (len_of p (transfer p m t).sent) e)))),
            (all_right, fits_all, first),
          )))
          (λ n. tells_unless ShowsBuffers (is_kept p m t) (record { rule = OtherValue; subject = Transfer m t; spot = in_loop (crossing p m t).receiver (crossing p m t).receive_at })
          (λ f. (
            refl,
            (l, k, (refl, ((refl, refl, moved.transfers m t l k), λ e. false≢true (sym f ∙ is_same_source (carried p (transfer p m t).received) (carried p (transfer p m t).sent) e)))),
            ((all_right, fits_all, first), eqb-true (len_of p (transfer p m t).received) (len_of p (transfer p m t).sent) (holds_of (has_same_len p m t) _ n)),
          )))

      keeps : (m t : ℕ) → kept_place p m t ≡ None → Keeps p m t
      keeps m t e =
          let parts = none_parts _ _ e in (
            eqb-true (len_of p (transfer p m t).received) (len_of p (transfer p m t).sent) (holds_of (has_same_len p m t) _ parts.0),
            same_source_is (carried p (transfer p m t).received) (carried p (transfer p m t).sent) (holds_of (is_kept p m t) _ parts.1),
          )

      earlier_kept : (m t : ℕ) → ((n : ℕ) → n < m → first_on p (kept_place p) n ≡ None) → ((u : ℕ) → u < t → kept_place p m u ≡ None) → HoldsEarlier p (Keeps p) m t
      earlier_kept m t media_before before n u (inl l) k = keeps n u (none_below_at (kept_place p n) (transfers p n) (media_before n l) u k)
      earlier_kept m t media_before before n u (inr (e, l)) k = subst (λ (j : ℕ). Keeps p j u) (sym e) (keeps m u (before u l))

      fitting : (v : ℕ) → ((u : ℕ) (x : Vertex) → u < v → slice_get g.vertices u ≡ Some x → fit_place p g.vertices u x ≡ None) → FitBefore p g v
      fitting v before u x l there = fits_it p g u x (called u x there) (before u x l there)

      values_told : Tells ShowsBuffers (first_of (first_from (fit_place p g.vertices) 0 g.vertices) (first_over p (kept_place p) media))
      values_told =
          tells_first ShowsBuffers _ _
          (tells_each ShowsBuffers (fit_place p g.vertices) g.vertices (λ v x there before. fit_told v x there (fitting v before)))
          (λ fit_none.
          let fits_all : FitBefore p g (length g.vertices) = fitting (length g.vertices) (λ u x l there. none_at (fit_place p g.vertices) g.vertices fit_none u x there) in
          tells_below ShowsBuffers (first_on p (kept_place p)) media (λ m l media_before.
          tells_below ShowsBuffers (kept_place p m) (transfers p m) (λ t k before. kept_told fits_all m t l k (earlier_kept m t media_before before))))

    pub buffers_told : Tells ShowsBuffers (buffers_place p g.vertices media)
    buffers_told =
        tells_first ShowsBuffers _ _
        (tells_below ShowsBuffers (buffer_place p) (length p.buffers) (λ b l before. buffer_told b l (λ c k. right p c (before c k))))
        (λ single.
        let all : HoldsBelow (IsRight p) (length p.buffers) = (λ c k. right p c (none_below_at (buffer_place p) (length p.buffers) single c k)) in
        let made : (c : ℕ) → c < length p.buffers → made_place p c ≡ None → IsWrittenOnce p c = (λ c k e. written_once p c (all c k) (holds_of (is_made p (length p.buffers) c) _ e)) in
        tells_first ShowsBuffers _ _
        (tells_below ShowsBuffers (made_place p) (length p.buffers) (λ b l before. made_told all b l (λ c k. made c (omega arith) (before c k))))
        (λ none. values_told (λ c k. made c k (none_below_at (made_place p) (length p.buffers) none c k))))

  pub written : ((v : ℕ) (x : Vertex) → slice_get g.vertices v ≡ Some x → IsCalledOnce p v x) → buffers_place p g.vertices media ≡ None → AreWritten p g media
  written called e =
      let single = none_parts _ _ e in
      let made = none_parts _ _ single.1 in
      let fitting = none_parts _ _ made.1 in
      let kept = λ (m t : ℕ) (l : m < media) (k : t < transfers p m). none_parts _ _
      (none_below_at (kept_place p m) (transfers p m) (none_below_at (first_on p (kept_place p)) media fitting.1 m l) t k) in
      written_of p g media (of_called p g.vertices called) (both_true (both_true (both_true (both_true
      (of_below (is_buffer p) (length p.buffers) (λ b l. buffer_right p b (none_below_at (buffer_place p) (length p.buffers) single.0 b l)))
      (of_below (is_made p (length p.buffers)) (length p.buffers) (λ b l. holds_of (is_made p (length p.buffers) b) _ (none_below_at (made_place p) (length p.buffers) made.0 b l))))
      (to_zero (λ v x. fits p g.vertices v x) g.vertices (λ v x i. fit p g v x (none_at (fit_place p g.vertices) g.vertices fitting.0 v x i))))
      (of_below (λ m. all_below (λ t. has_same_len p m t) (transfers p m)) media (λ m l. of_below (λ t. has_same_len p m t) (transfers p m) (λ t k. holds_of (has_same_len p m t) _ (kept m t l k).0))))
      (of_below (λ m. all_below (λ t. is_kept p m t) (transfers p m)) media (λ m l. of_below (λ t. is_kept p m t) (transfers p m) (λ t k. holds_of (is_kept p m t) _ (kept m t l k).1))))
