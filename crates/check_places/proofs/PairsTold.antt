-- Where pairs are wrong: what a place shows of its pair, and that all before it are right.
use Rattle.std.proofs.Common.{◌≡◌, ℕ, ◌<◌, ◌≤◌, Bool, true, false, ◌&&◌, not, List, length, refl, eq-eqb, arith, inl, inr}
use Rattle.std.specs.Prelude.{Option, Some, None, nat_lt, slice_get}
use Rattle.std.specs.Cmp.Derive.{both_true}
use Rattle.std.proofs.lemmas.Bool.{and_parts, cases_lt, ltb-false, ltb-true}
use Rattle.std.proofs.lemmas.Option.{slice_get_within}
use Rattle.sequence_build_laws.specs.Graph.{Graph}
use Rattle.sequence_build_laws.specs.declared.Seq.{Seq}
use Rattle.sequence_build_laws.specs.declared.Program.{Program}
use Rattle.sequence_build_laws.specs.Instructions.{Reader, readers}
use Rattle.sequence_build_laws.specs.Places.{writer_of, written_at}
use Rattle.sequence_build_laws.specs.WellFormed.{operator_of}
use Rattle.program_walks.specs.Pairs.{has_operator, is_read_between, is_written_between}
use Rattle.program_walks.proofs.ListTests.{to_zero}
use Rattle.program_tables.specs.declared.roles.Role.TheVariants.{Read, EmptyTaken, FullSignalled, FullTaken, EmptySignalled}
use Rattle.program_tables.specs.Marks.{marks_of}
use Rattle.check_laws.specs.Items.{AreGuarded, AreWritten}
use Rattle.check_laws.specs.Tests.{guards, pairs_wrong}
use Rattle.check_laws.proofs.Causes.{guarded_of}
use Rattle.check_places.specs.declared.place.Place.{Place}
use Rattle.check_places.specs.declared.place.Rule.TheVariants.{MissingPair, PairElsewhere, EmptyNotTaken, FullNotSignalled, FullNotTaken, EmptyNotSignalled, FurtherPair}
use Rattle.check_places.specs.declared.place.Subject.TheVariants.{Pair}
use Rattle.check_places.specs.declared.place.Spot.{Spot}
use Rattle.check_places.specs.Ahead.{HoldsBelow, IsDeclared, IsFullTaken, IsPaired, IsWrittenBetween}
use Rattle.check_places.specs.First.{in_loop}
use Rattle.check_places.specs.Pairs.{declared_place, is_signalled_after, is_signalled_last, is_taken_before, is_taken_first, pair_place, pairs_place, reader_place, spot_in, writer_place}
use Rattle.check_places.specs.Shown.{IsFirst, Shows, cause_of}
use Rattle.check_places.specs.Wrong.{IsEmptyNotSignalled, IsFullNotTaken, IsMissingPair, IsPairElsewhere}
use Rattle.check_places.proofs.Guarding.{guarded}
use Rattle.check_places.proofs.Paired.{
  declared,
  elsewhere,
  in_read,
  missing,
  not_signalled_after,
  not_signalled_last,
  not_taken_before,
  not_taken_first,
  paired,
  signalled_after,
  taken_before,
  taken_first,
}
use Rattle.check_places.proofs.Places.{holds_of, none_parts}
use Rattle.check_places.proofs.Telling.{Tells, none_at, some_at, tells_each, tells_first, tells_unless}

module _ (p : Program) (g : Graph) (seqs : List Seq) (operators media : ℕ) where
  abbrev pub ShowsPairs : Place → Type 0
  ShowsPairs y = (cause_of y.rule ≡ pairs_wrong) × Shows p g seqs operators media y × IsFirst p g seqs operators media y

  module _ (right : AreWritten p g media) where
    module _ (q : ℕ) (x : Reader) (e : slice_get (readers p) q ≡ Some x) (first : HoldsBelow (IsPaired p) q) where
      abbrev w : ℕ
      w = writer_of p x.buffer

      abbrev a : ℕ
      a = written_at p x.buffer

      abbrev read : Option Spot
      read = spot_in x.sequence (marks_of p Read x.buffer)

      declared_told : Tells ShowsPairs (declared_place p q x.buffer read)
      declared_told =
          tells_first ShowsPairs _ _
          (tells_unless ShowsPairs (nat_lt q (length p.pairs)) (record { rule = MissingPair; subject = Pair q; spot = read })
          (λ f. (refl, (x, e, in_read p q x e (IsMissingPair p q x) (missing p q x e f)), first)))
          (λ n. tells_unless ShowsPairs (has_operator (slice_get p.pairs q) (operator_of p x.buffer)) (record { rule = PairElsewhere; subject = Pair q; spot = read })
          (λ f. (refl, (x, e, in_read p q x e (IsPairElsewhere p q x) (elsewhere p q x e (ltb-true q (length p.pairs) (holds_of (nat_lt q (length p.pairs)) _ n)) f)), first)))

      writer_told : IsDeclared p q x → Tells ShowsPairs (writer_place p q w a)
      writer_told known =
          tells_first ShowsPairs _ _
          (tells_unless ShowsPairs (is_taken_before w a (marks_of p EmptyTaken q)) (record { rule = EmptyNotTaken; subject = Pair q; spot = in_loop w a })
          (λ f. (refl, (x, e, (refl, not_taken_before p q x e g media right f)), (first, (x, e, known)))))
          (λ k. tells_unless ShowsPairs (is_signalled_after w a (marks_of p FullSignalled q)) (record { rule = FullNotSignalled; subject = Pair q; spot = in_loop w a })
          (λ f. (
            refl,
            (x, e, (refl, not_signalled_after p q x e g media right f)),
            (first, (x, e, known), (refl, taken_before p q w a (holds_of (is_taken_before w a (marks_of p EmptyTaken q)) _ k))),
          )))

      reader_told : IsDeclared p q x → IsWrittenBetween p q x → Tells ShowsPairs (reader_place p q x.sequence (marks_of p Read x.buffer) read)
      reader_told known between =
          tells_first ShowsPairs _ _
          (tells_unless ShowsPairs (is_taken_first x.sequence (marks_of p Read x.buffer) (marks_of p FullTaken q)) (record { rule = FullNotTaken; subject = Pair q; spot = read })
          (λ f. (refl, (x, e, in_read p q x e (IsFullNotTaken p q x) (not_taken_first p q x e f)), (first, (x, e, (known, between))))))
          (λ j. tells_unless ShowsPairs (is_signalled_last x.sequence (marks_of p Read x.buffer) (marks_of p EmptySignalled q)) (record { rule = EmptyNotSignalled; subject = Pair q; spot = read })
          (λ f. (
            refl,
            (x, e, in_read p q x e (IsEmptyNotSignalled p q x) (not_signalled_last p q x e f)),
            (first, (x, e, (known, between)), in_read p q x e (IsFullTaken p q) (taken_first p q x e (holds_of (is_taken_first x.sequence (marks_of p Read x.buffer) (marks_of p FullTaken q)) _ j))),
          )))

      pair_told : Tells ShowsPairs (pair_place p q x)
      pair_told =
          tells_first ShowsPairs _ _ declared_told (λ n.
          let known : IsDeclared p q x = declared p q x (holds_of (has_operator (slice_get p.pairs q) (operator_of p x.buffer)) _ (none_parts _ _ n).1) in
          tells_first ShowsPairs _ _ (writer_told known) (λ k.
          let parts = none_parts _ _ k in
          reader_told known (
            taken_before p q w a (holds_of (is_taken_before w a (marks_of p EmptyTaken q)) _ parts.0),
            signalled_after p q w a (holds_of (is_signalled_after w a (marks_of p FullSignalled q)) _ parts.1),
          )))

    not_false : (b : Bool) → not b ≡ false → b ≡ true
    not_false true e = refl
    not_false false e = absurd cc

    pairs_before : (q : ℕ) → q ≤ length (readers p) → ((j : ℕ) (z : Reader) → j < q → slice_get (readers p) j ≡ Some z → pair_place p j z ≡ None) → HoldsBelow (IsPaired p) q
    pairs_before q le before j l =
        let z = some_at (readers p) j (omega arith) in
        paired p j z.0 z.1 (guarded p j z.0 (before j z.0 l z.1))

    pub pairs_told : Tells ShowsPairs (pairs_place p)
    pairs_told =
        tells_first ShowsPairs _ _
        (tells_each ShowsPairs (pair_place p) (readers p) (λ q x e before.
        let l : q < length (readers p) = slice_get_within (readers p) q x e in
        pair_told q x e (pairs_before q (omega arith) before)))
        (λ n. tells_unless ShowsPairs (not (nat_lt (length (readers p)) (length p.pairs))) (record { rule = FurtherPair; subject = Pair (length (readers p)); spot = None })
        (λ f. (
          refl,
          (refl, ltb-true (length (readers p)) (length p.pairs) (not_false (nat_lt (length (readers p)) (length p.pairs)) f)),
          pairs_before (length (readers p)) (omega arith) (λ j z l e. none_at (pair_place p) (readers p) n j z e),
        )))

  not_more : (b : Bool) → not b ≡ true → b ≡ false
  not_more true e = absurd cc
  not_more false e = refl

  pub all_guarded : pairs_place p ≡ None → AreGuarded p
  all_guarded e =
      let parts = none_parts _ _ e in
      let each = λ (q : ℕ) (x : Reader) (i : slice_get (readers p) q ≡ Some x). guarded p q x (none_at (pair_place p) (readers p) parts.0 q x i) in
      let few : length p.pairs ≤ length (readers p) =
      ltb-false (length (readers p)) (length p.pairs)
      (not_more (nat_lt (length (readers p)) (length p.pairs)) (holds_of (not (nat_lt (length (readers p)) (length p.pairs))) _ parts.1)) in
      let many : length (readers p) ≤ length p.pairs = elim (cases_lt (length p.pairs) (length (readers p))) [
        | inl l ↦ (let x = some_at (readers p) (length p.pairs) l in
            let read = and_parts _ (is_read_between p (length p.pairs) x.0.buffer x.0.sequence) (each (length p.pairs) x.0 x.1) in
            let there = and_parts (nat_lt (length p.pairs) (length p.pairs)
            && has_operator (slice_get p.pairs (length p.pairs)) (operator_of p x.0.buffer))
            (is_written_between p (length p.pairs) (writer_of p x.0.buffer) (written_at p x.0.buffer)) read.0 in
            let below = and_parts (nat_lt (length p.pairs) (length p.pairs)) (has_operator (slice_get p.pairs (length p.pairs)) (operator_of p x.0.buffer)) there.0 in
            let z = ltb-true (length p.pairs) (length p.pairs) below.0 in absurd (omega (arith, z)))
        | inr l ↦ l
      ] in
      let same : length p.pairs ≡ length (readers p) = omega (arith, few, many) in
      guarded_of p g seqs operators media (both_true (eq-eqb (length p.pairs) (length (readers p)) same) (to_zero (guards p) (readers p) each))
