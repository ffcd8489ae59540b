-- The pair of a reader that has no place guards its buffer for it.
use Rattle.std.proofs.Common.{◌≡◌, ℕ, Bool, true, false, ◌&&◌, nat_eq, List, [], ◌∷◌, refl, sym, ◌∙◌}
use Rattle.std.specs.Prelude.{None, length, nat_lt, slice_get}
use Rattle.std.specs.List.{list_all}
use Rattle.std.specs.Cmp.Derive.{both_true}
use Rattle.std.proofs.lemmas.Bool.{and_parts}
use Rattle.sequence_build_laws.specs.declared.Program.{Program}
use Rattle.sequence_build_laws.specs.Instructions.{Reader}
use Rattle.sequence_build_laws.specs.Places.{writer_of, written_at}
use Rattle.sequence_build_laws.specs.WellFormed.{operator_of}
use Rattle.program_walks.specs.Pairs.{has_operator}
use Rattle.program_walks.specs.Walks.{implies}
use Rattle.program_tables.specs.declared.mark_table.Mark.{Mark}
use Rattle.program_tables.specs.declared.roles.Role.TheVariants.{Read, EmptyTaken, FullSignalled, FullTaken, EmptySignalled}
use Rattle.program_tables.specs.Marks.{first_at, lone, marks_of}
use Rattle.program_tables.proofs.Paired.{read_is, written_is}
use Rattle.check_laws.specs.Tests.{guards}
use Rattle.check_places.specs.Pairs.{is_signalled_after, is_signalled_last, is_taken_before, is_taken_first, pair_place}
use Rattle.check_places.proofs.Places.{holds_of, none_parts}

-- two tests under one condition are one
both_implied : (c a b : Bool) → implies c a ≡ true → implies c b ≡ true → implies c (a && b) ≡ true
both_implied true a b e f = both_true e f
both_implied false a b e f = refl

both_pass : (c a b : Mark → Bool) (ms : List Mark) → list_all (λ m. implies (c m) (a m)) ms ≡ true → list_all (λ m. implies (c m) (b m)) ms ≡ true
    → list_all (λ m. implies (c m) (a m && b m)) ms ≡ true
both_pass c a b [] e f = refl
both_pass c a b (m ∷ ms) e f =
    let left = and_parts (implies (c m) (a m)) (list_all (λ m. implies (c m) (a m)) ms) e in
    let right = and_parts (implies (c m) (b m)) (list_all (λ m. implies (c m) (b m)) ms) f in
    both_true (both_implied (c m) (a m) (b m) left.0 right.0) (both_pass c a b ms left.1 right.1)

module _ (p : Program) (q : ℕ) (x : Reader) where
  abbrev reads : List Mark
  reads = marks_of p Read x.buffer

  pub guarded : pair_place p q x ≡ None → guards p q x ≡ true
  guarded e =
      let parts = none_parts _ _ e in
      let ends = none_parts _ _ parts.1 in
      let declared = none_parts _ _ parts.0 in
      let writing = none_parts _ _ ends.0 in
      let reading = none_parts _ _ ends.1 in
      let w : ℕ = writer_of p x.buffer in
      let a : ℕ = written_at p x.buffer in
      let taken = and_parts (lone w (marks_of p EmptyTaken q)) (nat_lt (first_at (marks_of p EmptyTaken q)) a)
      (holds_of (is_taken_before w a (marks_of p EmptyTaken q)) _ writing.0) in
      let signalled = and_parts (lone w (marks_of p FullSignalled q)) (nat_lt a (first_at (marks_of p FullSignalled q)))
      (holds_of (is_signalled_after w a (marks_of p FullSignalled q)) _ writing.1) in
      let first = and_parts (lone x.sequence (marks_of p FullTaken q))
      (list_all (λ (m : Mark). implies (nat_eq m.sequence x.sequence) (nat_lt (first_at (marks_of p FullTaken q)) m.at)) reads)
      (holds_of (is_taken_first x.sequence reads (marks_of p FullTaken q)) _ reading.0) in
      let last = and_parts (lone x.sequence (marks_of p EmptySignalled q))
      (list_all (λ (m : Mark). implies (nat_eq m.sequence x.sequence) (nat_lt m.at (first_at (marks_of p EmptySignalled q)))) reads)
      (holds_of (is_signalled_last x.sequence reads (marks_of p EmptySignalled q)) _ reading.1) in
      let there : nat_lt q (length p.pairs) ≡ true = holds_of (nat_lt q (length p.pairs)) _ declared.0 in
      let on : has_operator (slice_get p.pairs q) (operator_of p x.buffer) ≡ true =
      holds_of (has_operator (slice_get p.pairs q) (operator_of p x.buffer)) _ declared.1 in
      both_true (both_true (both_true
      there
      on)
      (sym (written_is p q (writer_of p x.buffer) (written_at p x.buffer)) ∙ both_true (both_true (both_true taken.0 signalled.0) taken.1) signalled.1))
      (sym (read_is p q x.buffer x.sequence)
      ∙ both_true (both_true first.0 last.0)
      (both_pass (λ (m : Mark). nat_eq m.sequence x.sequence) (λ (m : Mark). nat_lt (first_at (marks_of p FullTaken q)) m.at)
      (λ (m : Mark). nat_lt m.at (first_at (marks_of p EmptySignalled q))) reads first.1 last.1))
