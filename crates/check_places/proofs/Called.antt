-- An operation that has no place is called once.
use Rattle.std.proofs.Common.{◌≡◌, ℕ, true, List, [], ◌∷◌, refl, sym, subst, ◌∙◌}
use Rattle.std.specs.Prelude.{None, is_none}
use Rattle.std.specs.Cmp.Derive.{both_true}
use Rattle.std.proofs.lemmas.Bool.{and_parts}
use Rattle.sequence_build_laws.specs.declared.Vertex.{Vertex}
use Rattle.sequence_build_laws.specs.declared.Program.{Program}
use Rattle.sequence_build_laws.specs.Instructions.{medium}
use Rattle.sequence_build_laws.specs.Places.{caller_of}
use Rattle.program_walks.proofs.Readings.{same_numbers}
use Rattle.program_tables.specs.declared.mark_table.Mark.{Mark}
use Rattle.program_tables.specs.declared.roles.Role.TheVariants.{Called}
use Rattle.program_tables.specs.Marks.{lone, marks_of}
use Rattle.program_tables.proofs.Found.{at_is, sequence_is}
use Rattle.program_tables.proofs.Lone.{lone_is}
use Rattle.order_check.specs.Calls.{called_at, is_before_twin}
use Rattle.order_check.proofs.Called.{call_alone, only_call, twins_of}
use Rattle.check_laws.specs.Items.{IsCalledOnce}
use Rattle.check_laws.specs.Tests.{is_called}
use Rattle.check_places.specs.Calls.{call_place, call_place_by, is_same}
use Rattle.check_places.proofs.Places.{all_pass, holds_of, no_mark, none_parts}

module _ (p : Program) (v : ℕ) (x : Vertex) where
  by_marks : (ms : List Mark) → ms ≡ marks_of p Called v → call_place_by p v x ms ≡ None → is_called p v x ≡ true
  by_marks [] e h = absurd cc
  by_marks (m ∷ ms) e h =
      let parts = none_parts _ _ h in
      let others = none_parts _ _ parts.1 in
      let computes : is_none (medium p m.sequence) ≡ true = holds_of (is_none (medium p m.sequence)) _ others.0 in
      let before : is_before_twin p m.sequence m.at x.kind x.twin ≡ true = holds_of (is_before_twin p m.sequence m.at x.kind x.twin) _ others.1 in
      let s : m.sequence ≡ caller_of p v = sequence_is p Called v (m ∷ ms) m e refl in
      let a : m.at ≡ called_at p v = at_is p Called v (m ∷ ms) m e refl in
      let alone : lone m.sequence (m ∷ ms) ≡ true = both_true (both_true (same_numbers m.sequence) (same_numbers m.at)) (all_pass (is_same m) ms (no_mark _ _ _ parts.0)) in
      let here : lone (caller_of p v) (marks_of p Called v) ≡ true = sym (λ i. lone (s i) (e i)) ∙ alone in
      both_true (both_true
      (sym (lone_is p Called v (caller_of p v)) ∙ here)
      (subst (λ (t : ℕ). is_none (medium p t) ≡ true) s computes))
      ((λ i. is_before_twin p (sym s i) (sym a i) x.kind x.twin) ∙ before)

  pub called_once : call_place p v x ≡ None → is_called p v x ≡ true
  called_once h = by_marks (marks_of p Called v) refl h

  -- so it is called once
  pub once : call_place p v x ≡ None → IsCalledOnce p v x
  once h =
      let s = caller_of p v in
      let a = called_at p v in
      let twin = and_parts _ (is_before_twin p s a x.kind x.twin) (called_once h) in
      let alone = call_alone p v s a twin.0 in
      let only = only_call p v s a alone.0 in
      record {
        stands = only.0;
        only = only.1;
        computes = alone.1;
        twins = twins_of p s a x.kind x.twin twin.1;
      }
