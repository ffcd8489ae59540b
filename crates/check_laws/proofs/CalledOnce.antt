-- The test of calls is true exactly where each operation is called once.
use Rattle.std.proofs.Common.{◌≡◌, ℕ, true, List, refl, sym, subst}
use Rattle.std.specs.Prelude.{slice_get, Option, Some, is_none}
use Rattle.std.specs.Cmp.Derive.{both_true}
use Rattle.std.proofs.lemmas.Bool.{and_parts}
use Rattle.sequence_build_laws.specs.declared.Vertex.{Vertex}
use Rattle.sequence_build_laws.specs.declared.Program.{Program}
use Rattle.sequence_build_laws.specs.Instructions.{turn}
use Rattle.sequence_build_laws.specs.Places.{caller_of, ins_in, outs_in}
use Rattle.order_check.specs.Calls.{called_at, is_before_twin}
use Rattle.program_walks.proofs.ListTests.{from_zero, to_zero}
use Rattle.order_check.proofs.Called.{twins_of, of_twins, only_call, of_only_call, call_alone}
use Rattle.check_laws.specs.Items.{IsCalledOnce}
use Rattle.check_laws.specs.Tests.{is_called, are_called}

module _ (p : Program) where
  once_of : (v : ℕ) (x : Vertex) → is_called p v x ≡ true → IsCalledOnce p v x
  once_of v x h =
      let s = caller_of p v in
      let a = called_at p v in
      let twin = and_parts _ (is_before_twin p s a x.kind x.twin) h in
      let alone = call_alone p v s a twin.0 in
      let only = only_call p v s a alone.0 in
      record {
        stands = only.0;
        only = only.1;
        computes = alone.1;
        twins = twins_of p s a x.kind x.twin twin.1;
      }

  pub of_once : (v : ℕ) (x : Vertex) → IsCalledOnce p v x → is_called p v x ≡ true
  of_once v x r =
      let s = caller_of p v in
      let a = called_at p v in
      both_true (both_true
      (of_only_call p v s a (ins_in (slice_get (turn p s) a)) (outs_in (slice_get (turn p s) a)) r.stands r.only)
      (subst (λ (o : Option ℕ). is_none o ≡ true) (sym r.computes) refl))
      (of_twins p s a x.kind x.twin r.twins)

  pub called_of : (vertices : List Vertex) → are_called p vertices ≡ true → (v : ℕ) (x : Vertex) → slice_get vertices v ≡ Some x → IsCalledOnce p v x
  called_of vertices h v x e = once_of v x (from_zero (λ v x. is_called p v x) vertices h v x e)

  pub of_called : (vertices : List Vertex) → ((v : ℕ) (x : Vertex) → slice_get vertices v ≡ Some x → IsCalledOnce p v x) → are_called p vertices ≡ true
  of_called vertices h = to_zero (λ v x. is_called p v x) vertices (λ v x e. of_once v x (h v x e))
