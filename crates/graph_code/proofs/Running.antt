-- Outputs whose codes are run one after another.
use Rattle.std.proofs.Common.{◌≡◌, ℕ, suc, ◌+◌, ◌<◌, ◌≤◌, ℤ, List, [], ◌∷◌, length, get_or, drop, refl, sym, ap, subst, ◌∙◌, arith, add-one}
use Rattle.std.proofs.Math.ListN.{drop_of_length-le}
use Rattle.std.proofs.Math.Seq.{drop-cons}
use Rattle.graph_code.specs.declared.operation.Output.{Output}
use Rattle.graph_code.specs.Fired.{HasPut, HavePut}

-- one output more
pub put_next : (outputs : List Output) (i : ℕ) (o d : Output) (store mid new : List ℤ) → i < length outputs → o ≡ get_or outputs i d → HasPut o store mid
    → HavePut (drop (i + 1) outputs) mid new → HavePut (drop i outputs) store new
put_next outputs i o d store mid new h is p rest =
    let split : drop i outputs ≡ get_or outputs i d ∷ drop (i + 1) outputs = drop-cons outputs i d h ∙ ap (λ n. get_or outputs i d ∷ drop n outputs) (sym (add-one i)) in
    let first : HasPut (get_or outputs i d) store mid = subst (λ x. HasPut x store mid) is p in
    subst (λ os. HavePut os store new) (sym split) (mid, first, rest)

pub put_done : (outputs : List Output) (i : ℕ) (store : List ℤ) → length outputs ≤ i → HavePut (drop i outputs) store store
put_done outputs i store h = subst (λ os. HavePut os store store) (sym (drop_of_length-le outputs h)) refl
