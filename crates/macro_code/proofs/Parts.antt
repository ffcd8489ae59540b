-- A text that grows part by part.
use Rattle.std.proofs.Common.{◌≡◌, ℕ, List, ◌++◌, Result, Ok, Err, OnOk, ap, ◌∙◌, append_assoc}

-- what was added after a first part, if all went well, was added with it
pub with_part : {T E : Type 0} (r : Result T E) (old mid new x y : List ℕ) → mid ≡ old ++ x → OnOk r (new ≡ mid ++ y) → OnOk r (new ≡ old ++ (x ++ y))
with_part (Ok v) old mid new x y first h = h ∙ (ap (λ (l : List ℕ). l ++ y) first ∙ append_assoc old x y)
with_part (Err e) old mid new x y first h = h
