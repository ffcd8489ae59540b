-- The token at a number, and the tokens after it.
use Rattle.std.proofs.Common.{◌≡◌, ℕ, zero, suc, ◌<◌, Some, List, [], ◌∷◌, length, drop, get_or, refl, arith, map}
use Rattle.body_text.specs.Tokens.{Token}
use Rattle.body_text.specs.Parse.{first_token}

pub first_at : {A : Type 0} (view : A → Token) (ps : List A) (at : ℕ) (d : A) → at < length ps → Some (view (get_or ps at d)) ≡ first_token (drop at (map view ps))
first_at view [] at d h = absurd (omega arith)
first_at view (p ∷ ps) zero d h = refl
first_at view (p ∷ ps) (suc i) d h = first_at view ps i d (omega arith)
