-- One operator more at a medium.
use Rattle.std.proofs.Common.{◌≡◌, ℕ, suc, ◌+◌, Bool, not, true, false, cond, List, [], ◌∷◌, nat_lt, refl, ap, arith}
use Rattle.std.specs.List.{insert, position_or_len}
use Rattle.archi_defs.specs.Text.{with_stand}

front : (here : Bool) (o p : ℕ) (ps : List ℕ) (at : ℕ) → insert ps at o ≡ with_stand o ps
    → insert (p ∷ ps) (cond (not here) (1 + at) 0) o ≡ cond here (o ∷ p ∷ ps) (p ∷ with_stand o ps)
front true o p ps at h = refl
front false o p ps at h = let more : 1 + at ≡ suc at = omega arith in rw more (ap (λ (l : List ℕ). p ∷ l) h)

-- it stands before the first greater one
pub placed : (o : ℕ) (ps : List ℕ) → insert ps (position_or_len (nat_lt o) ps) o ≡ with_stand o ps
placed o [] = refl
placed o (p ∷ ps) = front (nat_lt o p) o p ps (position_or_len (nat_lt o) ps) (placed o ps)
