-- Lists of ports of different lengths.
use Rattle.std.proofs.Common.{◌≡◌, Bool, true, false, ◌&&◌, suc, List, [], ◌∷◌, length, refl, ap}
use Rattle.algo_rules.specs.declared.Port.{Port}
use Rattle.algo_rules.specs.Ports.{same_ports}

and_false : (b c : Bool) → c ≡ false → (b && c) ≡ false
and_false true c h = h
and_false false c h = refl

pub other_lengths : (ps qs : List Port) → (length ps ≡ length qs → ⊥) → same_ports ps qs ≡ false
other_lengths [] [] h = absurd (h refl)
other_lengths [] (q ∷ qs) h = refl
other_lengths (p ∷ ps) [] h = refl
other_lengths (p ∷ ps) (q ∷ qs) h = and_false _ _ (other_lengths ps qs (λ e. h (ap suc e)))
