-- The words after the first.
use Rattle.std.proofs.Common.{◌≡◌, List, [], ◌∷◌, length, drop, refl, arith}
use Rattle.syn_base.specs.Bytes.{Bytes}
use Rattle.text_lines.specs.Text.{word}

pub after_two : (ws : List Bytes) → length ws ≡ 3 → drop 1 ws ≡ word ws 1 ∷ word ws 2 ∷ []
after_two (a ∷ b ∷ c ∷ []) h = refl
after_two [] h = absurd (omega (arith, h))
after_two (a ∷ []) h = absurd (omega (arith, h))
after_two (a ∷ b ∷ []) h = absurd (omega (arith, h))
after_two (a ∷ b ∷ c ∷ d ∷ ws) h = absurd (omega (arith, h))

pub after_four : (ws : List Bytes) → length ws ≡ 5 → drop 1 ws ≡ word ws 1 ∷ word ws 2 ∷ word ws 3 ∷ word ws 4 ∷ []
after_four (a ∷ b ∷ c ∷ d ∷ e ∷ []) h = refl
after_four [] h = absurd (omega (arith, h))
after_four (a ∷ []) h = absurd (omega (arith, h))
after_four (a ∷ b ∷ []) h = absurd (omega (arith, h))
after_four (a ∷ b ∷ c ∷ []) h = absurd (omega (arith, h))
after_four (a ∷ b ∷ c ∷ d ∷ []) h = absurd (omega (arith, h))
after_four (a ∷ b ∷ c ∷ d ∷ e ∷ f ∷ ws) h = absurd (omega (arith, h))
