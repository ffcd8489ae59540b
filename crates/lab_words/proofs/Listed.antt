-- The parts of the list of the commands, one after another.
use Rattle.std.proofs.Common.{◌≡◌, ◌∙◌, ℕ, List, [], ◌++◌, ap, append_assoc}

pub three_parts : (a b c d first second third : List ℕ) → a ≡ [] → b ≡ a ++ first → c ≡ b ++ second → d ≡ c ++ third → d ≡ first ++ (second ++ third)
three_parts a b c d first second third ea eb ec ed =
    ed ∙ ap (λ (x : List ℕ). x ++ third) (ec ∙ ap (λ (x : List ℕ). x ++ second) (eb ∙ ap (λ (x : List ℕ). x ++ first) ea)) ∙ append_assoc first second third
