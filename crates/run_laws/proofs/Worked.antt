-- Windows of worked runs.
use Rattle.std.proofs.Common.{◌≡◌, ◌+◌, ◌*◌, refl, [], ◌∷◌, map, sum}
use Rattle.run_laws.specs.Windows.{starts, reactions_from}

two_windows : starts 300 ≡ 0 ∷ 256 ∷ []
two_windows = refl

four_windows : starts 1000 ≡ 0 ∷ 256 ∷ 512 ∷ 768 ∷ []
four_windows = refl

no_window : starts 0 ≡ []
no_window = refl

full_window : starts 256 ≡ 0 ∷ []
full_window = refl

-- the windows of 1,000 reactions, and their micro-steps by a program with 4 in its prologues and 97 in a reaction
four_lengths : map (reactions_from 1000) (starts 1000) ≡ 256 ∷ 256 ∷ 256 ∷ 232 ∷ []
four_lengths = refl

four_prologues : sum (map (λ s. 4 + 97 * reactions_from 1000 s) (starts 1000)) ≡ 97016
four_prologues = refl
