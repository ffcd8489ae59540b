-- Ascending numbers, with one more and with one less.
use Rattle.std.specs.Prelude.{ℕ, nat_eq, nat_lt, if◌then◌else◌, List, [], ◌∷◌}

-- with this number, each greater one moved on by one place
abbrev pub with_place : ℕ → List ℕ → List ℕ
with_place v [] = v ∷ []
with_place v (x ∷ xs) = if nat_lt v x then v ∷ with_place x xs else x ∷ with_place v xs

abbrev pub without_place : ℕ → List ℕ → List ℕ
without_place v [] = []
without_place v (x ∷ xs) = if nat_eq x v then without_place v xs else x ∷ without_place v xs
