-- The text of what the actuators take.
use Rattle.std.specs.Prelude.{ℕ, suc, ℤ, List, [], ◌∷◌, ◌++◌, slice_index_or, codes}
use Rattle.std.specs.Fmt.{decimal, signed_decimal}

-- ` v0 v1` and so on.
abbrev pub values_text : List ℤ → List ℕ
values_text [] = []
values_text (v ∷ vs) = codes " " ++ (signed_decimal v ++ values_text vs)

-- The line `k name v0 v1` and so on.
abbrev pub actuator_line : ℕ → List ℕ → List ℤ → List ℕ
actuator_line k name values = decimal k ++ (codes " " ++ (name ++ (values_text values ++ codes "\n")))

-- The lines of reaction k, from actuator a on, for the actuators of these names.
abbrev pub reaction_text : ℕ → ℕ → List (List ℕ) → List (List ℤ) → List ℕ
reaction_text k a [] row = []
reaction_text k a (name ∷ names) row =
    actuator_line k name (slice_index_or row a []) ++ reaction_text k (suc a) names row

-- The lines of these reactions, the first of which is reaction k.
abbrev pub text_from : ℕ → List (List ℕ) → List (List (List ℤ)) → List ℕ
text_from k names [] = []
text_from k names (row ∷ rows) = reaction_text k 0 names row ++ text_from (suc k) names rows

-- For each reaction in order and each actuator in declared order, its line.
abbrev pub output_text : List (List ℕ) → List (List (List ℤ)) → List ℕ
output_text names rows = text_from 0 names rows
