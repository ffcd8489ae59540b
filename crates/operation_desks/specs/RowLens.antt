-- The lengths of the vectors that actuators take, and those of the rows that are laid out.
use Rattle.std.specs.Prelude.{ℕ, ◌+◌, Bool, cond, List, [], ◌∷◌, ◌++◌, map}
use Rattle.executive_program.specs.declared.Vertex.{Vertex}
use Rattle.executive_program.specs.Graph.{Graph}
use Rattle.executive_program.specs.FlatLaws.{actuator_len}

-- The lengths of the actuators' rows where they are laid out for some operations alone, by
-- number: those of others have no element. The first of these operations has number v.
abbrev pub lens_for : Graph → (ℕ → Bool) → ℕ → List Vertex → List ℕ
lens_for g mine v [] = []
lens_for g mine v (x ∷ xs) = map (λ l. cond (mine v) l 0) (actuator_len g x x.kind) ++ lens_for g mine (v + 1) xs
