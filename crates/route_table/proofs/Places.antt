-- The places of a table's routes.
use Rattle.std.proofs.Common.{◌≡◌, ℕ, ◌+◌, ◌*◌, ◌<◌, ◌≤◌, ◌≢◌, List, [], arith, ◌∙◌, ◌⊎◌, inl, inr}
use Rattle.std.specs.Prelude.{slice_index_or, slice_set}
use Rattle.std.proofs.Math.Nat.{mul-le-mul_left}
use Rattle.std.proofs.lemmas.List.{get_or-set_other}
use Rattle.archi_graph.specs.declared.medium.Hop.{Hop}

-- a later row lies after an earlier one
rows_apart : (n o p d e : ℕ) → o < p → d < n → o * n + d < p * n + e
rows_apart n o p d e l k = let rows : o + 1 ≤ p = omega arith in omega (arith, mul-le-mul_left n rows)

-- routes between other operators lie in other places
pub places_differ : (n o p d e : ℕ) → d < n → e < n → (o ≢ p) ⊎ (d ≢ e) → o * n + d ≢ p * n + e
places_differ n o p d e k l (inl rows) same = rows (let a = rows_apart n o p d e in let b = rows_apart n p o e d in grind arith)
places_differ n o p d e k l (inr columns) same = columns (let a = rows_apart n o p d e in let b = rows_apart n p o e d in grind arith)

-- a write in one place leaves the routes between all other operators
pub put_elsewhere : (routes : List (List Hop)) (route : List Hop) (n at from to o d : ℕ) → at ≡ from * n + to → to < n → d < n → (o ≢ from) ⊎ (d ≢ to)
    → slice_index_or (slice_set routes at route) (o * n + d) [] ≡ slice_index_or routes (o * n + d) []
put_elsewhere routes route n at from to o d e l k apart = get_or-set_other routes at (o * n + d) route [] (λ same. places_differ n o from d to k l apart (same ∙ e))
