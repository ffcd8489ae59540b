-- What stands inside the graph that a switch becomes, as lists.
use Rattle.std.specs.Prelude.{ℕ, suc, ℤ, List, [], ◌∷◌, ◌++◌, slice_index_or}
use Rattle.algo_tree.specs.declared.Guard.{Guard}
use Rattle.algo_tree.specs.Tree.{Vertex}
use Rattle.flat_laws.specs.Guarded.{guard_for, merge_of, guarded}

-- The cases from this case on.
abbrev pub cases_listed : List Guard → ℕ → List ℤ → ℕ → List Vertex → List Vertex
cases_listed gs condition values case [] = []
cases_listed gs condition values case (u ∷ us) =
    guarded (gs ++ guard_for condition values case ∷ []) condition u ∷
    cases_listed gs condition values (suc case) us

-- The merges from that of this output on.
abbrev pub merges_listed : List ℕ → List Guard → ℕ → List ℤ → ℕ → List ℕ → ℕ → List (List ℕ) → List Vertex
merges_listed definition gs condition values cases outs output [] = []
merges_listed definition gs condition values cases outs output (name ∷ names) =
    merge_of definition gs condition values cases output name (slice_index_or outs output 0) ∷
    merges_listed definition gs condition values cases outs (suc output) names
