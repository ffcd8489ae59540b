-- What a drawing of a flat graph shows, statement by statement.
use Rattle.std.specs.Prelude.{ℕ, suc, List, [], ◌∷◌, ◌++◌, Option, Some, None}
use Rattle.schedule.specs.declared.Source.{Source}
use Rattle.schedule.specs.declared.Guard.{Guard}
use Rattle.schedule.specs.declared.Kind.{Kind}
use Rattle.schedule.specs.declared.Kind.TheVariants.{Set}
use Rattle.schedule.specs.declared.Vertex.{Vertex}

-- Operation v; its input i, with its source; its guard i; and where it is the set half of a delay,
-- that operation u,
-- the get half, gives in the next reaction what it keeps.
pub data Statement : Type 0 where
  operation : ℕ → Vertex → Statement
  input : ℕ → ℕ → Source → Statement
  condition : ℕ → ℕ → Guard → Statement
  keeps : ℕ → ℕ → Statement

-- The statements of these inputs of operation v, of which the first has number i.
abbrev pub inputs_from : ℕ → ℕ → List Source → List Statement
inputs_from v i [] = []
inputs_from v i (s ∷ ss) = input v i s ∷ inputs_from v (suc i) ss

-- The statements of these guards of operation v, of which the first has number i.
abbrev pub conditions_from : ℕ → ℕ → List Guard → List Statement
conditions_from v i [] = []
conditions_from v i (g ∷ gs) = condition v i g ∷ conditions_from v (suc i) gs

-- The statement that operation v keeps what operation u gives in the next reaction, and none if
-- there is no u.
abbrev pub kept : ℕ → Option ℕ → List Statement
kept v None = []
kept v (Some u) = keeps v u ∷ []

-- The same if this is the kind of a set half, and no statement otherwise.
unfoldable pub keeping : ℕ → Kind → Option ℕ → List Statement
keeping v Set twin = kept v twin
keeping v _ twin = []

-- an operation, and all edges that lead to it or from it back
abbrev pub statements_of : ℕ → Vertex → List Statement
statements_of v x =
    operation v x ∷ (inputs_from v 0 x.ins ++ (conditions_from v 0 x.guards ++
    keeping v x.kind x.twin))

-- operations that are numbered from v on
abbrev pub statements_from : ℕ → List Vertex → List Statement
statements_from v [] = []
statements_from v (x ∷ xs) = statements_of v x ++ statements_from (suc v) xs
