-- The marks of accepted texts.
use Rattle.std.specs.Prelude.{◌≡◌, ℕ, ◌≤◌, List, [], Option, Some, None, Ok, All}
use Rattle.syn_base.specs.Bytes.{Bytes}
use Rattle.algo_rules.specs.declared.Body.{Body}
use Rattle.algo_rules.specs.declared.Body.TheVariants.{Graph}
use Rattle.algo_rules.specs.declared.Defs.{Defs}
use Rattle.algo_rules.specs.declared.Reference.{Reference}
use Rattle.algo_rules.specs.Text.{definitions_of}

-- A mark stands in version 3 alone, and is a number from 1 to 16.
abbrev pub IsPeriod : ℕ → Option ℕ → Type 0
IsPeriod version None = Unit {0}
IsPeriod version (Some n) = (version ≡ 3) × (1 ≤ n) × (n ≤ 16)

-- The references of a graph, in order; any other body has none.
abbrev pub references_of : Body → List Reference
references_of (Graph ins outs references edges) = references
references_of _ = []

-- Each mark on a reference of the body is one that a text of this version may have.
abbrev pub HasPeriods : ℕ → Body → Type 0
HasPeriods version body = All (λ r. IsPeriod version r.every) (references_of body)

-- So have the definitions of every text that is accepted.
abbrev pub AcceptedHavePeriods : Type 0
AcceptedHavePeriods =
    (text : Bytes) (ds : Defs) → definitions_of text ≡ Ok ds → All (λ d. HasPeriods ds.version d.body) ds.defs
