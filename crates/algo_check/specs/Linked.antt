-- What a link leads to, where every name is known.
use Rattle.std.specs.Prelude.{◌≡◌, ℕ, ◌<◌, List, [], ◌∷◌, ◌++◌, length, map, None, Some, slice_get, slice_index_or}
use Rattle.syn_base.specs.Bytes.{Bytes}
use Rattle.algo_rules.specs.declared.Def.{Def}
use Rattle.algo_rules.specs.declared.Body.{Body}
use Rattle.algo_rules.specs.declared.Body.TheVariants.{Graph, Switch, Repeat}
use Rattle.algo_rules.specs.Links.{Mention, mentions, definition, unknown, links_of}

-- The definition of a name stands at this place.
pub record IsLinked (ds : List Def) (name : Bytes) (place : ℕ) : Type 0 where
  pub below : place < length ds
  pub found : definition ds name ≡ slice_get ds place

-- Each of these names at its place.
abbrev pub AreLinked : List Def → List Bytes → List ℕ → Type 0
AreLinked ds [] [] = Unit {0}
AreLinked ds [] (p ∷ ps) = ⊥
AreLinked ds (w ∷ ws) [] = ⊥
AreLinked ds (w ∷ ws) (p ∷ ps) = IsLinked ds w p × AreLinked ds ws ps

-- The names that a body has, in line order.
abbrev pub named : Body → List Bytes
named (Graph ins outs references edges) = map (λ r. r.def) references
named (Switch on ins outs cases otherwise last) = map (λ c. c.def) cases ++ otherwise ∷ []
named (Repeat copies def lines) = def ∷ []
named _ = []

-- The link of each line leads to the definition that the line names.
abbrev pub EachLeads : Type 0
EachLeads =
    (ds : List Def) (i k : ℕ) (d : Def) (m : Mention) →
    unknown ds ≡ None → slice_get ds i ≡ Some d → slice_get (mentions d) k ≡ Some m →
    IsLinked ds m.def (slice_index_or (slice_index_or (links_of ds) i []) k 0)

-- The links of a definition lead to those that its body names.
abbrev pub AllLead : Type 0
AllLead =
    (ds : List Def) (i : ℕ) (d : Def) → unknown ds ≡ None → slice_get ds i ≡ Some d →
    AreLinked ds (named d.body) (slice_index_or (links_of ds) i [])
