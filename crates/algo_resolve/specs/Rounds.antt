-- What the vertices of each definition pass on, from the definitions alone.
use Rattle.std.specs.Prelude.{
  ℕ,
  zero,
  suc,
  Bool,
  true,
  false,
  ◌==◌,
  List,
  [],
  ◌∷◌,
  map,
  Option,
  Some,
  None,
  Result,
  Ok,
  Err,
  slice_get,
  slice_index_or,
}
use Rattle.std.specs.List.{sum_by}
use Rattle.algo_laws.specs.Refusals.{AlgoRefusal}
use Rattle.algo_laws.specs.declared.Def.{Def}
use Rattle.algo_laws.specs.declared.Body.{Body}
use Rattle.algo_laws.specs.declared.Body.TheVariants.{Graph, Switch, Repeat}
use Rattle.algo_laws.specs.declared.Source.{Source}
use Rattle.algo_laws.specs.Ports.{ports_of}
use Rattle.algo_laws.specs.Resolved.{Making, count_by, count_within, vertex_within, vertices_of_line}
use Rattle.algo_laws.specs.Tree.{Vertex}
use Rattle.wiring_laws.specs.Definitions.{body_leads_by, leads_within}
use Rattle.wiring_laws.specs.Pruned.{own_of, prune, pruned}
use Rattle.wiring_laws.specs.Wiring.{Wire, with_wire}
use Rattle.algo_resolve.specs.declared.leads.Unit.{Unit}
use Rattle.algo_resolve.specs.declared.passing.Passing.{Passing}

-- Whether the vertices of a definition stand for no operation, where their outputs lead, and the outputs of a graph
-- that passes on the same.
pub record Passed : Type 0 where
  pub idle : Bool
  pub leads : List (Option ℕ)
  pub outs : List Source

-- Vertices whose outputs lead so.
abbrev pub passed : Bool → List (Option ℕ) → Passed
passed idle leads = record { idle = idle; leads = leads; outs = map own_of leads }

-- The vertices of a definition, if all that is more than n definitions deep becomes an empty graph without outputs.
abbrev pub passed_within : List Def → ℕ → Def → Passed
passed_within ds zero d = passed true []
passed_within ds (suc n) d =
    passed (count_by (count_within ds n) d.body == 0)
    (body_leads_by ds (leads_within ds n) (ports_of ds d.name) d.body)

-- Those of each definition, in the order of the text.
abbrev pub round : List Def → ℕ → List Passed
round ds n = map (passed_within ds n) ds

-- The same as code has it.
abbrev pub passing_view : Passing → Passed
passing_view p = record { idle = p.idle; leads = p.leads; outs = p.outs }

-- What stands where there is no definition.
abbrev pub nothing : Passed
nothing = passed false []

-- Whether the definition at a place stands for no operation.
abbrev pub idle_at : List Passed → ℕ → Bool
idle_at them p = (slice_index_or them p nothing).idle

-- Where the outputs of the definition at a place lead.
abbrev pub leads_at : List Passed → ℕ → List (Option ℕ)
leads_at them p = (slice_index_or them p nothing).leads

-- A list has no element.
abbrev pub is_empty : {A : Type 0} → List A → Bool
is_empty [] = true
is_empty (x ∷ xs) = false

-- The body stands for no operation besides those of what it names.
abbrev pub adds_none : Body → Bool
adds_none (Graph ins outs references edges) = true
adds_none (Switch on ins outs cases otherwise last) = is_empty outs
adds_none (Repeat copies def lines) = sum_by vertices_of_line lines == 0
adds_none _ = false

-- The wiring of a level, from the sources of each vertex's inputs and from where its outputs lead.
abbrev pub level_of : List (List Source) → List (List (Option ℕ)) → List Wire
level_of [] ls = []
level_of (s ∷ ss) [] = []
level_of (s ∷ ss) (l ∷ ls) = record { ins = s; leads = l } ∷ level_of ss ls

-- A vertex of a level as plain data.
abbrev pub unit_view : Unit → Wire
unit_view u = record { ins = u.ins.now; leads = u.leads.now }

-- The source at this input, if there is one.
abbrev pub source_at : List Source → Option ℕ → Option Source
source_at ins None = None
source_at ins (Some k) = slice_get ins k

-- The source of the input to which output p of vertex r leads.
abbrev pub hop : List Wire → ℕ → ℕ → Option Source
hop ws r p = with_wire (slice_get ws r) None (λ w. source_at w.ins (slice_index_or w.leads p None))

-- How a definition becomes a vertex in the pruned tree.
abbrev pub pruned_within : List Def → ℕ → Making
pruned_within ds n part w ins sensors actuators = prune (vertex_within ds n part w ins sensors actuators)

-- The pruned tree, or the same refusal.
abbrev pub pruned_result : Result Vertex AlgoRefusal → Result Vertex AlgoRefusal
pruned_result (Ok main) = Ok (pruned main)
pruned_result (Err e) = Err e
