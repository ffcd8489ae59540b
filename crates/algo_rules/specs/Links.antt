-- Which definitions a definition refers to, and the checks on that alone: unknown and misplaced ones, recursion, depth.
use Rattle.std.specs.Prelude.{
  ℕ,
  Bool,
  true,
  false,
  not,
  ◌&&◌,
  ◌||◌,
  nat_lt,
  List,
  [],
  ◌∷◌,
  ◌++◌,
  map,
  Option,
  Some,
  None,
  slice_get,
  if◌then◌else◌,
  codes,
}
use Rattle.std.specs.List.{flat_map, position_or_len}
use Rattle.std.specs.Str.{bytes_eq}
use Rattle.syn_base.specs.declared.limits.LimitKind.TheVariants.{Depth}
use Rattle.syn_base.specs.Limits.{bound_of, most_depth}
use Rattle.algo_text.specs.declared.definition.Def.{Def}
use Rattle.algo_text.specs.declared.definition.Body.{Body}
use Rattle.algo_text.specs.declared.definition.Body.TheVariants.{Sensor, Actuator, Function, Graph, Switch, Repeat}
use Rattle.algo_text.specs.declared.fault.AlgoCause.{AlgoCause}
use Rattle.algo_text.specs.declared.fault.AlgoCause.TheVariants.{UnknownName, Misplaced, Recursive}
use Rattle.syn_base.specs.Bytes.{Bytes}
use Rattle.text_lines.specs.Refusals.{Refused, Limit}
use Rattle.algo_text.specs.Refusals.{AlgoRefusal}
use Rattle.reference_graph.specs.Links.{Links, first_recursive, depths}

-- The refusal of a line.
abbrev pub fault : ℕ → AlgoCause → Option AlgoRefusal
fault line cause = Some (Refused (record { line = line; cause = cause }))

-- The first fault that there is.
abbrev pub first_of : List (Option AlgoRefusal) → Option AlgoRefusal
first_of [] = None
first_of (None ∷ os) = first_of os
first_of (Some e ∷ os) = Some e

-- A line that names a definition: a reference of a graph, or else a case, an `otherwise` or a repetition.
pub record Mention : Type 0 where
  pub line : ℕ
  pub def : Bytes
  pub is_reference : Bool

-- The lines of a body that name definitions, in order.
abbrev pub mentions_in : ℕ → Body → List Mention
mentions_in n (Graph ins outs references edges) =
    map (λ r. record { line = r.line; def = r.def; is_reference = true }) references
mentions_in n (Switch on ins outs cases otherwise last) =
    map (λ c. record { line = c.line; def = c.def; is_reference = false }) cases ++
    record { line = last; def = otherwise; is_reference = false } ∷ []
mentions_in n (Repeat copies def lines) = record { line = n; def = def; is_reference = false } ∷ []
mentions_in n _ = []

-- The lines of a definition that name definitions, in order.
abbrev pub mentions : Def → List Mention
mentions d = mentions_in d.line d.body

-- The definition of a name.
abbrev pub definition : List Def → Bytes → Option Def
definition [] w = None
definition (d ∷ ds) w = if bytes_eq w d.name then Some d else definition ds w

-- A definition that is not there.
abbrev pub unknown_by : Mention → Option Def → Option AlgoRefusal
unknown_by m None = fault m.line (UnknownName m.def)
unknown_by m (Some d) = None

-- The refusal of the first line that names a definition which is not there.
abbrev pub unknown : List Def → Option AlgoRefusal
unknown ds = first_of (map (λ m. unknown_by m (definition ds m.def)) (flat_map mentions ds))

-- The name is `main`.
abbrev pub is_main : Bytes → Bool
is_main w = bytes_eq w (codes "main")

-- The body is that of a sensor or an actuator.
abbrev pub is_end : Body → Bool
is_end (Sensor n) = true
is_end (Actuator n) = true
is_end _ = false

-- Whether a definition may be a case or the body of a repetition.
abbrev pub may_be_inner : Body → Bool
may_be_inner (Function ins outs) = true
may_be_inner (Graph ins outs references edges) = true
may_be_inner (Switch on ins outs cases otherwise last) = true
may_be_inner (Repeat copies def lines) = true
may_be_inner _ = false

-- `main` is referred to nowhere, and sensors and actuators in `main` alone.
abbrev pub may_stand : Bytes → Mention → Option Def → Bool
may_stand owner m None = true
may_stand owner m (Some d) =
    not (is_main m.def) && (if m.is_reference then not (is_end d.body) || is_main owner else may_be_inner d.body)

-- A definition that may not stand where it is named.
abbrev pub misplaced_by : List Def → Bytes → Mention → Option AlgoRefusal
misplaced_by ds owner m =
    if may_stand owner m (definition ds m.def) then None else fault m.line (Misplaced m.def)

-- The refusal of the first line that names a definition which may not be used there.
abbrev pub misplaced : List Def → Option AlgoRefusal
misplaced ds = first_of (flat_map (λ d. map (misplaced_by ds d.name) (mentions d)) ds)

-- The references between definitions, which go by their place.
abbrev pub links_of : List Def → Links
links_of ds = map (λ d. map (λ m. position_or_len (λ e. bytes_eq m.def e.name) ds) (mentions d)) ds

-- The refusal of the definition with this number, at its line, because it reaches itself; none if
-- there is no number.
abbrev pub recursive_by : List Def → Option ℕ → Option AlgoRefusal
recursive_by ds None = None
recursive_by ds (Some i) = named (slice_get ds i)
  where
    named : Option Def → Option AlgoRefusal
    named None = None
    named (Some d) = fault d.line (Recursive d.name)

-- The first definition that reaches itself through references.
abbrev pub recursive : List Def → Option AlgoRefusal
recursive ds = recursive_by ds (first_recursive (links_of ds))

-- The refusal by the limit on depth, with the first of these depths that is above 8;
-- none if no depth is.
abbrev pub too_deep_by : List ℕ → Option AlgoRefusal
too_deep_by [] = None
too_deep_by (d ∷ ds) =
    if nat_lt most_depth d then Some (Limit (record { which = Depth; count = d; bound = bound_of Depth })) else
    too_deep_by ds

-- The first definition with a depth above 8.
abbrev pub too_deep : List Def → Option AlgoRefusal
too_deep ds = too_deep_by (depths (links_of ds))
