-- What is accepted in the text of an algorithm and probably not meant. `ds` are its definitions.
use Rattle.std.specs.Prelude.{
  ℕ,
  ℤ,
  pos,
  negsuc,
  Bool,
  false,
  true,
  not,
  ◌&&◌,
  ◌||◌,
  nat_le,
  List,
  [],
  ◌∷◌,
  ◌++◌,
  Option,
  Some,
  None,
  slice_get,
  if◌then◌else◌,
}
use Rattle.std.specs.List.{flat_map, list_any}
use Rattle.std.specs.Ordering.{int_eq}
use Rattle.std.specs.Str.{bytes_eq}
use Rattle.syn_base.specs.Bytes.{Bytes}
use Rattle.body_lang.specs.Expr.{
  Expr,
  literal,
  index,
  element,
  sum_over,
  negation,
  apply,
  select,
}
use Rattle.algo_rules.specs.declared.Port.{Port}
use Rattle.algo_rules.specs.Among.{is_among}
use Rattle.algo_rules.specs.declared.Def.{Def}
use Rattle.algo_rules.specs.declared.Body.{Body}
use Rattle.algo_rules.specs.declared.Body.TheVariants.{
  Constant,
  Delay,
  Function,
  Graph,
  Switch,
}
use Rattle.algo_rules.specs.declared.Case.{Case}
use Rattle.algo_rules.specs.declared.Edge.{Edge}
use Rattle.algo_rules.specs.declared.End.{End}
use Rattle.algo_rules.specs.declared.Output.{Output}
use Rattle.algo_rules.specs.declared.Reference.{Reference}
use Rattle.algo_rules.specs.Links.{definition, is_main}
use Rattle.text_lint.specs.Named.{named_in}
use Rattle.text_lint.specs.declared.finding.Finding.{Finding}
use Rattle.text_lint.specs.declared.finding.Finding.TheVariants.{
  UnusedDefinition,
  OutsideElement,
  NeverTaken,
  UnreadDelay,
}

-- 1. A definition that no line names, unless it is `main`. One that is named by such definitions alone is not told.
abbrev pub unused_by : List Def → Def → List Finding
unused_by ds d =
    if is_main d.name || is_among d.name (named_in ds) then [] else
    UnusedDefinition d.line d.name ∷ []

-- The findings of unused definitions at these, in order; `ds` are all definitions of the text.
abbrev pub unused : List Def → List Def → List Finding
unused ds these = flat_map (unused_by ds) these

-- 2. Elements that an expression takes by a number which their port has not, so that they are 0.

-- A port of this length has no element of this number.
abbrev pub is_outside : ℕ → ℤ → Bool
is_outside len (pos n) = nat_le len n
is_outside len (negsuc n) = true

-- The finding that element n of this input of the function d is outside it, if it is; none if there
-- is no such input.
abbrev pub outside_port : Def → ℤ → Option Port → List Finding
outside_port d n None = []
outside_port d n (Some p) =
    if is_outside p.len n then OutsideElement d.line d.name p.name n p.len ∷ [] else []

-- The finding that the element of input k which this expression numbers is outside the input; none
-- unless the expression is a literal.
abbrev pub outside_at : Def → List Port → ℕ → Expr → List Finding
outside_at d ins k (literal n) = outside_port d n (slice_get ins k)
outside_at d ins k _ = []

-- The findings of elements outside their inputs in an expression over these inputs, from left to
-- right.
abbrev pub outside_in : Def → List Port → Expr → List Finding
outside_in d ins (literal n) = []
outside_in d ins index = []
outside_in d ins (element k at) = outside_at d ins k at ++ outside_in d ins at
outside_in d ins (sum_over k) = []
outside_in d ins (negation a) = outside_in d ins a
outside_in d ins (apply op a b) = outside_in d ins a ++ outside_in d ins b
outside_in d ins (select c a b) = outside_in d ins c ++ (outside_in d ins a ++ outside_in d ins b)

-- The findings of elements outside their inputs in the expressions of these outputs, in order.
abbrev pub outside_outputs : Def → List Port → List Output → List Finding
outside_outputs d ins outs = flat_map (λ o. outside_in d ins o.formula) outs

-- The findings of elements outside their inputs in the body of d; none if it is no function.
abbrev pub outside_body : Def → Body → List Finding
outside_body d (Function ins outs) = outside_outputs d ins outs
outside_body d _ = []

-- The findings of elements outside their inputs in a definition.
abbrev pub outside_by : Def → List Finding
outside_by d = outside_body d d.body

-- The findings of elements outside their inputs at these definitions, in order.
abbrev pub outside : List Def → List Finding
outside these = flat_map outside_by these

-- 3. Cases that a reference to their switch never takes, since a constant of another value
-- selects. An `otherwise`, which every switch has to have, is not told.

-- A reference owns the port, and it is this one.
abbrev pub is_owned_by : Bytes → Option Bytes → Bool
is_owned_by reference None = false
is_owned_by reference (Some owner) = bytes_eq reference owner

-- The end is this port of this reference.
abbrev pub is_port_of : Bytes → Bytes → End → Bool
is_port_of reference port end = is_owned_by reference end.owner && bytes_eq port end.port

-- The reference of this name, if there is one among these.
abbrev pub reference_in : List Reference → Bytes → Option Reference
reference_in [] name = None
reference_in (r ∷ rs) name = if bytes_eq name r.name then Some r else reference_in rs name

-- the first value of a constant: where it selects, its length is 1
abbrev pub constant_value : Body → Option ℤ
constant_value (Constant values) = slice_get values 0
constant_value _ = None

-- The first value of the definition, if there is one and it is a constant.
abbrev pub definition_value : Option Def → Option ℤ
definition_value None = None
definition_value (Some d) = constant_value d.body

-- The first value of the definition of the reference, if there is one and it is to a constant.
abbrev pub reference_value : List Def → Option Reference → Option ℤ
reference_value ds None = None
reference_value ds (Some r) = definition_value (definition ds r.def)

-- what an end with this owner gives, where a constant gives it
abbrev pub owner_value : List Def → List Reference → Option Bytes → Option ℤ
owner_value ds rs None = None
owner_value ds rs (Some owner) = reference_value ds (reference_in rs owner)

-- what comes at a port of a reference by the edge to it, where a constant gives it
abbrev pub port_value : List Def → List Reference → List Edge → Bytes → Bytes → Option ℤ
port_value ds rs [] reference port = None
port_value ds rs (e ∷ es) reference port =
    if is_port_of reference port e.to then owner_value ds rs e.from.owner else
    port_value ds rs es reference port

-- The finding that the case of this value is never taken at reference r, unless the value is the
-- one that is taken.
abbrev pub other_value : Reference → ℤ → ℤ → List Finding
other_value r taken value = if int_eq value taken then [] else NeverTaken r.line r.name value ∷ []

-- The finding that a case is never taken at reference r, unless its value is the one that is taken.
abbrev pub other_case : Reference → ℤ → Case → List Finding
other_case r taken c = other_value r taken c.value

-- The findings of those of these cases that are never taken at reference r, in order; none if no
-- constant gives the value that is taken.
abbrev pub other_cases : Reference → List Case → Option ℤ → List Finding
other_cases r cases None = []
other_cases r cases (Some taken) = flat_map (other_case r taken) cases

-- The findings of cases that are never taken at a reference to a definition with this body; none if
-- it is no switch.
abbrev pub never_body : List Def → List Reference → List Edge → Reference → Body → List Finding
never_body ds rs es r (Switch on ins outs cases otherwise last) =
    other_cases r cases (port_value ds rs es r.name on)
never_body ds rs es r _ = []

-- The findings of cases that are never taken at a reference to this definition, if there is one.
abbrev pub never_of : List Def → List Reference → List Edge → Reference → Option Def → List Finding
never_of ds rs es r None = []
never_of ds rs es r (Some d) = never_body ds rs es r d.body

-- The findings of cases that are never taken at reference r of a graph with these
-- references and edges.
abbrev pub never_at : List Def → List Reference → List Edge → Reference → List Finding
never_at ds rs es r = never_of ds rs es r (definition ds r.def)

-- The findings of cases that are never taken at the references of this body, in order; none
-- if it is no graph.
abbrev pub never_by : List Def → Body → List Finding
never_by ds (Graph ins outs references edges) = flat_map (never_at ds references edges) references
never_by ds _ = []

-- The findings of cases that are never taken at these definitions, in order.
abbrev pub never_taken : List Def → List Def → List Finding
never_taken ds these = flat_map (λ d. never_by ds d.body) these

-- 4. References to a delay from which no edge leads. An edge that leads back to the delay itself
-- counts.

-- The body is that of a delay.
abbrev pub is_delay : Body → Bool
is_delay (Delay depth values) = true
is_delay _ = false

-- There is a definition, and it is that of a delay.
abbrev pub is_delay_of : Option Def → Bool
is_delay_of None = false
is_delay_of (Some d) = is_delay d.body

-- Some edge leads from a port of this reference.
abbrev pub is_read : Bytes → List Edge → Bool
is_read reference es = list_any (λ e. is_owned_by reference e.from.owner) es

-- The finding that nothing reads reference r of a graph with these edges, if it is to a delay and
-- no edge leads from it.
abbrev pub unread_at : List Def → List Edge → Reference → List Finding
unread_at ds es r =
    if is_delay_of (definition ds r.def) && not (is_read r.name es)
    then UnreadDelay r.line r.name ∷ [] else []

-- The findings of delays that nothing reads at the references of this body, in order; none
-- if it is no graph.
abbrev pub unread_by : List Def → Body → List Finding
unread_by ds (Graph ins outs references edges) = flat_map (unread_at ds edges) references
unread_by ds _ = []

-- The findings of delays that nothing reads at these definitions, in order.
abbrev pub unread : List Def → List Def → List Finding
unread ds these = flat_map (λ d. unread_by ds d.body) these

-- All of them at these definitions: kind by kind, and each kind in their order.
abbrev pub findings_at : List Def → List Def → List Finding
findings_at ds these =
    unused ds these ++ (outside these ++ (never_taken ds these ++ unread ds these))

-- Of a text with these definitions.
abbrev pub algorithm_findings : List Def → List Finding
algorithm_findings ds = findings_at ds ds
