-- The checks of a graph: its edges in order, what is left open, cycles.
use Rattle.std.specs.Prelude.{
  ℕ,
  suc,
  Bool,
  true,
  false,
  not,
  ◌&&◌,
  ◌==◌,
  List,
  [],
  ◌∷◌,
  ◌++◌,
  map,
  Option,
  Some,
  None,
  if◌then◌else◌,
}
use Rattle.std.specs.List.{list_any, flat_map, position_or_len}
use Rattle.std.specs.Str.{bytes_eq}
use Rattle.algo_text.specs.declared.Port.{Port}
use Rattle.algo_text.specs.declared.definition.Def.{Def}
use Rattle.algo_text.specs.declared.definition.Body.{Body}
use Rattle.algo_text.specs.declared.definition.Body.TheVariants.{Delay}
use Rattle.algo_text.specs.declared.definition.Reference.{Reference}
use Rattle.algo_text.specs.declared.definition.Edge.{Edge}
use Rattle.algo_text.specs.declared.definition.End.{End}
use Rattle.algo_text.specs.declared.fault.AlgoCause.TheVariants.{
  UnknownName,
  WrongLength,
  TwiceConnected,
  Unconnected,
  Cycle,
}
use Rattle.syn_base.specs.Bytes.{Bytes}
use Rattle.algo_text.specs.Refusals.{AlgoRefusal}
use Rattle.algo_rules.specs.Links.{fault, first_of, definition}
use Rattle.reference_graph.specs.Links.{Links, reaches_itself}
use Rattle.algo_rules.specs.Ports.{no_ports}
use Rattle.algo_rules.specs.declared.ports.Ports.{Ports}
use Rattle.algo_text.specs.Words.{end_word, owned}

-- Both owners are the graph itself, or both are the reference of the same name.
abbrev pub same_owner : Option Bytes → Option Bytes → Bool
same_owner None None = true
same_owner None (Some s) = false
same_owner (Some r) None = false
same_owner (Some r) (Some s) = bytes_eq r s

-- Both ends are the same port of the same owner, by name.
abbrev pub same_end : End → End → Bool
same_end e f = same_owner e.owner f.owner && bytes_eq e.port f.port

-- An edge into this end is among these.
abbrev pub is_connected : List Edge → End → Bool
is_connected es e = list_any (λ f. same_end f.to e) es

-- The length of the port of a name, if there is one.
abbrev pub port_len : List Port → Bytes → Option ℕ
port_len [] w = None
port_len (p ∷ ps) w = if bytes_eq w p.name then Some p.len else port_len ps w

-- The ports of the definition of a reference.
abbrev pub ports_at : (Bytes → Ports) → List Reference → Bytes → Ports
ports_at of [] w = no_ports
ports_at of (r ∷ rs) w = if bytes_eq w r.name then of r.def else ports_at of rs w

-- A graph with these ports and references, where definitions have such ports.
module _ (of : Bytes → Ports) (own : Ports) (references : List Reference) where
  -- Values come from the graph's inputs and the references' outputs, and go to its outputs and their inputs.
  abbrev pub givers : Option Bytes → List Port
  givers None = own.ins
  givers (Some r) = (ports_at of references r).outs

  -- The ports into which edges may lead: the outputs of the graph, or the inputs of this reference.
  -- A name that is no reference has none.
  abbrev pub takers : Option Bytes → List Port
  takers None = own.outs
  takers (Some r) = (ports_at of references r).ins

  -- The ends are there in this order, the lengths are equal, and no edge before has this target.
  abbrev pub joins : List Edge → Edge → Option ℕ → Option ℕ → Option AlgoRefusal
  joins before e None to = fault e.line (UnknownName (end_word e.from))
  joins before e (Some n) None = fault e.line (UnknownName (end_word e.to))
  joins before e (Some n) (Some m) =
      if not (n == m) then fault e.line (WrongLength (end_word e.to)) else
      if is_connected before e.to then fault e.line (TwiceConnected (end_word e.to)) else
      None

  -- The fault of an edge, if it has one: an end that is not there, the source first; unequal
  -- lengths; or a target into which one of the edges before it leads.
  abbrev pub edge_fault : List Edge → Edge → Option AlgoRefusal
  edge_fault before e = joins before e
      (port_len (givers e.from.owner) e.from.port) (port_len (takers e.to.owner) e.to.port)

  -- For each of these edges in order its fault, if it has one. The edges `before` come before them.
  abbrev pub edge_faults : List Edge → List Edge → List (Option AlgoRefusal)
  edge_faults before [] = []
  edge_faults before (e ∷ es) = edge_fault before e ∷ edge_faults (before ++ e ∷ []) es

  -- The first of these ports into which no edge leads.
  abbrev pub open_fault : List Edge → ℕ → Option Bytes → List Port → Option AlgoRefusal
  open_fault edges line owner [] = None
  open_fault edges line owner (p ∷ ps) =
      if is_connected edges (record { owner = owner; port = p.name }) then open_fault edges line owner ps else
      fault line (Unconnected (owned owner p.name))

  -- The faults of the references in order, each at its line, and then of the graph's outputs at its own.
  abbrev pub open_faults : ℕ → List Edge → List (Option AlgoRefusal)
  open_faults line edges =
      map (λ r. open_fault edges r.line (Some r.name) (of r.def).ins) references ++
      open_fault edges line None own.outs ∷ []

-- There is a definition, and it is that of a delay.
abbrev pub is_delay : Option Def → Bool
is_delay (Some d) = delays d.body
  where
    delays : Body → Bool
    delays (Delay depth values) = true
    delays _ = false
is_delay None = false

-- The number of the reference of this name, from 0; the number of all references if there is none.
abbrev pub place : List Reference → Bytes → ℕ
place references w = position_or_len (λ r. bytes_eq w r.name) references

module _ (ds : List Def) (references : List Reference) where
  -- The reference on which the target of an edge depends, but for a delay.
  abbrev pub source_of : Option Bytes → List ℕ
  source_of None = []
  source_of (Some s) =
      if list_any (λ r. bytes_eq s r.name && is_delay (definition ds r.def)) references then [] else
      place references s ∷ []

  -- The owner of the end is the reference w.
  abbrev pub leads_to : Bytes → Option Bytes → Bool
  leads_to w None = false
  leads_to w (Some r) = bytes_eq w r

  -- The numbers of the references from which edges lead into reference w. Delays do not count, so
  -- that a cycle through a delay is none.
  abbrev pub sources : List Edge → Bytes → List ℕ
  sources edges w = flat_map (λ e. if leads_to w e.to.owner then source_of e.from.owner else []) edges

  -- On which references each depends.
  abbrev pub dependences : List Edge → Links
  dependences edges = map (λ r. sources edges r.name) references

  -- The names of the references that depend on themselves, in order.
  abbrev pub names_of : Links → ℕ → List Reference → List Bytes
  names_of links i [] = []
  names_of links i (r ∷ rs) =
      if reaches_itself links i then r.name ∷ names_of links (suc i) rs else names_of links (suc i) rs

  -- The refusal of a graph at this line for a cycle of these references; none if there
  -- are no references.
  abbrev pub cycle_by : ℕ → List Bytes → Option AlgoRefusal
  cycle_by line [] = None
  cycle_by line (r ∷ rs) = fault line (Cycle (r ∷ rs))

  -- The refusal of a graph at this line for its cycles, if it has any: it names, in order, every
  -- reference that depends on itself.
  abbrev pub cycle_fault : ℕ → List Edge → Option AlgoRefusal
  cycle_fault line edges = cycle_by line (names_of (dependences edges) 0 references)

-- A graph at this line: its edges in order, what is open, and cycles.
abbrev pub graph_fault : List Def → (Bytes → Ports) → ℕ → Ports → List Reference → List Edge → Option AlgoRefusal
graph_fault ds of line own references edges = first_of
    (edge_faults of own references [] edges ++
    open_faults of own references line edges ++
    cycle_fault ds references line edges ∷ [])
