-- The drawing of an algorithm's definitions in the DOT language.
use Rattle.std.specs.Prelude.{
  ℕ,
  suc,
  Bool,
  true,
  false,
  ◌&&◌,
  List,
  [],
  ◌∷◌,
  ◌++◌,
  length,
  Option,
  Some,
  None,
}
use Rattle.std.specs.Fmt.{decimal, signed_decimal}
use Rattle.std.specs.List.{flat_map, list_any}
use Rattle.std.specs.Str.{bytes_eq}
use Rattle.syn_base.specs.Bytes.{Bytes}
use Rattle.algo_text.specs.declared.Port.{Port}
use Rattle.algo_text.specs.declared.definition.Def.{Def}
use Rattle.algo_text.specs.declared.definition.Defs.{Defs}
use Rattle.algo_text.specs.declared.definition.Body.{Body}
use Rattle.algo_text.specs.declared.definition.Body.TheVariants.{
  Sensor,
  Actuator,
  Constant,
  Delay,
  Function,
  Graph,
  Switch,
  Repeat,
}
use Rattle.algo_text.specs.declared.definition.Output.{Output}
use Rattle.algo_text.specs.declared.definition.Reference.{Reference}
use Rattle.algo_text.specs.declared.definition.End.{End}
use Rattle.algo_text.specs.declared.definition.Edge.{Edge}
use Rattle.algo_text.specs.declared.definition.Case.{Case}
use Rattle.algo_text.specs.declared.definition.Frontier.{Frontier}
use Rattle.algo_text.specs.declared.definition.Frontier.TheVariants.{Fork, Diffuse, Iterate, Join}
use Rattle.algo_text.specs.declared.definition.FrontierLine.{FrontierLine}
use Rattle.definition_drawing.specs.declared.word.Word.TheVariants as word
use Rattle.definition_drawing.specs.Words.{word_text}

-- The identifier of the node of an input of a definition.
unfoldable pub in_id : Bytes → Bytes → Bytes
in_id def port = def ++ (word_text word.In ++ port)

-- The identifier of the node of an output of a definition.
unfoldable pub out_id : Bytes → Bytes → Bytes
out_id def port = def ++ (word_text word.Out ++ port)

-- The identifier of the node of a reference in a graph.
unfoldable pub ref_id : Bytes → Bytes → Bytes
ref_id def name = def ++ (word_text word.Ref ++ name)

-- The identifier of the node of case n in a switch, counted from 0.
unfoldable pub case_id : Bytes → ℕ → Bytes
case_id def n = def ++ (word_text word.Case ++ decimal n)

-- The identifier of the node of the case `otherwise` in a switch, or of the copies in a repetition.
unfoldable pub rest_id : Bytes → Bytes
rest_id def = def ++ word_text word.Rest

-- A node with this identifier, and with this label and these attributes after it.
abbrev pub node_text : Bytes → Bytes → Bytes
node_text id rest =
    word_text word.Begin ++ (id ++ (word_text word.Label ++ (rest ++ word_text word.Finish)))

-- An edge from the first node to the second one, by their identifiers, with these attributes.
abbrev pub edge_text : Bytes → Bytes → Bytes → Bytes
edge_text from to rest =
    word_text word.Begin ++ (from ++ (word_text word.Target ++ (to ++
    (word_text word.Attributes ++ (rest ++ word_text word.Finish)))))

-- ports

-- The label of a port: its name and its length.
unfoldable pub port_label : Port → Bytes
port_label p = p.name ++ (word_text word.Blank ++ decimal p.len)

-- The node of an input of a definition.
abbrev pub in_text : Bytes → Port → Bytes
in_text def p = node_text (in_id def p.name) (port_label p ++ word_text word.Arrow)

-- The node of an output of a definition.
abbrev pub out_text : Bytes → Port → Bytes
out_text def p = node_text (out_id def p.name) (port_label p ++ word_text word.Arrow)

-- The nodes of these inputs of a definition, in their order.
abbrev pub ins_text : Bytes → List Port → Bytes
ins_text def ports = flat_map (in_text def) ports

-- The nodes of these outputs of a definition, in their order.
abbrev pub outs_text : Bytes → List Port → Bytes
outs_text def ports = flat_map (out_text def) ports

-- references

-- The body is that of a delay.
abbrev pub is_delay_body : Body → Bool
is_delay_body (Delay depth values) = true
is_delay_body _ = false

-- the name is that of a delay
abbrev pub is_delay : List Def → Bytes → Bool
is_delay defs name = list_any (λ d. bytes_eq d.name name && is_delay_body d.body) defs

-- The line with the mark in the label of a reference, and nothing if the reference has no mark.
abbrev pub mark_text : Option ℕ → Bytes
mark_text None = []
mark_text (Some n) = word_text word.Every ++ decimal n

-- The end of the label of a reference, and a dashed outline if the reference is to a delay.
abbrev pub style_text : Bool → Bytes
style_text true = word_text word.Dashed
style_text false = word_text word.Quote

-- the name over that of the definition, and the mark; dashed where it is a delay
abbrev pub reference_text : List Def → Bytes → Reference → Bytes
reference_text defs def r =
    node_text (ref_id def r.name)
    (r.name ++ (word_text word.Line ++ (r.def ++ (mark_text r.every ++
    style_text (is_delay defs r.def)))))

-- The nodes of these references of a graph, in their order.
abbrev pub references_text : List Def → Bytes → List Reference → Bytes
references_text defs def rs = flat_map (reference_text defs def) rs

-- the identifier of a reference, where there is one, and else of a port
abbrev pub owned : Bytes → Bytes → Option Bytes → Bytes
owned def port None = port
owned def port (Some name) = ref_id def name

-- where an edge begins: an input of the graph itself, or a reference; and where it ends
abbrev pub from_id : Bytes → End → Bytes
from_id def e = owned def (in_id def e.port) e.owner

-- The identifier of the node at which an edge of a graph ends: a reference, or an output of the
-- graph itself.
abbrev pub to_id : Bytes → End → Bytes
to_id def e = owned def (out_id def e.port) e.owner

-- an edge, with the names of both ports
abbrev pub link_text : Bytes → Edge → Bytes
link_text def e =
    edge_text (from_id def e.from) (to_id def e.to)
    (word_text word.EdgeTail ++ (e.from.port ++ (word_text word.Head ++ (e.to.port ++
    word_text word.Quote))))

-- The drawings of these edges of a graph, in their order.
abbrev pub links_text : Bytes → List Edge → Bytes
links_text def es = flat_map (link_text def) es

-- the cases of a switch

-- The node of case n of a switch, with its value and its definition, and a dotted edge to it from
-- the conditioning input.
abbrev pub case_text : Bytes → Bytes → ℕ → Case → Bytes
case_text def on n c =
    node_text (case_id def n) (word_text word.Selected ++ (signed_decimal c.value ++
    (word_text word.Line ++ (c.def ++ word_text word.Quote))))
    ++ edge_text (in_id def on) (case_id def n) (word_text word.Dotted)

-- The nodes and edges of these cases of a switch, of which the first has number n.
abbrev pub cases_from : Bytes → Bytes → ℕ → List Case → Bytes
cases_from def on n [] = []
cases_from def on n (c ∷ cs) = case_text def on n c ++ cases_from def on (suc n) cs

-- The node of the case `otherwise` of a switch, with its definition, and a dotted edge to it from
-- the conditioning input.
abbrev pub otherwise_text : Bytes → Bytes → Bytes → Bytes
otherwise_text def on otherwise =
    node_text (rest_id def) (word_text word.Otherwise ++ (otherwise ++ word_text word.Quote))
    ++ edge_text (in_id def on) (rest_id def) (word_text word.Dotted)

-- the conditioning input
abbrev pub on_text : Bytes → Bytes → Bytes
on_text def on = node_text (in_id def on) (word_text word.On ++ (on ++ word_text word.Arrow))

-- the frontier lines of a repetition, as edges to the copies and from them

-- The node of an outer input of a repetition, with its name.
abbrev pub outer_in : Bytes → Bytes → Bytes
outer_in def port = node_text (in_id def port) (port ++ word_text word.Arrow)

-- The node of an outer output of a repetition, with its name.
abbrev pub outer_out : Bytes → Bytes → Bytes
outer_out def port = node_text (out_id def port) (port ++ word_text word.Arrow)

-- The node of an outer input of a repetition and an edge from it to the copies, with the kind of
-- the frontier line and the name of the input that it feeds.
abbrev pub feed_text : Bytes → Bytes → Bytes → Bytes → Bytes
feed_text def kind outer inner =
    outer_in def outer
    ++ edge_text (in_id def outer) (rest_id def)
    (word_text word.EdgeLabel ++ (kind ++ (word_text word.Head ++ (inner ++ word_text word.Quote))))

-- The node of an outer output of a repetition and an edge to it from the copies, with the kind of
-- the frontier line and the name of the output that gives its value.
abbrev pub give_text : Bytes → Bytes → Bytes → Bytes → Bytes
give_text def kind given outer =
    outer_out def outer
    ++ edge_text (rest_id def) (out_id def outer)
    (word_text word.EdgeLabel ++ (kind ++ (word_text word.Tail ++ (given ++ word_text word.Quote))))

-- The nodes and edges of a frontier line. `iterate` has both an edge to the copies and one from
-- them, and every other kind has one of the two.
abbrev pub frontier_text : Bytes → Frontier → Bytes
frontier_text def (Fork outer inner) = feed_text def (word_text word.Fork) outer inner
frontier_text def (Diffuse outer inner) = feed_text def (word_text word.Diffuse) outer inner
frontier_text def (Iterate outer inner given last) =
    feed_text def (word_text word.Iterate) outer inner ++
    give_text def (word_text word.Iterate) given last
frontier_text def (Join given outer) = give_text def (word_text word.Join) given outer

-- The nodes and edges of these frontier lines of a repetition, in their order.
abbrev pub frontiers_text : Bytes → List FrontierLine → Bytes
frontiers_text def ls = flat_map (λ l. frontier_text def l.frontier) ls

-- The node that says how many copies of a definition a repetition has.
abbrev pub copies_text : Bytes → ℕ → Bytes → Bytes
copies_text def copies of =
    node_text (rest_id def) (decimal copies ++ (word_text word.Copies ++ (of ++
    word_text word.Double)))

-- definitions

-- a definition that is one node: its word and its name, what else is said of it, and its attributes
unfoldable pub single_head : Bytes → Bytes → Bytes
single_head kind def =
    word_text word.Begin ++ (def ++ (word_text word.Label ++ (kind ++ (word_text word.Blank ++
    def))))

-- A definition that is one node, with its kind and name, and then the rest of its label and its
-- attributes.
abbrev pub single_text : Bytes → Bytes → Bytes → Bytes
single_text kind def rest = single_head kind def ++ (rest ++ word_text word.Finish)

-- a definition with an inside, in a frame
unfoldable pub frame_head : Bytes → Bytes → Bytes
frame_head kind def =
    word_text word.Frame ++ (def ++ (word_text word.FrameLabel ++ (kind ++
    (word_text word.Blank ++ (def ++
    word_text word.TitleEnd)))))

-- A definition with an inside, in a frame that has its kind and name as the title.
abbrev pub framed_text : Bytes → Bytes → Bytes → Bytes
framed_text kind def inside = frame_head kind def ++ (inside ++ word_text word.FrameEnd)

-- a line of a function's label for each input, and for each output
abbrev pub input_lines : List Port → Bytes
input_lines ports = flat_map (λ p. word_text word.Input ++ port_label p) ports

-- The lines of a function's label for these outputs, each with the name and the length.
abbrev pub output_lines : List Output → Bytes
output_lines outs = flat_map (λ o. word_text word.Output ++ port_label o.port) outs

-- the inside of a graph, of a switch and of a repetition
abbrev pub graph_inside : List Def → Bytes → List Port → List Port → List Reference → List Edge →
    Bytes
graph_inside defs def ins outs references edges =
    ins_text def ins ++ (outs_text def outs ++ (references_text defs def references ++
    links_text def edges))

-- The inside of a switch: its conditioning input, its other inputs, its outputs, and its cases with
-- `otherwise` as the last.
abbrev pub switch_inside : Bytes → Bytes → List Port → List Port → List Case → Bytes → Bytes
switch_inside def on ins outs cases otherwise =
    on_text def on ++ (ins_text def ins ++ (outs_text def outs ++
    (cases_from def on 0 cases ++ otherwise_text def on otherwise)))

-- The inside of a repetition: its copies as one node, and its frontier lines.
abbrev pub repeat_inside : Bytes → ℕ → Bytes → List FrontierLine → Bytes
repeat_inside def copies of ls = copies_text def copies of ++ frontiers_text def ls

-- The drawing of the definition of this name and body. A graph, a switch and a repetition are
-- frames with their insides, and every other definition is one node.
abbrev pub body_text : List Def → Bytes → Body → Bytes
body_text defs def (Sensor len) =
    single_text (word_text word.Sensor) def (word_text word.Given ++ (decimal len ++
    word_text word.Round))
body_text defs def (Actuator len) =
    single_text (word_text word.Actuator) def (word_text word.Taken ++ (decimal len ++
    word_text word.Round))
body_text defs def (Constant values) =
    single_text (word_text word.Constant) def (word_text word.Given ++
    (decimal (length values) ++ word_text word.Note))
body_text defs def (Delay depth values) =
    single_text (word_text word.Delay) def
    (word_text word.Depth ++ (decimal depth ++ word_text word.Cylinder))
body_text defs def (Function ins outs) =
    single_text (word_text word.Function) def (input_lines ins ++ (output_lines outs ++
    word_text word.Quote))
body_text defs def (Graph ins outs references edges) =
    framed_text (word_text word.Graph) def (graph_inside defs def ins outs references edges)
body_text defs def (Switch on ins outs cases otherwise line) =
    framed_text (word_text word.Switch) def (switch_inside def on ins outs cases otherwise)
body_text defs def (Repeat copies of ls) =
    framed_text (word_text word.Repeat) def (repeat_inside def copies of ls)

-- The drawings of these definitions, in their order. All definitions are given too, since a
-- reference shows whether it is to a delay.
abbrev pub definitions_text : List Def → List Def → Bytes
definitions_text all ds = flat_map (λ d. body_text all d.name d.body) ds

-- The beginning of a drawing, with what holds for all its nodes and edges.
abbrev pub opening : Bytes
opening = word_text word.Opening

-- The end of a drawing.
abbrev pub closing : Bytes
closing = word_text word.Closing

-- the definitions of an algorithm, in their order
abbrev pub drawing : Defs → Bytes
drawing d = opening ++ (definitions_text d.defs d.defs ++ closing)
