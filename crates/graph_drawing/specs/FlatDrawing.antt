-- The drawing of a flat graph in the DOT language.
use Rattle.std.specs.Prelude.{ℕ, suc, nat_eq, List, [], ◌∷◌, ◌++◌, Option, Some, None, option_map, codes}
use Rattle.std.specs.Fmt.{decimal}
use Rattle.std.specs.List.{find, flat_map}
use Rattle.syn_base.specs.Bytes.{Bytes}
use Rattle.schedule.specs.declared.Source.{Source}
use Rattle.schedule.specs.declared.Guard.{Guard}
use Rattle.schedule.specs.declared.Kind.{Kind}
use Rattle.schedule.specs.declared.Kind.TheVariants.{
  Sensor,
  Actuator,
  Function,
  Constant,
  Get,
  Set,
  Explode,
  Implode,
  Merge,
}
use Rattle.schedule.specs.declared.Vertex.{Vertex}
use Rattle.schedule.specs.Graph.{Graph}
use Rattle.schedule.specs.declared.Medium.{Medium}
use Rattle.schedule.specs.Archi.{Architecture}
use Rattle.schedule.specs.declared.decision.Transfer.{Transfer}
use Rattle.schedule.specs.declared.decision.Decision.{Decision}
use Rattle.schedule.specs.declared.decision.Schedule.{Schedule}
use Rattle.graph_drawing.specs.Colours.{fill_of, stroke_of}
use Rattle.graph_drawing.specs.Words.{word_text}
use Rattle.graph_drawing.specs.declared.word.Word.TheVariants as word
use Rattle.graph_drawing.specs.Statements.{
  Statement,
  operation,
  input,
  condition,
  keeps,
  statements_from,
}
use Rattle.schedule.specs.Acts.{brings}

-- the operator on which an operation runs
abbrev pub operator_of : List Decision → ℕ → Option ℕ
operator_of ds v = option_map (λ d. d.operator) (find (λ d. nat_eq d.op v) ds)

-- The medium of the transfer if there is one, and otherwise the other medium, if there is one.
abbrev pub medium_or : Option Transfer → Option ℕ → Option ℕ
medium_or (Some t) rest = Some t.medium
medium_or None rest = rest

-- the medium of the first transfer that brings the value of the source to the operator
abbrev pub medium_to : List Decision → Source → ℕ → Option ℕ
medium_to [] s o = None
medium_to (d ∷ ds) s o = medium_or (find (brings o s) d.transfers) (medium_to ds s o)

-- the last medium over which the value of the source comes to operation v
abbrev pub medium_by : List Decision → Source → Option ℕ → Option ℕ
medium_by ds s None = None
medium_by ds s (Some o) = medium_to ds s o

-- The medium over which the value of source s comes to the operator of operation v. It is None if
-- no transfer brings the value there, or if v is not placed.
abbrev pub medium_for : List Decision → ℕ → Source → Option ℕ
medium_for ds v s = medium_by ds s (operator_of ds v)

-- what is coloured, where it has a colour
abbrev pub filled : Option ℕ → Bytes
filled None = []
filled (Some o) = word_text word.Fill ++ (fill_of o ++ word_text word.Quote)

-- The attributes of a broad line in the colour of its medium, and nothing if there is no medium.
abbrev pub coloured : Option ℕ → Bytes
coloured None = []
coloured (Some m) = word_text word.Stroke ++ (stroke_of m ++ word_text word.Quote)

-- what comes from outside or goes there is round, what is kept stands in a cylinder
abbrev pub shape_of : Kind → Bytes
shape_of (Sensor i) = codes "ellipse"
shape_of (Actuator i) = codes "ellipse"
shape_of (Function b) = codes "box"
shape_of (Constant z) = codes "note"
shape_of (Get z) = codes "cylinder"
shape_of Set = codes "cylinder"
shape_of Explode = codes "trapezium"
shape_of Implode = codes "invtrapezium"
shape_of (Merge values) = codes "diamond"

-- the two ends of an edge between operations
abbrev pub edge_text : ℕ → ℕ → Bytes
edge_text u v = word_text word.Operation ++ (decimal u ++ (word_text word.Arrow ++ decimal v))

-- the label is the name over the definition
abbrev pub label_text : ℕ → Vertex → Bytes
label_text v x =
    word_text word.Operation ++ (decimal v ++ (word_text word.Label ++ (x.name ++
    (word_text word.Line ++ x.def))))

-- How the node of operation v looks: the shape of its kind and, if it is placed, the colour of its
-- operator. The statement ends after it.
abbrev pub look_text : List Decision → ℕ → Vertex → Bytes
look_text ds v x =
    word_text word.Shape ++ (shape_of x.kind ++ (filled (operator_of ds v) ++
    word_text word.Finish))

-- The node of operation v, with its label and its look.
abbrev pub operation_text : List Decision → ℕ → Vertex → Bytes
operation_text ds v x = label_text v x ++ look_text ds v x

-- the numbers of the output and of the input stand at the ends
abbrev pub ends_text : ℕ → ℕ → Bytes
ends_text port i =
    word_text word.Tail ++ (decimal port ++ (word_text word.Head ++ (decimal i ++
    word_text word.Quote)))

-- The edge to input i of operation v from its source, in the colour of the medium that brings the
-- value, if one does.
abbrev pub input_text : List Decision → ℕ → ℕ → Source → Bytes
input_text ds v i s =
    edge_text s.vertex v ++ (ends_text s.port i ++ (coloured (medium_for ds v s) ++
    word_text word.Finish))

-- the case that has to be selected
abbrev pub condition_text : List Decision → ℕ → Guard → Bytes
condition_text ds v g =
    edge_text g.source.vertex v ++ (word_text word.Condition ++ (decimal g.case ++
    (word_text word.Quote ++ (coloured (medium_for ds v g.source) ++ word_text word.Finish))))

-- The dashed edge of a delay, from its set half v back to its get half u.
abbrev pub keeps_text : ℕ → ℕ → Bytes
keeps_text v u = edge_text v u ++ word_text word.Delay

-- The line of a drawing that makes this statement, in the colours of the operators and media of
-- these decisions.
abbrev pub statement_text : List Decision → Statement → Bytes
statement_text ds (operation v x) = operation_text ds v x
statement_text ds (input v i s) = input_text ds v i s
statement_text ds (condition v i g) = condition_text ds v g
statement_text ds (keeps v u) = keeps_text v u

-- The lines of these statements, in their order.
abbrev pub statements_text : List Decision → List Statement → Bytes
statements_text ds xs = flat_map (statement_text ds) xs

-- an operator or a medium, up to its name
unfoldable pub named : Bytes → ℕ → Bytes → Bytes
named kind n name = kind ++ (decimal n ++ (word_text word.Label ++ name))

-- The name of operator o in the legend, in a box that is filled with its colour.
abbrev pub operator_key : ℕ → Bytes → Bytes
operator_key o name =
    named (word_text word.Operator) o name ++
    (word_text word.OperatorColour ++ (fill_of o ++ word_text word.QuoteFinish))

-- The name of medium m in the legend, in a box whose outline has its colour.
abbrev pub medium_key : ℕ → Bytes → Bytes
medium_key m name =
    named (word_text word.Medium) m name ++
    (word_text word.MediumColour ++ (stroke_of m ++ word_text word.QuoteFinish))

-- The names of these operators in the legend, of which the first has number o.
abbrev pub operator_keys : ℕ → List Bytes → Bytes
operator_keys o [] = []
operator_keys o (name ∷ names) =
    operator_key o name ++ operator_keys (suc o) names

-- The names of these media in the legend, of which the first has number m.
abbrev pub medium_keys : ℕ → List Medium → Bytes
medium_keys m [] = []
medium_keys m (x ∷ xs) =
    medium_key m x.name ++ medium_keys (suc m) xs

-- The legend of a drawing, with each operator and each medium in its colour.
unfoldable pub legend : Architecture → Bytes
legend a =
    word_text word.Legend ++
    (operator_keys 0 a.operators ++ (medium_keys 0 a.media ++ word_text word.LegendFinish))

-- The beginning of a drawing, with what holds for all its nodes and edges.
unfoldable pub opening : Bytes
opening =
    codes "digraph flat {\n  rankdir=LR;\n  fontname=\"sans-serif\";\n" ++
    (codes "  node [shape=box,style=filled,fillcolor=white,fontname=\"sans-serif\"];\n" ++
    codes "  edge [fontname=\"sans-serif\",fontsize=9,labeldistance=1.5];\n")

-- The end of a drawing.
unfoldable pub closing : Bytes
closing = codes "}\n"

-- the operations and edges of a flat graph, without colours
abbrev pub flat_drawing : Graph → Bytes
flat_drawing g = opening ++ (statements_text [] (statements_from 0 g.vertices) ++ closing)

-- The drawing of a flat graph in the colours of the operators and media that a schedule gives its
-- operations.
abbrev pub placed_drawing : Graph → Architecture → Schedule → Bytes
placed_drawing g a s =
    opening ++ (legend a ++ (statements_text s.decisions (statements_from 0 g.vertices) ++ closing))
