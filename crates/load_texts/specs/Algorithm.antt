-- The algorithm of a load: its definitions are the same for every load, and its main graph has as many layers of four
-- functions as the load's number says.
use Rattle.std.specs.Prelude.{ℕ, zero, suc, ◌+◌, ◌%◌, List, [], ◌∷◌, ◌++◌, codes}
use Rattle.std.specs.Fmt.{decimal}
use Rattle.syn_base.specs.Bytes.{Bytes}
use Rattle.load_texts.specs.Lines.{lines_text}

-- the ends, and functions on vectors of four
abbrev pub vector_definitions : List Bytes
vector_definitions =
    codes "algorithm 1"
    ∷ codes "sensor Src 4"
    ∷ codes "actuator Dst 4"
    ∷ codes "function Mix"
    ∷ codes "in x 4"
    ∷ codes "in y 4"
    ∷ codes "out z 4 = add(mul(x[j],3),y[sub(3,j)])"
    ∷ codes "end"
    ∷ codes "function Bit"
    ∷ codes "in x 4"
    ∷ codes "out c 1 = rem(x[0],2)"
    ∷ codes "end"
    ∷ codes "function Same"
    ∷ codes "in x 4"
    ∷ codes "out y 4 = x[j]"
    ∷ codes "end"
    ∷ codes "function Flip"
    ∷ codes "in x 4"
    ∷ codes "out y 4 = neg(x[j])"
    ∷ codes "end"
    ∷ []

-- a switch between two of these functions, and a repetition that adds up four elements
abbrev pub compound_definitions : List Bytes
compound_definitions =
    codes "function Acc"
    ∷ codes "in x 1"
    ∷ codes "in a 1"
    ∷ codes "out r 1 = add(x[0],a[0])"
    ∷ codes "end"
    ∷ codes "constant Z = 0"
    ∷ codes "switch Sw"
    ∷ codes "on c"
    ∷ codes "in x 4"
    ∷ codes "out y 4"
    ∷ codes "case 0 Same"
    ∷ codes "otherwise Flip"
    ∷ codes "end"
    ∷ codes "repeat Run 4 Acc"
    ∷ codes "fork x x"
    ∷ codes "iterate z a r t"
    ∷ codes "join r q"
    ∷ codes "end"
    ∷ []

-- how many layers the load of this number has: 1 to 8
abbrev pub layers_of : ℕ → ℕ
layers_of load = 1 + load % 8

-- function i of a layer, where layers are numbered from 1: `f2_3`
abbrev pub mix_name : ℕ → ℕ → Bytes
mix_name layer i = codes "f" ++ (decimal layer ++ (codes "_" ++ decimal i))

-- output i of a layer, where layer 0 is the sensor
abbrev pub output_end : ℕ → ℕ → Bytes
output_end zero i = codes "s.o"
output_end (suc below) i = mix_name (suc below) i ++ codes ".z"

-- The line of the main graph that places function i of a layer.
abbrev pub mix_reference : ℕ → ℕ → Bytes
mix_reference layer i = codes "ref " ++ (mix_name layer i ++ codes " Mix\n")

-- The lines of the main graph that place the four functions of a layer.
abbrev pub layer_references : ℕ → Bytes
layer_references layer =
    mix_reference layer 0 ++ (mix_reference layer 1 ++ (mix_reference layer 2 ++ mix_reference layer 3))

-- the references of the first layers, of which there are this many
abbrev pub references_of_layers : ℕ → Bytes
references_of_layers zero = []
references_of_layers (suc below) = references_of_layers below ++ layer_references (suc below)

-- the references after those of the layers
abbrev pub last_references : List Bytes
last_references =
    codes "ref g Bit"
    ∷ codes "ref w Sw"
    ∷ codes "ref z Z"
    ∷ codes "ref r Run"
    ∷ codes "ref a Dst"
    ∷ codes "ref b Dst"
    ∷ []

-- The line of the main graph with an edge from the first end to the second one.
abbrev pub edge : Bytes → Bytes → Bytes
edge from to = codes "edge " ++ (from ++ (codes " " ++ (to ++ codes "\n")))

-- function i of the layer over `below` takes x from output i of `below`, and y from the output after that, the first
-- one after the last
abbrev pub mix_edges : ℕ → ℕ → Bytes
mix_edges below i =
    edge (output_end below i) (mix_name (below + 1) i ++ codes ".x")
    ++ edge (output_end below ((i + 1) % 4)) (mix_name (below + 1) i ++ codes ".y")

-- The lines of the eight edges from layer `below` to the layer after it.
abbrev pub layer_edges : ℕ → Bytes
layer_edges below = mix_edges below 0 ++ (mix_edges below 1 ++ (mix_edges below 2 ++ mix_edges below 3))

-- the edges into the first layers, of which there are this many
abbrev pub edges_of_layers : ℕ → Bytes
edges_of_layers zero = []
edges_of_layers (suc below) = edges_of_layers below ++ layer_edges below

-- outputs 0, 1 and 2 of the last layer go to the condition, the switch and the repetition
abbrev pub edges_from_layer : ℕ → Bytes
edges_from_layer last =
    edge (output_end last 0) (codes "g.x")
    ++ (edge (output_end last 1) (codes "w.x") ++ edge (output_end last 2) (codes "r.x"))

-- The lines of the edges behind the layers: to the switch, to the repetition and to both actuators.
-- The block of the main graph ends after them.
abbrev pub last_edges : List Bytes
last_edges =
    codes "edge g.c w.c"
    ∷ codes "edge z.o r.z"
    ∷ codes "edge w.y a.i"
    ∷ codes "edge r.q b.i"
    ∷ codes "end"
    ∷ []

-- The first lines of the main graph, with all its references, if it has this many layers.
abbrev pub main_references : ℕ → Bytes
main_references layers =
    lines_text (codes "graph main" ∷ codes "ref s Src" ∷ [])
    ++ (references_of_layers layers ++ lines_text last_references)

-- The last lines of the main graph, with all its edges and its end, if it has this many layers.
abbrev pub main_edges : ℕ → Bytes
main_edges layers = edges_of_layers layers ++ (edges_from_layer layers ++ lines_text last_edges)

-- The block of the main graph with this many layers.
abbrev pub main_graph : ℕ → Bytes
main_graph layers = main_references layers ++ main_edges layers

-- the algorithm of the load of this number
abbrev pub algorithm_text : ℕ → Bytes
algorithm_text load =
    lines_text vector_definitions ++ (lines_text compound_definitions ++ main_graph (layers_of load))
