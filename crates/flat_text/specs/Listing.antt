-- The listing of a flat graph.
use Rattle.std.specs.Prelude.{ℕ, suc, List, [], ◌∷◌, ◌++◌, map, codes}
use Rattle.std.specs.Fmt.{decimal}
use Rattle.syn_base.specs.Bytes.{Bytes, each_after_comma}
use Rattle.flat_graph.specs.declared.vertex.Source.{Source}
use Rattle.flat_graph.specs.declared.vertex.Guard.{Guard}
use Rattle.flat_graph.specs.declared.vertex.Kind.{Kind}
use Rattle.flat_graph.specs.declared.vertex.Kind.TheVariants.{
  Sensor,
  Actuator,
  Function,
  Constant,
  Get,
  Set,
  Explode,
  Implode,
  Merge,
}
use Rattle.flat_graph.specs.declared.vertex.Vertex.{Vertex}
use Rattle.flat_graph.specs.Graph.{Graph}

-- The word by which a listing names the kind of an operation.
abbrev pub kind_word : Kind → Bytes
kind_word (Sensor i) = codes "sensor"
kind_word (Actuator i) = codes "actuator"
kind_word (Function b) = codes "function"
kind_word (Constant z) = codes "constant"
kind_word (Get z) = codes "get"
kind_word Set = codes "set"
kind_word Explode = codes "explode"
kind_word Implode = codes "implode"
kind_word (Merge values) = codes "merge"

-- An output of an operation: `v.p`.
abbrev pub source_text : Source → Bytes
source_text s = decimal s.vertex ++ (codes "." ++ decimal s.port)

-- The source of a condition, and the case that it has to select: `v.p?c`.
abbrev pub guard_text : Guard → Bytes
guard_text g = source_text g.source ++ (codes "?" ++ decimal g.case)

-- Joined by commas, and `-` for none.
abbrev pub comma_list : List Bytes → Bytes
comma_list [] = codes "-"
comma_list (w ∷ ws) = w ++ each_after_comma ws

-- Number, name, kind and definition.
abbrev pub vertex_head : ℕ → Vertex → Bytes
vertex_head v x = decimal v ++ (codes " " ++ (x.name ++ (codes " " ++ (kind_word x.kind ++ (codes ":" ++ x.def)))))

-- Guards, inputs, lengths of outputs.
abbrev pub vertex_lists : Vertex → Bytes
vertex_lists x =
    codes " " ++ (comma_list (map guard_text x.guards) ++
    (codes " " ++ (comma_list (map source_text x.ins) ++
    (codes " " ++ comma_list (map decimal x.outs)))))

-- The line of operation v.
abbrev pub vertex_line : ℕ → Vertex → Bytes
vertex_line v x = vertex_head v x ++ (vertex_lists x ++ codes "\n")

-- Operations that are numbered from v on.
abbrev pub lines_from : ℕ → List Vertex → Bytes
lines_from v [] = []
lines_from v (x ∷ xs) = vertex_line v x ++ lines_from (suc v) xs

-- The listing of a flat graph: a line for each operation, in order.
abbrev pub listing : Graph → Bytes
listing g = lines_from 0 g.vertices
