-- The templates of worked trees.
use Rattle.std.proofs.Common.{◌≡◌, ℕ, List, [], ◌∷◌, refl}
use Rattle.std.specs.Prelude.{codes}
use Rattle.std.specs.Fmt.{digits}
use Rattle.csv.specs.Writing.{fields_text, is_blank}
use Rattle.syn_base.specs.Bytes.{Bytes}
use Rattle.algo_tree.specs.declared.Part.TheVariants.{Named}
use Rattle.algo_tree.specs.Tree.{Kind, Label, sensor, explode, graph, Vertex, vertex, Vertices, no_vertices, and_vertex}
use Rattle.sensor_table.specs.Template.{template_text}

abbrev label : Bytes → List ℕ → Kind → Label
label name outs kind = record { part = Named name; definition = name; ins = []; guards = []; outs = outs; names = []; kind = kind }

abbrev main : Vertices → Vertex
main us = vertex (label (codes "main") [] (graph [])) us

-- a sensor of two elements, what is no sensor, and a sensor of one
abbrev two_sensors : Vertices
two_sensors = and_vertex (vertex (label (codes "v") (2 ∷ []) (sensor 0)) no_vertices)
    (and_vertex (vertex (label (codes "e") (5 ∷ []) explode) no_vertices)
    (and_vertex (vertex (label (codes "s") (1 ∷ []) (sensor 1)) no_vertices) no_vertices))

filled : template_text (main two_sensors) ≡ codes "k,v.0,v.1,s.0\n0,0,0,0\n"
unfolding digits fields_text is_blank
filled = refl

-- without sensors the number of the reaction stands alone
empty : template_text (main no_vertices) ≡ codes "k\n0\n"
unfolding fields_text is_blank
empty = refl
