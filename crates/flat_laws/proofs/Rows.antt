-- The units of a level, and their rows, one after another.
use Rattle.std.proofs.Common.{◌≡◌, List, [], ◌∷◌, ◌++◌, map, refl, sym, ap, ◌∙◌}
use Rattle.std.proofs.lemmas.List.{append_assoc}
use Rattle.algo_tree.specs.declared.Source.{Source}
use Rattle.algo_tree.specs.Level.{Path}
use Rattle.algo_tree.specs.Tree.{Vertex, Vertices, no_vertices, and_vertex}
use Rattle.algo_tree.specs.Code.{join}
use Rattle.algo_tree.specs.Typed.{label_of}
use Rattle.algo_tree.specs.View.{vertices_of}
use Rattle.flat_laws.specs.Origins.{Origin, inside, Outlet, outlet, outlets}
use Rattle.flat_laws.specs.Table.{Condition, Row, conditions_of, unit_rows, graph_rows}

-- a vertex of a level of this path
abbrev pub unit_of : Path → Vertex → Outlet
unit_of p u = outlet (inside p (label_of u).part) u

abbrev pub vertex_rows : Path → List Condition → (Source → Origin) → Vertex → List Row
vertex_rows p cs lead u = unit_rows (inside p (label_of u).part) (cs ++ conditions_of lead (label_of u)) (map lead (label_of u).ins) u

pub outlets-of : (p : Path) (us : List Vertex) → outlets p (vertices_of us) ≡ map (unit_of p) us
outlets-of p [] = refl
outlets-of p (u ∷ us) = ap (λ xs. unit_of p u ∷ xs) (outlets-of p us)

pub outlets-join : (p : Path) (us vs : Vertices) → outlets p (join us vs) ≡ outlets p us ++ outlets p vs
outlets-join p no_vertices vs = refl
outlets-join p (and_vertex u us) vs = ap (λ xs. unit_of p u ∷ xs) (outlets-join p us vs)

pub rows-append : (p : Path) (cs : List Condition) (lead : Source → Origin) (xs ys : List Vertex)
    → graph_rows p cs lead (vertices_of (xs ++ ys)) ≡ graph_rows p cs lead (vertices_of xs) ++ graph_rows p cs lead (vertices_of ys)
rows-append p cs lead [] ys = refl
rows-append p cs lead (x ∷ xs) ys =
    ap (λ rs. vertex_rows p cs lead x ++ rs) (rows-append p cs lead xs ys)
    ∙ sym (append_assoc (vertex_rows p cs lead x) (graph_rows p cs lead (vertices_of xs)) (graph_rows p cs lead (vertices_of ys)))

pub rows-join : (p : Path) (cs : List Condition) (lead : Source → Origin) (us vs : Vertices) → graph_rows p cs lead (join us vs) ≡ graph_rows p cs lead us ++ graph_rows p cs lead vs
rows-join p cs lead no_vertices vs = refl
rows-join p cs lead (and_vertex u us) vs =
    ap (λ rs. vertex_rows p cs lead u ++ rs) (rows-join p cs lead us vs) ∙ sym (append_assoc (vertex_rows p cs lead u) (graph_rows p cs lead us) (graph_rows p cs lead vs))
