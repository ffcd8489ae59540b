use Rattle.std.proofs.Common.{◌≡◌, ◌∙◌, ◌<◌, ◌+◌, ◌++◌, ℕ, List, length, get_or, drop, ap, ap₂, sym, append_assoc}
use Rattle.std.proofs.lemmas.List.{append-nil, at_drop_more, at_drop_all}
use Rattle.algo_tree.specs.Parts.{name_of}
use Rattle.algo_tree.specs.Ends.{first_length}
use Rattle.algo_tree.specs.Tree.{Vertex as Plain, and_vertex}
use Rattle.algo_tree.specs.View.{kind_view, view, vertices_view}
use Rattle.algo_tree.specs.declared.vertex.Vertex.{Vertex, out-Vertex}
use Rattle.algo_tree.proofs.Views.{view_out}
use Rattle.sensor_table.specs.Columns.{columns_in, columns_of}
use Rattle.sensor_table.proofs.header.append_sensors.Goals as goal

abbrev columns_left : List Vertex → List (List ℕ)
columns_left us = columns_in (vertices_view us)

-- the first of the vertices that are left
first_left : (us : List Vertex) (i : ℕ) (u : Vertex) → i < length us → u ≡ get_or us i u
    → columns_left (drop i us) ≡ columns_of (kind_view (out-Vertex u).kind) (name_of (out-Vertex u).part) (first_length (out-Vertex u).outs) ++ columns_left (drop (i + 1) us)
first_left us i u h is =
    at_drop_more columns_left us i u h
    ∙ ap (λ (v : Plain). columns_in (and_vertex v (vertices_view (drop (i + 1) us)))) (ap view (sym is) ∙ view_out u)

-- its columns were appended
one_more : (us : List Vertex) (i : ℕ) (u : Vertex) (old new all : List (List ℕ)) (name outs : List ℕ) (len : ℕ) → i < length us → u ≡ get_or us i u
    → name ≡ name_of (out-Vertex u).part → outs ≡ (out-Vertex u).outs → len ≡ first_length outs
    → new ≡ old ++ columns_of (kind_view (out-Vertex u).kind) name len → old ++ columns_left (drop i us) ≡ all
    → new ++ columns_left (drop (i + 1) us) ≡ all
one_more us i u old new all name outs len h is named same long added whole =
    ap (λ (x : List (List ℕ)). x ++ columns_left (drop (i + 1) us)) (added ∙ ap₂ (λ (n : List ℕ) (m : ℕ). old ++ columns_of (kind_view (out-Vertex u).kind) n m) named (long ∙ ap first_length same))
    ∙ append_assoc old (columns_of (kind_view (out-Vertex u).kind) (name_of (out-Vertex u).part) (first_length (out-Vertex u).outs)) (columns_left (drop (i + 1) us))
    ∙ ap (λ (x : List (List ℕ)). old ++ x) (sym (first_left us i u h is))
    ∙ whole

pub loop-vertex-preserved : goal.loop-vertex-preserved
loop-vertex-preserved c =
    one_more c.args.vertices.now c.loop-vertex.vertex-index c.vertex-item.result c.loop-vertex.header.items c.append_columns.new.header.items _ _ _ _
    c.loop-vertex-test.true c.vertex-item.is c.name-name.ensures c.as_slice.ensures c.len_at-len.ensures c.in_ok-append_columns.ensures c.loop-vertex.invariant

pub returns : goal.returns
returns c =
    sym (append-nil c.loop-vertex.header.items)
    ∙ ap (λ (x : List (List ℕ)). c.loop-vertex.header.items ++ x) (sym (at_drop_all columns_left c.args.vertices.now c.loop-vertex.vertex-index c.loop-vertex-test.false))
    ∙ c.loop-vertex.invariant
