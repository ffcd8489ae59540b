-- The tree in which a marked reference has become a graph: a count, a delay for each output, and a switch.
use Rattle.std.specs.Prelude.{
  ℕ,
  suc,
  ◌-◌,
  ◌+◌,
  ℤ,
  pos,
  List,
  [],
  ◌∷◌,
  ◌++◌,
  length,
  map,
  replicate,
  slice_index_or,
  Option,
  Some,
  None,
  codes,
}
use Rattle.algo_tree.specs.declared.Source.{Source}
use Rattle.algo_tree.specs.declared.Source.TheVariants.{Own, Of}
use Rattle.algo_tree.specs.declared.Part.{Part}
use Rattle.algo_tree.specs.declared.Part.TheVariants.{Named, Numbered}
use Rattle.algo_tree.specs.Tree.{Label, Kind, delay, graph, switch, Vertex, vertex, Vertices, no_vertices, and_vertex}
use Rattle.algo_tree.specs.View.{vertices_of}
use Rattle.multi_period.specs.declared.mark.Mark.{Mark}
use Rattle.multi_period.specs.Marks.{mark_at}
use Rattle.syn_base.specs.Vectors.{zeros}
use Rattle.syn_base.specs.Numbers.{numbers_below}

-- A vertex of a definition of its own, which listings call `every`.
abbrev pub made : Part → List Source → List ℕ → Kind → Vertices → Vertex
made p ins outs k us = vertex
    (record { part = p; definition = codes "every"; ins = ins; guards = []; outs = outs; names = []; kind = k })
    us

-- The vectors that a count gives in turn, as many as n says: 0, and then 1.
abbrev pub turns : ℕ → List (List ℤ)
turns n = (pos 0 ∷ []) ∷ replicate (n - 1) (pos 1 ∷ [])

-- A delay that gives 0 in each nth reaction, and else 1.
abbrev pub count : ℕ → Vertex
count n = made (Named (codes "count")) (Of 0 0 ∷ []) (1 ∷ []) (delay (turns n)) no_vertices

-- The name of the delay that keeps output i of a marked reference: `keep_` and the
-- name of the output.
abbrev pub keep_name : List (List ℕ) → ℕ → List ℕ
keep_name names i = codes "keep_" ++ slice_index_or names i []

-- A delay that keeps output i of the switch, which stands after all delays, for a reaction.
abbrev pub keep : Label → ℕ → Vertex
keep l i =
    made (Named (keep_name l.names i)) (Of (suc (length l.outs)) i ∷ []) (slice_index_or l.outs i 0 ∷ [])
    (delay (zeros (slice_index_or l.outs i 0) ∷ [])) no_vertices

-- The inputs of a switch after its conditioning one, n from number m on.
abbrev pub inputs_from : ℕ → ℕ → List Source
inputs_from m n = map (λ i. Own (m + i)) (numbers_below n)

-- The first output of each of n vertices after the first.
abbrev pub firsts : ℕ → List Source
firsts n = map (λ i. Of (suc i) 0) (numbers_below n)

-- The n outputs of vertex r.
abbrev pub outputs_of : ℕ → ℕ → List Source
outputs_of r n = map (Of r) (numbers_below n)

-- The reference itself, inside the case in which it runs.
abbrev pub run : Label → Vertices → Vertex
run l us = vertex (record {
  part = Named (codes "run");
  definition = l.definition;
  ins = inputs_from 0 (length l.ins);
  guards = [];
  outs = l.outs;
  names = l.names;
  kind = l.kind;
}) us

-- The case in which the reference runs: a graph round it that gives its outputs.
abbrev pub when_runs : Label → Vertices → Vertex
when_runs l us =
    made (Numbered 0) (inputs_from 1 (length l.ins)) l.outs
    (graph (outputs_of 0 (length l.outs)))
    (and_vertex (run l us) no_vertices)

-- The case in which the reference does not run: it gives the kept values.
abbrev pub otherwise : Label → Vertex
otherwise l =
    made (Numbered 1) (inputs_from (suc (length l.ins)) (length l.outs)) l.outs
    (graph (inputs_from 0 (length l.outs)))
    no_vertices

-- The switch of a marked reference: it gives the outputs of the reference in reactions in which the
-- count gives 0, and the kept values in all others.
abbrev pub body : Label → Vertices → Vertex
body l us =
    made (Named (codes "body")) (Of 0 0 ∷ (inputs_from 0 (length l.ins) ++ firsts (length l.outs))) l.outs
    (switch (pos 0 ∷ []) l.names) (and_vertex (when_runs l us) (and_vertex (otherwise l) no_vertices))

-- The vertices of the graph that a marked reference becomes, in order.
abbrev pub parts : Mark → Label → Vertices → List Vertex
parts m l us = count m.every ∷ (map (keep l) (numbers_below (length l.outs)) ++ body l us ∷ [])

-- The graph that a marked reference becomes.
abbrev pub period : Mark → Label → Vertices → Vertex
period m l us = vertex (record {
  part = l.part;
  definition = l.definition;
  ins = l.ins;
  guards = [];
  outs = l.outs;
  names = l.names;
  kind = graph (outputs_of (suc (length l.outs)) (length l.outs));
}) (vertices_of (parts m l us))

-- The graph that a vertex with this mark becomes, or the vertex unchanged if there is no mark.
abbrev pub period_by : Option Mark → Vertex → Vertex
period_by None u = u
period_by (Some m) (vertex l us) = period m l us

-- The vertices of a level, in order, of which those with a mark have become graphs.
abbrev pub all_periods : (ℕ → Option Mark) → Vertices → Vertices
all_periods mark no_vertices = no_vertices
all_periods mark (and_vertex u us) = and_vertex (period_by (mark 0) u) (all_periods (λ r. mark (suc r)) us)

-- The main graph with its marks made: each marked reference has become a graph.
abbrev pub periods : List Mark → Vertex → Vertex
periods marks (vertex l us) = vertex l (all_periods (mark_at marks) us)
