-- The tree without cases. Each switch becomes a graph: its cases in order, and after them a merge for each output. An
-- operation carries a guard for each case around it, outer first. The sources of the guards are handed inward as
-- further inputs of the graphs between: they stand before a graph's own inputs, so that these are shifted, and
-- nothing has to be known of their number.
use Rattle.std.specs.Prelude.{ℕ, suc, ◌+◌, ℤ, List, [], ◌∷◌, ◌++◌, length, map, slice_index_or}
use Rattle.algo_tree.specs.declared.Source.{Source}
use Rattle.algo_tree.specs.declared.Source.TheVariants.{Own, Of}
use Rattle.algo_tree.specs.declared.Guard.{Guard}
use Rattle.algo_tree.specs.declared.Part.TheVariants.{Port}
use Rattle.algo_tree.specs.Tree.{Label, Kind, merge, graph, switch, Vertex, vertex, Vertices, no_vertices, and_vertex}
use Rattle.algo_tree.specs.Code.{count_of, join}
use Rattle.syn_base.specs.Numbers.{numbers_below}

-- A source of a level, where n further inputs stand before the level's own.
abbrev pub shift : ℕ → Source → Source
shift n (Own k) = Own (n + k)
shift n (Of r p) = Of r p

-- A guard in a level that has n further inputs before its own.
abbrev pub shift_guard : ℕ → Guard → Guard
shift_guard n g = record { source = shift n g.source; values = g.values; case = g.case }

-- The sources of the guards, in order.
abbrev pub guard_sources : List Guard → List Source
guard_sources gs = map (λ g. g.source) gs

-- Guards inside a graph to which their sources are handed, as its inputs from number i on.
abbrev pub own_guards : ℕ → List Guard → List Guard
own_guards i [] = []
own_guards i (g ∷ gs) = record { source = Own i; values = g.values; case = g.case } ∷ own_guards (suc i) gs

-- This case of a switch with these values, whose conditioning input has the number `condition`.
abbrev pub guard_for : ℕ → List ℤ → ℕ → Guard
guard_for condition values case = record { source = Own condition; values = values; case = case }

-- An operation under these guards: they stand before its own. Nothing is inside it.
abbrev pub operation_under : List Guard → ℕ → Label → Kind → Vertex
operation_under gs n l k = vertex (record {
  part = l.part;
  definition = l.definition;
  ins = map (shift n) l.ins;
  guards = gs ++ map (shift_guard n) l.guards;
  outs = l.outs;
  names = l.names;
  kind = k;
}) no_vertices

-- A graph under these guards. It has none itself, since one that passes an input on gives it whatever they say; it
-- hands their sources inward.
abbrev pub graph_under : List Guard → ℕ → Label → List Source → Vertices → Vertex
graph_under gs n l outs us = vertex (record {
  part = l.part;
  definition = l.definition;
  ins = guard_sources gs ++ map (shift n) l.ins;
  guards = [];
  outs = l.outs;
  names = l.names;
  kind = graph outs;
}) us

-- The merge of this output of the cases of a switch of this definition, whose conditioning input has the number
-- `condition`.
abbrev pub merge_of : List ℕ → List Guard → ℕ → List ℤ → ℕ → ℕ → List ℕ → ℕ → Vertex
merge_of definition gs condition values cases output name len = vertex (record {
  part = Port name;
  definition = definition;
  ins = Own condition ∷ map (λ i. Of i output) (numbers_below cases);
  guards = gs;
  outs = len ∷ [];
  names = [];
  kind = merge values;
}) no_vertices

-- A merge for each output, of the length of the switch's output. The first of these names is that of this output.
abbrev pub merges : List ℕ → List Guard → ℕ → List ℤ → ℕ → List ℕ → ℕ → List (List ℕ) → Vertices
merges definition gs condition values cases outs output [] = no_vertices
merges definition gs condition values cases outs output (name ∷ names) =
    and_vertex
    (merge_of definition gs condition values cases output name (slice_index_or outs output 0))
    (merges definition gs condition values cases outs (suc output) names)

-- The outputs of the graph that a switch of this many cases becomes: of each of the merges.
abbrev pub merge_sources : ℕ → ℕ → List Source
merge_sources cases outputs = map (λ output. Of (cases + output) 0) (numbers_below outputs)

-- What stands inside that graph, where the cases have become these.
abbrev pub switch_inside : List Guard → Label → List ℤ → List (List ℕ) → ℕ → Vertices → Vertices
switch_inside gs l values names count cases =
    join cases (merges l.definition (own_guards 0 gs) (length gs) values count l.outs 0 names)

-- A vertex of this kind with these vertices inside, from what those become under given guards, and from what they
-- become as the cases of a switch with given values.
abbrev pub guarded_by : List Guard → ℕ → Label → Kind → Vertices → (List Guard → ℕ → Vertices) →
    (List Guard → ℕ → List ℤ → Vertices) → Vertex
guarded_by gs n l (graph outs) us inner cases =
    graph_under gs n l (map (shift (length gs)) outs) (inner (own_guards 0 gs) (length gs))
guarded_by gs n l (switch values names) us inner cases =
    graph_under gs n l (merge_sources (count_of us) (length names))
    (switch_inside gs l values names (count_of us) (cases (own_guards 0 gs) (length gs) values))
guarded_by gs n l k us inner cases = operation_under gs n l k

abbrev mutual
  -- A vertex under these guards, whose sources are inputs of its level, in a level that has n further inputs.
  pub guarded : List Guard → ℕ → Vertex → Vertex
  guarded gs n (vertex l us) =
      guarded_by gs n l l.kind us
      (λ inside m. guarded_all inside m us)
      (λ inside m values. guarded_cases inside m values 0 us)

  -- Each vertex of a level under these guards, in order.
  pub guarded_all : List Guard → ℕ → Vertices → Vertices
  guarded_all gs n no_vertices = no_vertices
  guarded_all gs n (and_vertex u us) = and_vertex (guarded gs n u) (guarded_all gs n us)

  -- The cases of a switch from this case on, each under one guard more, after those around the switch.
  pub guarded_cases : List Guard → ℕ → List ℤ → ℕ → Vertices → Vertices
  guarded_cases gs condition values case no_vertices = no_vertices
  guarded_cases gs condition values case (and_vertex u us) =
      and_vertex
      (guarded (gs ++ guard_for condition values case ∷ []) condition u)
      (guarded_cases gs condition values (suc case) us)

-- The tree of this main graph, which no case is around, with each switch in it made a graph whose
-- operations have guards.
abbrev pub guard : Vertex → Vertex
guard main = guarded [] 0 main
