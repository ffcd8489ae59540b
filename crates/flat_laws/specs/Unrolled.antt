-- The tree without repetitions. Each repetition becomes a graph: an explode for each fork line, in the order of the
-- lines, the copies of the body in order, and an implode for each join line, in the order of the lines. The edges say
-- what the lines say: a forked input is the part of the copy's number, a diffused one is the outer input, an iterated
-- one is the outer input for copy 0 and an output of the copy before for the others.
use Rattle.std.specs.Prelude.{
  ℕ,
  suc,
  ◌+◌,
  ◌-◌,
  ◌==◌,
  List,
  [],
  ◌∷◌,
  ◌++◌,
  length,
  map,
  replicate,
  slice_index_or,
  if◌then◌else◌,
}
use Rattle.algo_tree.specs.declared.Source.{Source}
use Rattle.algo_tree.specs.declared.Source.TheVariants.{Own, Of}
use Rattle.algo_tree.specs.declared.Part.TheVariants.{Numbered, Port}
use Rattle.algo_tree.specs.declared.Feed.{Feed}
use Rattle.algo_tree.specs.declared.Feed.TheVariants.{Fork, Diffuse, Iterate}
use Rattle.algo_tree.specs.declared.Give.{Give}
use Rattle.algo_tree.specs.declared.Give.TheVariants.{Last, Join}
use Rattle.algo_tree.specs.Tree.{
  Label,
  Kind,
  explode,
  implode,
  graph,
  repeat,
  Vertex,
  vertex,
  Vertices,
  no_vertices,
  and_vertex,
}
use Rattle.algo_tree.specs.View.{vertices_of}
use Rattle.algo_tree.specs.Well.{fork_names}
use Rattle.algo_tree.specs.Relabelled.{with_kind}
use Rattle.flat_laws.specs.Lines.{in_line_order, fork_place}
use Rattle.syn_base.specs.Numbers.{numbers_below}

-- A vertex that flattening makes for a port of a repetition. It has the repetition's definition, no guard, no name of
-- an output, and nothing inside.
abbrev pub made : List ℕ → List ℕ → List Source → List ℕ → Kind → Vertex
made definition name ins outs kind = vertex (record {
  part = Port name;
  definition = definition;
  ins = ins;
  guards = [];
  outs = outs;
  names = [];
  kind = kind;
}) no_vertices

-- An explode of this own input into as many parts of this length.
abbrev pub explode_of : List ℕ → ℕ → List ℕ → ℕ → ℕ → Vertex
explode_of definition count name input len = made definition name (Own input ∷ []) (replicate count len) explode

-- An explode for each fork line among these lines.
abbrev pub explodes : List ℕ → ℕ → List Feed → List Vertex
explodes definition count [] = []
explodes definition count (Fork name input len ∷ fs) =
    explode_of definition count name input len ∷ explodes definition count fs
explodes definition count (Diffuse input ∷ fs) = explodes definition count fs
explodes definition count (Iterate input y ∷ fs) = explodes definition count fs

-- The sources of the inputs of copy i. The explodes stand in the order of `lines`, and `first` is the number of
-- the first copy.
abbrev pub copy_sources : ℕ → ℕ → List Feed → List Feed → List Source
copy_sources first i lines [] = []
copy_sources first i lines (Fork name input len ∷ fs) =
    Of (fork_place name lines) i ∷ copy_sources first i lines fs
copy_sources first i lines (Diffuse input ∷ fs) = Own input ∷ copy_sources first i lines fs
copy_sources first i lines (Iterate input output ∷ fs) =
    (if i == 0 then Own input else Of (first + (i - 1)) output) ∷ copy_sources first i lines fs

-- Copy i of a body: the whole body, with a path and inputs of its own.
abbrev pub copy : ℕ → List Feed → Label → Vertices → ℕ → Vertex
copy first feeds body us i = vertex (record {
  part = Numbered i;
  definition = body.definition;
  ins = copy_sources first i (in_line_order feeds) feeds;
  guards = [];
  outs = body.outs;
  names = body.names;
  kind = body.kind;
}) us

-- The copies of the one body, in order.
abbrev pub copies : ℕ → List Feed → ℕ → Vertices → List Vertex
copies first feeds count no_vertices = []
copies first feeds count (and_vertex (vertex body us) others) =
    map (copy first feeds body us) (numbers_below count)

-- An implode of this output of each of the copies, of which the first has the number `first`, to this length.
abbrev pub implode_of : List ℕ → ℕ → ℕ → List ℕ → ℕ → ℕ → Vertex
implode_of definition first count name output len =
    made definition name (map (λ i. Of (first + i) output) (numbers_below count)) (len ∷ []) implode

-- An implode for each join line, in order, of the length of the repetition's output of that line. The first of these
-- lines is that of the output of this number.
abbrev pub implodes : List ℕ → ℕ → ℕ → List ℕ → ℕ → List Give → List Vertex
implodes definition first count outs number [] = []
implodes definition first count outs number (Join name output ∷ gs) =
    implode_of definition first count name output (slice_index_or outs number 0) ∷
    implodes definition first count outs (suc number) gs
implodes definition first count outs number (Last output ∷ gs) =
    implodes definition first count outs (suc number) gs

-- The sources of the graph's outputs: an implode, or an output of the last copy. The implodes of these lines are the
-- ones from number `joins` on among those that stand after the copies.
abbrev pub give_sources : ℕ → ℕ → ℕ → List Give → List Source
give_sources first count joins [] = []
give_sources first count joins (Join name output ∷ gs) =
    Of (first + count + joins) 0 ∷ give_sources first count (suc joins) gs
give_sources first count joins (Last output ∷ gs) =
    Of (first + (count - 1)) output ∷ give_sources first count joins gs

-- The number of the first copy: an explode for each fork line stands before it.
abbrev pub begin : List Feed → ℕ
begin feeds = length (fork_names feeds)

-- What stands inside the graph that a repetition becomes.
abbrev pub unrolled_inside : List ℕ → ℕ → List Feed → List Give → List ℕ → Vertices → List Vertex
unrolled_inside definition count feeds gives outs us =
    explodes definition count (in_line_order feeds) ++
    (copies (begin feeds) feeds count us ++ implodes definition (begin feeds) count outs 0 gives)

-- A vertex of this kind, whose inside has no repetition.
abbrev pub unrolled_at : Label → Kind → Vertices → Vertex
unrolled_at l (repeat count feeds gives) us =
    vertex (with_kind l (graph (give_sources (begin feeds) count 0 gives)))
    (vertices_of (unrolled_inside l.definition count feeds gives l.outs us))
unrolled_at l k us = vertex (with_kind l k) us

abbrev mutual
  -- The vertex with each repetition in it, also itself if it is one, made a graph of its copies,
  -- from the inside out.
  pub unroll : Vertex → Vertex
  unroll (vertex l us) = unrolled_at l l.kind (unroll_all us)

  -- These vertices, in order, with the repetitions in each of them unrolled.
  pub unroll_all : Vertices → Vertices
  unroll_all no_vertices = no_vertices
  unroll_all (and_vertex u us) = and_vertex (unroll u) (unroll_all us)
