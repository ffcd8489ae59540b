-- A worked repetition whose fork lines stand in another order than the inputs of the body: the lines are `fork q w`, `diffuse k u`,
-- `fork p v`, `join z z`, and the body takes v, w and u.
use Rattle.std.proofs.Common.{◌≡◌, List, [], ◌∷◌, refl, codes}
use Rattle.algo_tree.specs.declared.Source.TheVariants.{Own, Of}
use Rattle.algo_tree.specs.declared.Part.TheVariants.{Named, Numbered}
use Rattle.algo_tree.specs.declared.Feed.{Feed}
use Rattle.algo_tree.specs.declared.Feed.TheVariants.{Fork, Diffuse}
use Rattle.algo_tree.specs.declared.Give.TheVariants.{Join}
use Rattle.algo_tree.specs.Tree.{function, explode, implode, graph, repeat, Vertex, vertex, no_vertices, and_vertex}
use Rattle.flat_laws.specs.Lines.{in_line_order, fork_place}
use Rattle.flat_laws.specs.Unrolled.{made, unroll}

-- as the tree has them, by the inputs of the body
abbrev feeds : List Feed
feeds = Fork (codes "p") 2 3 ∷ Fork (codes "q") 0 1 ∷ Diffuse 1 ∷ []

in_order : in_line_order feeds ≡ Fork (codes "q") 0 1 ∷ Diffuse 1 ∷ Fork (codes "p") 2 3 ∷ []
in_order = refl

-- of lines of one outer input the first stays first
one_input : in_line_order (Fork (codes "a") 1 2 ∷ Fork (codes "b") 0 2 ∷ Fork (codes "c") 1 2 ∷ []) ≡ Fork (codes "b") 0 2 ∷ Fork (codes "a") 1 2 ∷ Fork (codes "c") 1 2 ∷ []
one_input = refl

places : (fork_place (codes "p") (in_line_order feeds) ≡ 1) × (fork_place (codes "q") (in_line_order feeds) ≡ 0)
places = (refl, refl)

abbrev body : Vertex
body = vertex (record { part = Numbered 0; definition = codes "Add"; ins = []; guards = []; outs = 2 ∷ []; names = []; kind = function [] }) no_vertices

abbrev added : Vertex
added = vertex (record {
  part = Named (codes "r");
  definition = codes "R";
  ins = Of 0 0 ∷ Of 1 0 ∷ Of 2 0 ∷ [];
  guards = [];
  outs = 4
      ∷ [];
  names = [];
  kind = repeat 2 feeds (Join (codes "z") 0 ∷ []);
}) (and_vertex body no_vertices)

-- the explode of q stands first, and input v of each copy takes from the one of p
unrolled : unroll added ≡ vertex (record { part = Named (codes "r"); definition = codes "R"; ins = Of 0 0 ∷ Of 1 0 ∷ Of 2 0 ∷ []; guards = []; outs = 4 ∷ []; names = []; kind = graph (Of 4 0 ∷ []) })
    (and_vertex (made (codes "R") (codes "q") (Own 0 ∷ []) (1 ∷ 1 ∷ []) explode)
    (and_vertex (made (codes "R") (codes "p") (Own 2 ∷ []) (3 ∷ 3 ∷ []) explode)
    (and_vertex (vertex (record { part = Numbered 0; definition = codes "Add"; ins = Of 1 0 ∷ Of 0 0 ∷ Own 1 ∷ []; guards = []; outs = 2 ∷ []; names = []; kind = function [] }) no_vertices)
    (and_vertex (vertex (record { part = Numbered 1; definition = codes "Add"; ins = Of 1 1 ∷ Of 0 1 ∷ Own 1 ∷ []; guards = []; outs = 2 ∷ []; names = []; kind = function [] }) no_vertices)
    (and_vertex (made (codes "R") (codes "z") (Of 2 0 ∷ Of 3 0 ∷ []) (4 ∷ []) implode) no_vertices)))))
unrolled = refl
