-- Two worked algorithms, unrolled: an accumulation whose values were worked by hand, and a repetition in a repetition.
use Rattle.std.proofs.Common.{◌≡◌, ℕ, pos, List, [], ◌∷◌, refl, codes}
use Rattle.syn_base.specs.declared.arithmetic.Op.{Op}
use Rattle.syn_base.specs.declared.arithmetic.Op.TheVariants.{Add, Mul}
use Rattle.algo_tree.specs.declared.Source.{Source}
use Rattle.algo_tree.specs.declared.Source.TheVariants.{Own, Of}
use Rattle.algo_tree.specs.declared.Part.{Part}
use Rattle.algo_tree.specs.declared.Part.TheVariants.{Named, Numbered, Port}
use Rattle.algo_tree.specs.declared.Feed.TheVariants.{Fork, Diffuse, Iterate}
use Rattle.algo_tree.specs.declared.Give.TheVariants.{Last, Join}
use Rattle.algo_tree.specs.Tree.{Kind, sensor, actuator, constant, delay, function, explode, implode, graph, repeat, Vertex, vertex, Vertices, no_vertices, and_vertex}
use Rattle.algo_tree.specs.Meaning.{past, act_row}
use Rattle.algo_tree.specs.Counted.{operations}
use Rattle.flat_graph.specs.Expr.{index, element, apply}
use Rattle.flat_laws.specs.Unrolled.{unroll}
use Rattle.syn_base.specs.Vectors.{Values}

abbrev pub of : Part → List ℕ → List Source → List ℕ → Kind → Vertices → Vertex
of p d ins outs k us = vertex (record { part = p; definition = d; ins = ins; guards = []; outs = outs; names = []; kind = k }) us

abbrev pub alone : Part → List ℕ → List Source → List ℕ → Kind → Vertex
alone p d ins outs k = of p d ins outs k no_vertices

abbrev main_of : Vertices → Vertex
main_of us = of (Named (codes "main")) (codes "main") [] [] (graph []) us

-- The body of the accumulation gives (acc + v) * w.
abbrev both : Op → Kind
both op = function (apply op (element 0 index) (element 1 index) ∷ [])

abbrev cell : Vertex
cell = of (Numbered 0) (codes "Cell") [] (1 ∷ []) (graph (Of 1 0 ∷ []))
    (and_vertex (alone (Named (codes "p")) (codes "Add") (Own 2 ∷ Own 0 ∷ []) (1 ∷ []) (both Add))
    (and_vertex (alone (Named (codes "q")) (codes "Mul") (Of 0 0 ∷ Own 1 ∷ []) (1 ∷ []) (both Mul)) no_vertices))

-- v is forked, w diffused, and the result iterated from z on; all results are joined to p
abbrev chain : Vertex
chain = of (Named (codes "c")) (codes "Chain") (Of 0 0 ∷ Of 1 0 ∷ Of 2 0 ∷ []) (1 ∷ 4 ∷ [])
    (repeat 4 (Fork (codes "v") 0 1 ∷ Diffuse 1 ∷ Iterate 2 0 ∷ []) (Last 0 ∷ Join (codes "p") 0 ∷ []))
    (and_vertex cell no_vertices)

abbrev accumulation : Vertex
accumulation = main_of
    (and_vertex (alone (Named (codes "s")) (codes "Src") [] (4 ∷ []) (sensor 0))
    (and_vertex (alone (Named (codes "w")) (codes "W") [] (1 ∷ []) (constant (pos 2 ∷ [])))
    (and_vertex (alone (Named (codes "z")) (codes "Z") [] (1 ∷ []) (constant (pos 10 ∷ [])))
    (and_vertex chain
    (and_vertex (alone (Named (codes "a")) (codes "One") (Of 3 0 ∷ []) [] (actuator 0))
    (and_vertex (alone (Named (codes "b")) (codes "Four") (Of 3 1 ∷ []) [] (actuator 1)) no_vertices))))))

abbrev one_to_four : List Values
one_to_four = ((pos 1 ∷ pos 2 ∷ pos 3 ∷ pos 4 ∷ []) ∷ []) ∷ []

accumulated : act_row (unroll accumulation) one_to_four 0 ≡ (pos 212 ∷ []) ∷ (pos 22 ∷ pos 48 ∷ pos 102 ∷ pos 212 ∷ []) ∷ []
accumulated = refl

fifteen : operations (unroll accumulation) ≡ 15
fifteen = refl

-- A body that gives what it took in the reaction before.
abbrev hold : Part → List Source → Vertex
hold p ins = of p (codes "Hold") ins (1 ∷ []) (graph (Of 0 0 ∷ [])) (and_vertex (alone (Named (codes "d")) (codes "Zero") (Own 0 ∷ []) (1 ∷ []) (delay ((pos 0 ∷ []) ∷ []))) no_vertices)

abbrev split : ℕ → ℕ → Kind
split n len = repeat n (Fork (codes "x") 0 len ∷ []) (Join (codes "y") 0 ∷ [])

abbrev pairs : Vertex
pairs = of (Numbered 0) (codes "In") [] (2 ∷ []) (split 2 1) (and_vertex (hold (Numbered 0) []) no_vertices)

abbrev between : ℕ → Vertex → Vertex
between len u = main_of
    (and_vertex (alone (Named (codes "s")) (codes "Src") [] (len ∷ []) (sensor 0))
    (and_vertex u
    (and_vertex (alone (Named (codes "a")) (codes "Dst") (Of 1 0 ∷ []) [] (actuator 0)) no_vertices)))

abbrev nested : Vertex
nested = between 6 (of (Named (codes "o")) (codes "Out") (Of 0 0 ∷ []) (6 ∷ []) (split 3 2) (and_vertex pairs no_vertices))

abbrev twelve : List Values
twelve = ((pos 1 ∷ pos 2 ∷ pos 3 ∷ pos 4 ∷ pos 5 ∷ pos 6 ∷ []) ∷ []) ∷ ((pos 7 ∷ pos 8 ∷ pos 9 ∷ pos 10 ∷ pos 11 ∷ pos 12 ∷ []) ∷ []) ∷ []

first_reaction : act_row (unroll nested) twelve 0 ≡ (pos 0 ∷ pos 0 ∷ pos 0 ∷ pos 0 ∷ pos 0 ∷ pos 0 ∷ []) ∷ []
first_reaction = refl

second_reaction : act_row (unroll nested) twelve 1 ≡ (pos 1 ∷ pos 2 ∷ pos 3 ∷ pos 4 ∷ pos 5 ∷ pos 6 ∷ []) ∷ []
second_reaction = refl

twenty_two : operations (unroll nested) ≡ 22
twenty_two = refl

-- the delay o.2.1/d keeps the last element
last_kept : past (unroll nested) twelve 1 (Named (codes "o") ∷ Numbered 2 ∷ Numbered 1 ∷ Named (codes "d") ∷ []) ≡ (pos 6 ∷ []) ∷ []
last_kept = refl

-- a single copy is the body, after an explode and before an implode
abbrev single : Vertex
single = between 1 (of (Named (codes "h")) (codes "One") (Of 0 0 ∷ []) (1 ∷ []) (split 1 1) (and_vertex (hold (Numbered 0) []) no_vertices))

single_is : unroll single ≡ between 1 (of (Named (codes "h")) (codes "One") (Of 0 0 ∷ []) (1 ∷ []) (graph (Of 2 0 ∷ []))
    (and_vertex (alone (Port (codes "x")) (codes "One") (Own 0 ∷ []) (1 ∷ []) explode)
    (and_vertex (hold (Numbered 0) (Of 0 0 ∷ []))
    (and_vertex (alone (Port (codes "y")) (codes "One") (Of 1 0 ∷ []) (1 ∷ []) implode) no_vertices))))
single_is = refl

abbrev three : List Values
three = ((pos 5 ∷ []) ∷ []) ∷ ((pos 6 ∷ []) ∷ []) ∷ ((pos 7 ∷ []) ∷ []) ∷ []

abbrev plain : Vertex
plain = between 1 (hold (Named (codes "h")) (Of 0 0 ∷ []))

same_values : (act_row (unroll single) three 1 ≡ act_row plain three 1) × (act_row (unroll single) three 2 ≡ act_row plain three 2)
same_values = (refl, refl)

held : act_row plain three 2 ≡ (pos 6 ∷ []) ∷ []
held = refl
