-- A worked algorithm, inlined: a graph that passes an input to an output, sources that stand after their readers, and a delay in
-- it that goes on while a condition holds. Numbers, order, sources and values were worked by hand.
use Rattle.std.proofs.Common.{◌≡◌, ℕ, pos, List, [], ◌∷◌, map, refl, codes}
use Rattle.syn_base.specs.declared.arithmetic.Op.TheVariants.{Add}
use Rattle.algo_tree.specs.declared.Source.{Source}
use Rattle.algo_tree.specs.declared.Source.TheVariants.{Own, Of}
use Rattle.algo_tree.specs.declared.Guard.{Guard}
use Rattle.algo_tree.specs.declared.Part.TheVariants.{Named}
use Rattle.algo_tree.specs.Level.{Path}
use Rattle.algo_tree.specs.Tree.{Kind, sensor, actuator, constant, delay, function, graph, Vertex, vertex, Vertices, no_vertices, and_vertex}
use Rattle.algo_tree.specs.Meaning.{act_row}
use Rattle.flat_graph.specs.Expr.{index, element, apply}
use Rattle.flat_laws.specs.Flat.{Operation, Task, runs, gets, sets, flat_act_row, flat_past}
use Rattle.flat_laws.specs.Inlined.{operations}
use Rattle.syn_base.specs.Vectors.{Vector, Values}
use Rattle.syn_base.specs.Numbers.{numbers_below}

abbrev of : List ℕ → List ℕ → List Source → List Guard → List ℕ → Kind → Vertices → Vertex
of name d ins gs outs k us = vertex (record { part = Named name; definition = d; ins = ins; guards = gs; outs = outs; names = []; kind = k }) us

abbrev when_ten : Source → Guard
when_ten s = record { source = s; values = pos 10 ∷ []; case = 0 }

abbrev pub adds : Kind
adds = function (apply Add (element 0 index) (element 1 index) ∷ [])

abbrev holds : Kind
holds = delay ((pos 7 ∷ []) ∷ [])

-- the first input is passed on, and the second is added up while the first is 10
abbrev adder : Vertex
adder = of (codes "g") (codes "Sum") (Of 3 0 ∷ Of 2 0 ∷ []) [] (1 ∷ 1 ∷ []) (graph (Own 0 ∷ Of 1 0 ∷ []))
    (and_vertex (of (codes "d") (codes "Seven") (Of 1 0 ∷ []) (when_ten (Own 0) ∷ []) (1 ∷ []) holds no_vertices)
    (and_vertex (of (codes "p") (codes "Add") (Own 1 ∷ Of 0 0 ∷ []) (when_ten (Own 0) ∷ []) (1 ∷ []) adds no_vertices) no_vertices))

abbrev pub main : Vertex
main = of (codes "main") (codes "main") [] [] [] (graph [])
    (and_vertex (of (codes "a") (codes "One") (Of 1 0 ∷ []) [] [] (actuator 0) no_vertices)
    (and_vertex adder
    (and_vertex (of (codes "c") (codes "Two") [] [] (1 ∷ []) (constant (pos 2 ∷ [])) no_vertices)
    (and_vertex (of (codes "s") (codes "Src") [] [] (1 ∷ []) (sensor 0) no_vertices)
    (and_vertex (of (codes "b") (codes "One") (Of 1 1 ∷ []) [] [] (actuator 1) no_vertices) no_vertices)))))

abbrev op : Path → List ℕ → List Source → List Guard → List ℕ → Task → Operation
op path d ins gs outs task = record { path = path; stage = 0; definition = d; ins = ins; guards = gs; outs = outs; task = task }

abbrev top : List ℕ → Path
top name = Named name ∷ []

abbrev in_g : List ℕ → Path
in_g name = Named (codes "g") ∷ Named name ∷ []

listed : operations main ≡
    op (top (codes "a")) (codes "One") (Of 5 0 ∷ []) [] [] (runs (actuator 0))
    ∷ op (in_g (codes "d")) (codes "Seven") [] (when_ten (Of 5 0) ∷ []) (1 ∷ []) (gets (pos 7 ∷ []))
    ∷ op (in_g (codes "d")) (codes "Seven") (Of 3 0 ∷ []) (when_ten (Of 5 0) ∷ []) [] sets
    ∷ op (in_g (codes "p")) (codes "Add") (Of 4 0 ∷ Of 1 0 ∷ []) (when_ten (Of 5 0) ∷ []) (1 ∷ []) (runs adds)
    ∷ op (top (codes "c")) (codes "Two") [] [] (1 ∷ []) (runs (constant (pos 2 ∷ [])))
    ∷ op (top (codes "s")) (codes "Src") [] [] (1 ∷ []) (runs (sensor 0))
    ∷ op (top (codes "b")) (codes "One") (Of 3 0 ∷ []) [] [] (runs (actuator 1))
    ∷ []
listed = refl

abbrev pub rows : List Values
rows = ((pos 10 ∷ []) ∷ []) ∷ ((pos 20 ∷ []) ∷ []) ∷ ((pos 10 ∷ []) ∷ []) ∷ []

first_reaction : flat_act_row (operations main) rows 0 ≡ (pos 10 ∷ []) ∷ (pos 9 ∷ []) ∷ []
first_reaction = refl

-- the condition does not hold: zeros, and the cell stays
second_reaction : flat_act_row (operations main) rows 1 ≡ (pos 20 ∷ []) ∷ (pos 0 ∷ []) ∷ []
second_reaction = refl

third_reaction : flat_act_row (operations main) rows 2 ≡ (pos 10 ∷ []) ∷ (pos 11 ∷ []) ∷ []
third_reaction = refl

same_in_the_tree : act_row main rows 2 ≡ (pos 10 ∷ []) ∷ (pos 11 ∷ []) ∷ []
same_in_the_tree = refl

stays : flat_past (operations main) rows 2 (in_g (codes "d")) 0 ≡ pos 9 ∷ []
stays = refl

-- A sensor, a delay of these groups of values, and an actuator of the delay.
abbrev looks_back : List Vector → Vertex
looks_back groups = of (codes "main") (codes "main") [] [] [] (graph [])
    (and_vertex (of (codes "s") (codes "Src") [] [] (1 ∷ []) (sensor 0) no_vertices)
    (and_vertex (of (codes "d") (codes "D") (Of 0 0 ∷ []) [] (1 ∷ []) (delay groups) no_vertices)
    (and_vertex (of (codes "a") (codes "One") (Of 1 0 ∷ []) [] [] (actuator 0) no_vertices) no_vertices)))

abbrev five : List Values
five = ((pos 5 ∷ []) ∷ []) ∷ ((pos 6 ∷ []) ∷ []) ∷ ((pos 7 ∷ []) ∷ []) ∷ ((pos 8 ∷ []) ∷ []) ∷ ((pos 9 ∷ []) ∷ []) ∷ []

abbrev three : List Vector
three = (pos 1 ∷ []) ∷ (pos 2 ∷ []) ∷ (pos 3 ∷ []) ∷ []

-- three reactions back: the groups in order, and then what was taken
deep_in_the_tree : map (act_row (looks_back three) five) (numbers_below 5) ≡ ((pos 1 ∷ []) ∷ []) ∷ ((pos 2 ∷ []) ∷ []) ∷ ((pos 3 ∷ []) ∷ []) ∷ ((pos 5 ∷ []) ∷ []) ∷ ((pos 6 ∷ []) ∷ []) ∷ []
deep_in_the_tree = refl

deep_in_the_list : map (flat_act_row (operations (looks_back three)) five) (numbers_below 5) ≡ ((pos 1 ∷ []) ∷ []) ∷ ((pos 2 ∷ []) ∷ [])
    ∷ ((pos 3 ∷ []) ∷ []) ∷ ((pos 5 ∷ []) ∷ []) ∷ ((pos 6 ∷ []) ∷ []) ∷ []
deep_in_the_list = refl

abbrev half : ℕ → List Source → List ℕ → Task → Operation
half i ins outs task = record { path = top (codes "d"); stage = i; definition = codes "D"; ins = ins; guards = []; outs = outs; task = task }

-- each stage takes the value of the one after it, and the last takes the input
two_stages : operations (looks_back ((pos 1 ∷ []) ∷ (pos 2 ∷ []) ∷ [])) ≡
    op (top (codes "s")) (codes "Src") [] [] (1 ∷ []) (runs (sensor 0))
    ∷ half 0 [] (1 ∷ []) (gets (pos 1 ∷ []))
    ∷ half 0 (Of 3 0 ∷ []) [] sets
    ∷ half 1 [] (1 ∷ []) (gets (pos 2 ∷ []))
    ∷ half 1 (Of 0 0 ∷ []) [] sets
    ∷ op (top (codes "a")) (codes "One") (Of 1 0 ∷ []) [] [] (runs (actuator 0))
    ∷ []
two_stages = refl

-- the same delay, which goes on while its sensor gives 10 alone: what counts are its active reactions
abbrev sometimes : Vertex
sometimes = of (codes "main") (codes "main") [] [] [] (graph [])
    (and_vertex (of (codes "s") (codes "Src") [] [] (2 ∷ []) (sensor 0) no_vertices)
    (and_vertex (of (codes "d") (codes "D") (Of 0 0 ∷ []) (when_ten (Of 0 0) ∷ []) (2 ∷ []) (delay ((pos 1 ∷ pos 2 ∷ []) ∷ (pos 3 ∷ pos 4 ∷ []) ∷ [])) no_vertices)
    (and_vertex (of (codes "a") (codes "One") (Of 1 0 ∷ []) [] [] (actuator 0) no_vertices) no_vertices)))

abbrev turns : List Values
turns = ((pos 10 ∷ pos 5 ∷ []) ∷ []) ∷ ((pos 20 ∷ pos 6 ∷ []) ∷ []) ∷ ((pos 10 ∷ pos 7 ∷ []) ∷ []) ∷ ((pos 20 ∷ pos 8 ∷ []) ∷ []) ∷ ((pos 10 ∷ pos 9 ∷ []) ∷ []) ∷ []

every_other : map (flat_act_row (operations sometimes) turns) (numbers_below 5) ≡
    ((pos 1 ∷ pos 2 ∷ []) ∷ []) ∷ ((pos 0 ∷ pos 0 ∷ []) ∷ []) ∷ ((pos 3 ∷ pos 4 ∷ []) ∷ []) ∷ ((pos 0 ∷ pos 0 ∷ []) ∷ []) ∷ ((pos 10 ∷ pos 5 ∷ []) ∷ []) ∷ []
every_other = refl

every_other_in_the_tree : map (act_row sometimes turns) (numbers_below 5) ≡ map (flat_act_row (operations sometimes) turns) (numbers_below 5)
every_other_in_the_tree = refl
