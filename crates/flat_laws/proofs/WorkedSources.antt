-- A worked algorithm, row by row, for where sources lead. A graph g takes the sensors t, s and x in another order than they stand. In it two
-- switches with equal values are conditioned by two sensors; the first has in a case a repetition whose lines are fork, diffuse, iterate
-- and join, and in its other case a graph whose outputs are two of its own inputs, crossed. The first output of g is one of its inputs. A
-- delay that looks back two reactions takes the second.
use Rattle.std.proofs.Common.{◌≡◌, ℕ, ℤ, pos, List, [], ◌∷◌, ◌++◌, refl, codes}
use Rattle.algo_tree.specs.declared.Source.TheVariants.{Own, Of}
use Rattle.algo_tree.specs.declared.Part.TheVariants.{Named, Numbered, Port}
use Rattle.algo_tree.specs.declared.Feed.TheVariants.{Fork, Diffuse, Iterate}
use Rattle.algo_tree.specs.declared.Give.TheVariants.{Last, Join}
use Rattle.algo_tree.specs.Level.{Path}
use Rattle.algo_tree.specs.Tree.{Kind, sensor, actuator, delay, function, explode, implode, merge, graph, switch, repeat, Vertex, Vertices, no_vertices, and_vertex}
use Rattle.flat_graph.specs.Expr.{index}
use Rattle.flat_laws.proofs.WorkedUnrolling.{of, alone}
use Rattle.flat_laws.specs.Flat.{runs, gets, sets}
use Rattle.flat_laws.specs.FlatOf.{flat_of}
use Rattle.flat_laws.specs.Origins.{Origin, output_of, stage_origin}
use Rattle.flat_laws.specs.Table.{Condition, stage_row, row, table}
use Rattle.flat_laws.specs.Listed.{flat_rows}

abbrev only : Vertex → Vertices
only u = and_vertex u no_vertices

abbrev does : Kind
does = function (index ∷ [])

-- an output of the operation of this path
abbrev output : Path → ℕ → Origin
output path q = output_of path does q

abbrev three : List ℤ
three = pos 3 ∷ []

-- the lines are `diffuse p w`, `fork f v`, `iterate r u y l` and `join z j`
abbrev repeated : Vertex
repeated = of (Numbered 0) (codes "R") (Own 2 ∷ Own 1 ∷ Own 0 ∷ []) (1 ∷ 6 ∷ []) (repeat 2 (Iterate 2 1 ∷ Fork (codes "f") 1 2 ∷ Diffuse 0 ∷ []) (Last 1 ∷ Join (codes "j") 0 ∷ []))
    (only (alone (Numbered 0) (codes "B") [] (3 ∷ 1 ∷ []) (function (index ∷ index ∷ []))))

abbrev passed : Vertex
passed = of (Numbered 1) (codes "Pass") (Own 1 ∷ Own 2 ∷ []) (1 ∷ 6 ∷ []) (graph (Own 1 ∷ Own 0 ∷ [])) no_vertices

abbrev first : Vertex
first = of (Named (codes "c")) (codes "C") (Own 1 ∷ Own 2 ∷ Own 0 ∷ []) (1 ∷ 6 ∷ []) (switch three (codes "y" ∷ codes "z" ∷ [])) (and_vertex repeated (only passed))

abbrev second : Vertex
second = of (Named (codes "e")) (codes "E") (Own 0 ∷ Of 0 1 ∷ []) (6 ∷ []) (switch three (codes "y" ∷ []))
    (and_vertex (alone (Numbered 0) (codes "P") (Own 1 ∷ []) (6 ∷ []) does) (only (alone (Numbered 1) (codes "Q") (Own 1 ∷ []) (6 ∷ []) does)))

abbrev around : Vertex
around = of (Named (codes "g")) (codes "G") (Of 1 0 ∷ Of 0 0 ∷ Of 2 0 ∷ []) (4 ∷ 6 ∷ 6 ∷ []) (graph (Own 2 ∷ Of 1 0 ∷ Of 0 1 ∷ [])) (and_vertex first (only second))

abbrev main : Vertex
main = of (Named (codes "main")) (codes "main") [] [] (graph [])
    (and_vertex (alone (Named (codes "s")) (codes "S") [] (1 ∷ []) (sensor 0))
    (and_vertex (alone (Named (codes "t")) (codes "S") [] (1 ∷ []) (sensor 1))
    (and_vertex (alone (Named (codes "x")) (codes "X") [] (4 ∷ []) (sensor 2))
    (and_vertex around
    (and_vertex (alone (Named (codes "d")) (codes "D") (Of 3 1 ∷ []) (6 ∷ []) (delay ((pos 1 ∷ []) ∷ (pos 2 ∷ []) ∷ [])))
    (and_vertex (alone (Named (codes "a")) (codes "A") (Of 3 0 ∷ []) [] (actuator 0))
    (and_vertex (alone (Named (codes "b")) (codes "A") (Of 3 2 ∷ []) [] (actuator 1))
    (only (alone (Named (codes "k")) (codes "A") (Of 4 0 ∷ []) [] (actuator 2))))))))))

abbrev from : List ℕ → Origin
from x = output (Named x ∷ []) 0

abbrev c : Path
c = Named (codes "g") ∷ Named (codes "c") ∷ []

abbrev e : Path
e = Named (codes "g") ∷ Named (codes "e") ∷ []

abbrev fork : Path
fork = c ++ Numbered 0 ∷ Port (codes "f") ∷ []

abbrev copy : ℕ → Path
copy i = c ++ Numbered 0 ∷ Numbered i ∷ []

abbrev join : Path
join = c ++ Numbered 0 ∷ Port (codes "j") ∷ []

abbrev chosen : Path
chosen = c ++ Port (codes "z") ∷ []

-- the two switches have the same values, and not the same sensor
abbrev by_s : ℕ → List Condition
by_s i = record { source = from (codes "s"); values = three; case = i } ∷ []

abbrev by_t : ℕ → List Condition
by_t i = record { source = from (codes "t"); values = three; case = i } ∷ []

abbrev d : Path
d = Named (codes "d") ∷ []

rows : table main ≡
    row (Named (codes "s") ∷ []) (codes "S") [] [] (1 ∷ []) (runs (sensor 0))
    ∷ row (Named (codes "t") ∷ []) (codes "S") [] [] (1 ∷ []) (runs (sensor 1))
    ∷ row (Named (codes "x") ∷ []) (codes "X") [] [] (4 ∷ []) (runs (sensor 2))
    ∷ row fork (codes "R") (from (codes "x") ∷ []) (by_s 0) (2 ∷ 2 ∷ []) (runs explode)
    ∷ row (copy 0) (codes "B") (from (codes "s") ∷ output fork 0 ∷ from (codes "t") ∷ []) (by_s 0) (3 ∷ 1 ∷ []) (runs (function (index ∷ index ∷ [])))
    ∷ row (copy 1) (codes "B") (output (copy 0) 1 ∷ output fork 1 ∷ from (codes "t") ∷ []) (by_s 0) (3 ∷ 1 ∷ []) (runs (function (index ∷ index ∷ [])))
    ∷ row join (codes "R") (output (copy 0) 0 ∷ output (copy 1) 0 ∷ []) (by_s 0) (6 ∷ []) (runs implode)
    ∷ row (c ++ Port (codes "y") ∷ []) (codes "C") (from (codes "s") ∷ output (copy 1) 1 ∷ from (codes "t") ∷ []) [] (1 ∷ []) (runs (merge three))
    ∷ row chosen (codes "C") (from (codes "s") ∷ output join 0 ∷ from (codes "x") ∷ []) [] (6 ∷ []) (runs (merge three))
    ∷ row (e ++ Numbered 0 ∷ []) (codes "P") (output chosen 0 ∷ []) (by_t 0) (6 ∷ []) (runs does)
    ∷ row (e ++ Numbered 1 ∷ []) (codes "Q") (output chosen 0 ∷ []) (by_t 1) (6 ∷ []) (runs does)
    ∷ row (e ++ Port (codes "y") ∷ []) (codes "E") (from (codes "t") ∷ output (e ++ Numbered 0 ∷ []) 0 ∷ output (e ++ Numbered 1 ∷ []) 0 ∷ []) [] (6 ∷ []) (runs (merge three))
    ∷ stage_row d 0 (codes "D") [] [] (6 ∷ []) (gets (pos 1 ∷ []))
    ∷ stage_row d 0 (codes "D") (stage_origin d 1 0 ∷ []) [] [] sets
    ∷ stage_row d 1 (codes "D") [] [] (6 ∷ []) (gets (pos 2 ∷ []))
    ∷ stage_row d 1 (codes "D") (output (e ++ Port (codes "y") ∷ []) 0 ∷ []) [] [] sets
    ∷ row (Named (codes "a") ∷ []) (codes "A") (from (codes "x") ∷ []) [] [] (runs (actuator 0))
    ∷ row (Named (codes "b") ∷ []) (codes "A") (output chosen 0 ∷ []) [] [] (runs (actuator 1))
    ∷ row (Named (codes "k") ∷ []) (codes "A") (stage_origin d 0 0 ∷ []) [] [] (runs (actuator 2))
    ∷ []
rows = refl

-- what the three passes make of it reads the same
flattened : flat_rows (flat_of main) ≡ table main
flattened = refl
