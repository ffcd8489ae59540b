-- A worked algorithm, row by row: a switch with a repetition in its first case, whose fork lines stand in another order than the inputs
-- of the body, a delay in its second and a switch in its last; and after it a repetition in a repetition, of a switch with a delay in a case.
use Rattle.std.proofs.Common.{◌≡◌, ℕ, ℤ, pos, List, [], ◌∷◌, ◌++◌, decimal, map, refl, codes}
use Rattle.algo_tree.specs.declared.Source.{Source}
use Rattle.algo_tree.specs.declared.Source.TheVariants.{Own, Of}
use Rattle.algo_tree.specs.declared.Part.{Part}
use Rattle.algo_tree.specs.declared.Part.TheVariants.{Named, Numbered, Port}
use Rattle.algo_tree.specs.declared.Feed.TheVariants.{Fork, Diffuse}
use Rattle.algo_tree.specs.declared.Give.TheVariants.{Join}
use Rattle.algo_tree.specs.Level.{Path}
use Rattle.algo_tree.specs.Tree.{Kind, sensor, actuator, delay, function, explode, implode, merge, graph, switch, repeat, Vertex, Vertices, no_vertices, and_vertex}
use Rattle.flat_graph.specs.Expr.{index}
use Rattle.flat_laws.proofs.WorkedUnrolling.{of, alone}
use Rattle.flat_laws.specs.Flat.{runs, gets, sets}
use Rattle.flat_laws.specs.FlatOf.{flat_of}
use Rattle.flat_laws.specs.Origins.{Origin, output_of, stage_origin}
use Rattle.flat_laws.specs.Table.{Condition, Row, stage_row, row, table}
use Rattle.flat_laws.specs.Listed.{flat_rows}

abbrev only : Vertex → Vertices
only u = and_vertex u no_vertices

abbrev named : List ℕ → Part
named x = Named x

abbrev does : Kind
does = function (index ∷ [])

-- an output of the operation of this path
abbrev output : Path → ℕ → Origin
output path q = output_of path does q

-- the lines are `fork q w`, `fork p v` and `join z z`
abbrev added : Vertex
added = of (Numbered 0) (codes "R") (Own 2 ∷ Own 1 ∷ []) (2 ∷ []) (repeat 2 (Fork (codes "p") 1 3 ∷ Fork (codes "q") 0 1 ∷ []) (Join (codes "z") 0 ∷ []))
    (only (alone (Numbered 0) (codes "Add") [] (1 ∷ []) does))

abbrev kept : Vertex
kept = of (Numbered 1) (codes "Acc") (Own 1 ∷ Own 2 ∷ []) (2 ∷ []) (graph (Of 0 0 ∷ []))
    (and_vertex (alone (named (codes "d")) (codes "Mem") (Of 1 0 ∷ []) (2 ∷ []) (delay ((pos 8 ∷ pos 9 ∷ []) ∷ [])))
    (only (alone (named (codes "f")) (codes "Add") (Of 0 0 ∷ Own 0 ∷ []) (2 ∷ []) does)))

abbrev chosen : Vertex
chosen = of (Numbered 2) (codes "In") (Own 1 ∷ Own 2 ∷ []) (2 ∷ []) (switch (pos 9 ∷ []) (codes "u" ∷ []))
    (and_vertex (alone (Numbered 0) (codes "Same") (Own 1 ∷ []) (2 ∷ []) does)
    (only (alone (Numbered 1) (codes "Neg") (Own 1 ∷ []) (2 ∷ []) does)))

abbrev outer : List ℤ
outer = pos 4 ∷ pos 7 ∷ []

abbrev switched : Vertex
switched = of (named (codes "w")) (codes "Sw") (Of 0 0 ∷ Of 1 0 ∷ Of 2 0 ∷ []) (2 ∷ []) (switch outer (codes "y" ∷ []))
    (and_vertex added (and_vertex kept (only chosen)))

abbrev held : Vertex
held = of (Numbered 0) (codes "K") [] (1 ∷ []) (switch (pos 5 ∷ []) (codes "v" ∷ []))
    (and_vertex (of (Numbered 0) (codes "Hold") (Own 1 ∷ []) (1 ∷ []) (graph (Of 0 0 ∷ [])) (only (alone (named (codes "d")) (codes "Zero") (Own 0 ∷ []) (1 ∷ []) (delay ((pos 0 ∷ []) ∷ [])))))
    (only (alone (Numbered 1) (codes "Same") (Own 1 ∷ []) (1 ∷ []) does)))

abbrev nested : Vertex
nested = of (named (codes "o")) (codes "Out") (Of 3 0 ∷ Of 2 0 ∷ []) (4 ∷ []) (repeat 2 (Diffuse 0 ∷ Fork (codes "x") 1 2 ∷ []) (Join (codes "y") 0 ∷ []))
    (only (of (Numbered 0) (codes "Mid") [] (2 ∷ []) (repeat 1 (Diffuse 0 ∷ Fork (codes "x") 1 2 ∷ []) (Join (codes "y") 0 ∷ [])) (only held)))

abbrev main : Vertex
main = of (named (codes "main")) (codes "main") [] [] (graph [])
    (and_vertex (alone (named (codes "s")) (codes "Sense") [] (1 ∷ []) (sensor 0))
    (and_vertex (alone (named (codes "t")) (codes "Sense") [] (6 ∷ []) (sensor 1))
    (and_vertex (alone (named (codes "v")) (codes "Sense") [] (2 ∷ []) (sensor 2))
    (and_vertex switched (and_vertex nested (only (alone (named (codes "a")) (codes "Act") (Of 4 0 ∷ []) [] (actuator 0))))))))

abbrev when : Origin → List ℤ → ℕ → Condition
when on values c = record { source = on; values = values; case = c }

abbrev w : Path
w = Named (codes "w") ∷ []

abbrev from : List ℕ → Origin
from x = output (Named x ∷ []) 0

-- the conditions of the cases of w
abbrev in_case : ℕ → Condition
in_case = when (from (codes "s")) outer

abbrev merged : Origin
merged = output (w ++ Port (codes "y") ∷ []) 0

-- copy i of the outer repetition
abbrev copied : ℕ → List Row
copied i =
    let o : Path = Named (codes "o") ∷ Numbered i ∷ [] in
    let part : Origin = output (o ++ Port (codes "x") ∷ []) 0 in
    let hold : Path = o ++ Numbered 0 ∷ Numbered 0 ∷ Named (codes "d") ∷ [] in
    let same : Path = o ++ Numbered 0 ∷ Numbered 1 ∷ [] in
    row (o ++ Port (codes "x") ∷ []) (codes "Mid") (output (Named (codes "o") ∷ Port (codes "x") ∷ []) i ∷ []) [] (2 ∷ []) (runs explode)
    ∷ row hold (codes "Zero") [] (when merged (pos 5 ∷ []) 0 ∷ []) (1 ∷ []) (gets (pos 0 ∷ []))
    ∷ row hold (codes "Zero") (part ∷ []) (when merged (pos 5 ∷ []) 0 ∷ []) [] sets
    ∷ row same (codes "Same") (part ∷ []) (when merged (pos 5 ∷ []) 1 ∷ []) (1 ∷ []) (runs does)
    ∷ row (o ++ Numbered 0 ∷ Port (codes "v") ∷ []) (codes "K") (merged ∷ stage_origin hold 0 0 ∷ output same 0 ∷ []) [] (1 ∷ []) (runs (merge (pos 5 ∷ [])))
    ∷ row (o ++ Port (codes "y") ∷ []) (codes "Mid") (output (o ++ Numbered 0 ∷ Port (codes "v") ∷ []) 0 ∷ []) [] (2 ∷ []) (runs implode)
    ∷ []

-- the port z of the repetition in w
abbrev of_w : List ℕ → Path
of_w x = w ++ Numbered 0 ∷ Port x ∷ []

abbrev add : ℕ → Path
add i = w ++ Numbered 0 ∷ Numbered i ∷ []

abbrev acc : List ℕ → Path
acc x = w ++ Numbered 1 ∷ Named x ∷ []

rows : table main ≡
    row (Named (codes "s") ∷ []) (codes "Sense") [] [] (1 ∷ []) (runs (sensor 0))
    ∷ row (Named (codes "t") ∷ []) (codes "Sense") [] [] (6 ∷ []) (runs (sensor 1))
    ∷ row (Named (codes "v") ∷ []) (codes "Sense") [] [] (2 ∷ []) (runs (sensor 2))
    ∷ row (of_w (codes "q")) (codes "R") (from (codes "v") ∷ []) (in_case 0 ∷ []) (1 ∷ 1 ∷ []) (runs explode)
    ∷ row (of_w (codes "p")) (codes "R") (from (codes "t") ∷ []) (in_case 0 ∷ []) (3 ∷ 3 ∷ []) (runs explode)
    ∷ row (add 0) (codes "Add") (output (of_w (codes "p")) 0 ∷ output (of_w (codes "q")) 0 ∷ []) (in_case 0 ∷ []) (1 ∷ []) (runs does)
    ∷ row (add 1) (codes "Add") (output (of_w (codes "p")) 1 ∷ output (of_w (codes "q")) 1 ∷ []) (in_case 0 ∷ []) (1 ∷ []) (runs does)
    ∷ row (of_w (codes "z")) (codes "R") (output (add 0) 0 ∷ output (add 1) 0 ∷ []) (in_case 0 ∷ []) (2 ∷ []) (runs implode)
    ∷ row (acc (codes "d")) (codes "Mem") [] (in_case 1 ∷ []) (2 ∷ []) (gets (pos 8 ∷ pos 9 ∷ []))
    ∷ row (acc (codes "d")) (codes "Mem") (output (acc (codes "f")) 0 ∷ []) (in_case 1 ∷ []) [] sets
    ∷ row (acc (codes "f")) (codes "Add") (stage_origin (acc (codes "d")) 0 0 ∷ from (codes "t") ∷ []) (in_case 1 ∷ []) (2 ∷ []) (runs does)
    ∷ row (w ++ Numbered 2 ∷ Numbered 0 ∷ []) (codes "Same") (from (codes "v") ∷ []) (in_case 2 ∷ when (from (codes "t")) (pos 9 ∷ []) 0 ∷ []) (2 ∷ []) (runs does)
    ∷ row (w ++ Numbered 2 ∷ Numbered 1 ∷ []) (codes "Neg") (from (codes "v") ∷ []) (in_case 2 ∷ when (from (codes "t")) (pos 9 ∷ []) 1 ∷ []) (2 ∷ []) (runs does)
    ∷ row (w ++ Numbered 2 ∷ Port (codes "u") ∷ []) (codes "In")
    (from (codes "t") ∷ output (w ++ Numbered 2 ∷ Numbered 0 ∷ []) 0 ∷ output (w ++ Numbered 2 ∷ Numbered 1 ∷ []) 0 ∷ []) (in_case 2 ∷ []) (2 ∷ []) (runs (merge (pos 9 ∷ [])))
    ∷ row (w ++ Port (codes "y") ∷ []) (codes "Sw")
    (from (codes "s") ∷ output (of_w (codes "z")) 0 ∷ stage_origin (acc (codes "d")) 0 0 ∷ output (w ++ Numbered 2 ∷ Port (codes "u") ∷ []) 0 ∷ []) [] (2 ∷ []) (runs (merge outer))
    ∷ row (Named (codes "o") ∷ Port (codes "x") ∷ []) (codes "Out") (from (codes "v") ∷ []) [] (2 ∷ 2 ∷ []) (runs explode)
    ∷ (copied 0 ++ (copied 1 ++ (row (Named (codes "o") ∷ Port (codes "y") ∷ []) (codes "Out")
    (output (Named (codes "o") ∷ Numbered 0 ∷ Port (codes "y") ∷ []) 0 ∷ output (Named (codes "o") ∷ Numbered 1 ∷ Port (codes "y") ∷ []) 0 ∷ []) [] (4 ∷ []) (runs implode)
    ∷ row (Named (codes "a") ∷ []) (codes "Act") (output (Named (codes "o") ∷ Port (codes "y") ∷ []) 0 ∷ []) [] [] (runs (actuator 0)) ∷ [])))
rows = refl

-- what the three passes make of it has these operations
flattened : flat_rows (flat_of main) ≡ table main
flattened = refl

-- names as texts
abbrev alone_in_main : Vertex → Vertex
alone_in_main u = of (named (codes "main")) (codes "main") [] [] (graph []) (only u)

abbrev in_graph : Vertex
in_graph = of (named (codes "g")) (codes "Acc") [] [] (graph [])
    (and_vertex (alone (named (codes "d")) (codes "Mem") [] (2 ∷ []) (delay ((pos 8 ∷ pos 9 ∷ []) ∷ [])))
    (only (alone (named (codes "f")) (codes "Add") [] (2 ∷ []) does)))

names : map (λ (r : Row). r.name) (table (alone_in_main in_graph)) ≡ codes "g/d:get" ∷ codes "g/d:set" ∷ codes "g/f" ∷ []
names = refl

numbered_name : map (λ (r : Row). r.name)
    (table (alone_in_main (of (named (codes "c")) (codes "In") [] (2 ∷ []) (switch [] (codes "u" ∷ []))
    (only (alone (Numbered 0) (codes "Same") [] (2 ∷ []) does)))))
    ≡ (codes "c" ++ (codes "." ++ (decimal 0 ++ []) ++ [])) ∷ codes "c:u" ∷ []
numbered_name = refl

-- a delay that looks back two active reactions, as it is and in the copies of a repetition
abbrev deep : Part → List Source → Vertex
deep p ins = alone p (codes "D") ins (1 ∷ []) (delay ((pos 1 ∷ []) ∷ (pos 2 ∷ []) ∷ []))

abbrev deep_main : Vertex
deep_main = of (named (codes "main")) (codes "main") [] [] (graph [])
    (and_vertex (alone (named (codes "s")) (codes "S") [] (1 ∷ []) (sensor 0))
    (and_vertex (deep (named (codes "d")) (Of 0 0 ∷ []))
    (only (of (named (codes "r")) (codes "R") (Of 0 0 ∷ []) (2 ∷ []) (repeat 2 (Diffuse 0 ∷ []) (Join (codes "y") 0 ∷ [])) (only (deep (Numbered 0) []))))))

-- the halves of the stages of a delay of this path: the first takes what the second keeps, and the second takes s
abbrev halves : Path → List Row
halves p =
    stage_row p 0 (codes "D") [] [] (1 ∷ []) (gets (pos 1 ∷ []))
    ∷ stage_row p 0 (codes "D") (stage_origin p 1 0 ∷ []) [] [] sets
    ∷ stage_row p 1 (codes "D") [] [] (1 ∷ []) (gets (pos 2 ∷ []))
    ∷ stage_row p 1 (codes "D") (from (codes "s") ∷ []) [] [] sets
    ∷ []

abbrev copy : ℕ → Path
copy i = Named (codes "r") ∷ Numbered i ∷ []

deep_rows : table deep_main ≡
    row (Named (codes "s") ∷ []) (codes "S") [] [] (1 ∷ []) (runs (sensor 0))
    ∷ (halves (Named (codes "d") ∷ []) ++ (halves (copy 0) ++ (halves (copy 1)
    ++ (row (Named (codes "r") ∷ Port (codes "y") ∷ []) (codes "R") (stage_origin (copy 0) 0 0 ∷ stage_origin (copy 1) 0 0 ∷ []) [] (2 ∷ []) (runs implode) ∷ []))))
deep_rows = refl

deep_flattened : flat_rows (flat_of deep_main) ≡ table deep_main
deep_flattened = refl

stage_names : map (λ (r : Row). r.name) (halves (Named (codes "d") ∷ [])) ≡ codes "d:get" ∷ codes "d:set" ∷ (codes "d:get." ++ decimal 1) ∷ (codes "d:set." ++ decimal 1) ∷ []
stage_names = refl
