-- Worked algorithms, guarded: cases with a delay inside, whose values were worked by hand, and a case in a case.
use Rattle.std.proofs.Common.{◌≡◌, ℕ, ℤ, pos, negsuc, List, [], ◌∷◌, refl, codes}
use Rattle.syn_base.specs.declared.arithmetic.Op.TheVariants.{Add}
use Rattle.algo_tree.specs.declared.Source.{Source}
use Rattle.algo_tree.specs.declared.Source.TheVariants.{Own, Of}
use Rattle.algo_tree.specs.declared.Guard.{Guard}
use Rattle.algo_tree.specs.declared.Part.{Part}
use Rattle.algo_tree.specs.declared.Part.TheVariants.{Named, Numbered, Port}
use Rattle.algo_tree.specs.Tree.{Kind, sensor, actuator, delay, function, merge, graph, switch, Vertex, vertex, Vertices, no_vertices, and_vertex}
use Rattle.algo_tree.specs.Meaning.{past, act_row}
use Rattle.algo_tree.specs.Counted.{operations}
use Rattle.flat_graph.specs.Expr.{literal, index, element, negation, apply}
use Rattle.flat_laws.specs.Guarded.{guard}
use Rattle.syn_base.specs.Vectors.{Values}

abbrev of : Part → List ℕ → List Source → List Guard → List ℕ → Kind → Vertices → Vertex
of p d ins gs outs k us = vertex (record { part = p; definition = d; ins = ins; guards = gs; outs = outs; names = []; kind = k }) us

abbrev main_of : Vertices → Vertex
main_of us = of (Named (codes "main")) (codes "main") [] [] [] (graph []) us

abbrev alone : Part → List ℕ → List Source → List Guard → List ℕ → Kind → Vertex
alone p d ins gs outs k = of p d ins gs outs k no_vertices

abbrev one : List ℕ
one = 1 ∷ []

abbrev at : Source → List ℤ → ℕ → Guard
at s values i = record { source = s; values = values; case = i }

abbrev same : Kind
same = function (element 0 index ∷ [])

abbrev opposite : Kind
opposite = function (negation (element 0 index) ∷ [])

abbrev sum : Kind
sum = function (apply Add (element 0 index) (element 1 index) ∷ [])

abbrev row_of : List ℤ → Values
row_of [] = []
row_of (x ∷ xs) = (x ∷ []) ∷ row_of xs

-- An accumulator, kept in a case: it gives what it had, and adds its input.
abbrev inside_sum : List Guard → Vertices
inside_sum gs =
    and_vertex (alone (Named (codes "d")) (codes "Mem") (Of 1 0 ∷ []) gs one (delay ((pos 100 ∷ []) ∷ [])))
    (and_vertex (alone (Named (codes "f")) (codes "Add") (Of 0 0 ∷ Own 0 ∷ []) gs one sum) no_vertices)

abbrev cases : Vertices
cases =
    and_vertex (alone (Numbered 0) (codes "Same") (Own 1 ∷ []) [] one same)
    (and_vertex (of (Numbered 1) (codes "Acc") (Own 1 ∷ []) [] one (graph (Of 0 0 ∷ [])) (inside_sum []))
    (and_vertex (alone (Numbered 2) (codes "Neg") (Own 1 ∷ []) [] one opposite) no_vertices))

abbrev between : Vertex → Vertex
between u = main_of
    (and_vertex (alone (Named (codes "s")) (codes "Sense") [] [] one (sensor 0))
    (and_vertex u
    (and_vertex (alone (Named (codes "a")) (codes "Act") (Of 1 0 ∷ []) [] [] (actuator 0)) no_vertices)))

abbrev by_case : Vertex
by_case = between (of (Named (codes "w")) (codes "Sw") (Of 0 0 ∷ Of 0 0 ∷ []) [] one (switch (pos 0 ∷ pos 3 ∷ []) (codes "y" ∷ [])) cases)

abbrev four : List Values
four = row_of (pos 3 ∷ []) ∷ row_of (pos 0 ∷ []) ∷ row_of (pos 3 ∷ []) ∷ row_of (negsuc 4 ∷ []) ∷ []

taken : (act_row (guard by_case) four 0 ≡ row_of (pos 100 ∷ []))
    × ((act_row (guard by_case) four 1 ≡ row_of (pos 0 ∷ []))
    × ((act_row (guard by_case) four 2 ≡ row_of (pos 103 ∷ [])) × (act_row (guard by_case) four 3 ≡ row_of (pos 5 ∷ []))))
taken = (refl, (refl, (refl, refl)))

-- in the second reaction and in the last the case of the delay is not selected, and it keeps its value
abbrev kept : ℕ → List (List ℤ)
kept k = past (guard by_case) four k (Named (codes "w") ∷ Numbered 1 ∷ Named (codes "d") ∷ [])

stays : (kept 0 ≡ (pos 100 ∷ []) ∷ []) × ((kept 1 ≡ (pos 103 ∷ []) ∷ []) × ((kept 2 ≡ (pos 103 ∷ []) ∷ []) × ((kept 3 ≡ (pos 106 ∷ []) ∷ []) × (kept 4 ≡ (pos 106 ∷ []) ∷ []))))
stays = (refl, (refl, (refl, (refl, refl))))

eight : operations (guard by_case) ≡ 8
eight = refl

-- the conditioning source is handed inward before the input of the case
abbrev inward : ℕ → Guard
inward i = at (Own 0) (pos 0 ∷ pos 3 ∷ []) i

by_case_is : guard by_case ≡ between (of (Named (codes "w")) (codes "Sw") (Of 0 0 ∷ Of 0 0 ∷ []) [] one (graph (Of 3 0 ∷ []))
    (and_vertex (alone (Numbered 0) (codes "Same") (Own 1 ∷ []) (inward 0 ∷ []) one same)
    (and_vertex (of (Numbered 1) (codes "Acc") (Own 0 ∷ Own 1 ∷ []) [] one (graph (Of 0 0 ∷ []))
    (and_vertex (alone (Named (codes "d")) (codes "Mem") (Of 1 0 ∷ []) (inward 1 ∷ []) one (delay ((pos 100 ∷ []) ∷ [])))
    (and_vertex (alone (Named (codes "f")) (codes "Add") (Of 0 0 ∷ Own 1 ∷ []) (inward 1 ∷ []) one sum) no_vertices)))
    (and_vertex (alone (Numbered 2) (codes "Neg") (Own 1 ∷ []) (inward 2 ∷ []) one opposite)
    (and_vertex (alone (Port (codes "y")) (codes "Sw") (Own 0 ∷ Of 0 0 ∷ Of 1 0 ∷ Of 2 0 ∷ []) [] one (merge (pos 0 ∷ pos 3 ∷ []))) no_vertices)))))
by_case_is = refl

-- A case in a case.
abbrev inner_cases : Vertices
inner_cases =
    and_vertex (alone (Numbered 0) (codes "Same") (Own 1 ∷ []) [] one same)
    (and_vertex (alone (Numbered 1) (codes "Neg") (Own 1 ∷ []) [] one opposite) no_vertices)

abbrev three_ends : Vertex → Vertex
three_ends u = main_of
    (and_vertex (alone (Named (codes "c")) (codes "Sense") [] [] one (sensor 0))
    (and_vertex (alone (Named (codes "k")) (codes "Sense") [] [] one (sensor 1))
    (and_vertex (alone (Named (codes "x")) (codes "Sense") [] [] one (sensor 2))
    (and_vertex u
    (and_vertex (alone (Named (codes "a")) (codes "Act") (Of 3 0 ∷ []) [] [] (actuator 0)) no_vertices)))))

abbrev three_sources : List Source
three_sources = Of 0 0 ∷ Of 1 0 ∷ Of 2 0 ∷ []

abbrev case_in_case : Vertex
case_in_case = three_ends (of (Named (codes "o")) (codes "Out2") three_sources [] one (switch (pos 1 ∷ []) (codes "y" ∷ []))
    (and_vertex (of (Numbered 0) (codes "In2") (Own 1 ∷ Own 2 ∷ []) [] one (switch (pos 0 ∷ []) (codes "y" ∷ [])) inner_cases)
    (and_vertex (alone (Numbered 1) (codes "K77") (Own 1 ∷ Own 2 ∷ []) [] one (function (literal (pos 77) ∷ []))) no_vertices)))

abbrev three : List Values
three = row_of (pos 1 ∷ pos 0 ∷ pos 5 ∷ []) ∷ row_of (pos 0 ∷ pos 0 ∷ pos 5 ∷ []) ∷ row_of (pos 1 ∷ pos 2 ∷ pos 5 ∷ []) ∷ []

nested : (act_row (guard case_in_case) three 0 ≡ row_of (pos 5 ∷ []))
    × ((act_row (guard case_in_case) three 1 ≡ row_of (pos 77 ∷ [])) × (act_row (guard case_in_case) three 2 ≡ row_of (negsuc 4 ∷ [])))
nested = (refl, (refl, refl))

-- An operation in the inner case carries the outer guard first, and the inner merge carries the outer one alone.
abbrev outer : ℕ → Guard
outer i = at (Own 0) (pos 1 ∷ []) i

abbrev both : ℕ → List Guard
both i = outer 0 ∷ at (Own 1) (pos 0 ∷ []) i ∷ []

case_in_case_is : guard case_in_case ≡ three_ends (of (Named (codes "o")) (codes "Out2") three_sources [] one (graph (Of 2 0 ∷ []))
    (and_vertex (of (Numbered 0) (codes "In2") (Own 0 ∷ Own 1 ∷ Own 2 ∷ []) [] one (graph (Of 2 0 ∷ []))
    (and_vertex (alone (Numbered 0) (codes "Same") (Own 2 ∷ []) (both 0) one same)
    (and_vertex (alone (Numbered 1) (codes "Neg") (Own 2 ∷ []) (both 1) one opposite)
    (and_vertex (alone (Port (codes "y")) (codes "In2") (Own 1 ∷ Of 0 0 ∷ Of 1 0 ∷ []) (outer 0 ∷ []) one (merge (pos 0 ∷ []))) no_vertices))))
    (and_vertex (alone (Numbered 1) (codes "K77") (Own 1 ∷ Own 2 ∷ []) (outer 1 ∷ []) one (function (literal (pos 77) ∷ [])))
    (and_vertex (alone (Port (codes "y")) (codes "Out2") (Own 0 ∷ Of 0 0 ∷ Of 1 0 ∷ []) [] one (merge (pos 1 ∷ []))) no_vertices))))
case_in_case_is = refl
