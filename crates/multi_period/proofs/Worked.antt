-- Worked algorithms: a function and an accumulator that run in every other reaction.
use Rattle.std.proofs.Common.{◌≡◌, ℕ, ℤ, pos, List, [], ◌∷◌, refl, codes}
use Rattle.syn_base.specs.declared.arithmetic.Op.TheVariants.{Add}
use Rattle.body_lang.specs.Expr.{literal, index, element, apply}
use Rattle.algo_tree.specs.declared.Source.{Source}
use Rattle.algo_tree.specs.declared.Source.TheVariants.{Own, Of}
use Rattle.algo_tree.specs.declared.Guard.{Guard}
use Rattle.algo_tree.specs.declared.Part.TheVariants.{Named}
use Rattle.algo_tree.specs.Tree.{Kind, sensor, actuator, delay, function, graph, Vertex, vertex, Vertices, no_vertices, and_vertex}
use Rattle.algo_tree.specs.Meaning.{act_row}
use Rattle.algo_tree.specs.Counted.{operations}
use Rattle.multi_period.specs.declared.mark.Mark.{Mark}
use Rattle.multi_period.specs.Periods.{periods}
use Rattle.multi_period.specs.Meaning.{act_row_at}
use Rattle.syn_base.specs.Vectors.{Values}

abbrev of : List ℕ → List ℕ → List Source → List ℕ → List (List ℕ) → Kind → Vertices → Vertex
of p d ins outs names k us = vertex (record { part = Named p; definition = d; ins = ins; guards = []; outs = outs; names = names; kind = k }) us

abbrev y : List (List ℕ)
y = codes "y" ∷ []

abbrev one : List ℕ
one = 1 ∷ []

abbrev between : Kind → Vertices → Vertex
between k us = of (codes "main") (codes "main") [] [] [] (graph [])
    (and_vertex (of (codes "s") (codes "Sense") [] one y (sensor 0) no_vertices)
    (and_vertex (of (codes "f") (codes "F") (Of 0 0 ∷ []) one y k us)
    (and_vertex (of (codes "a") (codes "Act") (Of 1 0 ∷ []) [] [] (actuator 0) no_vertices) no_vertices)))

-- adds one
abbrev adds : Vertex
adds = between (function (apply Add (element 0 index) (literal (pos 1)) ∷ [])) no_vertices

-- gives what it had, and adds its input
abbrev sums : Vertex
sums = between (graph (Of 0 0 ∷ []))
    (and_vertex (of (codes "d") (codes "Mem") (Of 1 0 ∷ []) one y (delay ((pos 100 ∷ []) ∷ [])) no_vertices)
    (and_vertex (of (codes "g") (codes "Add") (Of 0 0 ∷ Own 0 ∷ []) one y (function (apply Add (element 0 index) (element 1 index) ∷ [])) no_vertices) no_vertices))

abbrev every_two : List Mark
every_two = record { reference = 1; every = 2 } ∷ []

abbrev rows_of : List ℤ → List Values
rows_of [] = []
rows_of (x ∷ xs) = ((x ∷ []) ∷ []) ∷ rows_of xs

abbrev given : (ℕ → Values) → List Values
given f = f 0 ∷ f 1 ∷ f 2 ∷ f 3 ∷ f 4 ∷ []

abbrev five_to_nine : List Values
five_to_nine = rows_of (pos 5 ∷ pos 6 ∷ pos 7 ∷ pos 8 ∷ pos 9 ∷ [])

abbrev one_to_five : List Values
one_to_five = rows_of (pos 1 ∷ pos 2 ∷ pos 3 ∷ pos 4 ∷ pos 5 ∷ [])

adds_at : given (act_row_at every_two adds five_to_nine) ≡ rows_of (pos 6 ∷ pos 6 ∷ pos 8 ∷ pos 8 ∷ pos 10 ∷ [])
adds_at = refl

adds_made : given (act_row (periods every_two adds) five_to_nine) ≡ rows_of (pos 6 ∷ pos 6 ∷ pos 8 ∷ pos 8 ∷ pos 10 ∷ [])
adds_made = refl

sums_at : given (act_row_at every_two sums one_to_five) ≡ rows_of (pos 100 ∷ pos 100 ∷ pos 101 ∷ pos 101 ∷ pos 104 ∷ [])
sums_at = refl

sums_made : given (act_row (periods every_two sums) one_to_five) ≡ rows_of (pos 100 ∷ pos 100 ∷ pos 101 ∷ pos 101 ∷ pos 104 ∷ [])
sums_made = refl

-- ten lines of the listing
ten : operations (periods every_two adds) ≡ 10
ten = refl

-- What the marks are asked for is needed. A reference that no number divides would run in reaction 0 alone, and is made to run always.
abbrev never : List Mark
never = record { reference = 1; every = 0 } ∷ []

never_at : given (act_row_at never adds five_to_nine) ≡ rows_of (pos 6 ∷ pos 6 ∷ pos 6 ∷ pos 6 ∷ pos 6 ∷ [])
never_at = refl

never_made : given (act_row (periods never adds) five_to_nine) ≡ rows_of (pos 6 ∷ pos 7 ∷ pos 8 ∷ pos 9 ∷ pos 10 ∷ [])
never_made = refl

-- A function with a guard gives 0 where it fails; what is made of it has none.
abbrev unless_five : Guard
unless_five = record { source = Of 0 0; values = pos 5 ∷ []; case = 1 }

abbrev guarded : Vertex
guarded = of (codes "main") (codes "main") [] [] [] (graph [])
    (and_vertex (of (codes "s") (codes "Sense") [] one y (sensor 0) no_vertices)
    (and_vertex (vertex (record {
      part = Named (codes "f");
      definition = codes "F";
      ins = Of 0 0 ∷ [];
      guards = unless_five ∷ [];
      outs = one;
      names = y;
      kind = function (apply Add (element 0 index) (literal (pos 1)) ∷ []);
    }) no_vertices)
    (and_vertex (of (codes "a") (codes "Act") (Of 1 0 ∷ []) [] [] (actuator 0) no_vertices) no_vertices)))

guarded_at : given (act_row_at every_two guarded five_to_nine) ≡ rows_of (pos 0 ∷ pos 0 ∷ pos 8 ∷ pos 8 ∷ pos 10 ∷ [])
guarded_at = refl

guarded_made : given (act_row (periods every_two guarded) five_to_nine) ≡ rows_of (pos 6 ∷ pos 6 ∷ pos 8 ∷ pos 8 ∷ pos 10 ∷ [])
guarded_made = refl
