-- What is told of the vertices of a level, segment by segment.
use Rattle.std.proofs.Common.{◌≡◌, ℕ, ◌+◌, List, [], ◌∷◌, ◌++◌, map, refl, ap, arith}
use Rattle.level_meaning.specs.declared.source.Source.{Source}
use Rattle.level_meaning.specs.Level.{State, Node}
use Rattle.algo_tree.specs.Tree.{Kind, sensor, actuator, constant, delay, function, explode, implode, merge, graph, switch, repeat, Vertex}
use Rattle.algo_tree.specs.Meaning.{asked_by, kind_outputs}
use Rattle.algo_tree.specs.View.{vertices_of}
use Rattle.algo_tree.specs.Well.{AllWell}
use Rattle.algo_tree.specs.Typed.{AreLengths, label_of, outs_of, AllTyped}
use Rattle.algo_tree.specs.Counted.{operations_in}
use Rattle.syn_base.specs.Vectors.{Vector, Values}

pub outs-append : (xs ys : List Vertex) → outs_of (vertices_of (xs ++ ys)) ≡ outs_of (vertices_of xs) ++ outs_of (vertices_of ys)
outs-append [] ys = refl
outs-append (x ∷ xs) ys = ap (λ os. (label_of x).outs ∷ os) (outs-append xs ys)

pub typed-append : (own : List ℕ) (outs : List (List ℕ)) (xs ys : List Vertex) → AllTyped own outs (vertices_of xs) → AllTyped own outs (vertices_of ys) → AllTyped own outs (vertices_of (xs ++ ys))
typed-append own outs [] ys h k = k
typed-append own outs (x ∷ xs) ys h k = (h.0, typed-append own outs xs ys h.1 k)

pub counted-append : (xs ys : List Vertex) → operations_in (vertices_of (xs ++ ys)) ≡ operations_in (vertices_of xs) + operations_in (vertices_of ys)
counted-append [] ys = omega arith
counted-append (x ∷ xs) ys = let more = counted-append xs ys in omega (arith, more)

pub well-append : (xs ys : List Vertex) → AllWell (vertices_of xs) → AllWell (vertices_of ys) → AllWell (vertices_of (xs ++ ys))
well-append [] ys h k = k
well-append (x ∷ xs) ys h k = (h.0, well-append xs ys h.1 k)

pub lengths-append : (xs ys : List ℕ) → AreLengths xs → AreLengths ys → AreLengths (xs ++ ys)
lengths-append [] ys h k = k
lengths-append (x ∷ xs) ys h k = (h.0, lengths-append xs ys h.1 k)

-- a delay asks for no input, and its outputs tell nothing of one
pub blind : (k : Kind) (outs : List ℕ) (cs : List Node) (row : Values) (st : State) (f : Source → Vector) (ss : List Source)
    → kind_outputs k outs cs row st (map f (asked_by k ss)) ≡ kind_outputs k outs cs row st (map f ss)
blind (sensor m) outs cs row st f ss = refl
blind (actuator m) outs cs row st f ss = refl
blind (constant v) outs cs row st f ss = refl
blind (delay v) outs cs row st f ss = refl
blind (function es) outs cs row st f ss = refl
blind explode outs cs row st f ss = refl
blind implode outs cs row st f ss = refl
blind (merge values) outs cs row st f ss = refl
blind (graph sources) outs cs row st f ss = refl
blind (switch values names) outs cs row st f ss = refl
blind (repeat m feeds gives) outs cs row st f ss = refl
