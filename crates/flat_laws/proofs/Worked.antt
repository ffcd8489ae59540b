-- The flat graph of the worked algorithm of inlining: it is valid, it stands for the list, and it gives the values worked by hand.
use Rattle.std.proofs.Common.{◌≡◌, ℕ, pos, true, List, [], ◌∷◌, ◌++◌, Option, Some, None, refl, codes}
use Rattle.std.specs.Fmt.{decimal}
use Rattle.syn_base.specs.declared.arithmetic.Op.TheVariants.{Add}
use Rattle.flat_graph.specs.Expr.{index, element, apply}
use Rattle.flat_graph.specs.declared.vertex.Source.{Source}
use Rattle.flat_graph.specs.declared.vertex.Guard.{Guard}
use Rattle.flat_graph.specs.declared.vertex.Kind.{Kind}
use Rattle.flat_graph.specs.declared.vertex.Kind.TheVariants.{Sensor, Actuator, Function, Constant, Get, Set}
use Rattle.flat_graph.specs.declared.vertex.Vertex.{Vertex}
use Rattle.flat_graph.specs.Graph.{Graph}
use Rattle.flat_graph.specs.Valid.{is_flat}
use Rattle.flat_graph.specs.Meaning.{initial_cells, cells_after, flat_act_row}
use Rattle.flat_laws.specs.Inlined.{operations}
use Rattle.flat_laws.proofs.WorkedInlining.{main, rows}
use Rattle.algo_tree.specs.declared.Part.TheVariants.{Named, Numbered, Port}
use Rattle.algo_tree.specs.Texts.{path_text}
use Rattle.flat_laws.specs.Stands.{Stands}

abbrev at : ℕ → ℕ → Source
at v p = record { vertex = v; port = p }

abbrev when_ten : List Guard
when_ten = record { source = at 5 0; values = pos 10 ∷ []; case = 0 } ∷ []

abbrev of : List ℕ → List ℕ → Kind → List Guard → List Source → List ℕ → Option ℕ → Vertex
of name d k gs ins outs twin = record { name = name; def = d; kind = k; guards = gs; ins = ins; outs = outs; twin = twin }

abbrev graph : Graph
graph = record {
  vertices = of (codes "a") (codes "One") (Actuator 0) [] (at 5 0 ∷ []) [] None
      ∷ of (codes "g/d:get") (codes "Seven") (Get (pos 7 ∷ [])) when_ten [] (1 ∷ []) (Some 2)
      ∷ of (codes "g/d:set") (codes "Seven") Set when_ten (at 3 0 ∷ []) [] (Some 1)
      ∷ of (codes "g/p") (codes "Add") (Function 0) when_ten (at 4 0 ∷ at 1 0 ∷ []) (1 ∷ []) None
      ∷ of (codes "c") (codes "Two") (Constant (pos 2 ∷ [])) [] [] (1 ∷ []) None
      ∷ of (codes "s") (codes "Src") (Sensor 0) [] [] (1 ∷ []) None
      ∷ of (codes "b") (codes "One") (Actuator 1) [] (at 3 0 ∷ []) [] None
      ∷ [];
  bodies = (apply Add (element 0 index) (element 1 index) ∷ []) ∷ [];
}

valid : is_flat graph ≡ true
valid = refl

stands : Stands graph (operations main)
stands = (
  record { same = refl; name = refl; twin = refl },
  (
    record { same = refl; name = refl; twin = refl },
    (
      record { same = refl; name = refl; twin = (1, refl, refl) },
      (
        record { same = refl; name = refl; twin = refl },
        (
          record { same = refl; name = refl; twin = refl },
          (
            record { same = refl; name = refl; twin = refl },
            (record { same = refl; name = refl; twin = refl }, tt),
          ),
        ),
      ),
    ),
  ),
)

third_reaction : flat_act_row graph rows (initial_cells graph.vertices) 2 ≡ (pos 10 ∷ []) ∷ (pos 11 ∷ []) ∷ []
third_reaction = refl

kept : cells_after graph rows (initial_cells graph.vertices) 3 ≡ (pos 11 ∷ []) ∷ []
kept = refl

-- the path of an operation in copies and of one that was made for a port
path : path_text (Named (codes "o") ∷ Numbered 2 ∷ Numbered 10 ∷ Named (codes "d") ∷ []) ≡ codes "o." ++ (decimal 2 ++ (codes "." ++ (decimal 10 ++ codes "/d")))
path = refl

made_path : path_text (Named (codes "o") ∷ Numbered 0 ∷ Port (codes "x") ∷ []) ≡ codes "o." ++ (decimal 0 ++ codes ":x")
made_path = refl
