-- What a run of a flat graph of the same meaning returns is what a simulation of the tree returns.
use Rattle.std.proofs.Common.{◌≡◌, ℕ, List, [], ◌∷◌, ◌++◌, map, length, refl, sym, ap, ◌∙◌}
use mathlib.Core.Path.{fun_ext}
use Rattle.syn_base.specs.Rows.{Reactions}
use Rattle.algo_tree.specs.Tree as tree
use Rattle.algo_tree.specs.Meaning.{act_row}
use Rattle.flat_graph.specs.declared.vertex.Kind.{Kind}
use Rattle.flat_graph.specs.declared.vertex.Kind.TheVariants.{Sensor, Actuator, Function, Constant, Get, Set, Explode, Implode, Merge}
use Rattle.flat_graph.specs.declared.vertex.Vertex.{Vertex}
use Rattle.flat_graph.specs.Graph.{Graph}
use Rattle.flat_graph.specs.Meaning.{initial_cells, flat_act_row}
use Rattle.flat_laws.specs.Flat.{Operation}
use Rattle.flat_laws.specs.Stands.{KeepsGraph}
use Rattle.flat_laws.specs.EndLengths.{HasEndLengths}
use Rattle.sync_meaning.specs.Ran.{taken_len, taken_lens, ran}
use Rattle.sync_meaning.specs.Simulated.{simulated}
use Rattle.syn_base.specs.Vectors.{Values}
use Rattle.syn_base.specs.Numbers.{numbers_below}
use Rattle.flat_graph.specs.Laws.{actuator_lens, actuator_len}

same_len : (g : Graph) (x : Vertex) (kind : Kind) → taken_len g.vertices x kind ≡ actuator_len g x kind
same_len g x (Sensor i) = refl
same_len g x (Actuator i) = refl
same_len g x (Function b) = refl
same_len g x (Constant z) = refl
same_len g x (Get z) = refl
same_len g x Set = refl
same_len g x Explode = refl
same_len g x Implode = refl
same_len g x (Merge values) = refl

same_lens : (g : Graph) (xs : List Vertex) → taken_lens g.vertices xs ≡ actuator_lens g xs
same_lens g [] = refl
same_lens g (x ∷ xs) = λ i. same_len g x x.kind i ++ same_lens g xs i

pub same_run : (main : tree.Vertex) (g : Graph) (ops : List Operation) (rows : Reactions) → KeepsGraph main g ops → HasEndLengths main g → ran g rows ≡ simulated main rows
same_run main g ops rows keeps ends =
    let lens = same_lens g g.vertices ∙ ends.actuators in
    let rows_are : flat_act_row g rows.reactions (initial_cells g.vertices) ≡ act_row main rows.reactions = fun_ext (keeps.taken rows.reactions) in
    λ i. record { lens = lens i; reactions = map (rows_are i) (numbers_below (length rows.reactions)) }
