-- There are as many names of actuators as lengths.
use Rattle.std.proofs.Common.{◌≡◌, ◌∙◌, ◌+◌, ℕ, List, [], length, refl, sym, ap, map, length-append}
use Rattle.algo_tree.specs.declared.Source.{Source}
use Rattle.algo_tree.specs.Parts.{name_of}
use Rattle.algo_tree.specs.Tree.{Kind, sensor, actuator, constant, delay, function, explode, implode, merge, graph, switch, repeat, Vertex, vertex, Vertices, no_vertices, and_vertex}
use Rattle.algo_tree.specs.Ends.{actuator_length, actuator_lengths_in, actuator_lengths}
use Rattle.algo_tree.specs.Typed.{outs_of, source_length}
use Rattle.act_text.specs.Names.{actuator_name, actuator_names_in, actuator_names}

one_name : (k : Kind) (name : List ℕ) (lens : List ℕ) → length (actuator_name k name) ≡ length (actuator_length k lens)
one_name (sensor n) name lens = refl
one_name (actuator n) name lens = refl
one_name (constant v) name lens = refl
one_name (delay v) name lens = refl
one_name (function es) name lens = refl
one_name explode name lens = refl
one_name implode name lens = refl
one_name (merge v) name lens = refl
one_name (graph outs) name lens = refl
one_name (switch values names) name lens = refl
one_name (repeat n feeds gives) name lens = refl

as_many_in : (len : Source → ℕ) (us : Vertices) → length (actuator_names_in us) ≡ length (actuator_lengths_in len us)
as_many_in len no_vertices = refl
as_many_in len (and_vertex (vertex l vs) us) =
    let first = one_name l.kind (name_of l.part) (map len l.ins) in
    let rest = as_many_in len us in
    length-append (actuator_name l.kind (name_of l.part)) (actuator_names_in us) ∙ ap (λ (n : ℕ). n + length (actuator_names_in us)) first
    ∙ ap (λ (n : ℕ). length (actuator_length l.kind (map len l.ins)) + n) rest ∙ sym (length-append (actuator_length l.kind (map len l.ins)) (actuator_lengths_in len us))

pub as_many : (main : Vertex) → length (actuator_names main) ≡ length (actuator_lengths main)
as_many (vertex l us) = as_many_in (source_length [] (outs_of us)) us
