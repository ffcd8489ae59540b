-- The header has a column for the number of the reaction and one for each element of the sensors.
use Rattle.std.proofs.Common.{◌≡◌, ◌∙◌, ◌+◌, ◌∷◌, [], ℕ, zero, suc, List, length, sum, refl, sym, ap, ap₂, arith, length-append}
use Rattle.std.proofs.lemmas.List.{length-map}
use Rattle.std.proofs.lemmas.List.Sums.{sum_by-append}
use Rattle.algo_tree.specs.Parts.{name_of}
use Rattle.algo_tree.specs.Tree.{Kind, sensor, actuator, constant, delay, function, explode, implode, merge, graph, switch, repeat, Vertex, vertex, Vertices, no_vertices, and_vertex}
use Rattle.algo_tree.specs.Ends.{first_length, sensor_length, sensor_lengths, sensor_lengths_in}
use Rattle.sensor_table.specs.Columns.{column, columns_in, columns_of, header_of}
use Rattle.syn_base.specs.Numbers.{numbers_below}

numbers_long : (n : ℕ) → length (numbers_below n) ≡ n
numbers_long zero = refl
numbers_long (suc n) = length-append (numbers_below n) (n ∷ []) ∙ (let e = numbers_long n in omega arith)

columns_long : (kind : Kind) (name : List ℕ) (outs : List ℕ) → length (columns_of kind name (first_length outs)) ≡ sum (sensor_length kind outs)
columns_long (sensor n) name outs = length-map (numbers_below (first_length outs)) (column name) ∙ numbers_long (first_length outs) ∙ (omega arith)
columns_long (actuator n) name outs = refl
columns_long (constant v) name outs = refl
columns_long (delay v) name outs = refl
columns_long (function es) name outs = refl
columns_long explode name outs = refl
columns_long implode name outs = refl
columns_long (merge v) name outs = refl
columns_long (graph ss) name outs = refl
columns_long (switch v ns) name outs = refl
columns_long (repeat n fs gs) name outs = refl

all_long : (us : Vertices) → length (columns_in us) ≡ sum (sensor_lengths_in us)
all_long no_vertices = refl
all_long (and_vertex (vertex l vs) us) =
    length-append (columns_of l.kind (name_of l.part) (first_length l.outs)) (columns_in us)
    ∙ ap₂ (λ (m n : ℕ). m + n) (columns_long l.kind (name_of l.part) l.outs) (all_long us)
    ∙ sym (sum_by-append (λ (x : ℕ). x) (sensor_length l.kind l.outs) (sensor_lengths_in us))

pub header_long : (main : Vertex) → length (header_of main) ≡ suc (sum (sensor_lengths main))
header_long (vertex l us) = ap suc (all_long us)
