-- A pruned tree has the sensors and actuators of the tree, and its repetitions have the lines of a text.
use Rattle.std.proofs.Common.{◌≡◌, ℕ, ◌==◌, List, [], ◌∷◌, ◌++◌, Bool, true, false, cond, Option, Err, refl, ap, ap₂, ◌∙◌, arith}
use Rattle.std.proofs.lemmas.Bool.{eqb-true}
use Rattle.std.specs.Prelude.{codes, if◌then◌else◌}
use Rattle.std.specs.Cmp.Lexicographic.{pointwise}
use Rattle.std.specs.Str.{bytes_eq}
use Rattle.act_text.specs.Names.{actuator_name, actuator_names_in, actuator_names}
use Rattle.sensor_table.specs.Columns.{columns_of, columns_in, header_of}
use Rattle.sensor_table.specs.declared.fault.SensorCause.TheVariants.{BadHeader}
use Rattle.sensor_table.specs.SensorTable.{reactions_of, refused, rows_of}
use Rattle.algo_laws.specs.Counted.{operations, operations_in, operations_by}
use Rattle.algo_laws.specs.Ends.{first_length, sensor_length, sensor_lengths, sensor_lengths_in}
use Rattle.algo_laws.specs.Parts.{name_of}
use Rattle.algo_laws.specs.Tree.{Label, Kind, sensor, actuator, constant, delay, function, explode, implode, merge, graph, switch, repeat, Vertex, vertex, Vertices, no_vertices, and_vertex}
use Rattle.algo_laws.specs.declared.Def.{Def}
use Rattle.elaboration.specs.Pruned.{passing, prune, prune_all, pruned}
use Rattle.accepted_laws.specs.TextLines.{IsVertexOfText, AreVerticesOfText}
use Rattle.wiring_laws.specs.Wiring.{wiring}

-- what stands for no operation is no sensor and no actuator
no-actuator : (k : Kind) (n : ℕ) (name : List ℕ) → operations_by k n ≡ 0 → [] ≡ actuator_name k name
no-actuator (actuator m) n name h = absurd (omega (arith, h))
no-actuator (sensor m) n name h = refl
no-actuator (constant vs) n name h = refl
no-actuator (delay vs) n name h = refl
no-actuator (function es) n name h = refl
no-actuator explode n name h = refl
no-actuator implode n name h = refl
no-actuator (merge vs) n name h = refl
no-actuator (graph outs) n name h = refl
no-actuator (switch values names) n name h = refl
no-actuator (repeat copies feeds gives) n name h = refl

no-sensor : (k : Kind) (n : ℕ) (outs : List ℕ) → operations_by k n ≡ 0 → [] ≡ sensor_length k outs
no-sensor (sensor m) n outs h = absurd (omega (arith, h))
no-sensor (actuator m) n outs h = refl
no-sensor (constant vs) n outs h = refl
no-sensor (delay vs) n outs h = refl
no-sensor (function es) n outs h = refl
no-sensor explode n outs h = refl
no-sensor implode n outs h = refl
no-sensor (merge vs) n outs h = refl
no-sensor (graph os) n outs h = refl
no-sensor (switch values names) n outs h = refl
no-sensor (repeat copies feeds gives) n outs h = refl

no-column : (k : Kind) (n : ℕ) (name : List ℕ) (len : ℕ) → operations_by k n ≡ 0 → [] ≡ columns_of k name len
no-column (sensor m) n name len h = absurd (omega (arith, h))
no-column (actuator m) n name len h = refl
no-column (constant vs) n name len h = refl
no-column (delay vs) n name len h = refl
no-column (function es) n name len h = refl
no-column explode n name len h = refl
no-column implode n name len h = refl
no-column (merge vs) n name len h = refl
no-column (graph outs) n name len h = refl
no-column (switch values names) n name len h = refl
no-column (repeat copies feeds gives) n name len h = refl

module _ (l : Label) (us vs : Vertices) (leads : List (Option ℕ)) (rest rest' : Vertices) where
  names-either : actuator_names_in rest' ≡ actuator_names_in rest → (b : Bool) → (operations (vertex l us) == 0) ≡ b
      → actuator_names_in (and_vertex (cond b (passing l leads) (vertex l vs)) rest') ≡ actuator_names_in (and_vertex (vertex l us) rest)
  names-either same true e = same ∙ ap (λ ns. ns ++ actuator_names_in rest) (no-actuator l.kind (operations_in us) (name_of l.part) (eqb-true (operations (vertex l us)) 0 e))
  names-either same false e = ap (λ ns. actuator_name l.kind (name_of l.part) ++ ns) same

  lengths-either : sensor_lengths_in rest' ≡ sensor_lengths_in rest → (b : Bool) → (operations (vertex l us) == 0) ≡ b
      → sensor_lengths_in (and_vertex (cond b (passing l leads) (vertex l vs)) rest') ≡ sensor_lengths_in (and_vertex (vertex l us) rest)
  lengths-either same true e = same ∙ ap (λ ns. ns ++ sensor_lengths_in rest) (no-sensor l.kind (operations_in us) l.outs (eqb-true (operations (vertex l us)) 0 e))
  lengths-either same false e = ap (λ ns. sensor_length l.kind l.outs ++ ns) same

  columns-either : columns_in rest' ≡ columns_in rest → (b : Bool) → (operations (vertex l us) == 0) ≡ b
      → columns_in (and_vertex (cond b (passing l leads) (vertex l vs)) rest') ≡ columns_in (and_vertex (vertex l us) rest)
  columns-either same true e = same ∙ ap (λ ns. ns ++ columns_in rest) (no-column l.kind (operations_in us) (name_of l.part) (first_length l.outs) (eqb-true (operations (vertex l us)) 0 e))
  columns-either same false e = ap (λ ns. columns_of l.kind (name_of l.part) (first_length l.outs) ++ ns) same

names-prune : (us : Vertices) → actuator_names_in (prune_all us) ≡ actuator_names_in us
names-prune no_vertices = refl
names-prune (and_vertex (vertex l vs) us) = names-either l vs (prune_all vs) (wiring (vertex l vs)) us (prune_all us) (names-prune us) (operations (vertex l vs) == 0) refl

lengths-prune : (us : Vertices) → sensor_lengths_in (prune_all us) ≡ sensor_lengths_in us
lengths-prune no_vertices = refl
lengths-prune (and_vertex (vertex l vs) us) = lengths-either l vs (prune_all vs) (wiring (vertex l vs)) us (prune_all us) (lengths-prune us) (operations (vertex l vs) == 0) refl

columns-prune : (us : Vertices) → columns_in (prune_all us) ≡ columns_in us
columns-prune no_vertices = refl
columns-prune (and_vertex (vertex l vs) us) = columns-either l vs (prune_all vs) (wiring (vertex l vs)) us (prune_all us) (columns-prune us) (operations (vertex l vs) == 0) refl

pub names-pruned : (main : Vertex) → actuator_names (pruned main) ≡ actuator_names main
names-pruned (vertex l us) = names-prune us

lengths-pruned : (main : Vertex) → sensor_lengths (pruned main) ≡ sensor_lengths main
lengths-pruned (vertex l us) = lengths-prune us

header-pruned : (main : Vertex) → header_of (pruned main) ≡ header_of main
header-pruned (vertex l us) = ap (λ cs. codes "k" ∷ cs) (columns-prune us)

pub tables-pruned : (main : Vertex) (records : List (List (List ℕ))) → rows_of (pruned main) records ≡ rows_of main records
tables-pruned main [] = refl
tables-pruned main (header ∷ records) =
    ap₂ (λ names lens. if pointwise bytes_eq header names then reactions_of lens records else Err (refused 0 BadHeader))
    (header-pruned main) (lengths-pruned main)

-- a graph that passes on is no repetition
module _ (ds : List Def) where
  of-text-either : (l : Label) (us vs : Vertices) (leads : List (Option ℕ)) → IsVertexOfText ds (vertex l us) → AreVerticesOfText ds vs
      → (b : Bool) → IsVertexOfText ds (cond b (passing l leads) (vertex l vs))
  of-text-either l us vs leads h inner true = (tt, tt)
  of-text-either l us vs leads h inner false = (h.0, inner)

  mutual
    of-text-prune : (u : Vertex) → IsVertexOfText ds u → IsVertexOfText ds (prune u)
    of-text-prune (vertex l us) h = of-text-either l us (prune_all us) (wiring (vertex l us)) h (of-text-prune_all us h.1) (operations (vertex l us) == 0)

    of-text-prune_all : (us : Vertices) → AreVerticesOfText ds us → AreVerticesOfText ds (prune_all us)
    of-text-prune_all no_vertices h = tt
    of-text-prune_all (and_vertex u us) h = (of-text-prune u h.0, of-text-prune_all us h.1)

  pub of-text-pruned : (main : Vertex) → IsVertexOfText ds main → IsVertexOfText ds (pruned main)
  of-text-pruned (vertex l us) h = (h.0, of-text-prune_all us h.1)
