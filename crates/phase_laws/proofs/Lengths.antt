-- In each reaction every output and every cell has its length, and what buffers carry has theirs.
use Rattle.std.proofs.Common.{◌≡◌, ℕ, zero, suc, ◌+◌, ◌<◌, ◌≤◌, true, List, [], ◌∷◌, ◌++◌, length, map, Option, Some, None, refl, sym, ap, arith, ◌∙◌}
use Rattle.std.specs.Prelude.{slice_get, slice_index_or, ◌==◌, replicate}
use Rattle.std.specs.List.{list_all}
use Rattle.std.proofs.lemmas.Option.{same_Some, get_or_from_slice_get}
use Rattle.std.proofs.lemmas.Bool.{and_parts, eqb-true}
use Rattle.executive_program.specs.declared.Source.{Source}
use Rattle.executive_program.specs.declared.Guard.{Guard}
use Rattle.executive_program.specs.declared.Kind.{Kind}
use Rattle.executive_program.specs.declared.Kind.TheVariants.{Sensor, Actuator, Function, Constant, Get, Set, Explode, Implode, Merge}
use Rattle.executive_program.specs.declared.Vertex.{Vertex}
use Rattle.executive_program.specs.Graph.{with_vertex, len_of as source_len, lens_of}
use Rattle.executive_program.specs.FlatValid.{is_guard, has_twin, fits}
use Rattle.executive_program.specs.Meaning.{initial_cell, initial_cells, cells_after, flat_outputs}
use Rattle.executive_program.specs.FlatLaws.{delay_lens, delay_len}
use Rattle.executive_program.proofs.Facts.{vertex_valid}
use Rattle.executive_program.proofs.FlatSizes.{keeps_lengths}
use Rattle.executive_program.proofs.KindLens.{length-vector_at}
use Rattle.executive_program.specs.declared.program.Buffer.{Buffer}
use Rattle.executive_program.specs.Instructions.{len_of, len_in}
use Rattle.executive_program.specs.Places.{places, carried}
use Rattle.executive_program.specs.WellFormed.{HasLength, CarryInOrder, CarryOutputs, len_is}
use Rattle.semaphore_core.specs.Operation.{lens_in}
use Rattle.semaphore_core.specs.Job.{JobData, reactions}
use Rattle.semaphore_core.specs.Told.{source_value, buffer_value}
use Rattle.phase_laws.specs.Values.{IsSupplied}
use Rattle.syn_base.specs.Vectors.{vector_at}

initial_lens : (xs : List Vertex) → map length (initial_cells xs) ≡ delay_lens xs
initial_lens [] = refl
initial_lens (x ∷ xs) = by x.kind (initial_lens xs)
  where
    by : (k : Kind) → map length (initial_cells xs) ≡ delay_lens xs → map length (initial_cell k ++ initial_cells xs) ≡ delay_len k ++ delay_lens xs
    by (Get z) e = ap (λ (l : List ℕ). length z ∷ l) e
    by (Sensor i) e = e
    by (Actuator i) e = e
    by (Function b) e = e
    by (Constant z) e = e
    by Set e = e
    by Explode e = e
    by Implode e = e
    by (Merge z) e = e

module _ (j : JobData) (h : IsSupplied j) where
  pub cells_lens : (k : ℕ) → k ≤ reactions j → map length (cells_after j.graph j.sensors j.opening k) ≡ delay_lens j.graph.vertices
  cells_lens zero l = h.opened ∙ initial_lens j.graph.vertices
  cells_lens (suc k) l = (keeps_lengths j.graph (cells_after j.graph j.sensors j.opening k) (slice_index_or j.sensors k []) h.valid (h.sensed k l) (cells_lens k (omega arith))).1

  pub output_lens : (k v : ℕ) (x : Vertex) → k < reactions j → slice_get j.graph.vertices v ≡ Some x → map length (flat_outputs j.graph j.sensors j.opening v k) ≡ x.outs
  output_lens k v x l e = (keeps_lengths j.graph (cells_after j.graph j.sensors j.opening k) (slice_index_or j.sensors k []) h.valid (h.sensed k l) (cells_lens k (omega arith))).0 v x e

  abbrev pub Long : Source → ℕ → Type 0
  Long x n = HasLength j.program h.order (places j.program) (carried j.program) j.graph x n

  -- a source that has a length has its values of that length
  source_long : (k : ℕ) (x : Source) (n : ℕ) → k < reactions j → Long x n → length (source_value j x k) ≡ n
  source_long k x n l e = by (slice_get j.graph.vertices x.vertex) refl
    where
      by : (o : Option Vertex) → slice_get j.graph.vertices x.vertex ≡ o → length (source_value j x k) ≡ n
      by None q = absurd (rw q at e)
      by (Some v) q = length-vector_at (flat_outputs j.graph j.sensors j.opening x.vertex k) x.port
          ∙ ap (λ (ns : List ℕ). slice_index_or ns x.port 0) (output_lens k x.vertex v l q) ∙ get_or_from_slice_get v.outs x.port n 0 (rw q at e)

  source_len_is : (x : Source) (n : ℕ) → Long x n → source_len j.graph.vertices x ≡ n
  source_len_is x n e = by (slice_get j.graph.vertices x.vertex) refl
    where
      by : (o : Option Vertex) → slice_get j.graph.vertices x.vertex ≡ o → source_len j.graph.vertices x ≡ n
      by None q = absurd (rw q at e)
      by (Some v) q = ap (λ (o : Option Vertex). with_vertex o 0 (λ y. slice_index_or y.outs x.port 0)) q ∙ get_or_from_slice_get v.outs x.port n 0 (rw q at e)

  abbrev pub Carry : List ℕ → List Source → Type 0
  Carry ins xs = CarryInOrder j.program h.order (places j.program) (carried j.program) j.graph ins xs

  -- buffers that carry sources have their values and their lengths
  pub carried_values : (k : ℕ) (ins : List ℕ) (xs : List Source) → Carry ins xs → map (λ b. buffer_value j b k) ins ≡ map (λ s. source_value j s k) xs
  carried_values k [] [] c = refl
  carried_values k [] (x ∷ xs) c = absurd c
  carried_values k (b ∷ bs) [] c = absurd c
  carried_values k (b ∷ bs) (x ∷ xs) c = λ i. source_value j (c.1 i) k ∷ carried_values k bs xs c.3 i

  pub carried_sized : (k : ℕ) (ins : List ℕ) (xs : List Source) → k < reactions j → Carry ins xs → map length (map (λ b. buffer_value j b k) ins) ≡ map (len_of j.program) ins
  carried_sized k [] [] l c = refl
  carried_sized k [] (x ∷ xs) l c = absurd c
  carried_sized k (b ∷ bs) [] l c = absurd c
  carried_sized k (b ∷ bs) (x ∷ xs) l c = λ i. (ap (λ (s : Source). length (source_value j s k)) c.1 ∙ source_long k x (len_of j.program b) l c.2) i ∷ carried_sized k bs xs l c.3 i

  carried_lens : (ins : List ℕ) (xs : List Source) → Carry ins xs → map (len_of j.program) ins ≡ lens_of j.graph.vertices xs
  carried_lens [] [] c = refl
  carried_lens [] (x ∷ xs) c = absurd c
  carried_lens (b ∷ bs) [] c = absurd c
  carried_lens (b ∷ bs) (x ∷ xs) c = λ i. sym (source_len_is x (len_of j.program b) c.2) i ∷ carried_lens bs xs c.3 i

  -- a guard's source has one element
  guard_lens : (ds : List Guard) (xs : List Source) → list_all (is_guard j.graph.vertices) ds ≡ true
      → lens_of j.graph.vertices (map (λ d. d.source) ds ++ xs) ≡ replicate (length ds) 1 ++ lens_of j.graph.vertices xs
  guard_lens [] xs e = refl
  guard_lens (d ∷ ds) xs e = let q = and_parts (is_guard j.graph.vertices d) (list_all (is_guard j.graph.vertices) ds) e in
      let z = eqb-true (source_len j.graph.vertices d.source) 1 (and_parts (source_len j.graph.vertices d.source == 1) _ q.0).0 in
      λ i. z i ∷ guard_lens ds xs q.1 i

  pub called_lens : (v : ℕ) (x : Vertex) (ins : List ℕ) → slice_get j.graph.vertices v ≡ Some x → Carry ins (map (λ d. d.source) x.guards ++ x.ins) → map (len_of j.program) ins ≡ lens_in j.graph x
  called_lens v x ins e c = carried_lens ins (map (λ d. d.source) x.guards ++ x.ins) c ∙ guard_lens x.guards x.ins guards
    where
      guards : list_all (is_guard j.graph.vertices) x.guards ≡ true
      guards = let a = and_parts _ (has_twin j.graph.vertices v x.kind x.twin) (vertex_valid j.graph h.valid v x e) in
          let b = and_parts _ (fits j.graph.bodies x.kind (lens_of j.graph.vertices x.ins) x.outs) a.0 in
          let c = and_parts _ (list_all _ (lens_of j.graph.vertices x.ins)) b.0 in (and_parts _ (list_all (is_guard j.graph.vertices) x.guards) c.0).1

  abbrev pub Give : ℕ → ℕ → List ℕ → List ℕ → Type 0
  Give v port outs lens = CarryOutputs j.program h.order (places j.program) (carried j.program) j.graph v port outs lens

  len_told : (b n : ℕ) (o : Option Buffer) → len_is j.program o n → len_in o ≡ n
  len_told b n None e = absurd e
  len_told b n (Some x) e = e

  -- buffers that carry outputs have their lengths
  pub given_lens : (v port : ℕ) (outs lens : List ℕ) → Give v port outs lens → map (len_of j.program) outs ≡ lens
  given_lens v port [] [] c = refl
  given_lens v port [] (n ∷ ns) c = absurd c
  given_lens v port (b ∷ bs) [] c = absurd c
  given_lens v port (b ∷ bs) (n ∷ ns) c = λ i. len_told b n (slice_get j.program.buffers b) c.1 i ∷ given_lens v (port + 1) bs ns c.2 i

  given_at : (v port : ℕ) (outs lens : List ℕ) → Give v port outs lens → (i b : ℕ) → slice_get outs i ≡ Some b → carried j.program b ≡ record { vertex = v; port = port + i }
  given_at v port [] ns c i b e = absurd cc
  given_at v port (a ∷ rest) [] c i b e = absurd c
  given_at v port (a ∷ rest) (n ∷ ns) c zero b e = ap (carried j.program) (sym (same_Some a b e)) ∙ c.0 ∙ ap (λ (q : ℕ). record { vertex = v; port = q }) (let z : port ≡ port + 0 = omega arith in z)
  given_at v port (a ∷ rest) (n ∷ ns) c (suc i) b e = given_at v (port + 1) rest ns c.2 i b e ∙ ap (λ (q : ℕ). record { vertex = v; port = q }) (let z : port + 1 + i ≡ port + suc i = omega arith in z)

  -- output i is carried by buffer i
  pub given_value : (k v : ℕ) (outs lens : List ℕ) → Give v 0 outs lens → (i b : ℕ) → slice_get outs i ≡ Some b → buffer_value j b k ≡ vector_at (flat_outputs j.graph j.sensors j.opening v k) i
  given_value k v outs lens c i b e = ap (λ (s : Source). source_value j s k) (given_at v 0 outs lens c i b e ∙ ap (λ (n : ℕ). record { vertex = v; port = n }) (let z : 0 + i ≡ i = omega arith in z))
