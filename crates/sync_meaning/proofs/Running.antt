-- One reaction more of a run.
use Rattle.std.proofs.Common.{◌≡◌, ℕ, suc, ◌+◌, ◌<◌, List, [], ◌∷◌, ◌++◌, map, length, get_or, sum, true, ◌&&◌, ◌==◌, refl, sym, ap, ◌∙◌, arith, add-one, length-append}
use Rattle.std.specs.Prelude.{IsTrue}
use Rattle.std.proofs.lemmas.Bool.{and_parts}
use Rattle.std.proofs.lemmas.List.{map-append}
use Rattle.std.proofs.lemmas.List.Sums.{sum_by-cons}
use Rattle.std.proofs.Math.Seq.{take-append_seam, drop-append_seam}
use Rattle.syn_base.specs.Rows.{Reactions, cut}
use Rattle.algo_tree.specs.Level.{all_joined}
use Rattle.flat_graph.specs.declared.vertex.Source.{Source}
use Rattle.flat_graph.specs.declared.vertex.Kind.{Kind}
use Rattle.flat_graph.specs.declared.vertex.Kind.TheVariants.{Sensor, Actuator, Function, Constant, Get, Set, Explode, Implode, Merge}
use Rattle.flat_graph.specs.declared.vertex.Vertex.{Vertex}
use Rattle.flat_graph.specs.Graph.{Graph, lens_of}
use Rattle.flat_graph.specs.Valid.{is_flat, is_vertex, fits, all_from}
use Rattle.flat_graph.specs.Meaning.{value_in, inputs, taken, taken_by, next_cells, next_from, cells_after, initial_cells, flat_act_row}
use Rattle.flat_graph.proofs.Facts.{all_valid, fits_of}
use Rattle.flat_graph.proofs.KindLens.{length-vector_at, one_is}
use Rattle.sync_meaning.specs.declared.layout.Store.{Store}
use Rattle.sync_meaning.specs.Store.{lengths, value_at, delay_cells}
use Rattle.sync_meaning.specs.Reaction.{row_of, kept_in, FitsStore, HasFired, HasKept, all_kept}
use Rattle.sync_meaning.specs.Ran.{taken_len, taken_lens, ran}
use Rattle.sync_meaning.proofs.Facts.{input_lens}
use Rattle.sync_meaning.proofs.Keeping.{cells_next}
use Rattle.sync_meaning.proofs.Table.{same_look}
use Rattle.syn_base.specs.Vectors.{Vector, Values, vector_at}
use Rattle.syn_base.specs.Numbers.{numbers_below}

cut-joined : (vs : Values) → cut (lengths vs) (all_joined vs) ≡ vs
cut-joined [] = refl
cut-joined (v ∷ vs) = rw (take-append_seam v (all_joined vs), drop-append_seam v (all_joined vs)) (ap (λ ws. v ∷ ws) (cut-joined vs))

length-joined : (vs : Values) → length (all_joined vs) ≡ sum (lengths vs)
length-joined [] = refl
length-joined (v ∷ vs) = length-append v (all_joined vs) ∙ ap (λ n. length v + n) (length-joined vs) ∙ sym (sum_by-cons (λ x. x) (length v) (lengths vs))

-- the lengths of what the actuators take
module _ (g : Graph) (table : List Values) (outs : map lengths table ≡ map (λ x. x.outs) g.vertices) where
  taken_one : (x : Vertex) (kind : Kind) → fits g.bodies kind (lens_of g.vertices x.ins) x.outs ≡ true → lengths (taken_by (value_at table) x kind) ≡ taken_len g.vertices x kind
  taken_one x (Actuator i) h =
      let one = one_is (lens_of g.vertices x.ins) (and_parts (length (lens_of g.vertices x.ins) == 1) (length x.outs == 0) h).0 in
      ap (λ (n : ℕ). n ∷ []) (length-vector_at (inputs (value_at table) x) 0 ∙ ap (λ (ns : List ℕ). get_or ns 0 0) (input_lens g.vertices table outs x.ins)) ∙ sym one
  taken_one x (Sensor i) h = refl
  taken_one x (Function b) h = refl
  taken_one x (Constant z) h = refl
  taken_one x (Get z) h = refl
  taken_one x Set h = refl
  taken_one x Explode h = refl
  taken_one x Implode h = refl
  taken_one x (Merge values) h = refl

  taken_all : (v : ℕ) (xs : List Vertex) → all_from (is_vertex g) v xs ≡ true → lengths (taken (value_at table) xs) ≡ taken_lens g.vertices xs
  taken_all v [] h = refl
  taken_all v (x ∷ xs) h =
      let both = and_parts (is_vertex g v x) (all_from (is_vertex g) (v + 1) xs) h in
      map-append length (taken_by (value_at table) x x.kind) (taken (value_at table) xs) ∙ (λ i. taken_one x x.kind (fits_of g v x both.0) i ++ taken_all (v + 1) xs both.1 i)

  pub taken_fit : is_flat g ≡ true → lengths (taken (value_at table) g.vertices) ≡ taken_lens g.vertices g.vertices
  taken_fit valid = taken_all 0 g.vertices (all_valid g valid)

-- what the actuators take in the reactions below k
abbrev pub so_far : Graph → Reactions → ℕ → Reactions
so_far g rows k = record {
  lens = taken_lens g.vertices g.vertices;
  reactions = map (flat_act_row g rows.reactions (initial_cells g.vertices)) (numbers_below k);
}

-- before reaction k
abbrev pub IsReached : Graph → Reactions → ℕ → Store → Type 0
IsReached g rows k s = delay_cells g.vertices (kept_in s) ≡ cells_after g rows.reactions (initial_cells g.vertices) k

module _ (g : Graph) (rows : Reactions) (k : ℕ) (old mid : Store) (valid : is_flat g ≡ true) (reached : IsReached g rows k old) (fired : HasFired g (row_of rows k) old mid) where
  look_is : value_at mid.table.items ≡ value_in g (cells_after g rows.reactions (initial_cells g.vertices) k) (row_of rows k)
  look_is = same_look g (delay_cells g.vertices (kept_in old)) (row_of rows k) mid.table.items fired.gives ∙ ap (λ (cs : Values). value_in g cs (row_of rows k)) reached

  -- the row of the actuators
  module _ (xs : Vector) (taken_lengths : List ℕ) (is : xs ≡ all_joined (taken (value_at mid.table.items) g.vertices)) (lens : taken_lengths ≡ taken_lens g.vertices g.vertices) where
    fit : lengths (taken (value_at mid.table.items) g.vertices) ≡ taken_lengths
    fit = taken_fit g mid.table.items fired.fits.outs_fit valid ∙ sym lens

    pub row_length : length xs ≡ sum taken_lengths
    row_length = ap (λ (v : Vector). length v) is ∙ length-joined (taken (value_at mid.table.items) g.vertices) ∙ ap (λ (ns : List ℕ). sum ns) fit

    pub row_cut : cut taken_lengths xs ≡ flat_act_row g rows.reactions (initial_cells g.vertices) k
    row_cut =
        (λ i. cut (sym fit i) (is i)) ∙ cut-joined (taken (value_at mid.table.items) g.vertices) ∙ ap (λ (look : Source → Vector). taken look g.vertices) look_is

  -- the cells after it
  pub next_reached : (new : Store) → HasKept g mid new → IsReached g rows (k + 1) new
  next_reached new has =
      ap (delay_cells g.vertices) (has.cells ∙ ap (all_kept g.vertices (value_at mid.table.items) g.vertices) fired.cells)
      ∙ cells_next g.vertices (value_at mid.table.items) g.vertices (kept_in old)
      ∙ (λ i. next_from g.vertices (look_is i) g.vertices (reached i))
      ∙ ap (cells_after g rows.reactions (initial_cells g.vertices)) (sym (add-one k))

pub one_more : (g : Graph) (rows : Reactions) (k : ℕ) (old new : Reactions) (vs : Values) → old ≡ so_far g rows k → vs ≡ flat_act_row g rows.reactions (initial_cells g.vertices) k
    → new ≡ record { lens = old.lens; reactions = old.reactions ++ vs ∷ [] } → new ≡ so_far g rows (k + 1)
one_more g rows k old new vs is vs_is new_is = new_is ∙ rw (is, vs_is, add-one)
    (ap (λ (rs : List Values). record { lens = taken_lens g.vertices g.vertices; reactions = rs })
    (sym (map-append (flat_act_row g rows.reactions (initial_cells g.vertices)) (numbers_below k) (k ∷ []))))
