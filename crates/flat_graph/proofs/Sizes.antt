-- With a row and cells of the right lengths each output has its length, and the cells keep theirs.
use Rattle.std.proofs.Common.{◌≡◌, ℕ, zero, suc, ◌+◌, Bool, true, false, List, [], ◌∷◌, ◌++◌, map, length, drop, refl, sym, ap, subst, ◌∙◌}
use Rattle.std.specs.Prelude.{slice_get, slice_index_or, Option, None, Some, if◌then◌else◌, nat_lt}
use Rattle.std.proofs.lemmas.Bool.{and_parts, false≢true}
use Rattle.level_meaning.specs.declared.source.Source as of_level
use Rattle.level_meaning.specs.Level.{all_hold, source_value, out}
use Rattle.flat_graph.specs.declared.vertex.Source.{Source}
use Rattle.flat_graph.specs.declared.vertex.Kind.{Kind}
use Rattle.flat_graph.specs.declared.vertex.Kind.TheVariants.{Sensor, Actuator, Function, Constant, Get, Set, Explode, Implode, Merge}
use Rattle.flat_graph.specs.declared.vertex.Vertex.{Vertex}
use Rattle.flat_graph.specs.Graph.{Graph, with_vertex, len_of, lens_of}
use Rattle.flat_graph.specs.Valid.{is_flat, is_vertex, fits, is_only, is_set_half_by, is_set_half_of, has_set_half, has_twin, all_from, is_number}
use Rattle.flat_graph.specs.Fire.{guards_hold, kind_outputs, stored, kept}
use Rattle.flat_graph.specs.Meaning.{level_source, level_guard, sensed, is_get, delay_number, no_state, cell_of, level, value_in, conditions, inputs, next_cell, next_from}
use Rattle.flat_graph.specs.Laws.{sensor_lens, delay_len, delay_lens, KeepsLengths}
use Rattle.flat_graph.proofs.Facts.{all_valid, vertex_valid, fits_of, twin_of, sensor_at, delay_at}
use Rattle.flat_graph.proofs.KindLens.{length-vector_at, length-zeros, only_is, HasSeen, HasCell, kind_lens}
use Rattle.flat_graph.proofs.Nodes.{node_at, none_at}
use Rattle.syn_base.specs.Vectors.{Vector, Values, vector_at, zeros}

module _ (g : Graph) (cells row : Values) (valid : is_flat g ≡ true) (rows_fit : map length row ≡ sensor_lens g.vertices) (cells_fit : map length cells ≡ delay_lens g.vertices) where
  has_seen : (v : ℕ) (x : Vertex) → slice_get g.vertices v ≡ Some x → HasSeen x.kind x.outs (sensed x.kind row)
  has_seen v x is = by x.kind refl
    where
      by : (kind : Kind) → x.kind ≡ kind → HasSeen kind x.outs (sensed kind row)
      by (Sensor i) k = length-vector_at row i ∙ ap (λ (ns : List ℕ). slice_index_or ns i 0) rows_fit ∙ sensor_at g valid v i x is k
      by (Actuator i) k = tt
      by (Function b) k = tt
      by (Constant z) k = tt
      by (Get z) k = tt
      by Set k = tt
      by Explode k = tt
      by Implode k = tt
      by (Merge values) k = tt

  has_cell : (v : ℕ) (x : Vertex) → slice_get g.vertices v ≡ Some x → HasCell x.kind (cell_of g cells v)
  has_cell v x is = by x.kind refl
    where
      by : (kind : Kind) → x.kind ≡ kind → HasCell kind (cell_of g cells v)
      by (Get z) k =
          length-vector_at cells (delay_number g.vertices v) ∙ ap (λ (ns : List ℕ). slice_index_or ns (delay_number g.vertices v) 0) cells_fit ∙ delay_at g.vertices v x z is k
      by (Sensor i) k = tt
      by (Actuator i) k = tt
      by (Function b) k = tt
      by (Constant z) k = tt
      by Set k = tt
      by Explode k = tt
      by Implode k = tt
      by (Merge values) k = tt

  nothing_out : (fuel u : ℕ) → slice_get (level g cells) u ≡ None → out (level g cells) row no_state [] fuel u ≡ []
  nothing_out zero u e = rw e refl
  nothing_out (suc fuel) u e = rw e refl

  -- sources have their lengths where the operations' outputs have theirs
  module _ (fuel : ℕ) (sized : (u : ℕ) (y : Vertex) → slice_get g.vertices u ≡ Some y → map length (out (level g cells) row no_state [] fuel u) ≡ y.outs) where
    source_len : (s : Source) → length (source_value [] (out (level g cells) row no_state [] fuel) (level_source s)) ≡ len_of g.vertices s
    source_len s = length-vector_at (out (level g cells) row no_state [] fuel s.vertex) s.port ∙ by (slice_get g.vertices s.vertex) refl
      where
        by : (o : Option Vertex) → slice_get g.vertices s.vertex ≡ o
            → slice_index_or (map length (out (level g cells) row no_state [] fuel s.vertex)) s.port 0 ≡ with_vertex o 0 (λ x. slice_index_or x.outs s.port 0)
        by None e = ap (λ (vs : Values). slice_index_or (map length vs) s.port 0) (nothing_out fuel s.vertex (none_at g cells s.vertex 0 g.vertices e))
        by (Some y) e = ap (λ (ns : List ℕ). slice_index_or ns s.port 0) (sized s.vertex y e)

    source_lens : (ss : List Source) → map length (map (source_value [] (out (level g cells) row no_state [] fuel)) (map level_source ss)) ≡ lens_of g.vertices ss
    source_lens [] = refl
    source_lens (s ∷ ss) = λ i. source_len s i ∷ source_lens ss i

    pub input_lens : (ss : List Source) → map length (map (λ s. source_value [] (out (level g cells) row no_state [] fuel) (level_source s)) ss) ≡ lens_of g.vertices ss
    input_lens [] = refl
    input_lens (s ∷ ss) = λ i. source_len s i ∷ input_lens ss i

  pub sized_by : (fuel v : ℕ) (x : Vertex) → slice_get g.vertices v ≡ Some x → map length (out (level g cells) row no_state [] fuel v) ≡ x.outs
  sized_by zero v x is = rw (node_at g cells v x is) (length-zeros x.outs)
  sized_by (suc fuel) v x is = rw (node_at g cells v x is) (by (all_hold look (map level_guard x.guards)) (source_lens fuel (λ u y e. sized_by fuel u y e) x.ins))
    where
      look : of_level.Source → Vector
      look = source_value [] (out (level g cells) row no_state [] fuel)

      by : (b : Bool) → map length (map look (map level_source x.ins)) ≡ lens_of g.vertices x.ins
          → map length (if b then kind_outputs g.bodies x.kind x.outs (cell_of g cells v) (sensed x.kind row) (map look (map level_source x.ins)) else map zeros x.outs) ≡ x.outs
      by false lens = length-zeros x.outs
      by true lens =
          kind_lens g.bodies x.kind x.outs (cell_of g cells v) (sensed x.kind row) (map look (map level_source x.ins))
          (subst (λ (ns : List ℕ). fits g.bodies x.kind ns x.outs ≡ true) (sym lens) (fits_of g v x (vertex_valid g valid v x is))) (has_seen v x is) (has_cell v x is)

  pub inputs_fit : (ss : List Source) → map length (map (value_in g cells row) ss) ≡ lens_of g.vertices ss
  inputs_fit ss = input_lens (length (level g cells)) (λ u y e. sized_by (length (level g cells)) u y e) ss

  -- the cell of a delay keeps its length
  kept_len : (v len : ℕ) (y : Vertex) (cell : Vector) (kind : Kind) (b : Bool) → is_set_half_by g.vertices v len y kind ≡ true → length cell ≡ len
      → length (stored kind b cell (vector_at (inputs (value_in g cells row) y) 0)) ≡ len
  kept_len v len y cell Set true h l =
      length-vector_at (inputs (value_in g cells row) y) 0
      ∙ ap (λ (ns : List ℕ). slice_index_or ns 0 0) (inputs_fit y.ins ∙ only_is len (lens_of g.vertices y.ins) (and_parts (is_number y.twin v) (is_only len (lens_of g.vertices y.ins)) h).1)
  kept_len v len y cell Set false h l = l
  kept_len v len y cell (Sensor i) b h l = absurd (false≢true h)
  kept_len v len y cell (Actuator i) b h l = absurd (false≢true h)
  kept_len v len y cell (Function f) b h l = absurd (false≢true h)
  kept_len v len y cell (Constant z) b h l = absurd (false≢true h)
  kept_len v len y cell (Get z) b h l = absurd (false≢true h)
  kept_len v len y cell Explode b h l = absurd (false≢true h)
  kept_len v len y cell Implode b h l = absurd (false≢true h)
  kept_len v len y cell (Merge values) b h l = absurd (false≢true h)

  cell_len_kept : (v len : ℕ) (twin : Option ℕ) (cell : Vector) → has_set_half g.vertices v len twin ≡ true → length cell ≡ len → length (next_cell g.vertices (value_in g cells row) twin cell) ≡ len
  cell_len_kept v len None cell h l = l
  cell_len_kept v len (Some t) cell h l = by (slice_get g.vertices t) (and_parts (nat_lt v t) (with_vertex (slice_get g.vertices t) false (is_set_half_of g.vertices v len)) h).1
    where
      by : (o : Option Vertex) → with_vertex o false (is_set_half_of g.vertices v len) ≡ true
          → length (with_vertex o cell (λ y. kept y cell (conditions (value_in g cells row) y) (inputs (value_in g cells row) y))) ≡ len
      by None e = l
      by (Some y) e = kept_len v len y cell y.kind (guards_hold y.guards (conditions (value_in g cells row) y)) e l

  next_lens : (v : ℕ) (xs : List Vertex) (cs : Values) → all_from (is_vertex g) v xs ≡ true → map length cs ≡ delay_lens xs
      → map length (next_from g.vertices (value_in g cells row) xs cs) ≡ delay_lens xs
  next_lens v [] cs h l = refl
  next_lens v (x ∷ xs) cs h l =
      let both = and_parts (is_vertex g v x) (all_from (is_vertex g) (v + 1) xs) h in
      by x.kind cs (twin_of g v x both.0) l (λ ds m. next_lens (v + 1) xs ds both.1 m)
    where
      by : (kind : Kind) (ds : Values) → has_twin g.vertices v kind x.twin ≡ true → map length ds ≡ delay_len kind ++ delay_lens xs
          → ((es : Values) → map length es ≡ delay_lens xs → map length (next_from g.vertices (value_in g cells row) xs es) ≡ delay_lens xs)
          → map length (if is_get kind then next_cell g.vertices (value_in g cells row) x.twin (vector_at ds 0)
          ∷ next_from g.vertices (value_in g cells row) xs (drop 1 ds) else next_from g.vertices (value_in g cells row) xs ds)
          ≡ delay_len kind ++ delay_lens xs
      by (Get z) [] t m later = cc
      by (Get z) (d ∷ ds) t m later =
          let first : length d ≡ length z = cc in
          let rest : map length ds ≡ delay_lens xs = cc in
          λ i. cell_len_kept v (length z) x.twin d t first i ∷ later ds rest i
      by (Sensor i) ds t m later = later ds m
      by (Actuator i) ds t m later = later ds m
      by (Function b) ds t m later = later ds m
      by (Constant z) ds t m later = later ds m
      by Set ds t m later = later ds m
      by Explode ds t m later = later ds m
      by Implode ds t m later = later ds m
      by (Merge values) ds t m later = later ds m

pub keeps_lengths : KeepsLengths
keeps_lengths g cells row valid rows_fit cells_fit = (
  λ v x is. sized_by g cells row valid rows_fit cells_fit (length (level g cells)) v x is,
  next_lens g cells row valid rows_fit cells_fit 0 g.vertices cells (all_valid g valid) cells_fit,
)
