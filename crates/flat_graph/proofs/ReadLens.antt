-- What an operation of a valid graph reads: its inputs, and then its guards' sources.
use Rattle.std.proofs.Common.{◌≡◌, ℕ, zero, suc, ◌+◌, ◌<◌, ◌≤◌, true, ◌&&◌, List, [], ◌∷◌, ◌++◌, map, length, take, sym, ap, arith, length-append, ◌∙◌}
use Rattle.std.specs.Prelude.{slice_get, slice_index_or, Option, Some, All, nat_le, replicate}
use Rattle.std.specs.List.{list_all}
use Rattle.std.proofs.lemmas.Bool.{and_parts, leb-true}
use Rattle.std.proofs.Math.Seq.{take-append_seam}
use Rattle.std.proofs.lemmas.List.{length-map, length-replicate}
use Rattle.std.proofs.lemmas.List.Sums.{AllPass-from_list_all}
use Rattle.flat_graph.specs.declared.vertex.Vertex.{Vertex}
use Rattle.flat_graph.specs.Graph.{Graph, with_vertex, len_of, lens_of}
use Rattle.flat_graph.specs.Valid.{is_vertex, is_path, is_len, is_guard, fits, has_twin}
use Rattle.flat_graph.specs.Fire.{read_lens, cell_len, seen_len, out_lens, kind_cell_len, kind_seen_len}
use Rattle.syn_base.specs.Vectors.{Vector, Values}

-- the element at a place
pub element_there : (xs : List Vertex) (v : ℕ) (x : Vertex) → v < length xs → x ≡ slice_index_or xs v x → slice_get xs v ≡ Some x
element_there [] v x l e = absurd (omega arith)
element_there (y ∷ xs) zero x l e = ap Some (sym e)
element_there (y ∷ xs) (suc v) x l e = element_there xs v x (omega arith) e

pub vertex_there : (xs ys : List Vertex) (v : ℕ) (x : Vertex) → xs ≡ ys → v < length ys → x ≡ slice_index_or xs v x → slice_get ys v ≡ Some x
vertex_there xs ys v x same l e = element_there ys v x l (e ∙ ap (λ (zs : List Vertex). slice_index_or zs v x) same)

pub short_outs : (g : Graph) (v : ℕ) (x : Vertex) → is_vertex g v x ≡ true → All (λ n. n ≤ 64) x.outs
short_outs g v x h k d l =
    let twin = and_parts _ (has_twin g.vertices v x.kind x.twin) h in
    let form = and_parts _ (fits g.bodies x.kind (lens_of g.vertices x.ins) x.outs) twin.0 in
    let there = and_parts _ (list_all (nat_le 1) (lens_of g.vertices x.ins)) form.0 in
    let guards = and_parts _ (list_all (is_guard g.vertices) x.guards) there.0 in
    let outs = (and_parts (is_path x.name) (nat_le (length x.outs) 64 && list_all is_len x.outs) guards.0).1 in
    let each = (and_parts (nat_le (length x.outs) 64) (list_all is_len x.outs) outs).1 in
    let here : is_len (slice_index_or x.outs k d) ≡ true = AllPass-from_list_all is_len x.outs each k d l in
    leb-true (slice_index_or x.outs k d) 64 (and_parts (nat_le 1 (slice_index_or x.outs k d)) (nat_le (slice_index_or x.outs k d) 64) here).1

module _ (g : Graph) (v : ℕ) (x : Vertex) (is : slice_get g.vertices v ≡ Some x) where
  pub out_lens_is : out_lens g v ≡ x.outs
  out_lens_is = ap (λ (o : Option Vertex). with_vertex o [] (λ y. y.outs)) is

  pub seen_len_is : seen_len g v ≡ kind_seen_len x.kind x.outs
  seen_len_is = ap (λ (o : Option Vertex). with_vertex o 0 (λ y. kind_seen_len y.kind y.outs)) is

  pub cell_len_is : cell_len g v ≡ kind_cell_len x.kind (lens_of g.vertices x.ins)
  cell_len_is = ap (λ (o : Option Vertex). with_vertex o 0 (λ y. kind_cell_len y.kind (lens_of g.vertices y.ins))) is

  module _ (ins : Values) (e : map length ins ≡ read_lens g v) where
    read_is : map length ins ≡ lens_of g.vertices x.ins ++ replicate (length x.guards) 1
    read_is = e ∙ ap (λ (o : Option Vertex). with_vertex o [] (λ y. lens_of g.vertices y.ins ++ replicate (length y.guards) 1)) is

    pub read_count : length x.ins + length x.guards ≡ length ins
    read_count =
        let lens = lens_of g.vertices x.ins in
        let ones : List ℕ = replicate (length x.guards) 1 in
        let whole = ap length read_is in
        omega (arith, whole, length-map ins (λ (u : Vector). length u), length-append lens ones, length-map x.ins (len_of g.vertices), length-replicate {A = ℕ} (length x.guards) 1)

    pub first_lens : take (length x.ins) (map length ins) ≡ lens_of g.vertices x.ins
    first_lens =
        let lens = lens_of g.vertices x.ins in
        ap (take (length x.ins)) read_is
        ∙ ap (λ (n : ℕ). take n (lens ++ replicate (length x.guards) 1)) (sym (length-map x.ins (len_of g.vertices)))
        ∙ take-append_seam lens (replicate (length x.guards) 1)
