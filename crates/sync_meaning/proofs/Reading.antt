-- Vectors that are written one after another over others of the same lengths.
use Rattle.std.proofs.Common.{◌≡◌, ℕ, zero, suc, ◌+◌, ◌<◌, ◌≤◌, List, [], ◌∷◌, ◌++◌, map, take, drop, length, get_or, set, refl, sym, ap, ◌∙◌, arith, length-append}
use Rattle.std.proofs.lemmas.List.{length-map}
use Rattle.flat_graph.proofs.Fill.{fill, at_seam, in_front, all_written}
use Rattle.flat_graph.proofs.KindLens.{length-vector_at}
use Rattle.sync_meaning.specs.Store.{lengths}
use Rattle.syn_base.specs.Vectors.{Vector, Values, vector_at}

pub same_count : (target initial : Values) → lengths target ≡ lengths initial → length target ≡ length initial
same_count target initial same = sym (length-map target length) ∙ ap (λ (ns : List ℕ). length ns) same ∙ length-map initial length

module _ (target initial read : Values) (i : ℕ) (same : lengths target ≡ lengths initial) (lt : i < length target) (so_far : read ≡ take i target ++ drop i initial) where
  pub there : i < length read
  there =
      let count = same_count target initial same in
      let front : i < length (take i target ++ drop i initial) = in_front target initial i (omega arith) (omega (arith, count)) in
      rw so_far front

  pub long : (v : Vector) → v ≡ vector_at target i → length v ≡ length (vector_at read i)
  long v is =
      let count = same_count target initial same in
      ap (λ (w : Vector). length w) is ∙ length-vector_at target i ∙ ap (λ (ns : List ℕ). get_or ns i 0) same ∙ sym (length-vector_at initial i)
      ∙ ap (λ (w : Vector). length w) (sym (ap (λ (vs : Values). vector_at vs i) so_far ∙ at_seam target initial i [] (omega arith) (omega (arith, count))))

  pub written : (v : Vector) → v ≡ vector_at target i → set read i v ≡ take (i + 1) target ++ drop (i + 1) initial
  written v is =
      let count = same_count target initial same in
      ap (λ (vs : Values). set vs i v) so_far ∙ fill target initial i [] v lt (omega (arith, count)) is
