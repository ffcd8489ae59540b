-- A run may be cut into windows.
use Rattle.std.proofs.Common.{◌≡◌, ℕ, zero, suc, ◌+◌, ◌<◌, ◌≤◌, List, [], ◌∷◌, ◌++◌, length, refl, arith, add-suc, add-zero, zero-add, suc-add}
use Rattle.std.specs.Prelude.{slice_index_or}
use Rattle.flat_graph.specs.Graph.{Graph}
use Rattle.flat_graph.specs.Meaning.{outputs_in, value_in, taken, next_cells, cells_after}
use Rattle.flat_graph.specs.Laws.{RunsInWindows}
use Rattle.syn_base.specs.Vectors.{Values}

at_front : {A : Type 0} (xs ys : List A) (d : A) (k : ℕ) → k < length xs → slice_index_or (xs ++ ys) k d ≡ slice_index_or xs k d
at_front [] ys d k h = absurd (omega arith)
at_front (x ∷ xs) ys d zero h = refl
at_front (x ∷ xs) ys d (suc k) h = at_front xs ys d k (omega arith)

at_back : {A : Type 0} (xs ys : List A) (d : A) (k : ℕ) → slice_index_or (xs ++ ys) (length xs + k) d ≡ slice_index_or ys k d
at_back [] ys d k = rw zero-add refl
at_back (x ∷ xs) ys d k = rw suc-add (at_back xs ys d k)

module _ (g : Graph) (before after : List Values) (opening : Values) where
  front : (k : ℕ) → k ≤ length before → cells_after g (before ++ after) opening k ≡ cells_after g before opening k
  front zero h = refl
  front (suc k) h = λ i. next_cells g (front k (omega arith) i) (at_front before after [] k (omega arith) i)

  back : (k : ℕ) → cells_after g (before ++ after) opening (length before + k) ≡ cells_after g after (cells_after g before opening (length before)) k
  back zero = rw add-zero (front (length before) (omega arith))
  back (suc k) = rw add-suc (λ i. next_cells g (back k i) (at_back before after [] k i))

pub runs_in_windows : RunsInWindows
runs_in_windows g before after opening k = (
  back g before after opening k,
  λ v i. outputs_in g (back g before after opening k i) (at_back before after [] k i) v,
  λ i. taken (value_in g (back g before after opening k i) (at_back before after [] k i)) g.vertices,
)
