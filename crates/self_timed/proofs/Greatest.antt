-- The greatest of some numbers: its bounds, and one number more.
use Rattle.std.proofs.Common.{◌≡◌, ℕ, zero, suc, ◌+◌, ◌<◌, ◌≤◌, List, [], ◌∷◌, length, take, map, max, Some, refl, ap, arith, ◌∙◌}
use Rattle.std.specs.Prelude.{slice_get, slice_index_or}
use Rattle.std.proofs.lemmas.Option.{same_Some}
use Rattle.self_timed.specs.declared.dates.Span.{Span}
use Rattle.self_timed.specs.Period.{all_done, row_end}
use Rattle.syn_base.specs.Numbers.{greatest}

pub above : (ns : List ℕ) (k n : ℕ) → slice_get ns k ≡ Some n → n ≤ greatest ns
above [] k n e = absurd cc
above (m ∷ ns) zero n e = let z = same_Some m n e in omega arith
above (m ∷ ns) (suc k) n e = let z = above ns k n e in omega arith

pub no_greater : (ns : List ℕ) (bound : ℕ) → ((k n : ℕ) → slice_get ns k ≡ Some n → n ≤ bound) → greatest ns ≤ bound
no_greater [] bound h = omega arith
no_greater (m ∷ ns) bound h = let x = h 0 m refl in let y = no_greater ns bound (λ k n e. h (suc k) n e) in omega arith

-- of no reaction
pub done_none : (rows : List (List Span)) → all_done (take 0 rows) ≡ 0
done_none [] = refl
done_none (r ∷ rows) = refl

-- one reaction more
done_next : (rows : List (List Span)) (k : ℕ) → k < length rows → all_done (take (suc k) rows) ≡ max (row_end (slice_index_or rows k [])) (all_done (take k rows))
done_next [] k l = absurd (omega arith)
done_next (row ∷ rows) zero l = let z = done_none rows in omega arith
done_next (row ∷ rows) (suc k) l = let z = done_next rows k (omega arith) in omega arith

pub done_more : (rows : List (List Span)) (k : ℕ) → k < length rows → all_done (take (k + 1) rows) ≡ max (row_end (slice_index_or rows k [])) (all_done (take k rows))
done_more rows k l = let one : k + 1 ≡ suc k = omega arith in ap (λ (n : ℕ). all_done (take n rows)) one ∙ done_next rows k l
