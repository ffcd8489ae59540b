-- The table of the marks, filled from the last on.
use Rattle.std.proofs.Common.{◌≡◌, ℕ, zero, suc, ◌-◌, ◌<◌, ◌≤◌, List, [], ◌∷◌, length, drop, get_or, map, Option, Some, refl, sym, ap, ap₂, ◌∙◌, subst, arith}
use Rattle.std.specs.Prelude.{slice_set}
use Rattle.std.specs.List.{All}
use Rattle.multi_period.specs.declared.mark.Mark.{Mark}
use Rattle.multi_period.specs.Marks.{mark_at}
use Rattle.multi_period.proofs.Placed.{set_below}
use Rattle.multi_period.proofs.Sums.{mark_here, mark_elsewhere}
use Rattle.syn_base.specs.Numbers.{numbers_below}

from_here : (ms : List Mark) (i : ℕ) (d : Mark) → i < length ms → drop i ms ≡ get_or ms i d ∷ drop (suc i) ms
from_here [] i d lt = absurd (omega arith)
from_here (m ∷ ms) zero d lt = refl
from_here (m ∷ ms) (suc i) d lt = from_here ms i d (omega arith)

one_more : (ms : List Mark) (k n : ℕ) (table : List (Option Mark)) (d m : Mark) (rest : List Mark) → All (λ x. x.reference < n) ms → k < length ms → m ≡ get_or ms k d → rest ≡ drop (suc k) ms
    → table ≡ map (mark_at rest) (numbers_below n) → slice_set table m.reference (Some m) ≡ map (mark_at (drop k ms)) (numbers_below n)
one_more ms k n table d m rest within lt m_is rest_is is =
    let below : m.reference < n = subst (λ x. x.reference < n) (sym m_is) (within k d lt) in
    ap (λ t. slice_set t m.reference (Some m)) is
    ∙ set_below (mark_at rest) (mark_at (m ∷ rest)) n m.reference (Some m) below (mark_here m rest) (λ i ne. mark_elsewhere m rest i ne)
    ∙ ap₂ (λ x xs. map (mark_at (x ∷ xs)) (numbers_below n)) m_is rest_is
    ∙ ap (λ xs. map (mark_at xs) (numbers_below n)) (sym (from_here ms k d lt))

pub one_set : (ms : List Mark) (k n : ℕ) (table : List (Option Mark)) (d : Mark) → All (λ m. m.reference < n) ms → 0 < k → k ≤ length ms → table ≡ map (mark_at (drop k ms)) (numbers_below n)
    → slice_set table (get_or ms (k - 1) d).reference (Some (get_or ms (k - 1) d)) ≡ map (mark_at (drop (k - 1) ms)) (numbers_below n)
one_set ms k n table d within some le is =
    one_more ms (k - 1) n table d (get_or ms (k - 1) d) (drop k ms) within (omega arith) refl (ap (λ i. drop i ms) before) is
  where
    before : k ≡ suc (k - 1)
    before = omega arith
