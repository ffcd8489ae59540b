-- One definition more in a round of counts.
use Rattle.std.proofs.Common.{◌≡◌, ℕ, ◌+◌, ◌<◌, List, [], ◌∷◌, ◌++◌, length, get_or, drop, ap, sym, ◌∙◌, append_assoc}
use Rattle.std.specs.Prelude.{slice_index}
use Rattle.std.specs.List.{sum_by}
use Rattle.std.proofs.Math.Numerals.{suc-eq-add-one}
use Rattle.algo_rules.specs.declared.Def.{Def}
use Rattle.algo_check.proofs.Fresh.{from_here}
use Rattle.algo_check.specs.Counts.{count_here, next_from, row}

pub one_count : (ds rest : List Def) (counts next whole : List ℕ) (k n : ℕ) (d : Def) → k < length rest → d ≡ get_or rest k d
    → n ≡ count_here (sum_by (slice_index counts) (row ds k)) d.body → next ++ next_from ds counts k (drop k rest) ≡ whole
    → (next ++ n ∷ []) ++ next_from ds counts (k + 1) (drop (k + 1) rest) ≡ whole
one_count ds rest counts next whole k n d low is counted before =
    append_assoc next (n ∷ []) (next_from ds counts (k + 1) (drop (k + 1) rest))
    ∙ ap (λ (m : ℕ). next ++ (m ∷ next_from ds counts (k + 1) (drop (k + 1) rest))) counted
    ∙ ap (λ (j : ℕ). next ++ (count_here (sum_by (slice_index counts) (row ds k)) d.body ∷ next_from ds counts j (drop (k + 1) rest))) (sym (suc-eq-add-one k))
    ∙ ap (λ (es : List Def). next ++ next_from ds counts k es) (sym (from_here rest k d low is))
    ∙ before
