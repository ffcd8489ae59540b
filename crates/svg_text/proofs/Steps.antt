-- The steps of a line that are left.
use Rattle.std.proofs.Common.{◌≡◌, ℕ, suc, ◌+◌, ◌<◌, ℤ, List, [], ◌++◌, length, drop, get_or, arith, ◌∙◌, drop-cons}
use Rattle.syn_base.specs.Rows.{element}
use Rattle.svg_text.specs.declared.scale.Scale.{Scale}
use Rattle.svg_text.specs.declared.range.Range.{Range}
use Rattle.svg_text.specs.Plot.{step_text, steps_text, value_of}

-- a step more
pub step_more : (scale : Scale) (r : Range) (a j : ℕ) (rows : List (List (List ℤ))) (k : ℕ) → k < length rows
    → steps_text scale r a j k (drop k rows) ≡ step_text scale r k (element rows k a j) ++ steps_text scale r a j (k + 1) (drop (k + 1) rows)
step_more scale r a j rows k h =
    let one : suc k ≡ k + 1 = omega arith in
    (λ i. steps_text scale r a j k (drop-cons rows k [] h i))
    ∙ (λ i. step_text scale r k (value_of a j (get_or rows k [])) ++ steps_text scale r a j (one i) (drop (one i) rows))
