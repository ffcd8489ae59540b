-- One number more.
use Rattle.std.proofs.Common.{◌≡◌, ℕ, ◌≤◌, List, ◌++◌, length, drop, Result, Ok, ap, sym, ◌∙◌, append-nil, ℤ}
use Rattle.std.proofs.lemmas.List.{drop_all}
use Rattle.text_lines.specs.Refusals.{and_then}
use Rattle.algo_text.specs.Refusals.{AlgoRefusal}
use Rattle.algo_text.specs.Text.{numbers_of}

abbrev pub with_front : List ℤ → Result (List ℤ) AlgoRefusal → Result (List ℤ) AlgoRefusal
with_front front read = and_then read (λ vs. Ok (front ++ vs))

pub all_read : (front : List ℤ) (n at : ℕ) (ws : List (List ℕ)) (whole : Result (List ℤ) AlgoRefusal) → length ws ≤ at
    → with_front front (numbers_of n (drop at ws)) ≡ whole → whole ≡ Ok front
all_read front n at ws whole past before = sym before ∙ ap (λ (x : List (List ℕ)). with_front front (numbers_of n x)) (drop_all at ws past) ∙ ap Ok (append-nil front)
