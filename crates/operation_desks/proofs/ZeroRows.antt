-- Rows of zeros.
use Rattle.std.proofs.Common.{◌≡◌, ℕ, ◌+◌, ◌-◌, ◌≤◌, List, [], ◌∷◌, ◌++◌, map, length, refl, sym, ap, arith, ◌∙◌, ℤ}
use Rattle.std.specs.Prelude.{replicate, sum, pos}
use Rattle.std.proofs.lemmas.List.{take-replicate, drop-replicate, replicate_more, length-replicate}
use Rattle.syn_base.specs.Rows.{cut}
use Rattle.syn_base.specs.Vectors.{Values, zeros}
use Rattle.executive_program.proofs.KindLens.{sum-cons}

-- zeros that are cut are zeros
pub cut_zeros : (lens : List ℕ) (n : ℕ) → n ≡ sum lens → cut lens (zeros n) ≡ map zeros lens
cut_zeros [] n e = refl
cut_zeros (len ∷ lens) n e =
    let all : n ≡ len + sum lens = e ∙ sum-cons len lens in
    let few : len ≤ n = omega arith in
    let left : n - len ≡ sum lens = omega arith in
    λ i. take-replicate len n (pos 0) few i ∷ (ap (cut lens) (drop-replicate len n (pos 0)) ∙ cut_zeros lens (n - len) left) i

-- one more row
pub row_more : (lens lens' : List ℕ) (row : List ℤ) (n k : ℕ) (old new : List Values) → lens' ≡ lens → row ≡ zeros n → n ≡ sum lens → old
    ≡ replicate k (map zeros lens) → new ≡ old ++ cut lens' row ∷ [] → new ≡ replicate (k + 1) (map zeros lens)
row_more lens lens' row n k old new l r e o q = q ∙ (λ i. o i ++ cut (l i) (r i) ∷ [])
    ∙ ap (λ (v : Values). replicate k (map zeros lens) ++ v ∷ []) (cut_zeros lens n e) ∙ replicate_more k (map zeros lens)

pub row_long : (lens lens' : List ℕ) (row : List ℤ) (n : ℕ) → lens' ≡ lens → row ≡ zeros n → n ≡ sum lens → length row ≡ sum lens'
row_long lens lens' row n l r e = ap (λ (z : List ℤ). length z) r ∙ length-replicate n (pos 0) ∙ e ∙ ap (λ (z : List ℕ). sum z) (sym l)
