-- What was appended so far, and what the rest of a list gives, make the whole.
use Rattle.std.proofs.Common.{◌≡◌, ℕ, ◌+◌, ◌<◌, List, [], ◌∷◌, ◌++◌, drop, get_or, length, append_assoc, sym, ap, ◌∙◌}
use Rattle.std.specs.Prelude.{replicate}
use Rattle.std.proofs.lemmas.List.{drop_more, replicate_more}

-- one element more
pub appended : {X Y : Type 0} (one : X → List Y) (all : List X → List Y) → ((x : X) (xs : List X) → all (x ∷ xs) ≡ one x ++ all xs) → (xs : List X) (k : ℕ) (x : X) (old new whole : List Y)
    → k < length xs → x ≡ get_or xs k x → new ≡ old ++ one x → old ++ all (drop k xs) ≡ whole → new ++ all (drop (k + 1) xs) ≡ whole
appended {X = X} {Y = Y} one all step xs k x old new whole h e n w =
    let rest = all (drop (k + 1) xs) in
    let left : all (drop k xs) ≡ one x ++ rest = ap all (drop_more xs k x h) ∙ ap (λ (y : X). all (y ∷ drop (k + 1) xs)) (sym e) ∙ step x (drop (k + 1) xs) in
    ap (λ (l : List Y). l ++ rest) n ∙ append_assoc old (one x) rest ∙ ap (λ (l : List Y). old ++ l) (sym left) ∙ w

-- the same element once more
pub repeated : {Y : Type 0} (y : Y) (k : ℕ) (first old new : List Y) → old ≡ first ++ replicate k y → new ≡ old ++ y ∷ [] → new ≡ first ++ replicate (k + 1) y
repeated {Y = Y} y k first old new o n = n ∙ ap (λ (l : List Y). l ++ y ∷ []) o ∙ append_assoc first (replicate k y) (y ∷ []) ∙ ap (λ (l : List Y). first ++ l) (replicate_more k y)
