-- What was appended so far, and what is left, make the whole.
use Rattle.std.proofs.Common.{◌≡◌, ℕ, ◌+◌, ◌<◌, List, [], ◌∷◌, ◌++◌, map, drop, get_or, length, append_assoc, sym, ap, ◌∙◌}
use Rattle.std.proofs.lemmas.List.{drop_more}

-- one step more
appended : {Y : Type 0} (one rest left old new whole : List Y) → left ≡ one ++ rest → new ≡ old ++ one → old ++ left ≡ whole → new ++ rest ≡ whole
appended {Y = Y} one rest left old new whole l n w = ap (λ (m : List Y). m ++ rest) n ∙ append_assoc old one rest ∙ ap (λ (m : List Y). old ++ m) (sym l) ∙ w

-- one element more, where elements are counted
pub counted : {X Y : Type 0} (one : ℕ → X → List Y) (all : ℕ → List X → List Y)
    → ((n : ℕ) (x : X) (xs : List X) → all n (x ∷ xs) ≡ one n x ++ all (n + 1) xs) → (xs : List X) (k : ℕ) (x : X) (old new whole : List Y)
    → k < length xs → x ≡ get_or xs k x → new ≡ old ++ one k x → old ++ all k (drop k xs) ≡ whole → new ++ all (k + 1) (drop (k + 1) xs) ≡ whole
counted {X = X} one all step xs k x old new whole h e n w =
    let rest = drop (k + 1) xs in
    appended (one k x) (all (k + 1) rest) (all k (drop k xs)) old new whole (ap (all k) (drop_more xs k x h ∙ ap (λ (y : X). y ∷ rest) (sym e)) ∙ step k x rest) n w

-- one element more of a list that is mapped
pub mapped : {X Y : Type 0} (f : X → Y) (xs : List X) (k : ℕ) (x : X) (y : Y) (old new whole : List Y) → k < length xs → x ≡ get_or xs k x
    → y ≡ f x → new ≡ old ++ y ∷ [] → old ++ map f (drop k xs) ≡ whole
    → new ++ map f (drop (k + 1) xs) ≡ whole
mapped f xs k x y old new whole h e is n w =
    appended (y ∷ []) (map f (drop (k + 1) xs)) (map f (drop k xs)) old new whole (ap (map f) (drop_more xs k x h) ∙ (λ i. (ap f (sym e) ∙ sym is) i ∷ map f (drop (k + 1) xs))) n w
