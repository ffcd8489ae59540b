-- What was appended so far, and what is left, make the whole.
use Rattle.std.proofs.Common.{◌≡◌, ℕ, suc, ◌+◌, ◌<◌, List, [], ◌∷◌, ◌++◌, map, drop, get_or, length, append_assoc, add-one, sym, ap, ◌∙◌}
use Rattle.std.specs.List.{flat_map}
use Rattle.std.proofs.lemmas.List.{drop_more}
use Rattle.std.proofs.lemmas.List.Concat.{flat_map-cons}
use Rattle.syn_base.specs.Bytes.{Bytes, each_after_comma}

-- one step more
appended : {Y : Type 0} (one rest left old new whole : List Y) → left ≡ one ++ rest → new ≡ old ++ one → old ++ left ≡ whole → new ++ rest ≡ whole
appended {Y = Y} one rest left old new whole l n w = ap (λ (m : List Y). m ++ rest) n ∙ append_assoc old one rest ∙ ap (λ (m : List Y). old ++ m) (sym l) ∙ w

-- one element more, where elements are counted
pub counted : {X Y : Type 0} (one : ℕ → X → List Y) (all : ℕ → List X → List Y)
    → ((n : ℕ) (x : X) (xs : List X) → all n (x ∷ xs) ≡ one n x ++ all (suc n) xs) → (xs : List X) (k : ℕ) (d : X) (old new whole : List Y)
    → k < length xs → new ≡ old ++ one k (get_or xs k d) → old ++ all k (drop k xs) ≡ whole → new ++ all (k + 1) (drop (k + 1) xs) ≡ whole
counted one all step xs k d old new whole h n w =
    let x = get_or xs k d in
    let rest = drop (k + 1) xs in
    appended (one k x) (all (k + 1) rest) (all k (drop k xs)) old new whole (ap (all k) (drop_more xs k d h) ∙ step k x rest ∙ (λ i. one k x ++ all (sym (add-one k) i) rest)) n w

-- one element more, where each gives a text
pub each : {X Y : Type 0} (f : X → List Y) (xs : List X) (k : ℕ) (d : X) (old new whole : List Y) → k < length xs → new ≡ old
    ++ f (get_or xs k d) → old ++ flat_map f (drop k xs) ≡ whole → new ++ flat_map f (drop (k + 1) xs) ≡ whole
each f xs k d old new whole h n w =
    appended (f (get_or xs k d)) (flat_map f (drop (k + 1) xs)) (flat_map f (drop k xs)) old new whole (ap (flat_map f) (drop_more xs k d h) ∙ flat_map-cons f (get_or xs k d) (drop (k + 1) xs)) n w

-- one word more after a comma
pub word_more : {X : Type 0} (f : X → Bytes) (xs : List X) (k : ℕ) (d : X) (old comma new whole : Bytes) → k < length xs → comma ≡ old ++ 44 ∷ [] → new ≡ comma ++ f (get_or xs k d)
    → old ++ each_after_comma (map f (drop k xs)) ≡ whole → new ++ each_after_comma (map f (drop (k + 1) xs)) ≡ whole
word_more {X = X} f xs k d old comma new whole h c n w =
    appended (44 ∷ f (get_or xs k d)) (each_after_comma (map f (drop (k + 1) xs))) (each_after_comma (map f (drop k xs))) old new whole
    (ap (λ (ys : List X). each_after_comma (map f ys)) (drop_more xs k d h))
    (n ∙ ap (λ (l : Bytes). l ++ f (get_or xs k d)) c ∙ append_assoc old (44 ∷ []) (f (get_or xs k d))) w
