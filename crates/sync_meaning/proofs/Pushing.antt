-- What was pushed for each element of a list so far, one element more.
use Rattle.std.proofs.Common.{◌≡◌, ℕ, ◌+◌, ◌<◌, List, [], ◌∷◌, ◌++◌, map, take, drop, length, get_or, refl, sym, ap, ◌∙◌}
use Rattle.std.specs.Prelude.{replicate}
use Rattle.std.proofs.lemmas.List.{map_push, map_more, drop_more, replicate_more, append_assoc}
use Rattle.syn_base.specs.Vectors.{Vector, Values}
use Rattle.algo_tree.specs.Level.{all_joined}

pub pushed : {X Y Z : Type 0} (f : Y → Z) (h : X → Z) (xs : List X) (i : ℕ) (x : X) (ys new : List Y) (y : Y) → i < length xs → x
    ≡ get_or xs i x → f y ≡ h x → new ≡ ys ++ y ∷ [] → map f ys ≡ map h (take i xs)
    → map f new ≡ map h (take (i + 1) xs)
pushed f h xs i x ys new y lt at same push so_far =
    ap (map f) push ∙ map_push f ys y ∙ (λ j. so_far j ++ same j ∷ []) ∙ sym (map_more h xs i x lt ∙ ap (λ z. map h (take i xs) ++ h z ∷ []) (sym at))

pub repeated : {Y : Type 0} (y : Y) (k : ℕ) (first old new : List Y) → old ≡ first ++ replicate k y → new ≡ old ++ y ∷ [] → new ≡ first ++ replicate (k + 1) y
repeated {Y = Y} y k first old new o n = n ∙ ap (λ (l : List Y). l ++ y ∷ []) o ∙ append_assoc first (replicate k y) (y ∷ []) ∙ ap (λ (l : List Y). first ++ l) (replicate_more k y)

-- what the elements so far gave, and what those that are left give, make the whole: one element more
pub appended : {X Y : Type 0} (one : X → List Y) (all : List X → List Y) → ((x : X) (xs : List X) → all (x ∷ xs) ≡ one x ++ all xs) → (xs : List X) (k : ℕ) (x : X) (old new whole : List Y)
    → k < length xs → x ≡ get_or xs k x → new ≡ old ++ one x → old ++ all (drop k xs) ≡ whole → new ++ all (drop (k + 1) xs) ≡ whole
appended {X = X} {Y = Y} one all step xs k x old new whole h e n w =
    let rest = all (drop (k + 1) xs) in
    let left : all (drop k xs) ≡ one x ++ rest = ap all (drop_more xs k x h) ∙ ap (λ (y : X). all (y ∷ drop (k + 1) xs)) (sym e) ∙ step x (drop (k + 1) xs) in
    ap (λ (l : List Y). l ++ rest) n ∙ append_assoc old (one x) rest ∙ ap (λ (l : List Y). old ++ l) (sym left) ∙ w

pub all_joined-append : (vs ws : Values) → all_joined (vs ++ ws) ≡ all_joined vs ++ all_joined ws
all_joined-append [] ws = refl
all_joined-append (v ∷ vs) ws = ap (λ (u : Vector). v ++ u) (all_joined-append vs ws) ∙ sym (append_assoc v (all_joined vs) (all_joined ws))
