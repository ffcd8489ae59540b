-- One element more of a list that is mapped.
use Rattle.std.proofs.Common.{◌≡◌, ℕ, ◌+◌, ◌<◌, List, [], ◌∷◌, ◌++◌, map, take, get_or, length, append_assoc, sym, ap, ◌∙◌}
use Rattle.std.proofs.lemmas.List.{map-append, take_more}

pub mapped : {X Y : Type 0} (f : X → Y) (xs : List X) (k : ℕ) (d : X) (y : Y) (start old new : List Y) → k < length xs → y ≡ f (get_or xs k d) → new ≡ old ++ y ∷ [] → old ≡ start ++ map f (take k xs)
    → new ≡ start ++ map f (take (k + 1) xs)
mapped {X = X} {Y = Y} f xs k d y start old new l e n o =
    n ∙ (λ i. o i ++ e i ∷ []) ∙ append_assoc start (map f (take k xs)) (f (get_or xs k d) ∷ [])
    ∙ ap (λ (m : List Y). start ++ m) (sym (ap (map f) (take_more xs k d l) ∙ map-append f (take k xs) (get_or xs k d ∷ [])))
