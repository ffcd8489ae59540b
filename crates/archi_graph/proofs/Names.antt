-- What is said of the names of operators and media together is said of both.
use Rattle.std.proofs.Common.{◌≡◌, ℕ, ◌+◌, ◌<◌, Bool, false, ◌&&◌, List, [], ◌∷◌, ◌++◌, map, cond, length, refl, ap, subst, sym, ◌∙◌}
use Rattle.std.specs.Prelude.{slice_index_or}
use Rattle.std.specs.List.{list_all, count_by}
use Rattle.std.proofs.lemmas.List.Folds.{list_all-append, list_all-map, list_all_at}
use Rattle.std.proofs.lemmas.List.Sums.{sum_by-append, sum_by-cons}
use Rattle.archi_graph.specs.declared.medium.Medium.{Medium}

pub count_media : (p : List ℕ → Bool) (media : List Medium) → count_by p (map (λ m. m.name) media) ≡ count_by (λ m. p m.name) media
count_media p [] = refl
count_media p (m ∷ media) =
    sum_by-cons (λ x. cond (p x) 1 0) m.name (map (λ m. m.name) media)
    ∙ ap (λ n. cond (p m.name) 1 0 + n) (count_media p media)
    ∙ sym (sum_by-cons (λ (x : Medium). cond (p x.name) 1 0) m media)

pub count_both : (p : List ℕ → Bool) (operators : List (List ℕ)) (media : List Medium)
    → count_by p (operators ++ map (λ m. m.name) media) ≡ count_by p operators + count_by (λ m. p m.name) media
count_both p operators media =
    sum_by-append (λ x. cond (p x) 1 0) operators (map (λ m. m.name) media) ∙ ap (λ n. count_by p operators + n) (count_media p media)

pub all_both : (p : List ℕ → Bool) (operators : List (List ℕ)) (media : List Medium)
    → list_all p (operators ++ map (λ m. m.name) media) ≡ (list_all p operators && list_all (λ m. p m.name) media)
all_both p operators media =
    list_all-append p operators (map (λ m. m.name) media) ∙ ap (λ b. list_all p operators && b) (list_all-map p (λ m. m.name) media)

-- one element that fails settles the answer
pub fails_at : {X : Type 0} (p : X → Bool) (xs : List X) (i : ℕ) (x : X) → i < length xs → x ≡ slice_index_or xs i x → p x ≡ false → false ≡ list_all p xs
fails_at {X} p xs i x l e f = let P : X → Type 0 = λ y. p y ≡ false in sym (list_all_at p xs i x l (subst P e f))
