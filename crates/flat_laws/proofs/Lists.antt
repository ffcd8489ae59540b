-- Lists that are told place by place.
use Rattle.std.proofs.Common.{◌≡◌, ℕ, zero, suc, ◌+◌, ◌<◌, List, [], ◌∷◌, ◌++◌, length, map, Some, slice_get, refl, sym, ap, ap₂, ◌∙◌, arith, zero-add, suc-add}
use Rattle.std.proofs.lemmas.List.{append_assoc, map-append}
use Rattle.std.specs.List.{flat_map}
use Rattle.syn_base.specs.Numbers.{numbers_below}

pub slice_left : {A : Type 0} (xs ys : List A) (r : ℕ) → r < length xs → slice_get (xs ++ ys) r ≡ slice_get xs r
slice_left [] ys r h = absurd (omega arith)
slice_left (x ∷ xs) ys zero h = refl
slice_left (x ∷ xs) ys (suc r) h = slice_left xs ys r (omega arith)

pub slice_right : {A : Type 0} (xs ys : List A) (r : ℕ) → slice_get (xs ++ ys) (length xs + r) ≡ slice_get ys r
slice_right [] ys r = rw zero-add
slice_right (x ∷ xs) ys r = rw suc-add (slice_right xs ys r)

-- the first number stands first
below-suc : {A : Type 0} (h : ℕ → A) (n : ℕ) → map h (numbers_below (suc n)) ≡ h 0 ∷ map (λ i. h (suc i)) (numbers_below n)
below-suc h zero = refl
below-suc h (suc n) =
    map-append h (numbers_below (suc n)) (suc n ∷ [])
    ∙ ap (λ xs. xs ++ h (suc n) ∷ []) (below-suc h n)
    ∙ ap (λ xs. h 0 ∷ xs) (sym (map-append (λ i. h (suc i)) (numbers_below n) (n ∷ [])))

-- what is told of each place of a list
pub by-places : {A B : Type 0} (h : ℕ → B) (f : A → B) (xs : List A) → ((i : ℕ) (x : A) → slice_get xs i ≡ Some x → h i ≡ f x) → map h (numbers_below (length xs)) ≡ map f xs
by-places h f [] e = refl
by-places h f (x ∷ xs) e = below-suc h (length xs) ∙ ap₂ (λ y ys. y ∷ ys) (e 0 x refl) (by-places (λ i. h (suc i)) f xs (λ i y is. e (suc i) y is))

pub flat-append : {A B : Type 0} (f : A → List B) (xs ys : List A) → flat_map f (xs ++ ys) ≡ flat_map f xs ++ flat_map f ys
flat-append f [] ys = refl
flat-append f (x ∷ xs) ys = ap (λ zs. f x ++ zs) (flat-append f xs ys) ∙ sym (append_assoc (f x) (flat_map f xs) (flat_map f ys))

pub flat-below : {B : Type 0} (n : ℕ) (f g : ℕ → List B) → ((i : ℕ) → i < n → f i ≡ g i) → flat_map f (numbers_below n) ≡ flat_map g (numbers_below n)
flat-below zero f g h = refl
flat-below (suc n) f g h =
    flat-append f (numbers_below n) (n ∷ [])
    ∙ ap₂ (λ xs x. xs ++ (x ++ [])) (flat-below n f g (λ i lt. h i (omega arith))) (h n (omega arith))
    ∙ sym (flat-append g (numbers_below n) (n ∷ []))
