-- Where elements stand in lists that are put together.
use Rattle.std.proofs.Common.{◌≡◌, ℕ, zero, suc, ◌+◌, ◌<◌, List, [], ◌∷◌, ◌++◌, length, Some, refl, sym, ap, inl, inr, arith, ◌∙◌}
use Rattle.std.specs.Prelude.{slice_get, ◌⊎◌}

-- an element of a joined list stands in the first, or in the second that many places later
pub side : {A : Type 0} (xs ys : List A) (n : ℕ) (x : A) → slice_get (xs ++ ys) n ≡ Some x
    → (slice_get xs n ≡ Some x) ⊎ ((k : ℕ) × (n ≡ length xs + k) × (slice_get ys k ≡ Some x))
side [] ys n x e = inr (n, omega arith, e)
side (y ∷ xs) ys zero x e = inl e
side (y ∷ xs) ys (suc n) x e = later (side xs ys n x e)
  where
    later : (slice_get xs n ≡ Some x) ⊎ ((k : ℕ) × (n ≡ length xs + k) × (slice_get ys k ≡ Some x))
        → (slice_get (y ∷ xs) (suc n) ≡ Some x) ⊎ ((k : ℕ) × (suc n ≡ length (y ∷ xs) + k) × (slice_get ys k ≡ Some x))
    later (inl h) = inl h
    later (inr h) = inr (h.0, (let z = h.1 in omega arith), h.2)

pub at_front : {A : Type 0} (xs ys : List A) (n : ℕ) (x : A) → slice_get xs n ≡ Some x → slice_get (xs ++ ys) n ≡ Some x
at_front [] ys n x e = absurd cc
at_front (y ∷ xs) ys zero x e = e
at_front (y ∷ xs) ys (suc n) x e = at_front xs ys n x e

pub at_back : {A : Type 0} (xs ys : List A) (k : ℕ) → slice_get (xs ++ ys) (length xs + k) ≡ slice_get ys k
at_back [] ys k = let same : 0 + k ≡ k = omega arith in ap (λ (n : ℕ). slice_get ys n) same
at_back (y ∷ xs) ys k =
    let same : suc (length xs) + k ≡ suc (length xs + k) = omega arith in
    ap (λ (n : ℕ). slice_get (y ∷ (xs ++ ys)) n) same ∙ at_back xs ys k

-- each element stands at one place
abbrev pub Once : {A : Type 0} → List A → Type 0
Once {A} xs = (x : A) (m n : ℕ) → slice_get xs m ≡ Some x → slice_get xs n ≡ Some x → m ≡ n

-- none stands in both
abbrev pub Apart : {A : Type 0} → List A → List A → Type 0
Apart {A} xs ys = (x : A) (m n : ℕ) → slice_get xs m ≡ Some x → slice_get ys n ≡ Some x → ⊥

pub once_both : {A : Type 0} (xs ys : List A) → Once xs → Once ys → Apart xs ys → Once (xs ++ ys)
once_both xs ys f g apart x m n d e = by (side xs ys m x d) (side xs ys n x e)
  where
    by : (slice_get xs m ≡ Some x) ⊎ ((k : ℕ) × (m ≡ length xs + k) × (slice_get ys k ≡ Some x))
        → (slice_get xs n ≡ Some x) ⊎ ((k : ℕ) × (n ≡ length xs + k) × (slice_get ys k ≡ Some x)) → m ≡ n
    by (inl h) (inl i) = f x m n h i
    by (inl h) (inr i) = absurd (apart x m i.0 h i.2)
    by (inr h) (inl i) = absurd (apart x n h.0 i h.2)
    by (inr h) (inr i) = let z = g x h.0 i.0 h.2 i.2 in let p = h.1 in let q = i.1 in omega arith

pub once_one : {A : Type 0} (x : A) → Once (x ∷ [])
once_one x y zero zero d e = refl
once_one x y zero (suc n) d e = absurd cc
once_one x y (suc m) n d e = absurd cc
