-- Lists each of whose elements passes the test of its place.
use Rattle.std.proofs.Common.{◌≡◌, ℕ, suc, zero, ◌+◌, ◌<◌, ◌≤◌, List, [], ◌∷◌, ◌++◌, length, get_or, set, Some, subst, sym, refl, arith}
use Rattle.std.specs.Prelude.{slice_get}
use Rattle.std.proofs.lemmas.Option.{slice_get-get_or, slice_get_within}
use Rattle.executive_run.specs.Each.{Each}

pub each-nil : {X : Type 0} (here : ℕ → X → Type 0) → Each here []
each-nil {X} here k x is = cc

-- one element more, at the end
pub each-snoc : {X : Type 0} (here : ℕ → X → Type 0) (xs : List X) (x : X) → Each here xs → here (length xs) x → Each here (xs ++ x ∷ [])
each-snoc {X} here [] x all h zero y is = let P : X → Type 0 = here 0 in subst P (let e : x ≡ y = cc in e) h
each-snoc {X} here [] x all h (suc k) y is = cc
each-snoc {X} here (z ∷ zs) x all h zero y is = all zero y is
each-snoc {X} here (z ∷ zs) x all h (suc k) y is = each-snoc (λ i. here (suc i)) zs x (λ i u e. all (suc i) u e) h k y is

-- the first element, and the others
pub each-first : {X : Type 0} (here : ℕ → X → Type 0) (x : X) (xs ys : List X) → ys ≡ x ∷ xs → Each here ys → here 0 x
each-first here x xs ys e all = all 0 x (subst (λ l. slice_get l 0 ≡ Some x) (sym e) refl)

pub each-rest : {X : Type 0} (here : ℕ → X → Type 0) (x : X) (xs ys : List X) → ys ≡ x ∷ xs → Each here ys → Each (λ k. here (suc k)) xs
each-rest here x xs ys e all k y is = all (suc k) y (subst (λ l. slice_get l (suc k) ≡ Some y) (sym e) is)

-- places that are counted from n on, and then from the next one
pub each-later : {X : Type 0} (here : ℕ → X → Type 0) (n m : ℕ) (xs : List X) → m ≡ n + 1 → Each (λ k. here (n + suc k)) xs → Each (λ k. here (m + k)) xs
each-later {X} here n m xs e all k y is = let P : ℕ → Type 0 = λ i. here i y in subst P (let a : n + suc k ≡ m + k = omega (arith, e) in a) (all k y is)

-- places that are the same
pub each-at : {X : Type 0} (here : ℕ → X → Type 0) (n m : ℕ) (x : X) → n ≡ m → here n x → here m x
each-at {X} here n m x e h = let P : ℕ → Type 0 = λ i. here i x in subst P e h

-- one more is filled, and one fewer is left
pub one-more : (n m left less all : ℕ) → n + left ≡ all → less + 1 ≡ left → m ≡ n + 1 → m + less ≡ all
one-more n m left less all e f h = omega arith

pub le-along : (n cap room : ℕ) → n ≤ cap → room ≡ cap → n ≤ room
le-along n cap room e r = omega arith

-- one of these passes the test of its place
pub each-get : {X : Type 0} (here : ℕ → X → Type 0) (xs : List X) (i : ℕ) (d : X) → i < length xs → Each here xs → here i (get_or xs i d)
each-get here xs i d l all = all i (get_or xs i d) (slice_get-get_or xs i d l)

-- another element in one place
pub each-set : {X : Type 0} (here : ℕ → X → Type 0) (xs : List X) (i : ℕ) (x : X) → Each here xs → here i x → Each here (set xs i x)
each-set {X} here [] i x all h k y is = all k y is
each-set {X} here (z ∷ zs) zero x all h zero y is = let P : X → Type 0 = here 0 in subst P (let e : x ≡ y = cc in e) h
each-set {X} here (z ∷ zs) zero x all h (suc k) y is = all (suc k) y is
each-set {X} here (z ∷ zs) (suc i) x all h zero y is = all zero y is
each-set {X} here (z ∷ zs) (suc i) x all h (suc k) y is = each-set (λ n. here (suc n)) zs i x (λ n u e. all (suc n) u e) h k y is

-- another element in the only place
pub only-set : {X : Type 0} (test : X → Type 0) (xs : List X) (y : X) → length xs ≡ 1 → test y → Each (λ k. test) (set xs 0 y)
only-set {X} test [] y one h k z is = absurd (omega (arith, one))
only-set {X} test (x ∷ xs) y one h zero z is = subst test (let e : y ≡ z = cc in e) h
only-set {X} test (x ∷ xs) y one h (suc k) z is = absurd (let l : k < length xs = slice_get_within xs k z is in omega (arith, one, l))

-- what is filled is below all where something is left
pub is-below : (n m left less all : ℕ) → n + left ≡ all → less + 1 ≡ left → n ≡ m → m < all
is-below n m left less all e f h = omega arith

-- places that are counted from the first one on
pub each-from : {X : Type 0} (here : ℕ → X → Type 0) (n : ℕ) (xs : List X) → n ≡ 0 → Each here xs → Each (λ k. here (n + k)) xs
each-from {X} here n xs e all k y is = let P : ℕ → Type 0 = λ i. here i y in subst P (let a : k ≡ n + k = omega (arith, e) in a) (all k y is)
