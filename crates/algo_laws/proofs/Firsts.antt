-- What it tells that a list of checks has no fault.
use Rattle.std.proofs.Common.{◌≡◌, List, [], ◌∷◌, ◌++◌, map, Option, Some, None, refl, zero, suc, arith}
use Rattle.std.specs.List.{All, flat_map}
use Rattle.algo_rules.specs.Refusals.{AlgoRefusal}
use Rattle.algo_rules.specs.Links.{first_of}

-- it holds of each
abbrev pub Each : {A : Type 0} → (A → Type 0) → List A → Type 0
Each P [] = Unit {0}
Each P (x ∷ xs) = P x × Each P xs

pub none_both : (o : Option AlgoRefusal) (os : List (Option AlgoRefusal)) → first_of (o ∷ os) ≡ None → (o ≡ None) × (first_of os ≡ None)
none_both None os h = (refl, h)
none_both (Some e) os h = cc

pub none_append : (xs ys : List (Option AlgoRefusal)) → first_of (xs ++ ys) ≡ None → (first_of xs ≡ None) × (first_of ys ≡ None)
none_append [] ys h = (refl, h)
none_append (None ∷ xs) ys h = none_append xs ys h
none_append (Some e ∷ xs) ys h = cc

pub none_each : {A : Type 0} (f : A → Option AlgoRefusal) (xs : List A) → first_of (map f xs) ≡ None → Each (λ x. f x ≡ None) xs
none_each f [] h = tt
none_each f (x ∷ xs) h = let both = none_both (f x) (map f xs) h in (both.0, none_each f xs both.1)

pub none_flat : {A : Type 0} (f : A → List (Option AlgoRefusal)) (xs : List A) → first_of (flat_map f xs) ≡ None → Each (λ x. first_of (f x) ≡ None) xs
none_flat f [] h = tt
none_flat f (x ∷ xs) h = let both = none_append (f x) (flat_map f xs) h in (both.0, none_flat f xs both.1)

pub each_append : {A : Type 0} (P : A → Type 0) (xs ys : List A) → Each P (xs ++ ys) → Each P xs × Each P ys
each_append P [] ys h = (tt, h)
each_append P (x ∷ xs) ys h = let both = each_append P xs ys h.1 in ((h.0, both.0), both.1)

pub each_gives : {A : Type 0} (P Q : A → Type 0) → ((x : A) → P x → Q x) → (xs : List A) → Each P xs → Each Q xs
each_gives P Q f [] h = tt
each_gives P Q f (x ∷ xs) h = (f x h.0, each_gives P Q f xs h.1)

pub each_flat : {A B : Type 0} (P : B → Type 0) (f : A → List B) (xs : List A) → Each P (flat_map f xs) → Each (λ x. Each P (f x)) xs
each_flat P f [] h = tt
each_flat P f (x ∷ xs) h = let both = each_append P (f x) (flat_map f xs) h in (both.0, each_flat P f xs both.1)

-- the same as All, which goes by places
pub all_of : {A : Type 0} (P : A → Type 0) (xs : List A) → Each P xs → All P xs
all_of P [] h k d lt = absurd (omega arith)
all_of P (x ∷ xs) h zero d lt = h.0
all_of P (x ∷ xs) h (suc k) d lt = all_of P xs h.1 k d (omega arith)

pub each_all : {A : Type 0} (P : A → Type 0) (xs : List A) → All P xs → Each P xs
each_all P [] h = tt
each_all P (x ∷ xs) h = (h 0 x (omega arith), each_all P xs (λ k d lt. h (suc k) d (omega arith)))
