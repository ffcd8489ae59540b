-- What was appended so far, and what is left, make the whole.
use Rattle.std.proofs.Common.{◌≡◌, ℕ, zero, suc, ◌+◌, ◌<◌, Bool, cond, List, [], ◌∷◌, ◌++◌, map, drop, get_or, length, Option, None, Some, append_assoc, add-one, sym, ap, ◌∙◌}
use Rattle.std.specs.Prelude.{slice_get}
use Rattle.std.specs.List.{flat_map}
use Rattle.std.proofs.lemmas.List.{drop_more}
use Rattle.std.proofs.lemmas.List.Concat.{flat_map-append}
use Rattle.sequence_build_laws.specs.declared.Decision.{Decision}
use Rattle.sequence_build_laws.specs.Acts.{Act, acts_of}
use Rattle.sequence_build.specs.declared.uses.Use.{Use}
use Rattle.sequence_build.specs.Uses.{noted, uses_in}
use Rattle.sequence_build.proofs.Adding.{acts-cons}

-- one step more
pub appended : {Y : Type 0} (one rest left old new whole : List Y) → left ≡ one ++ rest → new ≡ old ++ one → old ++ left ≡ whole → new ++ rest ≡ whole
appended {Y = Y} one rest left old new whole l n w = ap (λ (m : List Y). m ++ rest) n ∙ append_assoc old one rest ∙ ap (λ (m : List Y). old ++ m) (sym l) ∙ w

-- one element more of a list that is mapped
pub mapped : {X Y : Type 0} (f : X → Y) (xs : List X) (k : ℕ) (d : X) (y : Y) (old new whole : List Y) → k < length xs → y ≡ f (get_or xs k d) → new ≡ old ++ y ∷ [] → old ++ map f (drop k xs) ≡ whole
    → new ++ map f (drop (k + 1) xs) ≡ whole
mapped f xs k d y old new whole l e n w =
    appended (y ∷ []) (map f (drop (k + 1) xs)) (map f (drop k xs)) old new whole (ap (map f) (drop_more xs k d l) ∙ (λ i. sym e i ∷ map f (drop (k + 1) xs))) n w

-- one more list without elements, among others without
pub none_more : {V Y : Type 0} (items : Option V → List Y) → items None ≡ [] → (xs : List V) (x : V) → items (Some x) ≡ []
    → ((u : ℕ) → items (slice_get xs u) ≡ []) → (u : ℕ) → items (slice_get (xs ++ x ∷ []) u) ≡ []
none_more items none [] x e h zero = e
none_more items none [] x e h (suc u) = none
none_more items none (y ∷ ys) x e h zero = h 0
none_more items none (y ∷ ys) x e h (suc u) = none_more items none ys x e (λ v. h (suc v)) u

-- the acts of one decision more
pub acts_left : {Y : Type 0} (f : Act → List Y) (ds : List Decision) (k : ℕ) (d : Decision) → k < length ds → d ≡ get_or ds k d
    → flat_map f (acts_of (drop k ds)) ≡ flat_map f (acts_of (d ∷ [])) ++ flat_map f (acts_of (drop (k + 1) ds))
acts_left f ds k d l e =
    ap (λ (xs : List Decision). flat_map f (acts_of xs)) (drop_more ds k d l) ∙ ap (λ (x : Decision). flat_map f (acts_of (x ∷ drop (k + 1) ds))) (sym e)
    ∙ ap (flat_map f) (acts-cons d (drop (k + 1) ds)) ∙ flat_map-append f (acts_of (d ∷ [])) (acts_of (drop (k + 1) ds))

-- one instruction more of a loop
pub uses_next : {A : Type 0} (test : A → Bool) (s k : ℕ) (xs : List A) (x : A) (old new whole : List Use) → k < length xs → x
    ≡ get_or xs k x → new ≡ cond (test x) (noted s k old) old → uses_in test s k (drop k xs) old ≡ whole
    → uses_in test s (k + 1) (drop (k + 1) xs) new ≡ whole
uses_next {A = A} test s k xs x old new whole l e n w =
    (λ i. uses_in test s (add-one k i) (drop (k + 1) xs) (n i))
    ∙ sym (ap (λ (ys : List A). uses_in test s k ys old) (drop_more xs k x l) ∙ ap (λ (y : A). uses_in test s k (y ∷ drop (k + 1) xs) old) (sym e)) ∙ w
