-- Places of names in a list.
use Rattle.std.proofs.Common.{
  ◌≡◌,
  ℕ,
  zero,
  suc,
  ◌+◌,
  ◌<◌,
  Bool,
  not,
  true,
  false,
  cond,
  ◌↔◌,
  ◌⊎◌,
  inl,
  inr,
  List,
  [],
  ◌∷◌,
  ◌++◌,
  length,
  map,
  Option,
  None,
  Some,
  slice_get,
  position,
  bytes_eq,
  nat_lt,
  refl,
  ap,
  sym,
  ◌∙◌,
  arith,
  get_or,
  length-append,
  ◌≤◌,
}
use Rattle.std.specs.List.{list_any, prefix_len, position_or_len}
use Rattle.std.proofs.lemmas.Grind.{common_steps}
use Rattle.std.proofs.lemmas.Slice.Eq.{bytes_eq-Decides}
use Rattle.std.proofs.lemmas.Option.{slice_get-get_or, slice_get_within, get_or_from_slice_get}
use Rattle.std.proofs.lemmas.List.{map_push, length-map}
use Rattle.std.proofs.lemmas.List.Folds.{list_any_at}
use Rattle.std.proofs.lemmas.List.Quantifiers.{position-Some}
use Rattle.case_table.specs.Distinct.{AreDistinct}

-- a list with an element that passes a test is found to have one
any_at : {X : Type 0} (p : X → Bool) (xs : List X) (i : ℕ) (x : X) → slice_get xs i ≡ Some x → p x ≡ true → list_any p xs ≡ true
any_at p xs i x there passes = list_any_at p xs i x (slice_get_within xs i x there) (rw (get_or_from_slice_get xs i x x there) passes)

-- an element of a list with one more is an old one or the last
pushed : {X : Type 0} (xs : List X) (y : X) (i : ℕ) (x : X) → slice_get (xs ++ y ∷ []) i ≡ Some x → (slice_get xs i ≡ Some x) ⊎ ((i ≡ length xs) × (y ≡ x))
pushed [] y zero x there = inr (refl, cc)
pushed [] y (suc i) x there = cc
pushed (z ∷ zs) y zero x there = inl there
pushed (z ∷ zs) y (suc i) x there = elim (pushed zs y i x there) [ inl old ↦ inl old | inr last ↦ inr (ap suc last.0, last.1) ]

-- a name that differs from those of a list stands at no place of it
absent : (names : List (List ℕ)) (name : List ℕ) (i : ℕ) (x : List ℕ) → list_any (bytes_eq name) names ≡ false → slice_get names i ≡ Some x → name ≡ x → ⊥
absent names name i x other there same =
    let found = any_at (bytes_eq name) names i x there ((bytes_eq-Decides name x).1 same) in cc

-- names stay distinct where one that differs from them comes last
AreDistinct-push : (names : List (List ℕ)) (name : List ℕ) → AreDistinct names → list_any (bytes_eq name) names ≡ false → AreDistinct (names ++ name ∷ [])
AreDistinct-push names name distinct other i j x at_i at_j =
    elim (pushed names name i x at_i) [
      | inl old_i ↦ elim (pushed names name j x at_j) [
        | inl old_j ↦ distinct i j x old_i old_j
        | inr last_j ↦ absurd (absent names name i x other old_i last_j.1)
      ]
      | inr last_i ↦ elim (pushed names name j x at_j) [
        | inl old_j ↦ absurd (absent names name j x other old_j last_i.1)
        | inr last_j ↦ last_i.0 ∙ sym last_j.0
      ]
    ]

-- a table stays one where a reference to a name that differs is pushed
pub pushed_table : {X : Type 0} (f : X → List ℕ) (old new : List X) (last : X) (names : List (List ℕ)) (most : ℕ) → new ≡ old ++ last ∷ [] → map f old ≡ names → length names < most
    → AreDistinct (map f old) → list_any (bytes_eq (f last)) names ≡ false → (length new ≤ most) × AreDistinct (map f new)
pushed_table f old new last names most pushed are room distinct other =
    let differs : list_any (bytes_eq (f last)) (map f old) ≡ false = rw are other in (
      omega (arith, ap length pushed, length-append old (last ∷ []), length-map old f, length-map new f, ap length are),
      rw (pushed, map_push) (AreDistinct-push (map f old) (f last) distinct differs),
    )

-- one more element keeps the first that passes a test within the list
one_more : (b : Bool) (m n : ℕ) → (b ≡ true → m < n) → cond b (1 + m) 0 < suc n
one_more true m n h = omega (arith, h refl)
one_more false m n h = omega arith

-- where an element passes a test, the first that passes it stands within the list
within : {X : Type 0} (p : X → Bool) (xs : List X) (i : ℕ) (x : X) → slice_get xs i ≡ Some x → p x ≡ true → position_or_len p xs < length xs
within p [] i x there passes = cc
within p (y ∷ ys) zero x there passes = let same : y ≡ x = cc in one_more (not (p y)) _ _ (λ fails. let h : p y ≡ true = rw same passes in cc)
within p (y ∷ ys) (suc i) x there passes = one_more (not (p y)) _ _ (λ _. within p ys i x there passes)

-- what `position` answers where the first that passes stands within the list
chosen : (m n : ℕ) → m < n → cond (nat_lt m n) (Some m) None ≡ Some m
chosen m n below = grind (arith, common_steps)

-- what `position` finds stands there
stands : (names : List (List ℕ)) (name : List ℕ) (i : ℕ) → position (λ known. bytes_eq known name) names ≡ Some i → slice_get names i ≡ Some name
stands names name i found =
    let at = position-Some (λ (known : List ℕ). bytes_eq known name) names i [] found in
    slice_get-get_or names i [] at.0 ∙ ap Some ((bytes_eq-Decides (get_or names i []) name).0 at.1)

-- `position` finds a name of a list of distinct names
finds : (names : List (List ℕ)) (name : List ℕ) (i : ℕ) → AreDistinct names → slice_get names i ≡ Some name → position (λ known. bytes_eq known name) names ≡ Some i
finds names name i distinct there =
    let p : List ℕ → Bool = λ known. bytes_eq known name in
    let at : ℕ = position_or_len p names in
    let found : position p names ≡ Some at = chosen at (length names) (within p names i name there ((bytes_eq-Decides name name).1 refl)) in
    found ∙ ap Some (distinct at i name (stands names name at found) there)

-- a test of what f gives finds the same in the list as the test in the list of what f gives
prefix_len-map : {X Y : Type 0} (f : X → Y) (p : Y → Bool) (xs : List X) → prefix_len (λ x. p (f x)) xs ≡ prefix_len p (map f xs)
prefix_len-map f p [] = refl
prefix_len-map f p (x ∷ xs) = ap (λ (n : ℕ). cond (p (f x)) (1 + n) 0) (prefix_len-map f p xs)

position-map : {X Y : Type 0} (f : X → Y) (p : Y → Bool) (xs : List X) → position (λ x. p (f x)) xs ≡ position p (map f xs)
position-map f p xs =
    ap (λ (n : ℕ). cond (nat_lt n (length xs)) (Some n) None) (prefix_len-map f (λ y. not (p y)) xs)
    ∙ ap (λ (n : ℕ). cond (nat_lt (position_or_len p (map f xs)) n) (Some (position_or_len p (map f xs))) None) (sym (length-map xs f))

-- what is found among references to distinct names is the place of the name
pub place_is : {X : Type 0} (f : X → List ℕ) (refs : List X) (names : List (List ℕ)) (name : List ℕ) (result : Option ℕ) → map f refs ≡ names → AreDistinct names
    → result ≡ position (λ known. bytes_eq (f known) name) refs → (i : ℕ) → (result ≡ Some i) ↔ (slice_get names i ≡ Some name)
place_is f refs names name result are distinct found i =
    let all : result ≡ position (λ known. bytes_eq known name) names = found ∙ position-map f (λ known. bytes_eq known name) refs ∙ ap (position (λ (known : List ℕ). bytes_eq known name)) are in
    (λ is. stands names name i (sym all ∙ is), λ there. all ∙ finds names name i distinct there)
