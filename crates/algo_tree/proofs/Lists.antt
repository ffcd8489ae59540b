-- Lists, element by element.
use Rattle.std.proofs.Common.{
  ◌≡◌,
  ℕ,
  zero,
  suc,
  ◌+◌,
  ◌<◌,
  ◌≤◌,
  List,
  [],
  ◌∷◌,
  ◌++◌,
  length,
  get_or,
  map,
  replicate,
  None,
  slice_get,
  refl,
  sym,
  ap,
  ap₂,
  ◌∙◌,
  arith,
  length-append,
  inl,
  inr,
  zero-add,
  suc-add,
}
use Rattle.std.proofs.lemmas.List.{map-append}
use Rattle.std.proofs.lemmas.Bool.{cases_lt}
use Rattle.level_meaning.specs.Level.{Node, with_node}
use Rattle.algo_tree.specs.Typed.{IsLength, AreLengths}
use Rattle.syn_base.specs.Vectors.{Values}
use Rattle.syn_base.specs.Numbers.{numbers_below}

pub append_left : {A : Type 0} (xs ys : List A) (r : ℕ) (d : A) → r < length xs → get_or (xs ++ ys) r d ≡ get_or xs r d
append_left [] ys r d h = absurd (omega arith)
append_left (x ∷ xs) ys zero d h = refl
append_left (x ∷ xs) ys (suc r) d h = append_left xs ys r d (omega arith)

pub append_right : {A : Type 0} (xs ys : List A) (r : ℕ) (d : A) → get_or (xs ++ ys) (length xs + r) d ≡ get_or ys r d
append_right [] ys r d = rw zero-add
append_right (x ∷ xs) ys r d = rw suc-add (append_right xs ys r d)

pub map_below : {A : Type 0} (n : ℕ) (f g : ℕ → A) → ((i : ℕ) → i < n → f i ≡ g i) → map f (numbers_below n) ≡ map g (numbers_below n)
map_below zero f g h = refl
map_below (suc n) f g h =
    map-append f (numbers_below n) (n ∷ []) ∙ ap₂ (λ xs x. xs ++ x ∷ []) (map_below n f g (λ i lt. h i (omega arith))) (h n (omega arith)) ∙ sym (map-append g (numbers_below n) (n ∷ []))

pub long_below : {A : Type 0} (n : ℕ) (f : ℕ → A) → length (map f (numbers_below n)) ≡ n
long_below zero f = refl
long_below (suc n) f = ap length (map-append f (numbers_below n) (n ∷ [])) ∙ length-append (map f (numbers_below n)) (f n ∷ []) ∙ let k = long_below n f in omega (arith, k)

pub at_below : {A : Type 0} (n : ℕ) (f : ℕ → A) (i : ℕ) (d : A) → i < n → get_or (map f (numbers_below n)) i d ≡ f i
at_below zero f i d h = absurd (omega arith)
at_below (suc n) f i d h = ap (λ xs. get_or xs i d) (map-append f (numbers_below n) (n ∷ [])) ∙ elim (cases_lt i n) [
  | inl lower ↦ append_left (map f (numbers_below n)) (f n ∷ []) i d (let k = long_below n f in omega (arith, k)) ∙ at_below n f i d lower
  | inr above ↦
      let same : i ≡ n = omega arith in
      let place : i ≡ length (map f (numbers_below n)) + 0 = let k = long_below n f in omega (arith, k) in
      ap (λ r. get_or (map f (numbers_below n) ++ f n ∷ []) r d) place ∙ append_right (map f (numbers_below n)) (f n ∷ []) 0 d ∙ ap f (sym same)
]

pub none_past : {A : Type 0} (xs : List A) (r : ℕ) → length xs ≤ r → slice_get xs r ≡ None
none_past [] r h = refl
none_past (x ∷ xs) zero h = absurd (omega arith)
none_past (x ∷ xs) (suc r) h = none_past xs r (omega arith)

pub map_map : {A B C : Type 0} (f : B → C) (g : A → B) (xs : List A) → map f (map g xs) ≡ map (λ x. f (g x)) xs
map_map f g [] = refl
map_map f g (x ∷ xs) = ap (λ ys. f (g x) ∷ ys) (map_map f g xs)

pub mapped : (cs : List Node) (F : Node → Values) (r : ℕ) → with_node (slice_get cs r) [] F ≡ get_or (map F cs) r []
mapped [] F r = refl
mapped (c ∷ cs) F zero = refl
mapped (c ∷ cs) F (suc r) = mapped cs F r

pub same_below : {A : Type 0} (n : ℕ) (x : A) → map (λ i. x) (numbers_below n) ≡ replicate n x
same_below zero x = refl
same_below (suc n) x = map-append (λ i. x) (numbers_below n) (n ∷ []) ∙ ap (λ xs. xs ++ x ∷ []) (same_below n x) ∙ one_more n
  where
    one_more : (m : ℕ) → replicate m x ++ x ∷ [] ≡ replicate (suc m) x
    one_more zero = refl
    one_more (suc m) = ap (λ xs. x ∷ xs) (one_more m)

pub lengths-replicate : (n len : ℕ) → IsLength len → AreLengths (replicate n len)
lengths-replicate zero len h = tt
lengths-replicate (suc n) len h = (h, lengths-replicate n len h)
