-- Places of lists: what stands at a place of a joined list or of a map, tests by places, the first place that passes.
use Rattle.std.proofs.Common.{
  ◌≡◌,
  ℕ,
  zero,
  suc,
  ◌+◌,
  ◌≤◌,
  ◌<◌,
  Bool,
  true,
  false,
  cond,
  nat_lt,
  List,
  [],
  ◌∷◌,
  ◌++◌,
  length,
  map,
  refl,
  ap,
  arith,
  ◌∙◌,
  subst,
  Some,
  None,
  position,
  ◌⊎◌,
  inl,
  inr,
  get_or,
}
use Rattle.std.specs.Prelude.{slice_get}
use Rattle.std.specs.List.{list_all, position_or_len, count_by}
use Rattle.std.proofs.lemmas.Bool.{and_parts, and_from, lt-ltb, cases_Bool}
use Rattle.std.proofs.lemmas.Option.{same_Some, slice_get_within, slice_get-get_or, get_or_from_slice_get}
use Rattle.std.proofs.lemmas.List.Sums.{sum_by-cons, position_or_len_is}

pub got_some : {A : Type 0} (xs : List A) (i : ℕ) → i < length xs → (x : A) × (slice_get xs i ≡ Some x)
got_some [] i h = absurd (omega arith)
got_some (x ∷ xs) zero h = (x, refl)
got_some (x ∷ xs) (suc i) h = got_some xs i (omega arith)

pub got_front : {A : Type 0} (xs ys : List A) (i : ℕ) (x : A) → slice_get xs i ≡ Some x → slice_get (xs ++ ys) i ≡ Some x
got_front [] ys i x e = cc
got_front (y ∷ xs) ys zero x e = e
got_front (y ∷ xs) ys (suc i) x e = got_front xs ys i x e

pub got_back : {A : Type 0} (xs ys : List A) (i : ℕ) (x : A) → slice_get ys i ≡ Some x → slice_get (xs ++ ys) (length xs + i) ≡ Some x
got_back [] ys i x e = ap (slice_get ys) (let k : 0 + i ≡ i = omega arith in k) ∙ e
got_back (y ∷ xs) ys i x e = ap (slice_get (y ∷ (xs ++ ys))) (let k : suc (length xs) + i ≡ suc (length xs + i) = omega arith in k) ∙ got_back xs ys i x e

pub got_map : {A B : Type 0} (f : A → B) (xs : List A) (i : ℕ) (x : A) → slice_get xs i ≡ Some x → slice_get (map f xs) i ≡ Some (f x)
got_map f [] i x e = cc
got_map f (y ∷ xs) zero x e = ap (λ z. Some (f z)) (same_Some y x e)
got_map f (y ∷ xs) (suc i) x e = got_map f xs i x e

pub map_got : {A B : Type 0} (f : A → B) (xs : List A) (i : ℕ) (y : B) → slice_get (map f xs) i ≡ Some y → (x : A) × (slice_get xs i ≡ Some x) × (f x ≡ y)
map_got f [] i y e = cc
map_got f (x ∷ xs) zero y e = (x, refl, same_Some (f x) y e)
map_got f (x ∷ xs) (suc i) y e = map_got f xs i y e

pub all_here : {X : Type 0} (test : X → Bool) (xs : List X) → list_all test xs ≡ true → (i : ℕ) (x : X) → slice_get xs i ≡ Some x → test x ≡ true
all_here test [] h i x e = cc
all_here test (y ∷ ys) h zero x e = subst (λ z. test z ≡ true) (same_Some y x e) (and_parts (test y) (list_all test ys) h).0
all_here test (y ∷ ys) h (suc i) x e = all_here test ys (and_parts (test y) (list_all test ys) h).1 i x e

pub all_there : {X : Type 0} (test : X → Bool) (xs : List X) → ((i : ℕ) (x : X) → slice_get xs i ≡ Some x → test x ≡ true) → list_all test xs ≡ true
all_there test [] h = refl
all_there test (y ∷ ys) h = and_from (test y) (list_all test ys) (h 0 y refl) (all_there test ys (λ i x e. h (suc i) x e))

-- an element that passes is counted, and one that is counted once stands at one place
pub counted : {X : Type 0} (test : X → Bool) (xs : List X) (i : ℕ) (x : X) → slice_get xs i ≡ Some x → test x ≡ true → 1 ≤ count_by test xs
counted test [] i x e h = cc
counted test (y ∷ ys) zero x e h =
    let c = sum_by-cons (λ z. cond (test z) 1 0) y ys in
    let own : ◌≡◌ {A = ℕ} (cond (test y) 1 0) 1 = ap (λ b. cond b 1 0) (ap test (same_Some y x e) ∙ h) in omega (arith, c, own)
counted test (y ∷ ys) (suc i) x e h =
    let c = sum_by-cons (λ z. cond (test z) 1 0) y ys in
    let rest = counted test ys i x e h in omega (arith, c, rest)

pub once : {X : Type 0} (test : X → Bool) (xs : List X) → count_by test xs ≤ 1 → (i j : ℕ) (x y : X) → slice_get xs i ≡ Some x → slice_get xs j ≡ Some y → test x ≡ true → test y ≡ true → i ≡ j
once test [] few i j x y e f h k = cc
once test (z ∷ zs) few zero zero x y e f h k = refl
once test (z ∷ zs) few zero (suc j) x y e f h k =
    let c = sum_by-cons (λ w. cond (test w) 1 0) z zs in
    let own : ◌≡◌ {A = ℕ} (cond (test z) 1 0) 1 = ap (λ b. cond b 1 0) (ap test (same_Some z x e) ∙ h) in
    let rest = counted test zs j y f k in absurd (omega (arith, c, own, rest, few))
once test (z ∷ zs) few (suc i) zero x y e f h k =
    let c = sum_by-cons (λ w. cond (test w) 1 0) z zs in
    let own : ◌≡◌ {A = ℕ} (cond (test z) 1 0) 1 = ap (λ b. cond b 1 0) (ap test (same_Some z y f) ∙ k) in
    let rest = counted test zs i x e h in absurd (omega (arith, c, own, rest, few))
once test (z ∷ zs) few (suc i) (suc j) x y e f h k =
    let c = sum_by-cons (λ w. cond (test w) 1 0) z zs in
    let same = once test zs (omega (arith, c, few)) i j x y e f h k in omega (arith, same)

-- where one place alone passes, it is the one that is found
pub found : {X : Type 0} (test : X → Bool) (xs : List X) (k : ℕ) (x : X) → slice_get xs k ≡ Some x → test x ≡ true
    → ((i : ℕ) (y : X) → slice_get xs i ≡ Some y → test y ≡ true → i ≡ k) → position test xs ≡ Some k
found test xs k x e h alone =
    let below = slice_get_within xs k x e in
    let fails : (i : ℕ) → i < k → test (get_or xs i x) ≡ false = λ i l. not_here i l in
    let first : position_or_len test xs ≡ k = position_or_len_is test xs k x (omega (arith, below)) fails (λ _. ap test (get_or_from_slice_get xs k x x e) ∙ h) in
    ap (λ (n : ℕ). cond (nat_lt n (length xs)) (Some n) None) first ∙ ap (λ (b : Bool). cond b (Some k) None) (lt-ltb k (length xs) below)
  where
    not_here : (i : ℕ) → i < k → test (get_or xs i x) ≡ false
    not_here i l = by (cases_Bool (test (get_or xs i x)))
      where
        by : (test (get_or xs i x) ≡ true) ⊎ (test (get_or xs i x) ≡ false) → test (get_or xs i x) ≡ false
        by (inl t) =
            let below = slice_get_within xs k x e in
            let same = alone i (get_or xs i x) (slice_get-get_or xs i x (omega (arith, below, l))) t in absurd (omega (arith, same, l))
        by (inr t) = t
