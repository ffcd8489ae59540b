-- Places in lists made of blocks.
use Rattle.std.proofs.Common.{◌≡◌, ℕ, zero, suc, ◌+◌, ◌*◌, ◌<◌, ◌≤◌, ◌⊎◌, List, [], ◌∷◌, ◌++◌, length, Some, refl, sym, ap, inl, inr, arith, ◌∙◌, length-append}
use Rattle.std.specs.Prelude.{slice_get, ◌-◌}
use Rattle.std.proofs.lemmas.Bool.{lt-ltb, le-ltb, cases_lt, cases_eq}
use Rattle.std.proofs.lemmas.Option.{slice_get_within}
use native.Mathlib.Nat.{suc-mul, zero-mul, zero-add, suc-add}
use Rattle.executive_program.specs.Owners.{sum_below}
use Rattle.executive_program.specs.Blocks.{blocks, block_at}

pub get-append_past : {A : Type 0} (xs ys : List A) (r : ℕ) → slice_get (xs ++ ys) (length xs + r) ≡ slice_get ys r
get-append_past [] ys r = rw zero-add refl
get-append_past (x ∷ xs) ys r = rw suc-add (get-append_past xs ys r)

pub get-append_within : {A : Type 0} (xs ys : List A) (r : ℕ) → r < length xs → slice_get (xs ++ ys) r ≡ slice_get xs r
get-append_within [] ys r h = absurd (omega arith)
get-append_within (x ∷ xs) ys zero h = refl
get-append_within (x ∷ xs) ys (suc r) h = get-append_within xs ys r (omega arith)

-- place l stands in one of n blocks of lengths f
pub record Inside (f : ℕ → ℕ) (n l : ℕ) : Type 0 where
  pub block : ℕ
  pub at : ℕ
  pub within : block < n
  pub inner : at < f block
  pub is : l ≡ sum_below f block + at

module _ (f : ℕ → ℕ) where
  pub sum_rises : (n a : ℕ) → a ≤ n → sum_below f a ≤ sum_below f n
  sum_rises zero a h = let e : a ≡ 0 = omega arith in let g = ap (λ (k : ℕ). sum_below f k) e in omega arith
  sum_rises (suc n) a h = by (cases_lt a (suc n)) (λ x. sum_rises n a x)
    where
      by : (a < suc n) ⊎ (suc n ≤ a) → (a ≤ n → sum_below f a ≤ sum_below f n) → sum_below f a ≤ sum_below f (suc n)
      by (inl x) r = let z = r (omega arith) in omega arith
      by (inr x) r = let e : a ≡ suc n = omega arith in let g = ap (λ (k : ℕ). sum_below f k) e in omega arith

  pub sum_inside : (n a r : ℕ) → a < n → r < f a → sum_below f a + r < sum_below f n
  sum_inside n a r h g = let x = sum_rises n (suc a) h in omega arith

  pub sum_same_block : (a b r i : ℕ) → r < f a → i < f b → sum_below f a + r ≡ sum_below f b + i → (a ≡ b) × (r ≡ i)
  sum_same_block a b r i h g e = by (cases_eq a b) (cases_lt a b)
    where
      by : (a ≡ b) ⊎ (a ≡ b → ⊥) → (a < b) ⊎ (b ≤ a) → (a ≡ b) × (r ≡ i)
      by (inl x) y = (x, let z = ap (λ (k : ℕ). sum_below f k) x in omega arith)
      by (inr x) (inl y) = let z = sum_inside b a r y h in absurd (omega arith)
      by (inr x) (inr y) = let z = sum_inside a b i (omega arith) g in absurd (omega arith)

  pub block_at_is : (n a r : ℕ) → a < n → r < f a → block_at f n (sum_below f a + r) ≡ a
  block_at_is zero a r h g = absurd (omega arith)
  block_at_is (suc n) a r h g = by (cases_eq a n) (λ x. block_at_is n a r x g)
    where
      by : (a ≡ n) ⊎ (a ≡ n → ⊥) → (a < n → block_at f n (sum_below f a + r) ≡ a) → block_at f (suc n) (sum_below f a + r) ≡ a
      by (inl e) q = let z = ap (λ (k : ℕ). sum_below f k) e in rw (le-ltb (sum_below f a + r) (sum_below f n) (omega arith)) (sym e)
      by (inr e) q = rw (lt-ltb (sum_below f a + r) (sum_below f n) (sum_inside n a r (omega arith) g)) (q (omega arith))

  pub inside : (n l : ℕ) → l < sum_below f n → Inside f n l
  inside zero l h = absurd (omega arith)
  inside (suc n) l h = by (cases_lt l (sum_below f n)) (λ x. inside n l x)
    where
      by : (l < sum_below f n) ⊎ (sum_below f n ≤ l) → (l < sum_below f n → Inside f n l) → Inside f (suc n) l
      by (inl x) q = let r = q x in let w = r.within in record { block = r.block; at = r.at; within = omega arith; inner = r.inner; is = r.is }
      by (inr x) q = record { block = n; at = l - sum_below f n; within = omega arith; inner = omega arith; is = omega arith }

pub sum_const : (c n : ℕ) → sum_below (λ _. c) n ≡ n * c
sum_const c zero = omega (arith, zero-mul c)
sum_const c (suc n) = let e = sum_const c n in omega (arith, suc-mul n c)

module _ {A : Type 0} (f : ℕ → List A) where
  pub blocks_length : (n : ℕ) → length (blocks f n) ≡ sum_below (λ a. length (f a)) n
  blocks_length zero = refl
  blocks_length (suc n) = length-append (blocks f n) (f n) ∙ ap (λ (k : ℕ). k + length (f n)) (blocks_length n)

  pub blocks_at : (n a r : ℕ) → a < n → r < length (f a) → slice_get (blocks f n) (sum_below (λ b. length (f b)) a + r) ≡ slice_get (f a) r
  blocks_at zero a r h g = absurd (omega arith)
  blocks_at (suc n) a r h g = by (cases_eq a n) (λ x. blocks_at n a r x g)
    where
      by : (a ≡ n) ⊎ (a ≡ n → ⊥) → (a < n → slice_get (blocks f n) (sum_below (λ b. length (f b)) a + r) ≡ slice_get (f a) r)
          → slice_get (blocks f (suc n)) (sum_below (λ b. length (f b)) a + r) ≡ slice_get (f a) r
      by (inl e) q = ap (λ (k : ℕ). slice_get (blocks f n ++ f n) (k + r))
          (ap (λ (k : ℕ). sum_below (λ b. length (f b)) k) e ∙ sym (blocks_length n)) ∙ get-append_past (blocks f n) (f n) r
          ∙ ap (λ (k : ℕ). slice_get (f k) r) (sym e)
      by (inr e) q = get-append_within (blocks f n) (f n) (sum_below (λ b. length (f b)) a + r)
          (let x = sum_inside (λ b. length (f b)) n a r (omega arith) g in let y = blocks_length n in omega arith) ∙ q (omega arith)

  -- what stands at a place stands in a block
  pub record InBlock (n l : ℕ) (m : A) : Type 0 where
    pub block : ℕ
    pub at : ℕ
    pub within : block < n
    pub inner : at < length (f block)
    pub is : l ≡ sum_below (λ b. length (f b)) block + at
    pub stands : slice_get (f block) at ≡ Some m

  pub in_block : (n l : ℕ) (m : A) → slice_get (blocks f n) l ≡ Some m → InBlock n l m
  in_block n l m e = let h = slice_get_within (blocks f n) l m e in let y = blocks_length n in
      let x = inside (λ b. length (f b)) n l (omega arith) in
      record {
        block = x.block;
        at = x.at;
        within = x.within;
        inner = x.inner;
        is = x.is;
        stands = sym (blocks_at n x.block x.at x.within x.inner) ∙ ap (λ (k : ℕ). slice_get (blocks f n) k) (sym x.is) ∙ e;
      }
