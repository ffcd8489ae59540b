-- A family's total: its events come in order, so their number says which were made.
use Rattle.std.proofs.Common.{◌≡◌, ℕ, zero, suc, ◌+◌, ◌-◌, ◌*◌, ◌/◌, ◌%◌, ◌<◌, ◌≤◌, ◌⊎◌, Bool, cond, eqb, refl, sym, ap, subst, inl, inr, ⊎_elim, arith, ◌∙◌, eq-eqb, ne_eqb}
use Rattle.std.proofs.lemmas.Bool.{cases_lt, cases_eq}
use Rattle.std.proofs.lemmas.Nat.{div-add-mod', div-mul-add, mod-mul-add, mod_below}
use Rattle.std.proofs.Math.Nat.{mul-le-mul_right}
use native.Mathlib.Nat.{suc-mul, add-suc, add-zero}
use native.Mathlib.Decide.{dec_lt}
use Rattle.interleavings.specs.Precedence.{IsMade}
use Rattle.interleavings.specs.Sites.{step_at, hit, passes}
use Rattle.interleavings.specs.System.{System, Micro, total, total_to}
use Rattle.interleavings.specs.Owners.{Owner, nth_of, sum_below, nth_in, IsFamily}
use Rattle.interleavings.proofs.Totals.{total_nth}
use Rattle.interleavings.proofs.Sums.{both_below, le_below, none_below}

-- the numbers below a, by their remainder: stairs size a i of them leave i
abbrev one_if : ℕ → ℕ → ℕ
one_if x i = cond (eqb x i) 1 0

abbrev stairs : ℕ → ℕ → ℕ → ℕ
stairs size zero i = 0
stairs size (suc a) i = stairs size a i + one_if (a % size) i

one_if_low : (x n : ℕ) → n ≤ x → sum_below (λ i. one_if x i) n ≡ 0
one_if_low x zero h = refl
one_if_low x (suc n) h = let e = one_if_low x n (omega arith) in let d : one_if x n ≡ 0 = rw (ne_eqb x n (λ q. omega arith)) refl in omega arith

one_if_all : (x n : ℕ) → x < n → sum_below (λ i. one_if x i) n ≡ 1
one_if_all x zero h = absurd (omega arith)
one_if_all x (suc n) h = by (cases_eq x n) (λ l. one_if_all x n l)
  where
    by : (x ≡ n) ⊎ (x ≡ n → ⊥) → (x < n → sum_below (λ i. one_if x i) n ≡ 1) → sum_below (λ i. one_if x i) (suc n) ≡ 1
    by (inl e) r = let a = one_if_low x n (omega arith) in let d : one_if x n ≡ 1 = rw (eq-eqb x n e) refl in omega arith
    by (inr e) r = let a = r (omega arith) in let d : one_if x n ≡ 0 = rw (ne_eqb x n e) refl in omega arith

stairs_sum : (size a : ℕ) → 0 < size → sum_below (λ i. stairs size a i) size ≡ a
stairs_sum size zero h = none_below (λ _. 0) size (λ i l. refl)
stairs_sum size (suc a) h = let e = both_below (λ i. stairs size a i) (λ i. one_if (a % size) i) size in
    let d = stairs_sum size a h in let f = one_if_all (a % size) size (mod_below a size h) in omega arith

-- j * size + i is below a exactly where j is below the stairs
stairs_law : (size a i j : ℕ) → i < size → (j < stairs size a i → j * size + i < a) × (j * size + i < a → j < stairs size a i)
stairs_law size zero i j h = (λ x. absurd (omega arith), λ x. absurd (omega arith))
stairs_law size (suc a) i j h = by (cases_eq (a % size) i) (λ k. stairs_law size a i k h)
  where
    S : ℕ
    S = stairs size a i

    by : (a % size ≡ i) ⊎ (a % size ≡ i → ⊥) → ((k : ℕ) → (k < stairs size a i → k * size + i < a) × (k * size + i < a → k < stairs size a i))
        → (j < stairs size a i + one_if (a % size) i → j * size + i < suc a) × (j * size + i < suc a → j < stairs size a i + one_if (a % size) i)
    by (inl e) r = (λ x. forth (omega (arith, d)), λ x. back j x)
      where
        d : one_if (a % size) i ≡ 1
        d = rw (eq-eqb (a % size) i e) refl

        k : ℕ
        k = a / size

        a_is : k * size + i ≡ a
        a_is = let q = div-add-mod' a size in omega (arith, e)

        low : S ≤ k
        low = ⊎_elim (λ l. let y = (r k).0 l in absurd (omega (arith, a_is))) (λ l. l) (cases_lt k S)

        forth : j ≤ S → j * size + i < suc a
        forth l = let m : j * size ≤ k * size = mul-le-mul_right size (omega (arith, low)) in omega (arith, a_is)

        back : (n : ℕ) → n * size + i < suc a → n < S + one_if (a % size) i
        back zero x = omega (arith, d)
        back (suc n) x = let y = (r n).1 (omega (arith, suc-mul n size)) in omega (arith, d)
    by (inr e) r = let d : one_if (a % size) i ≡ 0 = rw (ne_eqb (a % size) i e) refl in (
      λ x. let y = (r j).0 (omega (arith, d)) in omega arith,
      λ x. ⊎_elim (λ q. absurd (e (ap (λ (y : ℕ). y % size) (sym q) ∙ mod-mul-add j size i h))) (λ q. let y = (r j).1 (omega arith) in omega (arith, d)) (cases_eq (j * size + i) a),
    )

module _ {P : Type 0} (w : System P) (size : ℕ) (all : Micro → Bool) (one : ℕ → Micro → Bool) (owner : ℕ → Owner) (f : IsFamily w size all one owner) where
  passes_sum : (s n : ℕ) → passes all (w.codes s) n ≡ sum_below (λ i. passes (one i) (w.codes s) n) size
  passes_sum s zero = sym (none_below (λ _. 0) size (λ i l. refl))
  passes_sum s (suc n) = let e = passes_sum s n in let d = f.covers s n in
      let g = both_below (λ i. passes (one i) (w.codes s) n) (λ i. hit (one i) (step_at (w.codes s) n)) size in omega arith

  total_sum_to : (c : ℕ → ℕ) (n : ℕ) → total_to w all c n ≡ sum_below (λ i. total_to w (one i) c n) size
  total_sum_to c zero = sym (none_below (λ _. 0) size (λ i l. refl))
  total_sum_to c (suc n) = let e = total_sum_to c n in let d = passes_sum n (c n) in
      let g = both_below (λ i. total_to w (one i) c n) (λ i. passes (one i) (w.codes n) (c n)) size in omega arith

  total_sum : (c : ℕ → ℕ) → total w all c ≡ sum_below (λ i. total w (one i) c) size
  total_sum c = total_sum_to c w.sequences

  pub nth_at : (j i : ℕ) → i < size → nth_in w size owner (j * size + i) ≡ nth_of w (owner i) j
  nth_at j i h = (λ k. nth_of w (owner (mod-mul-add j size i h k)) (div-mul-add j size i h k))

  -- where the first a events were made, the total is at least a
  pub total_from : (c : ℕ → ℕ) (a : ℕ) → ((b : ℕ) → b < a → IsMade c (nth_in w size owner b)) → a ≤ total w all c
  total_from c a h = let t = total_sum c in let s = stairs_sum size a f.some in
      let u = le_below (λ i. stairs size a i) (λ i. total w (one i) c) size (λ i l. each i l) in omega arith
    where
      each : (i : ℕ) → i < size → stairs size a i ≤ total w (one i) c
      each i l = ⊎_elim
          (λ q. let j : ℕ = total w (one i) c in
          let m : IsMade c (nth_of w (owner i) j) = subst (IsMade c) (nth_at j i l) (h (j * size + i) ((stairs_law size a i j l).0 q)) in
          let z = (total_nth w (one i) (owner i) (f.owned i l) c j).1 m in absurd (omega arith))
          (λ q. q) (cases_lt (total w (one i) c) (stairs size a i))

  -- where no event from the a-th on was made, it is at most a
  pub total_upto : (c : ℕ → ℕ) (a : ℕ) → ((b : ℕ) → a ≤ b → IsMade c (nth_in w size owner b) → ⊥) → total w all c ≤ a
  total_upto c a h = let t = total_sum c in let s = stairs_sum size a f.some in
      let u = le_below (λ i. total w (one i) c) (λ i. stairs size a i) size (λ i l. each i l) in omega arith
    where
      each : (i : ℕ) → i < size → total w (one i) c ≤ stairs size a i
      each i l = ⊎_elim
          (λ q. let j : ℕ = stairs size a i in
          let m = (total_nth w (one i) (owner i) (f.owned i l) c j).0 q in
          absurd (h (j * size + i) (⊎_elim (λ y. let z = (stairs_law size a i j l).1 y in absurd (omega arith)) (λ y. y) (cases_lt (j * size + i) a))
          (subst (IsMade c) (sym (nth_at j i l)) m)))
          (λ q. q) (cases_lt (stairs size a i) (total w (one i) c))

  module _ (c : ℕ → ℕ) (chain : (a : ℕ) → IsMade c (nth_in w size owner (suc a)) → IsMade c (nth_in w size owner a)) where
    pub all_before : (a d : ℕ) → IsMade c (nth_in w size owner (a + d)) → IsMade c (nth_in w size owner a)
    all_before a zero m = subst (λ (x : ℕ). IsMade c (nth_in w size owner x)) (add-zero a) m
    all_before a (suc d) m = all_before a d (chain (a + d) (subst (λ (x : ℕ). IsMade c (nth_in w size owner x)) (add-suc a d) m))

    pub earlier : (a b : ℕ) → a ≤ b → IsMade c (nth_in w size owner b) → IsMade c (nth_in w size owner a)
    earlier a b h m = all_before a (b - a) (let e : b ≡ a + (b - a) = omega arith in subst (λ (x : ℕ). IsMade c (nth_in w size owner x)) e m)

    -- the one law: the total is above a exactly where the event a was made
    pub in_order : (a : ℕ) → (a < total w all c → IsMade c (nth_in w size owner a)) × (IsMade c (nth_in w size owner a) → a < total w all c)
    in_order a = (
      λ x. by (dec_lt (nth_in w size owner a).number (c (nth_in w size owner a).sequence)) x,
      λ m. let z = total_from c (suc a) (λ b l. earlier b a (omega arith) m) in omega arith,
    )
      where
        by : Dec (IsMade c (nth_in w size owner a)) → a < total w all c → IsMade c (nth_in w size owner a)
        by (yes m) x = m
        by (no n) x = let z = total_upto c a (λ b l m. n (earlier a b l m)) in absurd (omega arith)
