-- The sum of what the actuators take, brought back after each element.
use Rattle.std.proofs.Common.{◌≡◌, ℕ, zero, suc, ◌+◌, ◌≤◌, ℤ, pos, ◌+ℤ◌, List, [], ◌∷◌, ◌++◌, length, drop, refl, sym, ap, ◌∙◌, arith, add-one, w64}
use Rattle.std.specs.Prelude.{slice_index_or}
use Rattle.std.specs.Int.{int_wrap}
use Rattle.std.specs.List.{flat_map}
use Rattle.std.proofs.lemmas.Int.{ints, int_wrap-add_left}
use Rattle.std.proofs.lemmas.List.{drop_all}
use Rattle.syn_base.specs.Arithmetic.{wrapped}
use Rattle.algo_tree.specs.Level.{all_joined}
use Rattle.algo_text.specs.Expr.{total}
use Rattle.syndex_program.specs.Sums.{total_of}
use Rattle.syn_base.specs.Vectors.{Values}

add_assoc_ℤ : (a b c : ℤ) → (a +ℤ b) +ℤ c ≡ a +ℤ (b +ℤ c)
add_assoc_ℤ a b c = omega (arith, ints)

zero_add_ℤ : (a : ℤ) → pos 0 +ℤ a ≡ a
zero_add_ℤ a = omega (arith, ints)

pub add_zero_ℤ : (a : ℤ) → a +ℤ pos 0 ≡ a
add_zero_ℤ a = omega (arith, ints)

-- a number is brought back once
wrapped_once : (x y : ℤ) → wrapped (wrapped x +ℤ y) ≡ wrapped (x +ℤ y)
unfolding int_wrap
wrapped_once x y = int_wrap-add_left w64 x y

pub total_both : (xs ys : List ℤ) → total (xs ++ ys) ≡ total xs +ℤ total ys
total_both [] ys = sym (zero_add_ℤ (total ys))
total_both (x ∷ xs) ys = ap (λ n. x +ℤ n) (total_both xs ys) ∙ sym (add_assoc_ℤ x (total xs) (total ys))

-- one part more is added
pub one_part : (start sum : ℤ) (part rest : List ℤ) → wrapped sum ≡ wrapped (start +ℤ total part) → wrapped (sum +ℤ total rest) ≡ wrapped (start +ℤ total (part ++ rest))
one_part start sum part rest e =
    sym (wrapped_once sum (total rest)) ∙ ap (λ n. wrapped (n +ℤ total rest)) e ∙ wrapped_once (start +ℤ total part) (total rest)
    ∙ ap wrapped (add_assoc_ℤ start (total part) (total rest)) ∙ ap (λ n. wrapped (start +ℤ n)) (sym (total_both part rest))

joined_at : (row : Values) (a : ℕ) → all_joined (drop a row) ≡ slice_index_or row a [] ++ all_joined (drop (suc a) row)
joined_at [] zero = refl
joined_at [] (suc a) = refl
joined_at (v ∷ vs) zero = refl
joined_at (v ∷ vs) (suc a) = joined_at vs a

mapped_at : (rows : List Values) (k : ℕ) → flat_map all_joined (drop k rows) ≡ all_joined (slice_index_or rows k []) ++ flat_map all_joined (drop (suc k) rows)
mapped_at [] zero = refl
mapped_at [] (suc k) = refl
mapped_at (r ∷ rs) zero = refl
mapped_at (r ∷ rs) (suc k) = mapped_at rs k

-- one vector of a row more
pub one_vector : (start sum : ℤ) (row : Values) (a : ℕ) → wrapped sum ≡ wrapped (start +ℤ total (slice_index_or row a []))
    → wrapped (sum +ℤ total (all_joined (drop (a + 1) row))) ≡ wrapped (start +ℤ total (all_joined (drop a row)))
one_vector start sum row a e =
    ap (λ n. wrapped (sum +ℤ total (all_joined (drop n row)))) (add-one a)
    ∙ one_part start sum (slice_index_or row a []) (all_joined (drop (suc a) row)) e
    ∙ ap (λ v. wrapped (start +ℤ total v)) (sym (joined_at row a))

-- one row more
pub one_row : (start sum : ℤ) (rows : List Values) (k : ℕ) → wrapped sum ≡ wrapped (start +ℤ total (all_joined (slice_index_or rows k [])))
    → wrapped (sum +ℤ total_of (drop (k + 1) rows)) ≡ wrapped (start +ℤ total_of (drop k rows))
one_row start sum rows k e =
    ap (λ n. wrapped (sum +ℤ total_of (drop n rows))) (add-one k)
    ∙ one_part start sum (all_joined (slice_index_or rows k [])) (flat_map all_joined (drop (suc k) rows)) e
    ∙ ap (λ v. wrapped (start +ℤ total v)) (sym (mapped_at rows k))

-- nothing is left
pub row_ends : (sum : ℤ) (row : Values) (n : ℕ) → length row ≤ n → wrapped (sum +ℤ total (all_joined (drop n row))) ≡ wrapped sum
row_ends sum row n l = ap (λ r. wrapped (sum +ℤ total (all_joined r))) (drop_all n row l) ∙ ap wrapped (add_zero_ℤ sum)

pub rows_end : (sum : ℤ) (rows : List Values) (n : ℕ) → length rows ≤ n → wrapped (sum +ℤ total_of (drop n rows)) ≡ wrapped sum
rows_end sum rows n l = ap (λ r. wrapped (sum +ℤ total_of r)) (drop_all n rows l) ∙ ap wrapped (add_zero_ℤ sum)
