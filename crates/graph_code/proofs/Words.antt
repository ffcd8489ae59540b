-- Words of a store from a place on.
use Rattle.std.proofs.Common.{◌≡◌, ℕ, ◌+◌, ◌<◌, ◌≤◌, ◌-◌, ℤ, pos, List, length, take, drop, sym, ap, ◌∙◌, arith}
use Rattle.std.proofs.lemmas.List.{ext_get_or, get_or-take, get_or-drop, length-take-le, length-drop, drop-drop, drop-take, take-take}
use Rattle.expression_code.specs.Code.{word, words}

pub words_word : (store : List ℤ) (s n j : ℕ) → j < n → word (words store s n) j ≡ word store (s + j)
words_word store s n j h = get_or-take n (drop s store) j (pos 0) h ∙ get_or-drop s store j (pos 0)

pub words_len : (store : List ℤ) (s n : ℕ) → s + n ≤ length store → length (words store s n) ≡ n
words_len store s n h = length-take-le n (drop s store) (omega (arith, length-drop s store))

-- words that are the same one by one are the same
pub same_words : (a b : List ℤ) (s n : ℕ) → s + n ≤ length a → s + n ≤ length b → ((j : ℕ) → j < n → word a (s + j) ≡ word b (s + j)) → words a s n ≡ words b s n
same_words a b s n p q e =
    ext_get_or (pos 0) (words a s n) (words b s n) (words_len a s n p ∙ sym (words_len b s n q))
    (λ i h. let l : i < n = omega (arith, h, words_len a s n p) in words_word a s n i l ∙ e i l ∙ sym (words_word b s n i l))

pub words_are : (a row : List ℤ) (s n : ℕ) → n ≡ length row → s + n ≤ length a → ((j : ℕ) → j < length row → word a (s + j) ≡ word row j) → words a s n ≡ row
words_are a row s n same p e =
    ext_get_or (pos 0) (words a s n) row (words_len a s n p ∙ same)
    (λ i h. let l : i < n = omega (arith, h, words_len a s n p) in words_word a s n i l ∙ e i (omega (arith, same)))

-- words of what is left after a place
pub words_on : (store : List ℤ) (from s n : ℕ) → words (drop from store) s n ≡ words store (from + s) n
words_on store from s n = ap (take n) (drop-drop s from store)

-- words of words
pub words_within : (store : List ℤ) (s n k m : ℕ) → k + m ≤ n → words (words store s n) k m ≡ words store (s + k) m
words_within store s n k m h =
    let split : n ≡ k + (n - k) = omega arith in
    ap (λ x. take m (drop k (take x (drop s store)))) split
    ∙ ap (take m) (drop-take k (n - k) (drop s store))
    ∙ take-take m (n - k) (drop k (drop s store)) (omega arith)
    ∙ words_on store s k m
