-- The lines of windows are those of the run.
use Rattle.std.proofs.Common.{◌≡◌, ℕ, zero, suc, ◌+◌, ◌-◌, ◌*◌, ◌≤◌, List, [], ◌∷◌, ◌++◌, map, take, drop, length, refl, sym, ap, ap₂, arith, ◌∙◌, add-zero, zero-add, min, length-drop}
use Rattle.std.specs.List.{range_with_len, flat_map}
use Rattle.std.proofs.lemmas.List.{append_assoc, take_min}
use Rattle.act_text.specs.Text.{reaction_text, text_from}
use Rattle.word_rule.specs.Windows.{window}
use Rattle.run_laws.specs.Windows.{window_bound, windows_in, starts, reactions_from, window_text, WindowsTellTheRun, WindowsAreFull, WindowsAreShort}
use Rattle.level_meaning.specs.Vectors.{Values}

-- the lines of at most 256 reactions from one on
abbrev full_text : List (List ℕ) → List Values → ℕ → List ℕ
full_text names acts s = text_from s names (take window_bound (drop s acts))

-- the text of rows that follow others
split_text : (names : List (List ℕ)) (k p q : ℕ) (acts : List Values) → text_from k names (take (p + q) acts) ≡ text_from k names (take p acts) ++ text_from (k + p) names (take q (drop p acts))
split_text names k zero q acts = (λ i. text_from (sym (add-zero k) i) names (take (zero-add q i) acts))
split_text names k (suc p) q [] = ap (λ n. text_from k names (take n [])) (let e : suc p + q ≡ suc (p + q) = omega arith in e) ∙ none q
  where
    none : (q : ℕ) → [] ≡ text_from (k + suc p) names (take q [])
    none zero = refl
    none (suc q) = refl
split_text names k (suc p) q (x ∷ acts) =
    ap (λ n. text_from k names (take n (x ∷ acts))) (let e : suc p + q ≡ suc (p + q) = omega arith in e)
    ∙ ap (λ t. reaction_text k 0 names x ++ t) (split_text names (suc k) p q acts)
    ∙ sym (append_assoc (reaction_text k 0 names x) (text_from (suc k) names (take p acts)) (text_from (suc k + p) names (take q (drop p acts))))
    ∙ ap (λ n. (reaction_text k 0 names x ++ text_from (suc k) names (take p acts)) ++ text_from n names (take q (drop p acts))) (let e : suc k + p ≡ k + suc p = omega arith in e)

drop_both : {A : Type 0} (m n : ℕ) (xs : List A) → drop n (drop m xs) ≡ drop (m + n) xs
drop_both zero n xs = ap (λ k. drop k xs) (sym (zero-add n))
drop_both {A = A} (suc m) n [] = none n ∙ ap (λ k. drop k []) (let e : suc (m + n) ≡ suc m + n = omega arith in e)
  where
    none : (n : ℕ) → drop {A = A} n [] ≡ []
    none zero = refl
    none (suc n) = refl
drop_both (suc m) n (x ∷ xs) = drop_both m n xs ∙ ap (λ k. drop k (x ∷ xs)) (let e : suc (m + n) ≡ suc m + n = omega arith in e)

-- the texts of m windows from number a on
texts_from : (names : List (List ℕ)) (acts : List Values) (a m : ℕ)
    → flat_map (full_text names acts) (map (λ w. w * window_bound) (range_with_len a m)) ≡ text_from (a * window_bound) names (take (m * window_bound) (drop (a * window_bound) acts))
texts_from names acts a zero = refl
texts_from names acts a (suc m) =
    ap (λ t. full_text names acts (a * window_bound) ++ t) (texts_from names acts (a + 1) m)
    ∙ (λ i. full_text names acts (a * window_bound) ++ text_from (next i) names (take (m * window_bound) (behind i)))
    ∙ sym (split_text names (a * window_bound) window_bound (m * window_bound) (drop (a * window_bound) acts))
    ∙ ap (λ n. text_from (a * window_bound) names (take n (drop (a * window_bound) acts))) (let e : window_bound + m * window_bound ≡ suc m * window_bound = omega arith in e)
  where
    next : (a + 1) * window_bound ≡ a * window_bound + window_bound
    next = omega arith

    behind : drop ((a + 1) * window_bound) acts ≡ drop window_bound (drop (a * window_bound) acts)
    behind = ap (λ n. drop n acts) (omega arith) ∙ sym (drop_both (a * window_bound) window_bound acts)

take_all : {A : Type 0} (n : ℕ) (xs : List A) → length xs ≤ n → take n xs ≡ xs
take_all zero [] l = refl
take_all (suc n) [] l = refl
take_all zero (x ∷ xs) l = absurd (omega (arith, l))
take_all (suc n) (x ∷ xs) l = ap (λ ys. x ∷ ys) (take_all n xs (omega (arith, l)))

-- there are windows enough
enough : (n : ℕ) → n ≤ windows_in n * window_bound
enough n = omega arith

-- a window ends with the list
short : (s : ℕ) (acts : List Values) → window s (reactions_from (length acts) s) acts ≡ take window_bound (drop s acts)
short s acts = ap (λ n. take n (drop s acts)) (let e = length-drop s acts in ap (min window_bound) (sym e)) ∙ take_min window_bound (drop s acts)

all_short : (names : List (List ℕ)) (acts : List Values) (ss : List ℕ) → flat_map (window_text names acts) ss ≡ flat_map (full_text names acts) ss
all_short names acts [] = refl
all_short names acts (s ∷ ss) = ap₂ (λ (t u : List ℕ). t ++ u) (ap (text_from s names) (short s acts)) (all_short names acts ss)

pub windows_tell : WindowsTellTheRun
windows_tell names acts =
    all_short names acts (starts (length acts)) ∙ texts_from names acts 0 (windows_in (length acts))
    ∙ ap (λ xs. text_from 0 names xs) (take_all (windows_in (length acts) * window_bound) acts (enough (length acts)))

pub windows_full : WindowsAreFull
windows_full n w l = (omega (arith, l), λ m. omega (arith, m))

pub windows_short : WindowsAreShort
windows_short n s l = (omega arith, omega (arith, l))
