-- The tokens that an expression writes are read back, whatever follows them.
use Rattle.std.proofs.Common.{◌≡◌, ℕ, zero, suc, ◌+◌, ◌<◌, false, Bool, cond, Option, Some, None, List, [], ◌∷◌, ◌++◌, length, drop, refl, arith, ap, sym, ◌∙◌, append-nil, codes}
use Rattle.std.proofs.lemmas.List.{length-append}
use Rattle.syn_base.specs.declared.arithmetic.Op.TheVariants.{Neg}
use Rattle.body_text.specs.declared.token.Mark.{Mark}
use Rattle.body_text.specs.declared.token.Mark.TheVariants.{CloseRound, OpenSquare, CloseSquare, Comma}
use Rattle.body_text.specs.declared.word.Word.{Word}
use Rattle.body_text.specs.declared.word.Word.TheVariants.{Select, Sum, Negation, Operator}
use Rattle.body_text.specs.Tokens.{Token, name, open_round, close_round, open_square, close_square, comma}
use Rattle.body_text.specs.Cut.{mark_view}
use Rattle.body_text.specs.Grammar.{Written, literal, index, element, sum_over, negation, apply, select, written, word_of, IsProper, AreWritten}
use Rattle.body_text.specs.Words.{form_of, text_of}
use Rattle.body_text.specs.Parse.{Parse, good, stops, andthen, behind, begins, is_mark, ended, element_of, negation_of, apply_of, select_of, arguments_of, opened, parse}
use Rattle.body_text.proofs.Fronts.{IsClear, clear_first, mark_itself, one_tail, two_tail, three_tail, operator_named, select_named, sum_named, neg_is_negation, index_is_no_word}

-- so deep, expressions of fewer tokens are read
abbrev pub Completes : ℕ → Type 0
Completes n = (w : Written) (rest : List Token) → IsProper w → IsClear w rest → length (written w) < n → parse n (written w ++ rest) ≡ good w rest

-- An expression with a mark after it is read.
pub ended_complete : (n : ℕ) → Completes n → (m : Mark) → is_mark OpenSquare (mark_view m) ≡ false → (w : Written) (rest : List Token) → IsProper w → length (written w) < n
    → ended (parse n) m (written w ++ mark_view m ∷ rest) ≡ good w rest
ended_complete n below m square w rest proper short =
    let clear : IsClear w (mark_view m ∷ rest) = clear_first w (Some (mark_view m)) (mark_view m ∷ rest) refl square in
    ap (λ (p : Parse). andthen p (λ w rest. behind m rest (λ more. good w more))) (below w (mark_view m ∷ rest) proper clear short)
    ∙ ap (λ (b : Bool). cond b (good w rest) (stops (mark_view m ∷ rest))) (mark_itself m)

-- A word before `(` begins its form.
pub word_goes : (n : ℕ) (f : Word) (xs : List Token) → form_of (text_of f) ≡ Some f → parse (suc n) (name (text_of f) ∷ open_round ∷ xs) ≡ arguments_of (parse n) f xs
word_goes n f xs e = ap (λ (o : Option Word). opened (parse n) o (text_of f) (open_round ∷ xs)) e

length_one : (s t : Token) (xs : List Token) (u : Token) → length (s ∷ t ∷ (xs ++ u ∷ [])) ≡ length xs + 3
length_one s t xs u = omega (arith, length-append xs (u ∷ []))

length_two : (s t : Token) (xs ys : List Token) (u v : Token) → length (s ∷ t ∷ (xs ++ u ∷ (ys ++ v ∷ []))) ≡ length xs + length ys + 4
length_two s t xs ys u v = omega (arith, length-append xs (u ∷ (ys ++ v ∷ [])), length-append ys (v ∷ []))

length_three : (s t : Token) (xs ys zs : List Token) (u v w : Token) → length (s ∷ t ∷ (xs ++ u ∷ (ys ++ v ∷ (zs ++ w ∷ [])))) ≡ length xs + length ys + length zs + 5
length_three s t xs ys zs u v w = omega (arith, length-append xs (u ∷ (ys ++ v ∷ (zs ++ w ∷ []))), length-append ys (v ∷ (zs ++ w ∷ [])), length-append zs (w ∷ []))

index_complete : (n : ℕ) (rest : List Token) → begins OpenSquare rest ≡ false → parse (suc n) (name (codes "j") ∷ rest) ≡ good index rest
index_complete n rest clear =
    ap (λ (b : Bool). cond b (element_of (parse n) (codes "j") (drop 1 rest)) (opened (parse n) (form_of (codes "j")) (codes "j") rest)) clear
    ∙ ap (λ (o : Option Word). opened (parse n) o (codes "j") rest) index_is_no_word

complete_step : (n : ℕ) → Completes n → Completes (suc n)
complete_step n below (literal v) rest proper clear short = refl
complete_step n below index rest proper clear short = index_complete n rest clear
complete_step n below (element p e) rest proper clear short =
    let less : length (written e) < n = omega (arith, length_one (name p) open_square (written e) close_square) in
    ap (λ xs. element_of (parse n) p xs) (sym (one_tail (written e) close_square rest))
    ∙ ap (λ (q : Parse). andthen q (λ e rest. good (element p e) rest)) (ended_complete n below CloseSquare refl e rest proper less)
complete_step n below (sum_over p) rest proper clear short = word_goes n Sum (name p ∷ close_round ∷ rest) sum_named
complete_step n below (negation a) rest proper clear short =
    let less : length (written a) < n = omega (arith, length_one (name (word_of Neg)) open_round (written a) close_round) in
    word_goes n Negation _ neg_is_negation
    ∙ ap (λ xs. negation_of (parse n) xs) (sym (one_tail (written a) close_round rest))
    ∙ ap (λ (q : Parse). andthen q (λ a rest. good (negation a) rest)) (ended_complete n below CloseRound refl a rest proper less)
complete_step n below (apply op a b) rest proper clear short =
    let size = length_two (name (word_of op)) open_round (written a) (written b) comma close_round in
    word_goes n (Operator op) _ (operator_named op proper.0)
    ∙ ap (λ xs. apply_of (parse n) op xs) (sym (two_tail (written a) (written b) comma close_round rest))
    ∙ ap (λ (q : Parse). andthen q (λ a rest. andthen (ended (parse n) CloseRound rest) (λ b last. good (apply op a b) last)))
    (ended_complete n below Comma refl a (written b ++ close_round ∷ rest) proper.1.0 (omega (arith, size)))
    ∙ ap (λ (q : Parse). andthen q (λ b last. good (apply op a b) last)) (ended_complete n below CloseRound refl b rest proper.1.1 (omega (arith, size)))
complete_step n below (select c a b) rest proper clear short =
    let size = length_three (name (codes "select")) open_round (written c) (written a) (written b) comma comma close_round in
    word_goes n Select _ select_named
    ∙ ap (λ xs. select_of (parse n) xs) (sym (three_tail (written c) (written a) (written b) comma comma close_round rest))
    ∙ ap (λ (q : Parse). andthen q (λ c rest. andthen (ended (parse n) Comma rest) (λ a more. andthen (ended (parse n) CloseRound more) (λ b last. good (select c a b) last))))
    (ended_complete n below Comma refl c (written a ++ comma ∷ (written b ++ close_round ∷ rest)) proper.0 (omega (arith, size)))
    ∙ ap (λ (q : Parse). andthen q (λ a more. andthen (ended (parse n) CloseRound more) (λ b last. good (select c a b) last)))
    (ended_complete n below Comma refl a (written b ++ close_round ∷ rest) proper.1.0 (omega (arith, size)))
    ∙ ap (λ (q : Parse). andthen q (λ b last. good (select c a b) last)) (ended_complete n below CloseRound refl b rest proper.1.1 (omega (arith, size)))

pub complete : (n : ℕ) → Completes n
complete zero w rest proper clear short = absurd (omega arith)
complete (suc n) w rest proper clear short = complete_step n (λ v more p c s. complete n v more p c s) w rest proper clear short

clear_end : (w : Written) → IsClear w []
clear_end w = clear_first w None [] refl refl

-- Alone, the tokens of an expression are read with nothing after.
pub complete_alone : (n : ℕ) (ts : List Token) (w : Written) → AreWritten ts w → length ts < n → parse n ts ≡ good w []
complete_alone n ts w is short =
    let all : ts ≡ written w ++ [] = is.1 ∙ sym (append-nil (written w)) in
    ap (parse n) all ∙ complete n w [] is.0 (clear_end w) (omega (arith, ap length is.1))

-- Tokens are at most one expression's.
pub one_expression : (ts : List Token) (v w : Written) → AreWritten ts v → AreWritten ts w → v ≡ w
one_expression ts v w is also =
    let first = complete_alone (suc (length ts)) ts v is (omega arith) in
    let second = complete_alone (suc (length ts)) ts w also (omega arith) in
    cc
