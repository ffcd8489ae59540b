-- A code of an expression: its heads in order, the outer one first.
use Rattle.std.specs.Prelude.{◌≡◌, ℕ, ℤ, List, [], ◌∷◌, ◌++◌}
use Rattle.std.proofs.Common.{refl, ap, ◌∙◌, sym, append_assoc, append-nil}
use Rattle.std.specs.Coded.{Coded, code_by, coded_list}
use Rattle.syn_base.specs.declared.arithmetic.Op.{Op}
use Rattle.body_lang.specs.Expr.{Expr, literal, index, element, sum_over, negation, apply, select}

-- An expression without those inside it.
pub data Head : Type 0 where
  is_literal : ℤ → Head
  is_index : Head
  is_element : ℕ → Head
  is_sum : ℕ → Head
  is_negation : Head
  is_apply : Op → Head
  is_select : Head

-- The heads of an expression, the outer one first.
abbrev pub heads : Expr → List Head
heads (literal v) = is_literal v ∷ []
heads index = is_index ∷ []
heads (element k e) = is_element k ∷ heads e
heads (sum_over k) = is_sum k ∷ []
heads (negation e) = is_negation ∷ heads e
heads (apply op a b) = is_apply op ∷ (heads a ++ heads b)
heads (select c a b) = is_select ∷ (heads c ++ (heads a ++ heads b))

-- A head takes as many of the expressions after it as it has inside.
abbrev pub around : (Expr → Expr) → List Expr → List Expr
around f [] = []
around f (e ∷ es) = f e ∷ es

abbrev pub around_two : (Expr → Expr → Expr) → List Expr → List Expr
around_two f [] = []
around_two f (e ∷ es) = around (f e) es

abbrev pub around_three : (Expr → Expr → Expr → Expr) → List Expr → List Expr
around_three f [] = []
around_three f (e ∷ es) = around_two (f e) es

-- A head with what it takes, before the expressions that are left.
abbrev pub with_head : Head → List Expr → List Expr
with_head (is_literal v) es = literal v ∷ es
with_head is_index es = index ∷ es
with_head (is_element k) es = around (element k) es
with_head (is_sum k) es = sum_over k ∷ es
with_head is_negation es = around negation es
with_head (is_apply op) es = around_two (apply op) es
with_head is_select es = around_three select es

-- The expressions that heads build.
abbrev pub built : List Head → List Expr
built [] = []
built (h ∷ hs) = with_head h (built hs)

-- The first of these expressions: of those that the heads of one build, that one.
abbrev pub first_of_all : List Expr → Expr
first_of_all [] = index
first_of_all (e ∷ es) = e

built-heads : (e : Expr) (hs : List Head) → built (heads e ++ hs) ≡ e ∷ built hs
built-heads (literal v) hs = refl
built-heads index hs = refl
built-heads (element k e) hs = ap (around (element k)) (built-heads e hs)
built-heads (sum_over k) hs = refl
built-heads (negation e) hs = ap (around negation) (built-heads e hs)
built-heads (apply op a b) hs =
    ap (λ xs. around_two (apply op) (built xs)) (append_assoc (heads a) (heads b) hs)
    ∙ ap (around_two (apply op)) (built-heads a (heads b ++ hs) ∙ ap (λ es. a ∷ es) (built-heads b hs))
built-heads (select c a b) hs =
    ap (λ xs. around_three select (built xs))
    (append_assoc (heads c) (heads a ++ heads b) hs ∙ ap (λ xs. heads c ++ xs) (append_assoc (heads a) (heads b) hs))
    ∙ ap (around_three select)
    (built-heads c (heads a ++ (heads b ++ hs)) ∙
    ap (λ es. c ∷ es) (built-heads a (heads b ++ hs) ∙ ap (λ es. a ∷ es) (built-heads b hs)))

pub back_to : (e : Expr) → first_of_all (built (heads e)) ≡ e
back_to e = ap (λ hs. first_of_all (built hs)) (sym (append-nil (heads e))) ∙ ap first_of_all (built-heads e [])

-- Expressions have a code where heads have one, so that two of them are told apart by their codes.
abbrev pub expr_code : Coded Head → Coded Expr
expr_code head = code_by (List Head) (coded_list head) heads (λ hs. first_of_all (built hs)) back_to
