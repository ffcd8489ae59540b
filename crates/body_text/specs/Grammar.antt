-- Expressions as they are written, and the tokens that write them.
use Rattle.std.specs.Prelude.{◌≡◌, ◌≢◌, ℕ, suc, ◌<◌, ◌≤◌, List, [], ◌∷◌, ◌++◌, length, take, ℤ, codes}
use Rattle.syn_base.specs.declared.arithmetic.Op.{Op}
use Rattle.syn_base.specs.declared.arithmetic.Op.TheVariants.{
  Add,
  Sub,
  Mul,
  Div,
  Rem,
  Eq,
  Ne,
  Lt,
  Le,
  Gt,
  Ge,
  Min,
  Max,
  Neg,
}
use Rattle.syn_base.specs.Bytes.{Bytes}
use Rattle.body_text.specs.Tokens.{Token, number, name, open_round, close_round, open_square, close_square, comma}

-- An expression as it is written: ports go by name.
pub data Written : Type 0 where
  literal : ℤ → Written
  index : Written
  element : Bytes → Written → Written
  sum_over : Bytes → Written
  negation : Written → Written
  apply : Op → Written → Written → Written
  select : Written → Written → Written → Written

-- The word of an operator.
abbrev pub word_of : Op → Bytes
word_of Add = codes "add"
word_of Sub = codes "sub"
word_of Mul = codes "mul"
word_of Div = codes "div"
word_of Rem = codes "rem"
word_of Eq = codes "eq"
word_of Ne = codes "ne"
word_of Lt = codes "lt"
word_of Le = codes "le"
word_of Gt = codes "gt"
word_of Ge = codes "ge"
word_of Min = codes "min"
word_of Max = codes "max"
word_of Neg = codes "neg"

-- The grammar: the tokens of each form. A name before `(` is a word of a form, a name before `[` a port, and `j` alone
-- the element's number.
abbrev pub written : Written → List Token
written (literal v) = number v ∷ []
written index = name (codes "j") ∷ []
written (element p e) = name p ∷ open_square ∷ (written e ++ close_square ∷ [])
written (sum_over p) = name (codes "sum") ∷ open_round ∷ name p ∷ close_round ∷ []
written (negation a) = name (word_of Neg) ∷ open_round ∷ (written a ++ close_round ∷ [])
written (apply op a b) = name (word_of op) ∷ open_round ∷ (written a ++ comma ∷ (written b ++ close_round ∷ []))
written (select c a b) = name (codes "select") ∷ open_round ∷
    (written c ++ comma ∷ (written a ++ comma ∷ (written b ++ close_round ∷ [])))

-- No operator of two arguments is `neg`, which takes one.
abbrev pub IsProper : Written → Type 0
IsProper (literal v) = Unit {0}
IsProper index = Unit {0}
IsProper (element p e) = IsProper e
IsProper (sum_over p) = Unit {0}
IsProper (negation a) = IsProper a
IsProper (apply op a b) = (op ≢ Neg) × (IsProper a × IsProper b)
IsProper (select c a b) = IsProper c × (IsProper a × IsProper b)

-- These tokens write this expression.
abbrev pub AreWritten : List Token → Written → Type 0
AreWritten ts w = IsProper w × (ts ≡ written w)

-- These are the tokens of one whole expression of the grammar.
abbrev pub IsExpression : List Token → Type 0
IsExpression ts = (w : Written) × AreWritten ts w

-- Some expression's tokens begin with these.
abbrev pub CanBegin : List Token → Type 0
CanBegin ts = (rest : List Token) × IsExpression (ts ++ rest)

-- The tokens up to token i can begin an expression's, and no longer with token i; where i is their number, they end
-- too early.
pub record FailsAt (ts : List Token) (i : ℕ) : Type 0 where
  pub within : i ≤ length ts
  pub begins : CanBegin (take i ts)
  pub stuck : i < length ts → CanBegin (take (suc i) ts) → ⊥
  pub short : i ≡ length ts → IsExpression ts → ⊥
