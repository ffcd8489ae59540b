-- Reading an expression from the front of a list of tokens, with a bound on how deep expressions nest.
use Rattle.std.specs.Prelude.{ℕ, zero, suc, Bool, true, false, cond, List, [], ◌∷◌, drop, Option, Some, None, codes}
use Rattle.std.specs.Str.{bytes_eq}
use Rattle.syn_base.specs.declared.arithmetic.Op.{Op}
use Rattle.body_text.specs.declared.token.Mark.{Mark}
use Rattle.body_text.specs.declared.token.Mark.TheVariants.{OpenRound, CloseRound, OpenSquare, CloseSquare, Comma}
use Rattle.body_text.specs.declared.word.Word.{Word}
use Rattle.body_text.specs.declared.word.Word.TheVariants.{Select, Sum, Negation, Operator}
use Rattle.syn_base.specs.Bytes.{Bytes}
use Rattle.body_text.specs.Tokens.{Token, number, name, open_round, close_round, open_square, close_square, comma}
use Rattle.body_text.specs.Grammar.{Written, literal, index, element, sum_over, negation, apply, select}
use Rattle.body_text.specs.Words.{form_of}

-- What reading from the front of a list of tokens comes to.
pub data Parse : Type 0 where
  -- An expression, and the tokens after it.
  good : Written → List Token → Parse
  -- The tokens from the first one on that cannot stand there.
  stops : List Token → Parse

-- What goes on after an expression, where one was read.
abbrev pub andthen : Parse → (Written → List Token → Parse) → Parse
andthen (good w rest) go = go w rest
andthen (stops rest) go = stops rest

-- The token is this mark.
abbrev pub is_mark : Mark → Token → Bool
is_mark OpenRound open_round = true
is_mark CloseRound close_round = true
is_mark OpenSquare open_square = true
is_mark CloseSquare close_square = true
is_mark Comma comma = true
is_mark _ _ = false

-- The first of these tokens, or none if the list is empty.
abbrev pub first_token : List Token → Option Token
first_token [] = None
first_token (t ∷ ts) = Some t

-- There is a token, and it is this mark.
abbrev pub is_first : Mark → Option Token → Bool
is_first m None = false
is_first m (Some t) = is_mark m t

-- The first token is this mark.
abbrev pub begins : Mark → List Token → Bool
begins m ts = is_first m (first_token ts)

-- What goes on after a mark, which has to stand at the front.
abbrev pub behind : Mark → List Token → (List Token → Parse) → Parse
behind m ts go = cond (begins m ts) (go (drop 1 ts)) (stops ts)

-- The number of the element, where the name is `j`.
abbrev pub index_of : Bytes → List Token → Parse
index_of p ts = cond (bytes_eq p (codes "j")) (good index ts) (stops ts)

-- What follows `sum(`: the name of a port and `)`.
abbrev pub sum_of : List Token → Parse
sum_of (name p ∷ ts) = behind CloseRound ts (λ rest. good (sum_over p) rest)
sum_of ts = stops ts

module _ (read : List Token → Parse) where
  -- An expression with a mark after it.
  abbrev pub ended : Mark → List Token → Parse
  ended m ts = andthen (read ts) (λ w rest. behind m rest (λ more. good w more))

  -- What follows the name of a port and `[`.
  abbrev pub element_of : Bytes → List Token → Parse
  element_of p ts = andthen (ended CloseSquare ts) (λ e rest. good (element p e) rest)

  -- What follows `neg(`.
  abbrev pub negation_of : List Token → Parse
  negation_of ts = andthen (ended CloseRound ts) (λ a rest. good (negation a) rest)

  -- What follows an operator's word and `(`.
  abbrev pub apply_of : Op → List Token → Parse
  apply_of op ts =
      andthen (ended Comma ts) (λ a rest. andthen (ended CloseRound rest) (λ b last. good (apply op a b) last))

  -- What follows `select(`.
  abbrev pub select_of : List Token → Parse
  select_of ts =
      andthen (ended Comma ts) (λ c rest.
      andthen (ended Comma rest) (λ a more.
      andthen (ended CloseRound more) (λ b last. good (select c a b) last)))

  -- What follows a word and `(`.
  abbrev pub arguments_of : Word → List Token → Parse
  arguments_of Select ts = select_of ts
  arguments_of Sum ts = sum_of ts
  arguments_of Negation ts = negation_of ts
  arguments_of (Operator op) ts = apply_of op ts

  -- What follows a name that is no port: the arguments of its form, or nothing where it is `j`.
  abbrev pub opened : Option Word → Bytes → List Token → Parse
  opened None p ts = index_of p ts
  opened (Some w) p ts = cond (begins OpenRound ts) (arguments_of w (drop 1 ts)) (index_of p ts)

  -- What follows a name.
  abbrev pub named : Bytes → List Token → Parse
  named p ts = cond (begins OpenSquare ts) (element_of p (drop 1 ts)) (opened (form_of p) p ts)

  -- An expression, whatever it begins with, where those inside it are read so.
  abbrev pub expression_of : List Token → Parse
  expression_of (number v ∷ ts) = good (literal v) ts
  expression_of (name p ∷ ts) = named p ts
  expression_of ts = stops ts

-- An expression that nests less than this deep.
abbrev pub parse : ℕ → List Token → Parse
parse zero ts = stops ts
parse (suc n) ts = expression_of (λ xs. parse n xs) ts

-- An expression after which nothing may follow.
abbrev pub alone : Parse → Parse
alone (good w []) = good w []
alone (good w (t ∷ ts)) = stops (t ∷ ts)
alone (stops rest) = stops rest
