-- The words of the forms.
use Rattle.std.specs.Prelude.{List, [], ◌∷◌, Option, Some, None, cond, codes}
use Rattle.std.specs.Str.{bytes_eq}
use Rattle.syn_base.specs.declared.arithmetic.Op.TheVariants.{
  Add,
  Sub,
  Mul,
  Div,
  Rem,
  Eq,
  Ne,
  Lt,
  Le,
  Gt,
  Ge,
  Min,
  Max,
  Neg,
}
use Rattle.body_text.specs.declared.word.Word.{Word}
use Rattle.body_text.specs.declared.word.Word.TheVariants.{Select, Sum, Negation, Operator}
use Rattle.syn_base.specs.Bytes.{Bytes}
use Rattle.body_text.specs.Grammar.{word_of}

-- A word's bytes, by which it is read and printed.
abbrev pub text_of : Word → Bytes
text_of Select = codes "select"
text_of Sum = codes "sum"
text_of Negation = word_of Neg
text_of (Operator op) = word_of op

-- The words, each once.
abbrev pub words : List Word
words = Select ∷ Sum ∷ Negation ∷
    Operator Add ∷ Operator Sub ∷ Operator Mul ∷ Operator Div ∷ Operator Rem ∷
    Operator Eq ∷ Operator Ne ∷ Operator Lt ∷ Operator Le ∷ Operator Gt ∷ Operator Ge ∷
    Operator Min ∷ Operator Max ∷ []

-- The first of these words that a name is.
abbrev pub found_in : List Word → Bytes → Option Word
found_in [] p = None
found_in (w ∷ ws) p = cond (bytes_eq p (text_of w)) (Some w) (found_in ws p)

-- The form that a name begins where `(` follows.
unfoldable pub form_of : Bytes → Option Word
form_of p = found_in words p
