-- The canonical text of an expression: no blanks, and canonical numbers.
use Rattle.std.specs.Prelude.{ℕ, List, [], ◌++◌, slice_index_or, codes}
use Rattle.std.specs.Fmt.{signed_decimal}
use Rattle.syn_base.specs.declared.arithmetic.Op.TheVariants.{Neg}
use Rattle.body_lang.specs.Expr.{Expr, literal, index, element, sum_over, negation, apply, select}
use Rattle.syn_base.specs.Bytes.{Bytes}
use Rattle.body_text.specs.Grammar.{word_of}
use Rattle.body_text.specs.Reads.{IsBody}

module _ (ports : List Bytes) where
  -- The name of the port with this number, counted from 0; the empty text if there is no such port.
  abbrev pub port_name : ℕ → Bytes
  port_name k = slice_index_or ports k []

  -- The text of an expression over these ports.
  abbrev pub canonical : Expr → Bytes
  canonical (literal v) = signed_decimal v
  canonical index = codes "j"
  canonical (element k e) = port_name k ++ (codes "[" ++ (canonical e ++ codes "]"))
  canonical (sum_over k) = codes "sum(" ++ (port_name k ++ codes ")")
  canonical (negation a) = word_of Neg ++ (codes "(" ++ (canonical a ++ codes ")"))
  canonical (apply op a b) = word_of op ++ (codes "(" ++ (canonical a ++ (codes "," ++ (canonical b ++ codes ")"))))
  canonical (select c a b) = codes "select(" ++
      (canonical c ++ (codes "," ++ (canonical a ++ (codes "," ++ (canonical b ++ codes ")")))))

-- Some text over these ports is the expression.
abbrev pub IsRead : List Bytes → Expr → Type 0
IsRead ports e = (text : Bytes) × IsBody ports text e
