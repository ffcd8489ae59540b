-- The ports that a written expression names.
use Rattle.std.specs.Prelude.{ℕ, ◌+◌, Bool, cond, List, [], ◌∷◌, ◌++◌, length, Option, Some, None}
use Rattle.std.specs.List.{list_any, position_or_len}
use Rattle.std.specs.Str.{bytes_eq}
use Rattle.body_lang.specs.Expr.{Expr}
use Rattle.body_lang.specs.Expr as numbered
use Rattle.syn_base.specs.Bytes.{Bytes}
use Rattle.body_text.specs.Grammar.{Written, literal, index, element, sum_over, negation, apply, select, written}

-- The number of the token that names a port, and the name.
pub record Naming : Type 0 where
  pub token : ℕ
  pub port : Bytes

-- The ports that a written expression names, in order, where its first token has this number.
abbrev pub namings : ℕ → Written → List Naming
namings at (literal v) = []
namings at index = []
namings at (element p e) = record { token = at; port = p } ∷ namings (at + 2) e
namings at (sum_over p) = record { token = at + 2; port = p } ∷ []
namings at (negation a) = namings (at + 2) a
namings at (apply op a b) = namings (at + 2) a ++ namings (at + 3 + length (written a)) b
namings at (select c a b) = namings (at + 2) c ++
    (namings (at + 3 + length (written c)) a ++ namings (at + 4 + length (written c) + length (written a)) b)

module _ (ports : List Bytes) where
  -- One of the ports has this name.
  abbrev pub is_port : Bytes → Bool
  is_port p = list_any (bytes_eq p) ports

  -- The token of the first naming of a port that is none.
  abbrev pub first_unknown : List Naming → Option ℕ
  first_unknown [] = None
  first_unknown (n ∷ ns) = cond (is_port n.port) (first_unknown ns) (Some n.token)

  -- The name of the first port that an expression names and that is not there, where tokens count
  -- from 0.
  abbrev pub unknown : Written → Option ℕ
  unknown w = first_unknown (namings 0 w)

  -- The number of the port of this name, and the number of the ports where there is none.
  abbrev pub port_number : Bytes → ℕ
  port_number p = position_or_len (bytes_eq p) ports

  -- An expression as it is written, with the numbers of its ports in place of their names.
  abbrev pub resolved : Written → Expr
  resolved (literal v) = numbered.literal v
  resolved index = numbered.index
  resolved (element p e) = numbered.element (port_number p) (resolved e)
  resolved (sum_over p) = numbered.sum_over (port_number p)
  resolved (negation a) = numbered.negation (resolved a)
  resolved (apply op a b) = numbered.apply op (resolved a) (resolved b)
  resolved (select c a b) = numbered.select (resolved c) (resolved a) (resolved b)
