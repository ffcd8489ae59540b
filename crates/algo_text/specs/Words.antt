-- What the words of a line are: names, numbers, lengths, ends of edges.
use Rattle.std.specs.Prelude.{
  ℕ,
  Bool,
  ◌&&◌,
  ◌==◌,
  nat_le,
  Option,
  Some,
  None,
  if◌then◌else◌,
  ℤ,
  pos,
  negsuc,
  Result,
  Ok,
  Err,
  ◌++◌,
  ◌∷◌,
}
use Rattle.std.specs.List.{before_first, after_first}
use Rattle.syn_base.specs.Name.{is_name}
use Rattle.syn_base.specs.Integer.{integer_of}
use Rattle.syn_base.specs.declared.integer.NumFault.{NumFault}
use Rattle.algo_text.specs.declared.definition.End.{End}
use Rattle.syn_base.specs.Bytes.{Bytes}

-- The number that a word is.
abbrev pub number_by : Result ℤ NumFault → Option ℤ
number_by (Ok v) = Some v
number_by (Err e) = None

-- The number that a word is, or none if it is no number or 64 bits do not hold it.
abbrev pub number_of : Bytes → Option ℤ
number_of w = number_by (integer_of w)

-- A number that is not below 1.
abbrev pub count_by : Option ℤ → Option ℕ
count_by (Some (pos n)) = if n == 0 then None else Some n
count_by (Some (negsuc n)) = None
count_by None = None

-- A length, or a number of copies.
abbrev pub count_of : Bytes → Option ℕ
count_of w = count_by (number_of w)

-- The count as the number of a mark; none if there is no count, or if it is above 16.
abbrev pub period_by : Option ℕ → Option ℕ
period_by (Some n) = if nat_le n 16 then Some n else None
period_by None = None

-- The number of a mark, from 1 to 16.
abbrev pub period_of : Bytes → Option ℕ
period_of w = period_by (count_of w)

-- The byte is the dot between a reference and its port.
abbrev pub is_dot : ℕ → Bool
is_dot b = b == 46

-- An end of an edge: a port of the graph itself, or a reference and its port.
abbrev pub end_of : Bytes → Option End
end_of w =
    if is_name w then Some (record { owner = None; port = w })
    else (if is_name (before_first is_dot w) && is_name (after_first is_dot w)
    then Some (record { owner = Some (before_first is_dot w); port = after_first is_dot w }) else None)

-- The word of a port: `OWNER.PORT` if a reference owns it, and only `PORT` if none does.
abbrev pub owned : Option Bytes → Bytes → Bytes
owned None port = port
owned (Some owner) port = owner ++ 46 ∷ port

-- The word of an end of an edge: the name of a port, with its reference and a dot in
-- front if it has one.
abbrev pub end_word : End → Bytes
end_word e = owned e.owner e.port
