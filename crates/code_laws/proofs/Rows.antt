-- Worked programs that read back, and programs that lack one thing that the laws ask for and do not read back.
use Rattle.std.proofs.Common.{◌≡◌, ℕ, true, [], ◌∷◌, Some, None, Result, Ok, refl}
use Rattle.std.specs.Prelude.{codes}
use Rattle.std.specs.Fmt.{digits}
use Rattle.sequence_build_laws.specs.Graph.{Graph}
use Rattle.sequence_build_laws.specs.declared.MediumKind.TheVariants.{Multipoint}
use Rattle.sequence_build_laws.specs.Archi.{Architecture}
use Rattle.sequence_build_laws.specs.declared.Instr.TheVariants.{Suc0, Suc1, Pre0, Pre1, Call, Send, Recv}
use Rattle.sequence_build_laws.specs.declared.Program.{Program}
use Rattle.macro_code.specs.Text.{macro_code}
use Rattle.macro_code.proofs.Rows.{graph, archi, code, buffer, bus_program}
use Rattle.macro_code.specs.Refusals.{CodeRefusal}
use Rattle.macro_code.specs.declared.fault.CodeCause.TheVariants.{BadLine, BadArgument, UnknownName}
use Rattle.syn_base.specs.Bytes.{Bytes}
use Rattle.macro_code.specs.Forms.{macro_of}
use Rattle.macro_code.specs.ReadText.{program_in}
use Rattle.text_lines.specs.Refusals.{refused}

-- two operators on a bus; their buffers and pairs stand in the text operator by operator
abbrev two : Architecture
two = archi (codes "P" ∷ codes "Q" ∷ []) (record { name = codes "bus"; kind = Multipoint; fixed = 1; per = 1; stands = 0 ∷ 1 ∷ [] } ∷ [])

abbrev back : Program → Graph → Architecture → Result Program CodeRefusal
back p g a = program_in (macro_code p g a) g a

abbrev five : Graph
five = graph (codes "s" ∷ codes "f" ∷ codes "g" ∷ codes "a" ∷ codes "b" ∷ [])

one_place : back (bus_program 1 (Pre0 0 ∷ []) (Pre0 1 ∷ [])) five two ≡ Ok (bus_program 1 (Pre0 0 ∷ []) (Pre0 1 ∷ []))
unfolding macro_of digits
one_place = refl

two_places : back (bus_program 2 (Pre0 0 ∷ Pre0 0 ∷ []) (Pre0 1 ∷ Pre0 1 ∷ [])) five two ≡ Ok (bus_program 2 (Pre0 0 ∷ Pre0 0 ∷ []) (Pre0 1 ∷ Pre0 1 ∷ []))
unfolding macro_of digits
two_places = refl

-- Buffers and pairs that alternate between the operators come back in their order.
abbrev mixed : Program
mixed = record {
  buffers = buffer 1 8 3 ∷ buffer 0 1 1 ∷ buffer 1 1 1 ∷ buffer 0 8 3 ∷ [];
  pairs = 1 ∷ 0 ∷ [];
  seqs = code 0 None [] (Call 0 [] (1 ∷ []) ∷ Suc1 1 ∷ Call 1 (1 ∷ 3 ∷ []) [] ∷ Pre0 1 ∷ [])
      ∷ code 0 (Some 0) (Pre0 1 ∷ Pre0 1 ∷ Pre0 1 ∷ []) (Suc0 1 ∷ Recv 3 1 ∷ Pre1 1 ∷ [])
      ∷ code 1 None (Pre0 0 ∷ []) (Suc0 0 ∷ Call 2 [] (0 ∷ 2 ∷ []) ∷ Pre1 0 ∷ [])
      ∷ code 1 (Some 0) [] (Suc1 0 ∷ Send 0 0 ∷ Pre0 0 ∷ []) ∷ [];
}

order_back : back mixed five two ≡ Ok mixed
unfolding macro_of digits
order_back = refl

-- An operator whose name is none ends its word, or has no form of an argument.
abbrev alone : Bytes → Architecture
alone name = archi (name ∷ []) []

abbrev small : ℕ → Program
small len = record { buffers = buffer 0 len 1 ∷ []; pairs = []; seqs = code 0 None [] (Call 0 [] (0 ∷ []) ∷ Call 1 (0 ∷ []) [] ∷ []) ∷ [] }

abbrev pair_of : Bytes → Bytes → Graph
pair_of first second = graph (first ∷ second ∷ [])

alone_back : back (small 1) (pair_of (codes "s") (codes "a")) (alone (codes "P")) ≡ Ok (small 1)
unfolding macro_of digits
alone_back = refl

two_words : back (small 1) (pair_of (codes "s") (codes "a")) (alone (codes "P Q")) ≡ refused 1 BadLine
unfolding macro_of digits
two_words = refl

no_name : back (small 1) (pair_of (codes "s") (codes "a")) (alone (codes "2")) ≡ refused 1 BadArgument
unfolding macro_of digits
no_name = refl

-- Of two operations with one name the first is read, and a name that is no path ends its form.
same_names : back (small 1) (pair_of (codes "s") (codes "s")) (alone (codes "P"))
    ≡ Ok (record { buffers = buffer 0 1 1 ∷ []; pairs = []; seqs = code 0 None [] (Call 0 [] (0 ∷ []) ∷ Call 0 (0 ∷ []) [] ∷ []) ∷ [] })
unfolding macro_of digits
same_names = refl

no_path : back (small 1) (pair_of (codes "s(") (codes "a")) (alone (codes "P")) ≡ refused 6 BadLine
unfolding macro_of digits
no_path = refl

-- A program that is not well formed: a buffer has no element, or is named on another operator.
no_element : back (small 0) (pair_of (codes "s") (codes "a")) (alone (codes "P")) ≡ refused 3 BadArgument
unfolding macro_of digits
no_element = refl

abbrev on_operator : ℕ → Program
on_operator o = record { buffers = buffer o 1 1 ∷ []; pairs = []; seqs = code 0 None [] [] ∷ code 1 None [] (Call 0 [] (0 ∷ []) ∷ []) ∷ [] }

elsewhere : back (on_operator 0) (pair_of (codes "s") (codes "a")) (archi (codes "P" ∷ codes "Q" ∷ []) []) ≡ refused 12 (UnknownName (codes "b0"))
unfolding macro_of digits
elsewhere = refl
