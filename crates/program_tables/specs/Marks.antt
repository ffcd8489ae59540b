-- The places in the loops of a program at which numbers are named, in order.
use Rattle.std.specs.Prelude.{ℕ, ◌+◌, Bool, false, ◌&&◌, nat_eq, List, [], ◌∷◌, ◌++◌}
use Rattle.std.specs.List.{filter, list_all, list_any}
use Rattle.program_tables.specs.declared.mark_table.Mark.{Mark}
use Rattle.executive_program.specs.declared.program.Instr.{Instr}
use Rattle.executive_program.specs.declared.program.Instr.TheVariants.{Suc0, Suc1, Pre0, Pre1, Call, Send, Recv}
use Rattle.executive_program.specs.declared.program.SeqCode.{SeqCode}
use Rattle.executive_program.specs.declared.program.Program.{Program}
use Rattle.program_tables.specs.declared.roles.Role.{Role}
use Rattle.program_tables.specs.declared.roles.Role.TheVariants.{
  Called,
  Written,
  Read,
  EmptyTaken,
  FullSignalled,
  FullTaken,
  EmptySignalled,
}

-- the numbers that an instruction names in this role
abbrev pub named : Role → Instr → List ℕ
named Called (Call v ins outs) = v ∷ []
named Written (Call v ins outs) = outs
named Written (Recv b q) = b ∷ []
named Read (Call v ins outs) = ins
named Read (Send b q) = b ∷ []
named EmptyTaken (Suc0 q) = q ∷ []
named FullSignalled (Pre1 q) = q ∷ []
named FullTaken (Suc1 q) = q ∷ []
named EmptySignalled (Pre0 q) = q ∷ []
named _ _ = []

-- the instruction names this number in this role
abbrev pub names : Role → ℕ → Instr → Bool
names role n x = list_any (λ c. nat_eq c n) (named role x)

-- of the numbers that instruction a of s names, the first of which has place k
abbrev pub marks_at : ℕ → ℕ → ℕ → List ℕ → List Mark
marks_at s a k [] = []
marks_at s a k (n ∷ ns) = record { number = n; sequence = s; at = a; port = k } ∷ marks_at s a (k + 1) ns

-- of these instructions of s, the first of which has place a
abbrev pub marks_in : Role → ℕ → ℕ → List Instr → List Mark
marks_in role s a [] = []
marks_in role s a (x ∷ xs) = marks_at s a 0 (named role x) ++ marks_in role s (a + 1) xs

-- of these sequences, the first of which has number s
abbrev pub marks_from : Role → ℕ → List SeqCode → List Mark
marks_from role s [] = []
marks_from role s (q ∷ qs) = marks_in role s 0 q.turn ++ marks_from role (s + 1) qs

-- the places at which this number is named in this role
abbrev pub marks_of : Program → Role → ℕ → List Mark
marks_of p role n = filter (λ m. nat_eq m.number n) (marks_from role 0 p.seqs)

-- there is such a place, and all are one instruction of sequence s
abbrev pub lone : ℕ → List Mark → Bool
lone s [] = false
lone s (m ∷ ms) = list_all (λ u. nat_eq u.sequence s && nat_eq u.at m.at) (m ∷ ms)

-- the place of the first
abbrev pub first_at : List Mark → ℕ
first_at [] = 0
first_at (m ∷ ms) = m.at
