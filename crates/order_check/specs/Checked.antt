-- The clauses of what a serial order is, as tests.
use Rattle.std.specs.Prelude.{ℕ, Bool, true, ◌&&◌, not, nat_eq, nat_lt, List, length, Option, Some, None}
use Rattle.std.specs.List.{count_by, list_all}
use Rattle.executive_program.specs.declared.program.Instr.{Instr}
use Rattle.executive_program.specs.declared.program.Instr.TheVariants.{Suc0, Suc1, Pre0, Pre1, Call, Send, Recv, Sync}
use Rattle.executive_program.specs.declared.program.Program.{Program}
use Rattle.program_walks.specs.Walks.{all_below}
use Rattle.executive_program.specs.Instructions.{is_communication, turn}
use Rattle.executive_program.specs.MicroSteps.{transfers}

-- the numbers are below n
abbrev pub are_below : ℕ → List ℕ → Bool
are_below n list = list_all (λ c. nat_lt c n) list

-- a sequence with communications is at a medium
abbrev pub is_at_medium : Option ℕ → List Instr → Bool
is_at_medium None list = list_all (λ x. not (is_communication x)) list
is_at_medium (Some m) list = true

-- a medium is one of this many
abbrev pub is_medium : ℕ → Option ℕ → Bool
is_medium media None = true
is_medium media (Some m) = nat_lt m media

module _ (p : Program) where
  -- the order names each sequence as often as its loop has instructions
  abbrev pub counts_loops : List ℕ → Bool
  counts_loops order = all_below (λ s. nat_eq (count_by (λ t. nat_eq t s) order) (length (turn p s))) (length p.seqs)

  abbrev pub follows_loops : List ℕ → Bool
  follows_loops order = are_below (length p.seqs) order && counts_loops order

  -- what an instruction names is there, among this many operations
  abbrev pub names_in : ℕ → Instr → Bool
  names_in operations (Suc0 q) = nat_lt q (length p.pairs)
  names_in operations (Suc1 q) = nat_lt q (length p.pairs)
  names_in operations (Pre0 q) = nat_lt q (length p.pairs)
  names_in operations (Pre1 q) = nat_lt q (length p.pairs)
  names_in operations (Call v ins outs) =
      nat_lt v operations && are_below (length p.buffers) ins && are_below (length p.buffers) outs
  names_in operations (Send b q) = nat_lt b (length p.buffers)
  names_in operations (Recv b q) = nat_lt b (length p.buffers)
  names_in operations (Sync q r) = true

  abbrev pub named : ℕ → Bool
  named operations = list_all (λ q. list_all (names_in operations) q.turn) p.seqs

  -- Each sequence whose loop has a communication is at a medium.
  abbrev pub communicators : Bool
  communicators = list_all (λ q. is_at_medium q.seq.medium q.turn) p.seqs

  -- Each sequence that is at a medium is at one of this many.
  abbrev pub on_media : ℕ → Bool
  on_media media = list_all (λ q. is_medium media q.seq.medium) p.seqs

  -- a communicator has one communication in each transfer of its medium
  abbrev pub is_counted : Option ℕ → List Instr → Bool
  is_counted None list = true
  is_counted (Some m) list = nat_eq (count_by is_communication list) (transfers p m)

  -- The loop of each communicator has as many communications as its medium has transfers.
  abbrev pub counts : Bool
  counts = list_all (λ q. is_counted q.seq.medium q.turn) p.seqs
