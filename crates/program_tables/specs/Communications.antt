-- The communications of each sequence, the communicators of each medium, and the transfers, as lists.
use Rattle.std.specs.Prelude.{ℕ, ◌+◌, cond, nat_eq, List, [], ◌∷◌, map, Option, Some, None}
use Rattle.std.specs.List.{filter}
use Rattle.program_tables.specs.declared.mark_table.Mark.{Mark}
use Rattle.executive_program.specs.declared.program.Instr.{Instr}
use Rattle.executive_program.specs.declared.program.SeqCode.{SeqCode}
use Rattle.executive_program.specs.declared.program.Program.{Program}
use Rattle.executive_program.specs.Instructions.{is_communication}

-- how many communications stand before each instruction, where t stand before the first
abbrev pub numbers_from : ℕ → List Instr → List ℕ
numbers_from t [] = []
numbers_from t (x ∷ xs) = t ∷ numbers_from (t + cond (is_communication x) 1 0) xs

-- the places of the communications, where the first instruction has place a
abbrev pub places_from : ℕ → List Instr → List ℕ
places_from a [] = []
places_from a (x ∷ xs) = cond (is_communication x) (a ∷ places_from (a + 1) xs) (places_from (a + 1) xs)

-- For each sequence, and each instruction of its loop, this is the number of
-- communications before it in the loop.
abbrev pub numbers_of : Program → List (List ℕ)
numbers_of p = map (λ q. numbers_from 0 q.turn) p.seqs

-- For each sequence these are the places of the communications in its loop, in ascending order.
abbrev pub places_of : Program → List (List ℕ)
places_of p = map (λ q. places_from 0 q.turn) p.seqs

-- Sequence s is put before the others, marked with its medium; a sequence without a
-- medium is left out.
abbrev pub joining : ℕ → Option ℕ → List Mark → List Mark
joining s None rest = rest
joining s (Some m) rest = record { number = m; sequence = s; at = 0; port = 0 } ∷ rest

-- the communicators among these sequences, the first of which has number s, by their medium
abbrev pub communicators_from : ℕ → List SeqCode → List Mark
communicators_from s [] = []
communicators_from s (q ∷ qs) = joining s q.seq.medium (communicators_from (s + 1) qs)

-- These are the communicators of medium m, in the order of the sequences, as marks of
-- m with place and port 0.
abbrev pub communicators_of : Program → ℕ → List Mark
communicators_of p m = filter (λ x. nat_eq x.number m) (communicators_from 0 p.seqs)
