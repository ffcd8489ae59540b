-- What makes the sequences of a program those of an architecture, as tests.
use Rattle.std.specs.Prelude.{ℕ, Bool, false, ◌&&◌, nat_eq, nat_lt, List, length, Option, Some, None, slice_get}
use Rattle.executive_program.specs.declared.Seq.{Seq}
use Rattle.executive_program.specs.declared.program.SeqCode.{SeqCode}
use Rattle.program_walks.specs.Walks.{passed}
use Rattle.executive_program.specs.Sizes.{is_last}
use Rattle.executive_program.specs.Instructions.{same_medium}

-- the code is that of this sequence
abbrev pub is_of : Option SeqCode → Seq → Bool
is_of None x = false
is_of (Some q) x = nat_eq q.seq.operator x.operator && same_medium q.seq.medium x.medium

module _ (codes : List SeqCode) where
  -- code s is that of this sequence
  abbrev pub is_sequence : ℕ → Seq → Bool
  is_sequence s x = nat_lt s (length codes) && is_of (slice_get codes s) x

  -- the codes are those of these sequences, in order
  abbrev pub are_sequences : List Seq → Bool
  are_sequences seqs = is_last (length codes) (passed is_sequence 0 seqs)
