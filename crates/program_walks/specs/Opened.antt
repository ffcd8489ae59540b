-- What makes the prologues right, as tests: each signals in ascending order, and each pair's empty semaphore as often
-- as it is to be.
use Rattle.std.specs.Prelude.{
  ℕ,
  Bool,
  true,
  false,
  ◌&&◌,
  cond,
  nat_eq,
  nat_le,
  nat_lt,
  List,
  [],
  ◌∷◌,
  length,
  Option,
  Some,
  None,
}
use Rattle.std.specs.List.{count_by, list_all}
use Rattle.executive_program.specs.declared.program.Instr.{Instr}
use Rattle.executive_program.specs.declared.program.Instr.TheVariants.{Pre0}
use Rattle.executive_program.specs.declared.program.SeqCode.{SeqCode}
use Rattle.executive_program.specs.declared.program.Program.{Program}
use Rattle.executive_program.specs.Instructions.{Reader, depth_of, readers}
use Rattle.executive_program.specs.Places.{signals_empty}
use Rattle.program_walks.specs.Walks.{all_at, passed}

-- each instruction signals the empty semaphore of a pair below n, the first of one at least this, and each of one at
-- least that before it
abbrev pub rises : ℕ → ℕ → List Instr → Bool
rises n least [] = true
rises n least (Pre0 q ∷ xs) = nat_le least q && nat_lt q n && rises n q xs
rises n least (_ ∷ xs) = false

module _ (p : Program) where
  -- how often sequence s signals the empty semaphore of the pair of this reader before its loop
  abbrev pub signals_for : Reader → ℕ → ℕ
  signals_for x s = cond (nat_eq x.sequence s) (depth_of p x.buffer) 0

  -- Sequence s, with this code, signals the empty semaphore of pair q in its prologue as often as
  -- it has to: once for each place of the buffer if it is this reader, and otherwise never.
  abbrev pub signals_right : ℕ → Reader → ℕ → SeqCode → Bool
  signals_right q x s code = nat_eq (count_by (signals_empty q) code.prologue) (signals_for x s)

  -- each sequence signals the empty semaphore of pair q, which this reader has, as often as it is to
  abbrev pub opens : ℕ → Reader → Bool
  opens q x = nat_lt q (length p.pairs) && all_at (signals_right q x) 0 p.seqs

  -- the prologues signal in ascending order, where there are this many pairs
  abbrev pub rise : Option ℕ → Bool
  rise None = false
  rise (Some n) = list_all (λ (q : SeqCode). rises n 0 q.prologue) p.seqs

  -- Each reader has a pair, and each prologue only opens the pairs by which its
  -- sequence reads: in ascending order, once for each place of the buffer.
  abbrev pub are_opened : Bool
  are_opened = rise (passed opens 0 (readers p))
