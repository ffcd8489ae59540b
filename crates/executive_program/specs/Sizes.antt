-- How many micro-steps a program has, counted without laying them out.
use Rattle.std.specs.Prelude.{
  ℕ,
  ◌+◌,
  ◌*◌,
  Bool,
  true,
  false,
  cond,
  nat_eq,
  List,
  [],
  ◌∷◌,
  length,
  replicate,
  Option,
  Some,
  None,
}
use Rattle.std.specs.List.{sum_by, count_by}
use Rattle.executive_program.specs.declared.program.Instr.{Instr}
use Rattle.executive_program.specs.declared.program.Instr.TheVariants.{Suc0, Suc1, Pre0, Call, Send, Recv}
use Rattle.executive_program.specs.declared.program.SeqCode.{SeqCode}
use Rattle.executive_program.specs.declared.program.Program.{Program}
use Rattle.executive_program.specs.Blocks.{blocks}
use Rattle.executive_program.specs.Instructions.{len_of, depth_of, pair_depth, waits_for}
use Rattle.executive_program.specs.Steps.{elements_in}

-- a take of a semaphore of a pair looks first where the pair's buffer has several places, which is one micro-step more
abbrev pub looks_at : ℕ → ℕ
looks_at depth = cond (nat_eq depth 1) 0 1

-- the looks of an instruction, and of these, where the buffers of pairs have this many places
module _ (depth : ℕ → ℕ) where
  abbrev pub looks_of : Instr → ℕ
  looks_of (Suc0 q) = looks_at (depth q)
  looks_of (Suc1 q) = looks_at (depth q)
  looks_of _ = 0

  abbrev pub looks_in : List Instr → ℕ
  looks_in xs = sum_by looks_of xs

-- A number is given, and it is q.
abbrev pub is_last : ℕ → Option ℕ → Bool
is_last q None = false
is_last q (Some r) = nat_eq q r

-- These instructions have this many runs of two or more signals of the same empty semaphore. A run
-- of pair `last` may go on at their front, which is not counted again if `again` is true.
abbrev pub opened_after : Option ℕ → Bool → List Instr → ℕ
opened_after last again [] = 0
opened_after last again (Pre0 q ∷ xs) =
    cond (is_last q last) (cond again 0 1 + opened_after last true xs) (opened_after (Some q) false xs)
opened_after last again (_ ∷ xs) = opened_after None false xs

module _ (p : Program) where
  -- the places of the buffer of each pair: for each buffer, once for each sequence that reads it and does not write it
  abbrev pub depths_of : ℕ → List ℕ
  depths_of b = replicate (count_by (waits_for b) p.seqs) (depth_of p b)

  -- The buffers of the pairs have these numbers of places, with an entry for each
  -- entry of the readers.
  abbrev pub pair_depths : List ℕ
  pair_depths = blocks depths_of (length p.buffers)

  -- Without looks: a call loads and stores each element once; a send and
  -- a receive wait, load and store each element, and go on.
  abbrev pub plain_of : Instr → ℕ
  plain_of (Call v ins outs) = elements_in p ins + elements_in p outs
  plain_of (Send b q) = 2 + 2 * len_of p b
  plain_of (Recv b q) = 2 + 2 * len_of p b
  plain_of _ = 1

  -- These instructions have this many micro-steps together, if each take of a
  -- semaphore counts as one.
  abbrev pub plain_in : List Instr → ℕ
  plain_in xs = sum_by plain_of xs

  -- of all prologues, and of all loops
  abbrev pub plain_prologues : ℕ
  plain_prologues = sum_by (λ (q : SeqCode). plain_in q.prologue) p.seqs

  -- All loops together have this many micro-steps in a reaction, if each take of a
  -- semaphore counts as one.
  abbrev pub plain_turns : ℕ
  plain_turns = sum_by (λ (q : SeqCode). plain_in q.turn) p.seqs

  abbrev pub prologue_looks : ℕ
  prologue_looks = sum_by (λ (q : SeqCode). looks_in (pair_depth p) q.prologue) p.seqs

  abbrev pub turn_looks : ℕ
  turn_looks = sum_by (λ (q : SeqCode). looks_in (pair_depth p) q.turn) p.seqs

  -- how many pairs the prologues open several times; in a well-formed
  -- program these are the pairs of buffers of several places
  abbrev pub deep_pairs : ℕ
  deep_pairs = sum_by (λ (q : SeqCode). opened_after None false q.prologue) p.seqs
