-- What makes a pair of semaphores right, as tests.
use Rattle.std.specs.Prelude.{ℕ, Bool, false, ◌&&◌, nat_eq, nat_lt, List, length, Option, Some, slice_get}
use Rattle.std.specs.List.{position_or_len}
use Rattle.executive_program.specs.declared.program.Instr.{Instr}
use Rattle.executive_program.specs.declared.program.Program.{Program}
use Rattle.executive_program.specs.Instructions.{Reader, reads, readers, turn}
use Rattle.executive_program.specs.Places.{signals_empty, signals_full, takes_empty, takes_full, writer_of, written_at}
use Rattle.executive_program.specs.WellFormed.{operator_of, place_in}
use Rattle.program_walks.specs.Acts.{is_only}
use Rattle.program_walks.specs.Walks.{all_at, implies}

-- the pair's operator is this one
abbrev pub has_operator : Option ℕ → Option ℕ → Bool
has_operator (Some a) (Some b) = nat_eq a b
has_operator _ _ = false

module _ (p : Program) where
  -- The first instruction of the loop of s that passes the test has this place; it is
  -- the length of the loop if none passes.
  abbrev pub first_place : (Instr → Bool) → ℕ → ℕ
  first_place test s = position_or_len test (turn p s)

  -- sequence s takes the empty semaphore of pair q at one place, writes at another, and signals the full one at a third
  abbrev pub is_written_within : ℕ → ℕ → ℕ → ℕ → ℕ → Bool
  is_written_within q s at take signal =
      is_only p (takes_empty q) s take && is_only p (signals_full q) s signal && nat_lt take at && nat_lt at signal

  -- Sequence s takes the empty semaphore of pair q before place `at` and signals the
  -- full one after it; nothing else in the loops of the program does either.
  abbrev pub is_written_between : ℕ → ℕ → ℕ → Bool
  is_written_between q s at = is_written_within q s at (first_place (takes_empty q) s) (first_place (signals_full q) s)

  -- sequence s reads b only between these places
  abbrev pub reads_between : ℕ → ℕ → ℕ → ℕ → Bool
  reads_between b s after before = all_at (λ a x. implies (reads b x) (nat_lt after a && nat_lt a before)) 0 (turn p s)

  -- sequence s takes the full semaphore of pair q at one place, reads, and signals the empty one at another
  abbrev pub is_read_within : ℕ → ℕ → ℕ → ℕ → ℕ → Bool
  is_read_within q b s take signal =
      is_only p (takes_full q) s take && is_only p (signals_empty q) s signal && reads_between b s take signal

  -- Sequence s takes the full semaphore of pair q and signals the empty one, which nothing else in
  -- the loops of the program does, and it reads buffer b only between the two.
  abbrev pub is_read_between : ℕ → ℕ → ℕ → Bool
  is_read_between q b s = is_read_within q b s (first_place (takes_full q) s) (first_place (signals_empty q) s)

  -- the full semaphore is signalled before it is taken
  abbrev pub is_full_first : List ℕ → ℕ → ℕ → ℕ → Bool
  is_full_first order q writer reader =
      nat_lt (place_in order writer (first_place (signals_full q) writer))
      (place_in order reader (first_place (takes_full q) reader))

  -- pair q guards a buffer that is written here for this reader
  abbrev pub guards_from : List ℕ → ℕ → Reader → ℕ → ℕ → Bool
  guards_from order q x writer at =
      nat_lt q (length p.pairs) && has_operator (slice_get p.pairs q) (operator_of p x.buffer) &&
      is_written_between q writer at && is_read_between q x.buffer x.sequence && is_full_first order q writer x.sequence

  -- Pair q is on the buffer's operator and round the buffer's first write and the reader's
  -- reads, and in the order its full semaphore is signalled before it is taken.
  abbrev pub guards : List ℕ → ℕ → Reader → Bool
  guards order q x = guards_from order q x (writer_of p x.buffer) (written_at p x.buffer)

  -- There is one pair for each reader of the program, in the order of the readers, and
  -- each guards the buffer for its reader.
  abbrev pub are_pairs : List ℕ → Bool
  are_pairs order = nat_eq (length p.pairs) (length (readers p)) && all_at (guards order) 0 (readers p)
