-- The state of a run as plain data, one micro-step of it, and runs.
use Rattle.std.specs.Prelude.{
  ◌≡◌,
  ℕ,
  ◌+◌,
  ◌-◌,
  ◌*◌,
  ◌%◌,
  ◌<◌,
  Bool,
  true,
  false,
  cond,
  nat_eq,
  nat_le,
  nat_lt,
  List,
  [],
  ◌∷◌,
  ◌++◌,
  map,
  length,
  Option,
  Some,
  None,
  slice_index_or,
  slice_set,
  replicate,
  ℤ,
}
use Rattle.executive_program.specs.Sites.{step_at, reaction_at}
use Rattle.executive_program.specs.Level.{element_at}
use Rattle.executive_program.specs.System.{turn_reached}
use Rattle.executive_program.specs.declared.program.Program.{Program}
use Rattle.executive_program.specs.declared.steps.Place.{Place}
use Rattle.executive_program.specs.declared.steps.Place.TheVariants.{Buffer, Wire}
use Rattle.executive_program.specs.declared.steps.OnLoad.{OnLoad}
use Rattle.executive_program.specs.declared.steps.OnStore.{OnStore}
use Rattle.executive_program.specs.declared.steps.MicroStep.{MicroStep}
use Rattle.executive_program.specs.declared.steps.MicroStep.TheVariants.{
  Take,
  See,
  Lower,
  Signal,
  Await,
  Advance,
  Load,
  Store,
}
use Rattle.executive_program.specs.Blocks.{blocks}
use Rattle.executive_program.specs.Instructions.{len_of, depth_of}
use Rattle.executive_program.specs.MicroSteps.{wire_len}
use Rattle.executive_program.specs.Steps.{steps}
use Rattle.operation_desks.specs.Registers.{Own, absorb_by, emit_by, after_by}
use Rattle.semaphore_core.specs.Job.{JobData, reactions, zero_rows}
use Rattle.syn_base.specs.Vectors.{Values, zeros}

-- The state of a run has the count of each sequence, the words that all share, and
-- what the sequences have of their own.
pub record Core : Type 0 where
  -- micro-steps made, by sequence
  pub counts : List ℕ
  -- the empty and the full one of each pair
  pub semaphores : List ℕ
  -- by medium
  pub turns : List ℕ
  -- a list for each buffer, by place and number, and then one for each medium's wire
  pub elements : List (List ℤ)
  -- by sequence
  pub registers : List (List ℤ)
  -- by delay
  pub cells : Values
  -- by reaction and actuator
  pub rows : List Values

module _ (p : Program) where
  -- the list that holds an element, and the place in it in reaction k
  abbrev pub home_of : Place → ℕ
  home_of (Buffer b j) = b
  home_of (Wire m j) = length p.buffers + m

  -- In reaction k an element is at this place of its list: that of a buffer in the
  -- buffer's place for the reaction, that of a wire always at its number.
  abbrev pub slot_of : Place → ℕ → ℕ
  slot_of (Buffer b j) k = k % depth_of p b * len_of p b + j
  slot_of (Wire m j) k = j

-- the elements of all buffers, and of all wires, before any is stored
abbrev pub buffer_zeros : Program → List (List ℤ)
buffer_zeros p = map (λ x. zeros (x.depth * x.len)) p.buffers

-- Before any element is stored, the wire of each of this many media has zeros, as many
-- as it is long.
abbrev pub wire_zeros : Program → ℕ → List (List ℤ)
wire_zeros p media = blocks (λ m. zeros (wire_len p m) ∷ []) media

-- how many micro-steps sequence s has made, and the counts with one more
abbrev pub count : Core → ℕ → ℕ
count z s = slice_index_or z.counts s 0

-- These are the counts of state z with one more micro-step of sequence s.
abbrev pub counted : Core → ℕ → List ℕ
counted z s = slice_set z.counts s (count z s + 1)

-- whether a micro-step of reaction k is enabled: only a take, a see and a wait can be not enabled
abbrev pub enabled_in : Core → ℕ → MicroStep → Bool
enabled_in z k (Take x) = nat_eq (slice_index_or z.semaphores x 0) 1
enabled_in z k (See x) = nat_le 1 (slice_index_or z.semaphores x 0)
enabled_in z k (Await m i n exact) = turn_reached exact (slice_index_or z.turns m 0) (k * n + i)
enabled_in z k _ = true

module _ (j : JobData) where
  -- all words, counts and rows are 0, and the cells are the job's opening values
  abbrev pub opening : Core
  opening = record {
    counts = replicate (length j.program.seqs) 0;
    semaphores = replicate (2 * length j.program.pairs) 0;
    turns = replicate j.media 0;
    elements = buffer_zeros j.program ++ wire_zeros j.program j.media;
    registers = replicate (length j.program.seqs) [];
    cells = j.opening;
    rows = zero_rows j;
  }

  -- the reaction of the next micro-step of sequence s
  abbrev pub reaction : Core → ℕ → ℕ
  reaction z s = reaction_at (steps j.program s) (count z s)

  -- How many micro-steps sequence s makes in all: those of its prologue, and those of its loop in
  -- each reaction.
  abbrev pub full : ℕ → ℕ
  full s = length (steps j.program s).prologue + reactions j * length (steps j.program s).turn

  -- the next micro-step of sequence s
  abbrev pub next : Core → ℕ → Option MicroStep
  next z s = cond (nat_lt s (length j.program.seqs))
      (cond (nat_lt (count z s) (full s)) (step_at (steps j.program s) (count z s)) None) None

  -- what belongs to sequence s
  abbrev pub own : Core → ℕ → Own
  own z s = record { registers = slice_index_or z.registers s []; cells = z.cells; rows = z.rows }

  -- Sequence s can make this micro-step in state z, in the reaction to which its count
  -- has come; it is false if there is no micro-step.
  abbrev pub enabled_by : Core → ℕ → Option MicroStep → Bool
  enabled_by z s None = false
  enabled_by z s (Some m) = enabled_in z (reaction z s) m

  -- Sequence s has a next micro-step in state z, and can make it there; it is false at
  -- its end, and if there is no sequence s.
  abbrev pub is_enabled : Core → ℕ → Bool
  is_enabled z s = enabled_by z s (next z s)

  -- an element in reaction k, and the elements with another value there
  abbrev pub element_of : Core → Place → ℕ → ℤ
  element_of z x k = element_at (slice_index_or z.elements (home_of j.program x) []) (slot_of j.program x k)

  -- These are the elements after v was stored in place x in reaction k; all others are as before.
  abbrev pub with_element : Core → Place → ℕ → ℤ → List (List ℤ)
  with_element z x k v = slice_set z.elements (home_of j.program x)
      (slice_set (slice_index_or z.elements (home_of j.program x) []) (slot_of j.program x k) v)

  -- sequence s has this of its own now, and made one more micro-step
  abbrev pub with_own : Core → ℕ → List (List ℤ) → Own → Core
  with_own z s elements c = record {
    counts = counted z s;
    semaphores = z.semaphores;
    turns = z.turns;
    elements = elements;
    registers = slice_set z.registers s c.registers;
    cells = c.cells;
    rows = c.rows;
  }

  -- This is the state after sequence s loaded the element in place x in reaction k and
  -- did with it what the load says.
  abbrev pub load_by : Core → ℕ → Place → OnLoad → ℕ → Core
  load_by z s x then k = with_own z s z.elements (absorb_by j.graph j.sensors then k (own z s) (element_of z x k))

  -- This is the state after sequence s stored into place x in reaction k the value
  -- that the store says.
  abbrev pub store_by : Core → ℕ → Place → OnStore → ℕ → Core
  store_by z s x what k = with_own z s (with_element z x k (emit_by j.graph j.sensors what k (own z s)))
      (after_by j.graph j.sensors what k (own z s))

  -- this micro-step of sequence s, in reaction k, is made
  abbrev pub done_in : Core → ℕ → ℕ → MicroStep → Core
  done_in z s k (Take x) = record z { counts = counted z s; semaphores = slice_set z.semaphores x 0 }
  done_in z s k (See x) = record z { counts = counted z s }
  done_in z s k (Lower x) = record z {
    counts = counted z s;
    semaphores = slice_set z.semaphores x (slice_index_or z.semaphores x 0 - 1);
  }
  done_in z s k (Signal x) = record z {
    counts = counted z s;
    semaphores = slice_set z.semaphores x (slice_index_or z.semaphores x 0 + 1);
  }
  done_in z s k (Await m i n exact) = record z { counts = counted z s }
  done_in z s k (Advance m) = record z {
    counts = counted z s;
    turns = slice_set z.turns m (slice_index_or z.turns m 0 + 1);
  }
  done_in z s k (Load x then) = load_by z s x then k
  done_in z s k (Store x what) = store_by z s x what k

  -- This is the state after sequence s made this micro-step in state z, enabled or
  -- not; with no micro-step it is z.
  abbrev pub done_by : Core → ℕ → Option MicroStep → Core
  done_by z s None = z
  done_by z s (Some m) = done_in z s (reaction z s) m

  -- A step of a sequence makes its next micro-step where that is enabled, and else changes nothing.
  abbrev pub step : Core → ℕ → Core
  step z s = cond (is_enabled z s) (done_by z s (next z s)) z

  -- From state z, steps of the listed sequences in order lead to this state; a number
  -- whose sequence is not enabled at that time changes nothing.
  abbrev pub run_from : Core → List ℕ → Core
  run_from z [] = z
  run_from z (s ∷ ss) = run_from (step z s) ss

  -- This is the state to which a list of sequence numbers, one interleaving, leads
  -- from the opening state.
  abbrev pub run : List ℕ → Core
  run list = run_from opening list

  -- some list of sequence numbers leads to the state, or to the counts
  abbrev pub IsReached : Core → Type 0
  IsReached z = (list : List ℕ) × (run list ≡ z)

  -- Some list of sequence numbers leads from the opening state to a state with these counts.
  abbrev pub AreReached : List ℕ → Type 0
  AreReached counts = (list : List ℕ) × ((run list).counts ≡ counts)

  -- every sequence's count is full
  abbrev pub IsDone : Core → Type 0
  IsDone z = (s : ℕ) → s < length j.program.seqs → count z s ≡ full s
