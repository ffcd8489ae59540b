-- The micro-steps of a program as the core makes them: where the element lies that a micro-step loads or stores, and
-- what it does with the registers.
--
-- The theory has a table of its own, in `MicroSteps`. It names an access of an element by its number among the
-- accesses of one reaction, which the core has no use for, and it forgets registers, which the core needs. That both
-- tables have the same micro-steps is a law of `phase_laws`.
use Rattle.std.specs.Prelude.{
  ℕ,
  ◌+◌,
  ◌-◌,
  ◌*◌,
  true,
  false,
  cond,
  nat_eq,
  nat_lt,
  List,
  [],
  ◌∷◌,
  ◌++◌,
  length,
  Option,
  Some,
  None,
  slice_get,
  take as take_list,
}
use Rattle.std.specs.List.{count_by}
use Rattle.interleavings.specs.Owners.{sum_below}
use Rattle.interleavings.specs.Sites.{Code}
use Rattle.executive_program.specs.declared.program.Instr.{Instr}
use Rattle.executive_program.specs.declared.program.Instr.TheVariants.{Suc0, Suc1, Pre0, Pre1, Call, Send, Recv, Sync}
use Rattle.executive_program.specs.declared.program.SeqCode.{SeqCode}
use Rattle.executive_program.specs.declared.program.Program.{Program}
use Rattle.executive_program.specs.declared.steps.Place.TheVariants.{Buffer, Wire}
use Rattle.executive_program.specs.declared.steps.OnLoad.{OnLoad}
use Rattle.executive_program.specs.declared.steps.OnLoad.TheVariants.{Gather, Carry as CarryIn, Compute as ComputeIn}
use Rattle.executive_program.specs.declared.steps.OnStore.{OnStore}
use Rattle.executive_program.specs.declared.steps.OnStore.TheVariants.{Give, Carry as CarryOut, Compute as ComputeOut}
use Rattle.executive_program.specs.declared.steps.MicroStep.{MicroStep}
use Rattle.executive_program.specs.declared.steps.MicroStep.TheVariants.{
  Take,
  See,
  Lower,
  Signal,
  Await,
  Advance,
  Load,
  Store,
}
use Rattle.executive_program.specs.Blocks.{blocks}
use Rattle.executive_program.specs.Instructions.{is_communication, number_or, len_of, pair_depth, len_by}

-- A take of a semaphore of a pair whose buffer has this many places. With one place it is one micro-step. With several
-- the word may be above 1, so that it is seen first and then lowered by one.
abbrev pub take_steps : ℕ → ℕ → List MicroStep
take_steps depth semaphore = cond (nat_eq depth 1) (Take semaphore ∷ []) (See semaphore ∷ Lower semaphore ∷ [])

-- What load or store `number` of a call does, where the call has this many loads and this many micro-steps. The
-- computation belongs to the last load, or to the first store where there is no load.
abbrev pub on_load : ℕ → ℕ → ℕ → ℕ → OnLoad
on_load vertex loads micros number = cond (nat_eq (number + 1) loads)
    (ComputeIn vertex number (nat_lt (number + 1) micros))
    (Gather number)

-- Micro-step `number` of a call, which is a store, gives the register of its place among the
-- stores; the first store of a call without loads computes the operation as well.
abbrev pub on_store : ℕ → ℕ → ℕ → ℕ → OnStore
on_store vertex loads micros number = cond (nat_eq number 0)
    (ComputeOut vertex (nat_lt (number + 1) micros))
    (Give (number - loads) (nat_lt (number + 1) micros))

-- the load, or the store, of one element of a buffer whose first element is access `first` of the call
module _ (vertex loads micros : ℕ) where
  -- This element of the buffer is loaded by one micro-step, number `first + element` of the call.
  abbrev pub load_step : ℕ → ℕ → ℕ → List MicroStep
  load_step buffer first element = Load (Buffer buffer element) (on_load vertex loads micros (first + element)) ∷ []

  -- This element of the buffer is stored by one micro-step, number `first + element` of the call.
  abbrev pub store_step : ℕ → ℕ → ℕ → List MicroStep
  store_step buffer first element = Store (Buffer buffer element) (on_store vertex loads micros (first + element)) ∷ []

-- one element of a buffer on its way over a medium: from the buffer to the wire, and from the wire to the buffer
abbrev pub send_step : ℕ → ℕ → ℕ → List MicroStep
send_step medium buffer element = Load (Buffer buffer element) CarryIn ∷ Store (Wire medium element) CarryOut ∷ []

-- One element is received by a load from the wire of the medium and a store into the buffer.
abbrev pub receive_step : ℕ → ℕ → ℕ → List MicroStep
receive_step medium buffer element = Load (Wire medium element) CarryIn ∷ Store (Buffer buffer element) CarryOut ∷ []

module _ (p : Program) where
  -- how many elements the buffer at this place of a list has, and all buffers of the list together
  abbrev pub len_at : List ℕ → ℕ → ℕ
  len_at buffers place = len_by p (slice_get buffers place)

  -- These buffers have this many elements together, each buffer counted as often as it
  -- is in the list.
  abbrev pub elements_in : List ℕ → ℕ
  elements_in buffers = sum_below (len_at buffers) (length buffers)

  module _ (vertex loads micros : ℕ) where
    -- the loads of a buffer, of which the first is load `first` of the call, and likewise its stores
    abbrev pub load_steps : ℕ → Option ℕ → List MicroStep
    load_steps first None = []
    load_steps first (Some buffer) = blocks (load_step vertex loads micros buffer first) (len_of p buffer)

    -- These are the stores of an output's buffer, of which the first is micro-step
    -- `first` of the call; without a buffer there are none.
    abbrev pub store_steps : ℕ → Option ℕ → List MicroStep
    store_steps first None = []
    store_steps first (Some buffer) = blocks (store_step vertex loads micros buffer first) (len_of p buffer)

    -- the loads of the input at this place, and the stores of the output at this place
    abbrev pub input_steps : List ℕ → ℕ → List MicroStep
    input_steps ins place = load_steps (sum_below (len_at ins) place) (slice_get ins place)

    -- These are the stores of the output at this place of a call, and none if the call
    -- has no such output.
    abbrev pub output_steps : List ℕ → ℕ → List MicroStep
    output_steps outs place = store_steps (loads + sum_below (len_at outs) place) (slice_get outs place)

  -- a call loads all elements of its inputs, and then stores all elements of its outputs
  abbrev pub call_steps : ℕ → List ℕ → List ℕ → List MicroStep
  call_steps vertex ins outs =
      blocks (input_steps vertex (elements_in ins) (elements_in ins + elements_in outs) ins) (length ins) ++
      blocks (output_steps vertex (elements_in ins) (elements_in ins + elements_in outs) outs) (length outs)

  -- The micro-steps of an instruction. It stands on this medium, in a list with this many communications, of which
  -- `before` stand before it. A communication waits for its half of the medium's turn: each transfer has two halves,
  -- that of the send and that of the receive, and whoever is not concerned waits until both are over.
  abbrev pub steps_of : ℕ → ℕ → ℕ → Instr → List MicroStep
  steps_of medium communications before (Suc0 pair) = take_steps (pair_depth p pair) (2 * pair)
  steps_of medium communications before (Suc1 pair) = take_steps (pair_depth p pair) (2 * pair + 1)
  steps_of medium communications before (Pre0 pair) = Signal (2 * pair) ∷ []
  steps_of medium communications before (Pre1 pair) = Signal (2 * pair + 1) ∷ []
  steps_of medium communications before (Call vertex ins outs) = call_steps vertex ins outs
  steps_of medium communications before (Send buffer to) =
      Await medium (2 * before) (2 * communications) true ∷
      (blocks (send_step medium buffer) (len_of p buffer) ++ Advance medium ∷ [])
  steps_of medium communications before (Recv buffer from) =
      Await medium (2 * before + 1) (2 * communications) true ∷
      (blocks (receive_step medium buffer) (len_of p buffer) ++ Advance medium ∷ [])
  steps_of medium communications before (Sync from to) = Await medium (2 * before + 2) (2 * communications) false ∷ []

  -- These are the micro-steps of an instruction that may be missing; without one there are none.
  abbrev pub steps_in : ℕ → ℕ → ℕ → Option Instr → List MicroStep
  steps_in medium communications before None = []
  steps_in medium communications before (Some instr) = steps_of medium communications before instr

  -- the micro-steps of the instruction at this place of a list, and of the whole list
  abbrev pub steps_at : ℕ → List Instr → ℕ → List MicroStep
  steps_at medium list place =
      steps_in medium (count_by is_communication list) (count_by is_communication (take_list place list))
      (slice_get list place)

  -- These are the micro-steps of all instructions of a list on this medium, one
  -- instruction after the other.
  abbrev pub steps_in_list : ℕ → List Instr → List MicroStep
  steps_in_list medium list = blocks (steps_at medium list) (length list)

  -- the micro-steps of a sequence; one that is not there has none
  abbrev pub steps_by : Option SeqCode → Code MicroStep
  steps_by None = record { prologue = []; turn = [] }
  steps_by (Some code) = record {
    prologue = steps_in_list (number_or 0 code.seq.medium) code.prologue;
    turn = steps_in_list (number_or 0 code.seq.medium) code.turn;
  }

  -- The sequence of this number has these micro-steps, in its prologue and in its
  -- turn; both are empty if the program has no such sequence.
  abbrev pub steps : ℕ → Code MicroStep
  steps sequence = steps_by (slice_get p.seqs sequence)

  -- how many micro-steps all prologues have, and all loops in one reaction
  abbrev pub all_prologues : ℕ
  all_prologues = sum_below (λ s. length (steps s).prologue) (length p.seqs)

  -- All loops together have this many micro-steps in one reaction.
  abbrev pub all_turns : ℕ
  all_turns = sum_below (λ s. length (steps s).turn) (length p.seqs)
