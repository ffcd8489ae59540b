-- The program of a schedule: the projections of its serial order, with prologues. A
-- buffer that a pair guards has several places where the architecture says so.
use Rattle.std.specs.Prelude.{
  ℕ,
  suc,
  Bool,
  cond,
  nat_eq,
  IsTrue,
  List,
  [],
  ◌∷◌,
  map,
  length,
  Option,
  Some,
  None,
  slice_get,
}
use Rattle.std.specs.List.{flat_map, list_any}
use Rattle.schedule.specs.Graph.{Graph}
use Rattle.schedule.specs.FlatValid.{is_flat}
use Rattle.schedule.specs.Archi.{Architecture, is_archi, is_depth}
use Rattle.schedule.specs.Sequences.{sequences}
use Rattle.schedule.specs.declared.decision.Schedule.{Schedule}
use Rattle.schedule.specs.Acts.{Copy}
use Rattle.schedule.specs.Valid.{is_valid}
use Rattle.executive_program.specs.declared.program.Instr.{Instr}
use Rattle.executive_program.specs.declared.program.Instr.TheVariants.{Pre0}
use Rattle.executive_program.specs.declared.program.Buffer.{Buffer}
use Rattle.executive_program.specs.declared.program.Program.{Program}
use Rattle.executive_program.specs.Blocks.{repeated}
use Rattle.executive_program.specs.Instructions.{Reader}
use Rattle.executive_program.specs.WellFormed.{IsOrder}
use Rattle.sequence_build_laws.specs.Serial.{Step, projection, codes, copies, buffer, pairs, pairs_where, serial}

-- A copy is on this operator; it is 0 if there is no copy.
abbrev pub operator_in : Option Copy → ℕ
operator_in None = 0
operator_in (Some c) = c.operator

module _ (g : Graph) (a : Architecture) (s : Schedule) where
  -- a pair guards the buffer
  abbrev pub is_guarded : ℕ → Bool
  is_guarded b = list_any (λ (r : Reader). nat_eq r.buffer b) (pairs g a s)

  -- the operator of a buffer
  abbrev pub operator_of : ℕ → ℕ
  operator_of b = operator_in (slice_get (copies g a s) b)

module _ (depth : ℕ) (g : Graph) (a : Architecture) (s : Schedule) where
  -- of these copies the first has number b
  abbrev pub buffers_from : ℕ → List Copy → List Buffer
  buffers_from b [] = []
  buffers_from b (c ∷ cs) = buffer g a s (cond (is_guarded g a s b) depth 1) c ∷ buffers_from (suc b) cs

  -- for each pair of which the sequence is the reader, by number, the empty semaphore is signalled once for each place
  abbrev pub prologue : ℕ → List Instr
  prologue t = flat_map (λ q. repeated (Pre0 q) depth) (pairs_where (pairs g a s) (λ r. nat_eq r.sequence t))

  -- This is the program of the schedule in which each buffer that a pair guards has
  -- `depth` places, and any other buffer one.
  abbrev pub program_with : Program
  program_with = record {
    buffers = buffers_from 0 (copies g a s);
    pairs = map (λ (r : Reader). operator_of g a s r.buffer) (pairs g a s);
    seqs = codes prologue (projection (serial g a s)) 0 (sequences a);
  }

-- the program of the schedule: a buffer that a pair guards has as
-- many places as the architecture says, and any other one
abbrev pub program_of : Graph → Architecture → Schedule → Program
program_of g a s = program_with a.depth g a s

-- the sequences of the serial order
abbrev pub order_of : Graph → Architecture → Schedule → List ℕ
order_of g a s = map (λ (x : Step). x.sequence) (serial g a s)

-- the program of a schedule that is valid for some durations is well formed by its serial order
abbrev pub BuiltAreWellFormed : Type 0
BuiltAreWellFormed = (g : Graph) (a : Architecture) (ticks : ℕ → ℕ → Option ℕ) (s : Schedule) → IsTrue (is_flat g) →
    IsTrue (is_archi a.operators a.media) → IsTrue (is_depth a.depth) → IsTrue (is_valid g a ticks s) →
    IsOrder (program_of g a s) g (sequences a) (length a.media) (order_of g a s)
