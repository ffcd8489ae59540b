-- Two operators with a bus: the definitions computed on a worked program. A sensor and a function on the first operator, a function on the second, an actuator on each.
use Rattle.std.proofs.Common.{◌≡◌, ℕ, List, [], ◌∷◌, length, Option, Some, None, refl, true, ℤ, pos, negsuc, zero, suc, cond}
use Rattle.syn_base.specs.declared.arithmetic.Op.TheVariants.{Add}
use Rattle.semaphore_core.specs.Job.{JobData}
use Rattle.semaphore_core.specs.Core.{Core, opening, step, is_enabled}
use Rattle.semaphore_core.specs.Told.{told}
use Rattle.semaphore_core.specs.Held.{answer}
use Rattle.semaphore_core.specs.declared.answer.StepAnswer.{StepAnswer}
use Rattle.semaphore_core.specs.declared.answer.StepAnswer.TheVariants.{Finished}
use Rattle.executive_program.specs.System.{take, see, sub, signal, await, advance, load, store}
use Rattle.executive_program.specs.declared.Source.{Source}
use Rattle.executive_program.specs.declared.Vertex.{Vertex}
use Rattle.executive_program.specs.declared.Kind.{Kind}
use Rattle.executive_program.specs.declared.Kind.TheVariants.{Sensor, Actuator, Function}
use Rattle.executive_program.specs.Expr.{literal, element, index, apply}
use Rattle.executive_program.specs.Graph.{Graph}
use Rattle.executive_program.specs.declared.program.Instr.{Instr}
use Rattle.executive_program.specs.declared.program.Instr.TheVariants.{Suc0, Suc1, Pre0, Pre1, Call, Send, Recv}
use Rattle.executive_program.specs.declared.program.SeqCode.{SeqCode}
use Rattle.executive_program.specs.declared.program.Program.{Program}
use Rattle.executive_program.specs.Instructions.{readers, pair_depth}
use Rattle.executive_program.specs.MicroSteps.{code, words, transfers, sent, wire_len}
use Rattle.executive_program.specs.Steps.{all_prologues, all_turns}
use Rattle.executive_program.specs.Places.{writing, pair, transfer, calling, carried, opening_of}
use Rattle.executive_program.specs.WellFormed.{place_in}

abbrev pub sequence : ℕ → Option ℕ → List Instr → List Instr → SeqCode
sequence o m p t = record { seq = record { operator = o; medium = m }; prologue = p; turn = t }

-- with buffers of this many places where a pair guards them
abbrev pub program : ℕ → List Instr → List Instr → Program
program depth first second = record {
  buffers = record { operator = 0; len = 1; depth = depth } ∷ record { operator = 0; len = 1; depth = 1 }
      ∷ record { operator = 1; len = 1; depth = depth } ∷ record { operator = 1; len = 1; depth = 1 } ∷ [];
  pairs = 0 ∷ 1 ∷ [];
  seqs = sequence 0 None [] (Suc0 0 ∷ Call 0 [] (0 ∷ []) ∷ Pre1 0 ∷ Call 1 (0 ∷ []) (1 ∷ []) ∷ Call 3 (1 ∷ []) [] ∷ [])
      ∷ sequence 0 (Some 0) first (Suc1 0 ∷ Send 0 1 ∷ Pre0 0 ∷ [])
      ∷ sequence 1 None second (Suc1 1 ∷ Call 2 (2 ∷ []) (3 ∷ []) ∷ Pre0 1 ∷ Call 4 (3 ∷ []) [] ∷ [])
      ∷ sequence 1 (Some 0) [] (Suc0 1 ∷ Recv 2 0 ∷ Pre1 1 ∷ []) ∷ [];
}

abbrev pub single : Program
single = program 1 (Pre0 0 ∷ []) (Pre0 1 ∷ [])

abbrev pub double : Program
double = program 2 (Pre0 0 ∷ Pre0 0 ∷ []) (Pre0 1 ∷ Pre0 1 ∷ [])

-- 10 words, 2 micro-steps before the loops and 23 in a reaction; with two places 12, 4 and 27
numbers : (words single 1 ≡ 10) × (all_prologues single ≡ 2) × (all_turns single ≡ 23) × (words double 1 ≡ 12) × (all_prologues double ≡ 4) × (all_turns double ≡ 27)
numbers = (refl, refl, refl, refl, refl, refl)

lengths : (length (code single 0).turn ≡ 6) × (length (code single 1).turn ≡ 6) × (length (code single 2).turn ≡ 5) × (length (code single 3).turn ≡ 6)
lengths = (refl, refl, refl, refl)

sending : (code single 1).turn ≡ take 1 ∷ await 0 0 true ∷ load 0 0 ∷ store 4 0 ∷ advance 0 0 ∷ signal 0 ∷ []
sending = refl

sending_of_two : (code double 1).turn ≡ see 1 ∷ sub 1 ∷ await 0 0 true ∷ load 0 0 ∷ store 4 0 ∷ advance 0 0 ∷ signal 0 ∷ []
sending_of_two = refl

receiving : (code single 3).turn ≡ take 2 ∷ await 0 1 true ∷ load 4 0 ∷ store 2 0 ∷ advance 0 1 ∷ signal 3 ∷ []
receiving = refl

computing : (code single 0).turn ≡ take 0 ∷ store 0 0 ∷ signal 1 ∷ load 0 0 ∷ store 1 0 ∷ load 1 0 ∷ []
computing = refl

-- the communicator on the first operator waits for buffer 0, and the computation on the second for buffer 2
waiting : readers single ≡ record { buffer = 0; sequence = 1 } ∷ record { buffer = 2; sequence = 2 } ∷ []
waiting = refl

depths : (pair_depth single 0 ≡ 1) × (pair_depth double 1 ≡ 2)
depths = (refl, refl)

openings : (opening_of single 0 ≡ []) × (opening_of single 1 ≡ Pre0 0 ∷ []) × (opening_of double 2 ≡ Pre0 1 ∷ Pre0 1 ∷ []) × (opening_of single 3 ≡ [])
openings = (refl, refl, refl, refl)

one_transfer : (transfers single 0 ≡ 1) × (sent single 0 0 ≡ Some 0) × (wire_len single 0 ≡ 1)
one_transfer = (refl, refl, refl)

-- the received buffer carries output 0 of the sensor
carries : (carried single 0 ≡ record { vertex = 0; port = 0 }) × (carried single 1 ≡ record { vertex = 1; port = 0 })
    × (carried single 2 ≡ record { vertex = 0; port = 0 }) × (carried single 3 ≡ record { vertex = 2; port = 0 })
carries = (refl, refl, refl, refl)

where_written : writing single 2 ≡ record { writer = 3; at = 1; port = 0 }
where_written = refl

where_called : calling single 2 ≡ record { sequence = 2; at = 1; ins = 2 ∷ []; outs = 3 ∷ [] }
where_called = refl

second_pair : pair single 1 ≡ record { buffer = 2; reader = 2; take_empty = 0; signal_full = 2; take_full = 0; signal_empty = 2; front = 0 }
second_pair = refl

the_transfer : transfer single 0 0 ≡ record { sender = 1; send_at = 1; receiver = 3; receive_at = 1; sent = 0; received = 2 }
the_transfer = refl

-- the serial order of a reaction: the sensor, its function, the transfer, the other function with its actuator, and the first actuator
abbrev order : List ℕ
order = 0 ∷ 0 ∷ 0 ∷ 0 ∷ 1 ∷ 1 ∷ 1 ∷ 3 ∷ 3 ∷ 3 ∷ 2 ∷ 2 ∷ 2 ∷ 2 ∷ 0 ∷ []

send_stands : (place_in order 1 1 ≡ 5) × (place_in order 3 1 ≡ 8) × (place_in order 0 4 ≡ 14)
send_stands = (refl, refl, refl)

-- The job over three reactions, in which the sensor gives 5, -1 and 0, and the functions add 1.
abbrev pub source : ℕ → Source
source v = record { vertex = v; port = 0 }

abbrev pub vertex : Kind → List Source → List ℕ → Vertex
vertex k ins outs = record { name = []; def = []; kind = k; guards = []; ins = ins; outs = outs; twin = None }

abbrev pub graph : Graph
graph = record {
  vertices = vertex (Sensor 0) [] (1 ∷ []) ∷ vertex (Function 0) (source 0 ∷ []) (1 ∷ []) ∷ vertex (Function 0) (source 0 ∷ []) (1 ∷ [])
      ∷ vertex (Actuator 0) (source 1 ∷ []) [] ∷ vertex (Actuator 1) (source 2 ∷ []) [] ∷ [];
  bodies = (apply Add (element 0 index) (literal (pos 1)) ∷ []) ∷ [];
}

abbrev pub reading : ℤ → List (List ℤ)
reading z = (z ∷ []) ∷ []

abbrev pub job : Program → JobData
job p = record { program = p; graph = graph; media = 1; sensors = reading (pos 5) ∷ reading (negsuc 0) ∷ reading (pos 0) ∷ []; lens = 1 ∷ []; opening = [] }

-- the greatest enabled sequence below n, and else n
abbrev greatest : (j : JobData) → Core → ℕ → ℕ
greatest j z zero = 0
greatest j z (suc n) = cond (is_enabled j z n) n (greatest j z n)

-- this many steps, always of the greatest enabled sequence
abbrev run_greatest : (j : JobData) → ℕ → Core → Core
run_greatest j zero z = z
run_greatest j (suc n) z = run_greatest j n (step j z (greatest j z 4))

ended : Core
ended = run_greatest (job single) 71 (opening (job single))

at_end : ended.counts ≡ 18 ∷ 19 ∷ 16 ∷ 18 ∷ []
unfolding ended
at_end = refl

taken_rows : ended.rows ≡ ((pos 6 ∷ []) ∷ (pos 6 ∷ []) ∷ []) ∷ ((pos 0 ∷ []) ∷ (pos 0 ∷ []) ∷ []) ∷ ((pos 1 ∷ []) ∷ (pos 1 ∷ []) ∷ []) ∷ []
unfolding ended
taken_rows = refl

-- what the named sequences answer, in order
abbrev answers : (j : JobData) → List ℕ → Core → List StepAnswer
answers j [] z = []
answers j (s ∷ list) z = answer j z s ∷ answers j list (step j z s)

all_finished : answers (job single) (0 ∷ 1 ∷ 2 ∷ 3 ∷ []) ended ≡ Finished ∷ Finished ∷ Finished ∷ Finished ∷ []
unfolding ended
all_finished = refl

-- the state in the middle and at the end is what the counts tell
middle : Core
middle = run_greatest (job single) 33 (opening (job single))

told_in_the_middle : middle ≡ told (job single) middle.counts
unfolding middle
told_in_the_middle = refl

told_at_the_end : ended ≡ told (job single) ended.counts
unfolding ended
told_at_the_end = refl

-- with buffers of two places
wide : Core
wide = run_greatest (job double) 85 (opening (job double))

wide_end : (wide.counts ≡ 21 ∷ 23 ∷ 20 ∷ 21 ∷ []) × (wide.rows ≡ ((pos 6 ∷ []) ∷ (pos 6 ∷ []) ∷ []) ∷ ((pos 0 ∷ []) ∷ (pos 0 ∷ []) ∷ []) ∷ ((pos 1 ∷ []) ∷ (pos 1 ∷ []) ∷ []) ∷ [])
unfolding wide
wide_end = (refl, refl)

told_of_two : wide ≡ told (job double) wide.counts
unfolding wide
told_of_two = refl
