-- The run computed on worked programs: one that comes to its end, the same with a signal moved, and one that stops.
use Rattle.std.proofs.Common.{◌≡◌, ℕ, List, [], ◌∷◌, ◌++◌, Option, Some, None, refl}
use Rattle.sequence_build_laws.proofs.Examples.{bus_graph, bus_archi, speed_graph, speed_archi}
use Rattle.sequence_build_laws.specs.declared.Instr.{Instr}
use Rattle.sequence_build_laws.specs.declared.Instr.TheVariants.{Suc0, Suc1, Pre0, Pre1, Call, Send, Recv}
use Rattle.sequence_build_laws.specs.declared.Program.{Program}
use Rattle.sequence_build_laws.specs.Sequences.{sequences}
use Rattle.sequence_build_laws.proofs.Rows.{code, on, one, eight}
use Rattle.check_laws.specs.Run.{Place, run, stuck}
use Rattle.check_laws.specs.Tests.{Cause, sequences_differ, calls_wrong, transfers_wrong, buffers_wrong, pairs_wrong, prologue_wrong, stuck_at, cause}

abbrev place : ℕ → ℕ → Place
place s a = record { sequence = s; at = a }

-- Two operators on a bus, with this loop for the second one.
abbrev bus_code : List Instr → Program
bus_code loop = record {
  buffers = on 0 1 ∷ on 0 1 ∷ on 1 1 ∷ on 1 1 ∷ [];
  pairs = 0 ∷ 1 ∷ [];
  seqs = code 0 None [] (Suc0 0 ∷ Call 0 [] (0 ∷ []) ∷ Pre1 0 ∷ Call 1 (0 ∷ []) (1 ∷ []) ∷ Call 3 (1 ∷ []) [] ∷ [])
      ∷ code 0 (Some 0) (Pre0 0 ∷ []) (Suc1 0 ∷ Send 0 1 ∷ Pre0 0 ∷ [])
      ∷ code 1 None (Pre0 1 ∷ []) loop
      ∷ code 1 (Some 0) [] (Suc0 1 ∷ Recv 2 0 ∷ Pre1 1 ∷ []) ∷ [];
}

bus_ends : (stuck (bus_code (Suc1 1 ∷ Call 2 (2 ∷ []) (3 ∷ []) ∷ Pre0 1 ∷ Call 4 (3 ∷ []) [] ∷ [])) ≡ [])
    × (stuck (bus_code (Suc1 1 ∷ Call 2 (2 ∷ []) (3 ∷ []) ∷ Call 4 (3 ∷ []) [] ∷ Pre0 1 ∷ [])) ≡ [])
bus_ends = (refl, refl)

bus_run : run (bus_code (Suc1 1 ∷ Call 2 (2 ∷ []) (3 ∷ []) ∷ Pre0 1 ∷ Call 4 (3 ∷ []) [] ∷ [])) ≡ 0 ∷ 0 ∷ 0 ∷ 0 ∷ 0 ∷ 1 ∷ 1 ∷ 1 ∷ 3 ∷ 3 ∷ 3 ∷ 2 ∷ 2 ∷ 2 ∷ 2 ∷ []
bus_run = refl

-- the first sensor is read at the end of its loop
abbrev speed_code : Program
speed_code = record {
  buffers = one 0 ∷ eight ∷ one 1 ∷ eight ∷ one 1 ∷ one 0 ∷ one 0 ∷ one 0 ∷ one 0 ∷ one 0 ∷ one 0 ∷ one 0 ∷ one 0 ∷ [];
  pairs = 0 ∷ 1 ∷ 1 ∷ 0 ∷ [];
  seqs = code 0 None (Pre0 3 ∷ []) (Call 1 [] (5 ∷ []) ∷ Suc1 3 ∷ Call 6 (5 ∷ 6 ∷ []) (7 ∷ []) ∷ Pre0 3 ∷ Call 7 (7 ∷ []) (8 ∷ [])
      ∷ Call 8 (8 ∷ 7 ∷ []) (9 ∷ []) ∷ Call 9 (8 ∷ 7 ∷ []) (10 ∷ []) ∷ Call 10 (8 ∷ 7 ∷ []) (11 ∷ [])
      ∷ Call 11 (8 ∷ 9 ∷ 10 ∷ 11 ∷ []) (12 ∷ []) ∷ Call 12 (12 ∷ []) [] ∷ Suc0 0 ∷ Call 0 [] (0 ∷ []) ∷ Pre1 0 ∷ [])
      ∷ code 0 (Some 0) (Pre0 0 ∷ []) (Suc1 0 ∷ Send 0 1 ∷ Pre0 0 ∷ Suc0 3 ∷ Recv 6 1 ∷ Pre1 3 ∷ [])
      ∷ code 1 None (Pre0 1 ∷ []) (Call 2 [] (1 ∷ []) ∷ Suc1 1 ∷ Call 4 (1 ∷ 2 ∷ []) (3 ∷ []) ∷ Pre0 1 ∷ Suc0 2 ∷ Call 5 (3 ∷ []) (4 ∷ []) ∷ Pre1 2 ∷ Call 13 (4 ∷ []) [] ∷ Call 3 (3 ∷ []) [] ∷ [])
      ∷ code 1 (Some 0) (Pre0 2 ∷ []) (Suc0 1 ∷ Recv 2 0 ∷ Pre1 1 ∷ Suc1 2 ∷ Send 4 0 ∷ Pre0 2 ∷ []) ∷ [];
}

speed_stops : stuck speed_code ≡ place 0 1 ∷ place 1 0 ∷ place 2 1 ∷ place 3 1 ∷ []
speed_stops = refl

-- the first cause for which a program of the two operators is not well formed
abbrev bus_cause : Program → Option Cause
bus_cause p = cause p bus_graph.vertices (sequences bus_archi) 2 1

-- these loops and these prologues, in order
abbrev bus_program : List Instr → List Instr → List Instr → List Instr → List Instr → List Instr → Program
bus_program a b c d first second = record {
  buffers = on 0 1 ∷ on 0 1 ∷ on 1 1 ∷ on 1 1 ∷ [];
  pairs = 0 ∷ 1 ∷ [];
  seqs = code 0 None [] a ∷ code 0 (Some 0) first b ∷ code 1 None second c ∷ code 1 (Some 0) [] d ∷ [];
}

abbrev loop_a : List Instr
loop_a = Suc0 0 ∷ Call 0 [] (0 ∷ []) ∷ Pre1 0 ∷ Call 1 (0 ∷ []) (1 ∷ []) ∷ Call 3 (1 ∷ []) [] ∷ []

abbrev loop_b : List Instr
loop_b = Suc1 0 ∷ Send 0 1 ∷ Pre0 0 ∷ []

abbrev loop_c : List Instr
loop_c = Suc1 1 ∷ Call 2 (2 ∷ []) (3 ∷ []) ∷ Pre0 1 ∷ Call 4 (3 ∷ []) [] ∷ []

abbrev loop_d : List Instr
loop_d = Suc0 1 ∷ Recv 2 0 ∷ Pre1 1 ∷ []

-- as it is built; with a signal moved; without the opening signal; with another instruction in a prologue
bus_right : (bus_cause (bus_program loop_a loop_b loop_c loop_d (Pre0 0 ∷ []) (Pre0 1 ∷ [])) ≡ None)
    × (bus_cause (bus_program loop_a loop_b (Suc1 1 ∷ Call 2 (2 ∷ []) (3 ∷ []) ∷ Call 4 (3 ∷ []) [] ∷ Pre0 1 ∷ []) loop_d (Pre0 0 ∷ []) (Pre0 1 ∷ [])) ≡ None)
    × (bus_cause (bus_program loop_a loop_b loop_c loop_d (Pre0 0 ∷ []) []) ≡ Some prologue_wrong)
    × (bus_cause (bus_program loop_a loop_b loop_c loop_d (Pre0 0 ∷ Send 0 1 ∷ []) (Pre0 1 ∷ [])) ≡ Some prologue_wrong)
bus_right = (refl, refl, refl, refl)

-- a semaphore in a prologue that is not there; an operator that is not there
bus_names : (bus_cause (bus_program loop_a loop_b loop_c loop_d (Pre0 7 ∷ []) (Pre0 1 ∷ [])) ≡ Some sequences_differ)
    × (bus_cause (bus_program loop_a (Suc1 0 ∷ Send 0 2 ∷ Pre0 0 ∷ []) loop_c loop_d (Pre0 0 ∷ []) (Pre0 1 ∷ [])) ≡ Some sequences_differ)
bus_names = (refl, refl)

-- an operation that is called in a prologue alone; a call in a communicator
bus_calls : (bus_cause (bus_program loop_a loop_b (Suc1 1 ∷ Call 2 (2 ∷ []) (3 ∷ []) ∷ Pre0 1 ∷ []) loop_d (Pre0 0 ∷ []) (Pre0 1 ∷ Call 4 (3 ∷ []) [] ∷ [])) ≡ Some calls_wrong)
    × (bus_cause (bus_program loop_a loop_b (Suc1 1 ∷ Call 2 (2 ∷ []) (3 ∷ []) ∷ Pre0 1 ∷ []) (Suc0 1 ∷ Recv 2 0 ∷ Pre1 1 ∷ Call 4 (3 ∷ []) [] ∷ []) (Pre0 0 ∷ []) (Pre0 1 ∷ [])) ≡ Some calls_wrong)
bus_calls = (refl, refl)

-- a send to itself; a send in a computation sequence
bus_transfers : (bus_cause (bus_program loop_a (Suc1 0 ∷ Send 0 0 ∷ Pre0 0 ∷ []) loop_c loop_d (Pre0 0 ∷ []) (Pre0 1 ∷ []))
    ≡ Some transfers_wrong) × (bus_cause (bus_program (loop_a ++ Send 0 1 ∷ []) loop_b loop_c loop_d (Pre0 0 ∷ []) (Pre0 1 ∷ [])) ≡ Some transfers_wrong)
bus_transfers = (refl, refl)

-- the other value is sent; a call that reads what it writes
bus_buffers : (bus_cause (bus_program loop_a (Suc1 0 ∷ Send 1 1 ∷ Pre0 0 ∷ []) loop_c loop_d (Pre0 0 ∷ []) (Pre0 1 ∷ [])) ≡ Some buffers_wrong)
    × (bus_cause (bus_program loop_a loop_b (Suc1 1 ∷ Call 2 (3 ∷ []) (3 ∷ []) ∷ Pre0 1 ∷ Call 4 (3 ∷ []) [] ∷ []) loop_d (Pre0 0 ∷ []) (Pre0 1 ∷ [])) ≡ Some buffers_wrong)
bus_buffers = (refl, refl)

-- a take that is missing; a read before the take
bus_pairs : (bus_cause (bus_program loop_a (Send 0 1 ∷ Pre0 0 ∷ []) loop_c loop_d (Pre0 0 ∷ []) (Pre0 1 ∷ [])) ≡ Some pairs_wrong)
    × (bus_cause (bus_program loop_a (Send 0 1 ∷ Suc1 0 ∷ Pre0 0 ∷ []) loop_c loop_d (Pre0 0 ∷ []) (Pre0 1 ∷ [])) ≡ Some pairs_wrong)
bus_pairs = (refl, refl)

speed_cause : cause speed_code speed_graph.vertices (sequences speed_archi) 2 1 ≡ Some (stuck_at (place 0 1 ∷ place 1 0 ∷ place 2 1 ∷ place 3 1 ∷ []))
speed_cause = refl
