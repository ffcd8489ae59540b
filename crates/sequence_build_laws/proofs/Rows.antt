-- The definitions computed on worked examples: one operator; two operators on a bus; a relay over two media; two transfers over a medium of four operators.
use Rattle.std.proofs.Common.{◌≡◌, ℕ, true, false, List, [], ◌∷◌, Option, Some, None, refl}
use Rattle.schedule.specs.declared.MediumKind.TheVariants.{PointToPoint}
use Rattle.schedule.specs.declared.Kind.TheVariants.{Sensor, Actuator, Function}
use Rattle.schedule.specs.Expr.{element, index}
use Rattle.schedule.specs.Graph.{Graph}
use Rattle.schedule.specs.FlatValid.{is_flat}
use Rattle.schedule.specs.Archi.{Architecture, is_archi}
use Rattle.schedule.specs.Sequences.{sequences}
use Rattle.schedule.specs.declared.decision.Schedule.{Schedule}
use Rattle.schedule.specs.Acts.{length_of}
use Rattle.schedule.specs.Valid.{is_valid}
use Rattle.schedule.proofs.Examples.{
  source,
  vertex,
  medium,
  archi,
  entry,
  carried,
  placed,
  schedule,
  plain_graph,
  plain_archi,
  plain_schedule,
  bus_graph,
  bus_archi,
  bus_schedule,
  bus_ticks,
  relay_archi,
  relay_schedule,
  multi_graph,
  multi_archi,
  multi_schedule,
  multi_ticks,
  speed_graph,
  speed_archi,
  speed_ticks,
  speed_schedule,
}
use Rattle.executive_program.specs.declared.program.Instr.{Instr}
use Rattle.executive_program.specs.declared.program.Instr.TheVariants.{Suc0, Suc1, Pre0, Pre1, Call, Send, Recv, Sync}
use Rattle.executive_program.specs.declared.program.Buffer.{Buffer}
use Rattle.executive_program.specs.declared.program.SeqCode.{SeqCode}
use Rattle.executive_program.specs.declared.program.Program.{Program}
use Rattle.executive_program.specs.Instructions.{turn}
use Rattle.executive_program.specs.WellFormed.{IsOrder}
use Rattle.executive_program.specs.MicroSteps.{words}
use Rattle.executive_program.specs.Steps.{all_prologues, all_turns}
use Rattle.sequence_build_laws.proofs.Whole.{built_are_well_formed}
use Rattle.sequence_build_laws.specs.Built.{program_with, program_of, order_of}

abbrev pub code : ℕ → Option ℕ → List Instr → List Instr → SeqCode
code o m p t = record { seq = record { operator = o; medium = m }; prologue = p; turn = t }

abbrev pub on : ℕ → ℕ → Buffer
on o depth = record { operator = o; len = 1; depth = depth }

plain_valid : (is_flat plain_graph ≡ true) × (is_archi plain_archi.operators plain_archi.media ≡ true)
    × (is_valid plain_graph plain_archi (entry ((Some 1 ∷ []) ∷ (Some 2 ∷ []) ∷ [])) plain_schedule ≡ true) × (length_of plain_schedule ≡ 3)
plain_valid = (refl, refl, refl, refl)

plain_program : program_of plain_graph plain_archi plain_schedule ≡ record { buffers = on 0 1 ∷ []; pairs = []; seqs = code 0 None [] (Call 0 [] (0 ∷ []) ∷ Call 1 (0 ∷ []) [] ∷ []) ∷ [] }
plain_program = refl

bus_valid : (is_flat bus_graph ≡ true) × (is_archi bus_archi.operators bus_archi.media ≡ true) × (is_valid bus_graph bus_archi bus_ticks (bus_schedule 3 13) ≡ true)
    × (is_valid bus_graph bus_archi bus_ticks (bus_schedule 12 22) ≡ false) × (length_of (bus_schedule 3 13) ≡ 14)
bus_valid = (refl, refl, refl, refl, refl)

abbrev bus_code : ℕ → List Instr → List Instr → Program
bus_code depth first second = record {
  buffers = on 0 depth ∷ on 0 1 ∷ on 1 depth ∷ on 1 1 ∷ [];
  pairs = 0 ∷ 1 ∷ [];
  seqs = code 0 None [] (Suc0 0 ∷ Call 0 [] (0 ∷ []) ∷ Pre1 0 ∷ Call 1 (0 ∷ []) (1 ∷ []) ∷ Call 3 (1 ∷ []) [] ∷ [])
      ∷ code 0 (Some 0) first (Suc1 0 ∷ Send 0 1 ∷ Pre0 0 ∷ [])
      ∷ code 1 None second (Suc1 1 ∷ Call 2 (2 ∷ []) (3 ∷ []) ∷ Pre0 1 ∷ Call 4 (3 ∷ []) [] ∷ [])
      ∷ code 1 (Some 0) [] (Suc0 1 ∷ Recv 2 0 ∷ Pre1 1 ∷ []) ∷ [];
}

bus_program : (program_of bus_graph bus_archi (bus_schedule 3 13) ≡ bus_code 1 (Pre0 0 ∷ []) (Pre0 1 ∷ []))
    × (program_with 2 bus_graph bus_archi (bus_schedule 3 13) ≡ bus_code 2 (Pre0 0 ∷ Pre0 0 ∷ []) (Pre0 1 ∷ Pre0 1 ∷ []))
bus_program = (refl, refl)

-- with two places, as the architecture says
bus_doubled : program_of bus_graph (record bus_archi { depth = 2 }) (bus_schedule 3 13) ≡ bus_code 2 (Pre0 0 ∷ Pre0 0 ∷ []) (Pre0 1 ∷ Pre0 1 ∷ [])
bus_doubled = refl

bus_numbers : (words (program_of bus_graph bus_archi (bus_schedule 3 13)) 1 ≡ 10)
    × (all_prologues (program_of bus_graph bus_archi (bus_schedule 3 13)) ≡ 2) × (all_turns (program_of bus_graph bus_archi (bus_schedule 3 13)) ≡ 23)
bus_numbers = (refl, refl, refl)

relay_valid : (is_archi relay_archi.operators relay_archi.media ≡ true)
    × (is_valid plain_graph relay_archi (entry ((Some 1 ∷ None ∷ None ∷ []) ∷ (None ∷ None ∷ Some 1 ∷ []) ∷ [])) relay_schedule ≡ true)
    × (length_of relay_schedule ≡ 6)
relay_valid = (refl, refl, refl)

relay_program : program_of plain_graph relay_archi relay_schedule ≡ record {
  buffers = on 0 1 ∷ on 1 1 ∷ on 2 1 ∷ [];
  pairs = 0 ∷ 1 ∷ 2 ∷ [];
  seqs = code 0 None [] (Suc0 0 ∷ Call 0 [] (0 ∷ []) ∷ Pre1 0 ∷ [])
      ∷ code 0 (Some 0) (Pre0 0 ∷ []) (Suc1 0 ∷ Send 0 1 ∷ Pre0 0 ∷ [])
      ∷ code 1 None [] []
      ∷ code 1 (Some 0) [] (Suc0 1 ∷ Recv 1 0 ∷ Pre1 1 ∷ [])
      ∷ code 1 (Some 1) (Pre0 1 ∷ []) (Suc1 1 ∷ Send 1 2 ∷ Pre0 1 ∷ [])
      ∷ code 2 None (Pre0 2 ∷ []) (Suc1 2 ∷ Call 1 (2 ∷ []) [] ∷ Pre0 2 ∷ [])
      ∷ code 2 (Some 1) [] (Suc0 2 ∷ Recv 2 1 ∷ Pre1 2 ∷ []) ∷ [];
}
relay_program = refl

multi_valid : (is_flat multi_graph ≡ true) × (is_archi multi_archi.operators multi_archi.media ≡ true)
    × (is_valid multi_graph multi_archi multi_ticks multi_schedule ≡ true) × (length_of multi_schedule ≡ 6)
multi_valid = (refl, refl, refl, refl)

multi_program : program_of multi_graph multi_archi multi_schedule ≡ record {
  buffers = on 0 1 ∷ on 1 1 ∷ on 2 1 ∷ on 3 1 ∷ [];
  pairs = 0 ∷ 1 ∷ 2 ∷ 3 ∷ [];
  seqs = code 0 None [] (Suc0 0 ∷ Call 0 [] (0 ∷ []) ∷ Pre1 0 ∷ [])
      ∷ code 0 (Some 0) (Pre0 0 ∷ []) (Suc1 0 ∷ Send 0 1 ∷ Pre0 0 ∷ Sync 2 3 ∷ [])
      ∷ code 1 None (Pre0 1 ∷ []) (Suc1 1 ∷ Call 2 (1 ∷ []) [] ∷ Pre0 1 ∷ [])
      ∷ code 1 (Some 0) [] (Suc0 1 ∷ Recv 1 0 ∷ Pre1 1 ∷ Sync 2 3 ∷ [])
      ∷ code 2 None [] (Suc0 2 ∷ Call 1 [] (2 ∷ []) ∷ Pre1 2 ∷ [])
      ∷ code 2 (Some 0) (Pre0 2 ∷ []) (Sync 0 1 ∷ Suc1 2 ∷ Send 2 3 ∷ Pre0 2 ∷ [])
      ∷ code 3 None (Pre0 3 ∷ []) (Suc1 3 ∷ Call 3 (3 ∷ []) [] ∷ Pre0 3 ∷ [])
      ∷ code 3 (Some 0) [] (Sync 0 1 ∷ Suc0 3 ∷ Recv 3 2 ∷ Pre1 3 ∷ []) ∷ [];
}
multi_program = refl

-- One sensor that three operators read: two pairs of one buffer.
abbrev star_graph : Graph
star_graph = record {
  vertices = vertex 115 (Sensor 0) [] (1 ∷ []) ∷ vertex 102 (Function 0) (source 0 ∷ []) (1 ∷ []) ∷ vertex 103 (Function 0) (source 0 ∷ []) (1 ∷ []) ∷ vertex 104 (Function 0) (source 0 ∷ []) (1 ∷ [])
      ∷ vertex 97 (Actuator 0) (source 1 ∷ []) [] ∷ vertex 98 (Actuator 1) (source 2 ∷ []) [] ∷ vertex 99 (Actuator 2) (source 3 ∷ []) [] ∷ [];
  bodies = (element 0 index ∷ []) ∷ [];
}

abbrev star_archi : Architecture
star_archi = archi ((80 ∷ []) ∷ (81 ∷ []) ∷ (82 ∷ []) ∷ []) (medium 120 PointToPoint (0 ∷ 1 ∷ []) ∷ medium 121 PointToPoint (0 ∷ 2 ∷ []) ∷ [])

abbrev star_schedule : Schedule
star_schedule = schedule (placed 0 0 0 1 [] ∷ placed 2 1 3 4 (carried 0 0 0 1 1 3 ∷ []) ∷ placed 3 2 3 4 (carried 0 1 0 2 1 3 ∷ [])
    ∷ placed 5 1 4 5 [] ∷ placed 6 2 4 5 [] ∷ placed 1 0 1 2 [] ∷ placed 4 0 2 3 [] ∷ [])

abbrev star_ticks : ℕ → ℕ → Option ℕ
star_ticks v o = Some 1

star_valid : (is_flat star_graph ≡ true) × (is_archi star_archi.operators star_archi.media ≡ true) × (is_valid star_graph star_archi star_ticks star_schedule ≡ true)
star_valid = (refl, refl, refl)

star_loop : turn (program_of star_graph star_archi star_schedule) 0 ≡ Suc0 0 ∷ Suc0 1 ∷ Call 0 [] (0 ∷ []) ∷ Pre1 0 ∷ Pre1 1 ∷ Call 1 (0 ∷ []) (5 ∷ []) ∷ Call 4 (5 ∷ []) [] ∷ []
star_loop = refl

-- by the theorem
star_well_formed : IsOrder (program_of star_graph star_archi star_schedule) star_graph (sequences star_archi) 2 (order_of star_graph star_archi star_schedule)
star_well_formed = built_are_well_formed star_graph star_archi star_ticks star_schedule refl refl refl refl

speed_valid : (is_flat speed_graph ≡ true) × (is_archi speed_archi.operators speed_archi.media ≡ true)
    × (is_valid speed_graph speed_archi speed_ticks speed_schedule ≡ true) × (length_of speed_schedule ≡ 27)
speed_valid = (refl, refl, refl, refl)

abbrev pub one : ℕ → Buffer
one o = on o 1

abbrev pub eight : Buffer
eight = record { operator = 1; len = 8; depth = 1 }

speed_program : program_of speed_graph speed_archi speed_schedule ≡ record {
  buffers = one 0 ∷ eight ∷ one 1 ∷ eight ∷ one 1 ∷ one 0 ∷ one 0 ∷ one 0 ∷ one 0 ∷ one 0 ∷ one 0 ∷ one 0 ∷ one 0 ∷ [];
  pairs = 0 ∷ 1 ∷ 1 ∷ 0 ∷ [];
  seqs = code 0 None (Pre0 3 ∷ []) (Suc0 0 ∷ Call 0 [] (0 ∷ []) ∷ Pre1 0 ∷ Call 1 [] (5 ∷ []) ∷ Suc1 3 ∷ Call 6 (5 ∷ 6 ∷ []) (7 ∷ []) ∷ Pre0 3 ∷ Call 7 (7 ∷ []) (8 ∷ [])
      ∷ Call 8 (8 ∷ 7 ∷ []) (9 ∷ []) ∷ Call 9 (8 ∷ 7 ∷ []) (10 ∷ []) ∷ Call 10 (8 ∷ 7 ∷ []) (11 ∷ []) ∷ Call 11 (8 ∷ 9 ∷ 10 ∷ 11 ∷ []) (12 ∷ []) ∷ Call 12 (12 ∷ []) [] ∷ [])
      ∷ code 0 (Some 0) (Pre0 0 ∷ []) (Suc1 0 ∷ Send 0 1 ∷ Pre0 0 ∷ Suc0 3 ∷ Recv 6 1 ∷ Pre1 3 ∷ [])
      ∷ code 1 None (Pre0 1 ∷ []) (Call 2 [] (1 ∷ []) ∷ Suc1 1 ∷ Call 4 (1 ∷ 2 ∷ []) (3 ∷ []) ∷ Pre0 1 ∷ Suc0 2 ∷ Call 5 (3 ∷ []) (4 ∷ []) ∷ Pre1 2 ∷ Call 13 (4 ∷ []) [] ∷ Call 3 (3 ∷ []) [] ∷ [])
      ∷ code 1 (Some 0) (Pre0 2 ∷ []) (Suc0 1 ∷ Recv 2 0 ∷ Pre1 1 ∷ Suc1 2 ∷ Send 4 0 ∷ Pre0 2 ∷ []) ∷ [];
}
speed_program = refl

speed_numbers : (words (program_of speed_graph speed_archi speed_schedule) 1 ≡ 37)
    × (all_prologues (program_of speed_graph speed_archi speed_schedule) ≡ 4) × (all_turns (program_of speed_graph speed_archi speed_schedule) ≡ 97)
speed_numbers = (refl, refl, refl)
