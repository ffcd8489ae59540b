-- Three operators, of which the first sends the sensor's vector over two media: how far its computation runs ahead.
use Rattle.std.proofs.Common.{◌≡◌, ℕ, List, [], ◌∷◌, ◌++◌, Option, Some, None, refl, ℤ, pos}
use Rattle.syn_base.specs.declared.arithmetic.Op.TheVariants.{Add}
use Rattle.executive_program.specs.declared.Source.{Source}
use Rattle.executive_program.specs.declared.Vertex.{Vertex}
use Rattle.executive_program.specs.declared.Kind.{Kind}
use Rattle.executive_program.specs.declared.Kind.TheVariants.{Sensor, Actuator, Function}
use Rattle.executive_program.specs.Expr.{literal, element, index, apply}
use Rattle.executive_program.specs.Graph.{Graph}
use Rattle.executive_program.specs.Blocks.{repeated}
use Rattle.semaphore_core.specs.Job.{JobData}
use Rattle.semaphore_core.specs.Core.{Core, opening, step}
use Rattle.semaphore_core.specs.Held.{answer}
use Rattle.semaphore_core.specs.declared.answer.StepAnswer.{StepAnswer}
use Rattle.semaphore_core.specs.declared.answer.StepAnswer.TheVariants.{Stepped, NotYet}
use Rattle.executive_program.specs.declared.program.Buffer.{Buffer}
use Rattle.executive_program.specs.declared.program.Instr.{Instr}
use Rattle.executive_program.specs.declared.program.Instr.TheVariants.{Suc0, Suc1, Pre0, Pre1, Call, Send, Recv}
use Rattle.executive_program.specs.declared.program.SeqCode.{SeqCode}
use Rattle.executive_program.specs.declared.program.Program.{Program}

abbrev sequence : ℕ → Option ℕ → List Instr → List Instr → SeqCode
sequence o m p t = record { seq = record { operator = o; medium = m }; prologue = p; turn = t }

abbrev buffer : ℕ → ℕ → Buffer
buffer depth o = record { operator = o; len = 1; depth = depth }

-- with buffers of this many places where pairs guard them
abbrev program : ℕ → Program
program depth = record {
  buffers = buffer depth 0 ∷ buffer depth 1 ∷ buffer depth 2 ∷ buffer 1 1 ∷ buffer 1 2 ∷ buffer 1 0 ∷ [];
  pairs = 0 ∷ 0 ∷ 1 ∷ 2 ∷ [];
  seqs = sequence 0 None [] (Suc0 0 ∷ Suc0 1 ∷ Call 0 [] (0 ∷ []) ∷ Pre1 0 ∷ Pre1 1 ∷ Call 1 (0 ∷ []) (5 ∷ []) ∷ Call 4 (5 ∷ []) [] ∷ [])
      ∷ sequence 0 (Some 0) (repeated (Pre0 0) depth) (Suc1 0 ∷ Send 0 1 ∷ Pre0 0 ∷ [])
      ∷ sequence 0 (Some 1) (repeated (Pre0 1) depth) (Suc1 1 ∷ Send 0 2 ∷ Pre0 1 ∷ [])
      ∷ sequence 1 None (repeated (Pre0 2) depth) (Suc1 2 ∷ Call 2 (1 ∷ []) (3 ∷ []) ∷ Pre0 2 ∷ Call 5 (3 ∷ []) [] ∷ [])
      ∷ sequence 1 (Some 0) [] (Suc0 2 ∷ Recv 1 0 ∷ Pre1 2 ∷ [])
      ∷ sequence 2 None (repeated (Pre0 3) depth) (Suc1 3 ∷ Call 3 (2 ∷ []) (4 ∷ []) ∷ Pre0 3 ∷ Call 6 (4 ∷ []) [] ∷ [])
      ∷ sequence 2 (Some 1) [] (Suc0 3 ∷ Recv 2 0 ∷ Pre1 3 ∷ []) ∷ [];
}

abbrev vertex : Kind → List ℕ → List ℕ → Vertex
vertex k ins outs = record { name = []; def = []; kind = k; guards = []; ins = sources ins; outs = outs; twin = None }
  where
    sources : List ℕ → List Source
    sources [] = []
    sources (v ∷ vs) = record { vertex = v; port = 0 } ∷ sources vs

abbrev graph : Graph
graph = record {
  vertices = vertex (Sensor 0) [] (1 ∷ []) ∷ vertex (Function 0) (0 ∷ []) (1 ∷ []) ∷ vertex (Function 0) (0 ∷ []) (1 ∷ []) ∷ vertex (Function 0) (0 ∷ []) (1 ∷ [])
      ∷ vertex (Actuator 0) (1 ∷ []) [] ∷ vertex (Actuator 1) (2 ∷ []) [] ∷ vertex (Actuator 2) (3 ∷ []) [] ∷ [];
  bodies = (apply Add (element 0 index) (literal (pos 1)) ∷ []) ∷ [];
}

abbrev job : ℕ → List (List (List ℤ)) → JobData
job depth sensors = record { program = program depth; graph = graph; media = 2; sensors = sensors; lens = 1 ∷ []; opening = [] }

abbrev reading : ℤ → List (List ℤ)
reading z = (z ∷ []) ∷ []

abbrev single : JobData
single = job 1 (reading (pos 5) ∷ reading (pos 7) ∷ [])

abbrev double : JobData
double = job 2 (reading (pos 5) ∷ reading (pos 7) ∷ reading (pos 9) ∷ [])

-- what the named sequences answer, in order
abbrev answers : JobData → List ℕ → Core → List StepAnswer
answers j [] z = []
answers j (s ∷ list) z = answer j z s ∷ answers j list (step j z s)

-- The communicators signal that the buffer is empty, and the computation makes a whole reaction and no more. When one of the two has sent, it takes that one's signal and waits for the other's.
ahead : answers single (1 ∷ 2 ∷ 0 ∷ 0 ∷ 0 ∷ 0 ∷ 0 ∷ 0 ∷ 0 ∷ 0 ∷ 0 ∷ 1 ∷ 1 ∷ 1 ∷ 1 ∷ 1 ∷ 1 ∷ 0 ∷ 0 ∷ []) (opening single)
    ≡ Stepped ∷ Stepped ∷ Stepped ∷ Stepped ∷ Stepped ∷ Stepped ∷ Stepped ∷ Stepped ∷ Stepped ∷ Stepped ∷ NotYet ∷ Stepped ∷ Stepped ∷ Stepped ∷ Stepped ∷ Stepped ∷ Stepped ∷ Stepped ∷ NotYet ∷ []
ahead = refl

-- With two places the computation makes two whole reactions. When one communicator has sent once, it sees and lowers that one's semaphore and waits for the other's.
far_ahead : answers double ((1 ∷ 1 ∷ 2 ∷ 2 ∷ []) ++ (repeated 0 21 ++ (repeated 1 7 ++ (0 ∷ 0 ∷ 0 ∷ [])))) (opening double)
    ≡ repeated Stepped 24 ++ (NotYet ∷ (repeated Stepped 9 ++ (NotYet ∷ [])))
far_ahead = refl
