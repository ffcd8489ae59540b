-- Worked programs are well formed: two operators with a bus, a sensor and a function on the first, a function on the second, an actuator on each.
use Rattle.std.proofs.Common.{◌≡◌, ℕ, Bool, List, [], ◌∷◌, Option, Some, None, refl, true, false, pos}
use Rattle.syn_base.specs.declared.arithmetic.Op.TheVariants.{Add}
use Rattle.executive_program.specs.declared.Seq.{Seq}
use Rattle.executive_program.specs.declared.Source.{Source}
use Rattle.executive_program.specs.declared.Vertex.{Vertex}
use Rattle.executive_program.specs.declared.Kind.{Kind}
use Rattle.executive_program.specs.declared.Kind.TheVariants.{Sensor, Actuator, Function}
use Rattle.executive_program.specs.Expr.{literal, element, index, apply}
use Rattle.executive_program.specs.Graph.{Graph}
use Rattle.executive_program.specs.declared.program.Instr.{Instr}
use Rattle.executive_program.specs.declared.program.Instr.TheVariants.{Suc0, Suc1, Pre0, Pre1, Call, Send, Recv}
use Rattle.executive_program.specs.declared.program.Buffer.{Buffer}
use Rattle.executive_program.specs.declared.program.SeqCode.{SeqCode}
use Rattle.executive_program.specs.declared.program.Program.{Program}
use Rattle.executive_program.specs.WellFormed.{IsOrder, IsWellFormed}
use Rattle.order_check.specs.Order.{is_order}
use Rattle.order_check.proofs.Ordered.{decides_order}

abbrev seq : ℕ → Option ℕ → Seq
seq o m = record { operator = o; medium = m }

abbrev code : Seq → List Instr → List Instr → SeqCode
code q p t = record { seq = q; prologue = p; turn = t }

-- a buffer of an operator with this many places
abbrev with_places : ℕ → ℕ → Buffer
with_places o depth = record { operator = o; len = 1; depth = depth }

abbrev on : ℕ → Buffer
on o = with_places o 1

-- these buffers, the prologues of the sender and of the second operator, and the sender's loop
abbrev program_with : List Buffer → List Instr → List Instr → List Instr → Program
program_with buffers first second sender = record {
  buffers = buffers;
  pairs = 0 ∷ 1 ∷ [];
  seqs = code (seq 0 None) [] (Suc0 0 ∷ Call 0 [] (0 ∷ []) ∷ Pre1 0 ∷ Call 1 (0 ∷ []) (1 ∷ []) ∷ Call 3 (1 ∷ []) [] ∷ [])
      ∷ code (seq 0 (Some 0)) first sender
      ∷ code (seq 1 None) second (Suc1 1 ∷ Call 2 (2 ∷ []) (3 ∷ []) ∷ Pre0 1 ∷ Call 4 (3 ∷ []) [] ∷ [])
      ∷ code (seq 1 (Some 0)) [] (Suc0 1 ∷ Recv 2 0 ∷ Pre1 1 ∷ []) ∷ [];
}

-- all buffers of one place, and the communicator of the first operator with this loop
abbrev program : List Instr → Program
program sender = program_with (on 0 ∷ on 0 ∷ on 1 ∷ on 1 ∷ []) (Pre0 0 ∷ []) (Pre0 1 ∷ []) sender

abbrev source : ℕ → Source
source v = record { vertex = v; port = 0 }

abbrev vertex : Kind → List Source → List ℕ → Vertex
vertex k ins outs = record { name = []; def = []; kind = k; guards = []; ins = ins; outs = outs; twin = None }

abbrev graph : Graph
graph = record {
  vertices = vertex (Sensor 0) [] (1 ∷ []) ∷ vertex (Function 0) (source 0 ∷ []) (1 ∷ []) ∷ vertex (Function 0) (source 0 ∷ []) (1 ∷ [])
      ∷ vertex (Actuator 0) (source 1 ∷ []) [] ∷ vertex (Actuator 1) (source 2 ∷ []) [] ∷ [];
  bodies = (apply Add (element 0 index) (literal (pos 1)) ∷ []) ∷ [];
}

abbrev sequences : List Seq
sequences = seq 0 None ∷ seq 0 (Some 0) ∷ seq 1 None ∷ seq 1 (Some 0) ∷ []

abbrev order : List ℕ
order = 0 ∷ 0 ∷ 0 ∷ 0 ∷ 1 ∷ 1 ∷ 1 ∷ 3 ∷ 3 ∷ 3 ∷ 2 ∷ 2 ∷ 2 ∷ 2 ∷ 0 ∷ []

abbrev sends : List Instr
sends = Suc1 0 ∷ Send 0 1 ∷ Pre0 0 ∷ []

in_order : IsOrder (program sends) graph sequences 1 order
in_order = (decides_order (program sends) graph sequences 1 order).0 refl

well_formed : IsWellFormed (program sends) graph sequences 1
well_formed = (order, in_order)

-- but not where the empty semaphore is signalled before the read
hasty : is_order (program (Suc1 0 ∷ Pre0 0 ∷ Send 0 1 ∷ [])) graph.vertices sequences 1 order ≡ false
hasty = refl

-- Two pairs guard the first and the third buffer, which may be deep.
abbrev deep : List Buffer → List Instr → List Instr → Bool
deep buffers first second = is_order (program_with buffers first second sends) graph.vertices sequences 1 order

two_and_four : deep (with_places 0 2 ∷ on 0 ∷ with_places 1 4 ∷ on 1 ∷ []) (Pre0 0 ∷ Pre0 0 ∷ []) (Pre0 1 ∷ Pre0 1 ∷ Pre0 1 ∷ Pre0 1 ∷ []) ≡ true
two_and_four = refl

-- a prologue signals for each place
one_signal : deep (with_places 0 2 ∷ on 0 ∷ on 1 ∷ on 1 ∷ []) (Pre0 0 ∷ []) (Pre0 1 ∷ []) ≡ false
one_signal = refl

three_signals : deep (with_places 0 2 ∷ on 0 ∷ on 1 ∷ on 1 ∷ []) (Pre0 0 ∷ Pre0 0 ∷ Pre0 0 ∷ []) (Pre0 1 ∷ []) ≡ false
three_signals = refl

-- a buffer that no pair guards has one place, and any has one to four
unguarded : deep (on 0 ∷ with_places 0 2 ∷ on 1 ∷ on 1 ∷ []) (Pre0 0 ∷ []) (Pre0 1 ∷ []) ≡ false
unguarded = refl

five_places : deep (with_places 0 5 ∷ on 0 ∷ on 1 ∷ on 1 ∷ []) (Pre0 0 ∷ Pre0 0 ∷ Pre0 0 ∷ Pre0 0 ∷ Pre0 0 ∷ []) (Pre0 1 ∷ []) ≡ false
five_places = refl

no_place : deep (with_places 0 0 ∷ on 0 ∷ on 1 ∷ on 1 ∷ []) [] (Pre0 1 ∷ []) ≡ false
no_place = refl
