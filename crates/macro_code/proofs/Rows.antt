-- The macro-code of worked programs: one operator; two operators on a bus, with one place and with two; a speed controller.
use Rattle.std.proofs.Common.{◌≡◌, ℕ, true, List, [], ◌∷◌, ◌++◌, map, Option, Some, None, refl}
use Rattle.std.specs.Prelude.{codes}
use Rattle.std.specs.Fmt.{digits}
use Rattle.executive_program.specs.declared.Vertex.{Vertex}
use Rattle.executive_program.specs.declared.Kind.TheVariants.{Set}
use Rattle.executive_program.specs.Graph.{Graph}
use Rattle.executive_program.specs.declared.Medium.{Medium}
use Rattle.executive_program.specs.declared.MediumKind.TheVariants.{Multipoint}
use Rattle.executive_program.specs.Archi.{Architecture}
use Rattle.executive_program.specs.declared.program.Instr.{Instr}
use Rattle.executive_program.specs.declared.program.Instr.TheVariants.{Suc0, Suc1, Pre0, Pre1, Call, Send, Recv, Sync}
use Rattle.executive_program.specs.declared.program.Buffer.{Buffer}
use Rattle.executive_program.specs.declared.program.SeqCode.{SeqCode}
use Rattle.executive_program.specs.declared.program.Program.{Program}
use Rattle.syn_base.specs.Bytes.{Bytes}
use Rattle.macro_code.specs.Text.{instr_line, macro_code}

-- of an operation the text has its name alone
abbrev pub operation : Bytes → Vertex
operation name = record { name = name; def = codes "D"; kind = Set; guards = []; ins = []; outs = []; twin = None }

abbrev pub graph : List Bytes → Graph
graph names = record { vertices = map operation names; bodies = [] }

abbrev pub medium : Bytes → List ℕ → Medium
medium name stands = record { name = name; kind = Multipoint; fixed = 1; per = 1; stands = stands }

abbrev pub archi : List Bytes → List Medium → Architecture
archi operators media = record { operators = operators; media = media; depth = 1 }

abbrev pub code : ℕ → Option ℕ → List Instr → List Instr → SeqCode
code o m p t = record { seq = record { operator = o; medium = m }; prologue = p; turn = t }

abbrev pub buffer : ℕ → ℕ → ℕ → Buffer
buffer o len depth = record { operator = o; len = len; depth = depth }

-- One operator.
abbrev pub plain_program : Program
plain_program = record { buffers = buffer 0 1 1 ∷ []; pairs = []; seqs = code 0 None [] (Call 0 [] (0 ∷ []) ∷ Call 1 (0 ∷ []) [] ∷ []) ∷ [] }

plain_text : macro_code plain_program (graph (codes "s" ∷ codes "a" ∷ [])) (archi (codes "P" ∷ []) []) ≡
    codes "processor_(P)\nsemaphores_()\nalloc_(b0,1)\nmain_\nloop_\nop s(;b0)\nop a(b0;)\nendloop_\nendmain_\n"
unfolding digits
plain_text = refl

-- Two operators on a bus.
abbrev pub bus_program : ℕ → List Instr → List Instr → Program
bus_program depth first second = record {
  buffers = buffer 0 1 depth ∷ buffer 0 1 1 ∷ buffer 1 1 depth ∷ buffer 1 1 1 ∷ [];
  pairs = 0 ∷ 1 ∷ [];
  seqs = code 0 None [] (Suc0 0 ∷ Call 0 [] (0 ∷ []) ∷ Pre1 0 ∷ Call 1 (0 ∷ []) (1 ∷ []) ∷ Call 3 (1 ∷ []) [] ∷ [])
      ∷ code 0 (Some 0) first (Suc1 0 ∷ Send 0 1 ∷ Pre0 0 ∷ [])
      ∷ code 1 None second (Suc1 1 ∷ Call 2 (2 ∷ []) (3 ∷ []) ∷ Pre0 1 ∷ Call 4 (3 ∷ []) [] ∷ [])
      ∷ code 1 (Some 0) [] (Suc0 1 ∷ Recv 2 0 ∷ Pre1 1 ∷ []) ∷ [];
}

abbrev bus_text : Program → Bytes
bus_text p = macro_code p (graph (codes "s" ∷ codes "f" ∷ codes "g" ∷ codes "a" ∷ codes "b" ∷ [])) (archi (codes "P" ∷ codes "Q" ∷ []) (medium (codes "bus") (0 ∷ 1 ∷ []) ∷ []))

bus_once : bus_text (bus_program 1 (Pre0 0 ∷ []) (Pre0 1 ∷ [])) ≡
    (codes "processor_(P)\nsemaphores_(0)\nalloc_(b0,1)\nalloc_(b1,1)\nthread_(bus)\nPre0_(0)\nloop_\nSuc1_(0)\nsend_(b0,Q)\nPre0_(0)\nendloop_\nendthread_\n"
    ++ (codes "main_\nspawn_thread_(bus)\nloop_\nSuc0_(0)\nop s(;b0)\nPre1_(0)\nop f(b0;b1)\nop a(b1;)\nendloop_\nwait_endthread_(bus)\nendmain_\nprocessor_(Q)\n"
    ++ (codes "semaphores_(1)\nalloc_(b2,1)\nalloc_(b3,1)\nthread_(bus)\nloop_\nSuc0_(1)\nrecv_(b2,P)\nPre1_(1)\nendloop_\nendthread_\nmain_\nspawn_thread_(bus)\n"
    ++ codes "Pre0_(1)\nloop_\nSuc1_(1)\nop g(b2;b3)\nPre0_(1)\nop b(b3;)\nendloop_\nwait_endthread_(bus)\nendmain_\n")))
unfolding digits
bus_once = refl

bus_doubled : bus_text (bus_program 2 (Pre0 0 ∷ Pre0 0 ∷ []) (Pre0 1 ∷ Pre0 1 ∷ [])) ≡
    (codes "processor_(P)\nsemaphores_(0)\nalloc_(b0,1,2)\nalloc_(b1,1)\nthread_(bus)\nPre0_(0)\nPre0_(0)\nloop_\nSuc1_(0)\nsend_(b0,Q)\nPre0_(0)\nendloop_\n"
    ++ (codes "endthread_\nmain_\nspawn_thread_(bus)\nloop_\nSuc0_(0)\nop s(;b0)\nPre1_(0)\nop f(b0;b1)\nop a(b1;)\nendloop_\nwait_endthread_(bus)\nendmain_\n"
    ++ (codes "processor_(Q)\nsemaphores_(1)\nalloc_(b2,1,2)\nalloc_(b3,1)\nthread_(bus)\nloop_\nSuc0_(1)\nrecv_(b2,P)\nPre1_(1)\nendloop_\nendthread_\nmain_\n"
    ++ codes "spawn_thread_(bus)\nPre0_(1)\nPre0_(1)\nloop_\nSuc1_(1)\nop g(b2;b3)\nPre0_(1)\nop b(b3;)\nendloop_\nwait_endthread_(bus)\nendmain_\n")))
unfolding digits
bus_doubled = refl

-- A wait for a transfer between two other operators names its sender first.
sync_line : instr_line (record { vertices = []; operators = codes "A" ∷ codes "B" ∷ codes "C" ∷ codes "D" ∷ []; media = [] }) (Sync 2 3) ≡ codes "sync_(C,D)\n"
sync_line = refl

-- A speed controller.
abbrev pub one : ℕ → Buffer
one o = buffer o 1 1

abbrev pub speed_program : Program
speed_program = record {
  buffers = one 0 ∷ buffer 1 8 1 ∷ one 1 ∷ buffer 1 8 1 ∷ one 1 ∷ one 0 ∷ one 0 ∷ one 0 ∷ one 0 ∷ one 0 ∷ one 0 ∷ one 0 ∷ one 0 ∷ [];
  pairs = 0 ∷ 1 ∷ 1 ∷ 0 ∷ [];
  seqs = code 0 None (Pre0 3 ∷ []) (Suc0 0 ∷ Call 0 [] (0 ∷ []) ∷ Pre1 0 ∷ Call 1 [] (5 ∷ []) ∷ Suc1 3 ∷ Call 6 (5 ∷ 6 ∷ []) (7 ∷ []) ∷ Pre0 3 ∷ Call 7 (7 ∷ []) (8 ∷ [])
      ∷ Call 8 (8 ∷ 7 ∷ []) (9 ∷ []) ∷ Call 9 (8 ∷ 7 ∷ []) (10 ∷ []) ∷ Call 10 (8 ∷ 7 ∷ []) (11 ∷ []) ∷ Call 11 (8 ∷ 9 ∷ 10 ∷ 11 ∷ []) (12 ∷ []) ∷ Call 12 (12 ∷ []) [] ∷ [])
      ∷ code 0 (Some 0) (Pre0 0 ∷ []) (Suc1 0 ∷ Send 0 1 ∷ Pre0 0 ∷ Suc0 3 ∷ Recv 6 1 ∷ Pre1 3 ∷ [])
      ∷ code 1 None (Pre0 1 ∷ []) (Call 2 [] (1 ∷ []) ∷ Suc1 1 ∷ Call 4 (1 ∷ 2 ∷ []) (3 ∷ []) ∷ Pre0 1 ∷ Suc0 2 ∷ Call 5 (3 ∷ []) (4 ∷ []) ∷ Pre1 2 ∷ Call 13 (4 ∷ []) [] ∷ Call 3 (3 ∷ []) [] ∷ [])
      ∷ code 1 (Some 0) (Pre0 2 ∷ []) (Suc0 1 ∷ Recv 2 0 ∷ Pre1 1 ∷ Suc1 2 ∷ Send 4 0 ∷ Pre0 2 ∷ []) ∷ [];
}

abbrev pub speed_names : List Bytes
speed_names = codes "v" ∷ codes "r" ∷ codes "d:get" ∷ codes "d:set" ∷ codes "h" ∷ codes "f" ∷ codes "e" ∷ codes "k" ∷ codes "w.0" ∷ codes "w.1" ∷ codes "w.2" ∷ codes "w:y" ∷ codes "m" ∷ codes "n" ∷ []

speed_text : macro_code speed_program (graph speed_names) (archi (codes "P" ∷ codes "Q" ∷ []) (medium (codes "can") (0 ∷ 1 ∷ []) ∷ [])) ≡
    (codes "processor_(P)\nsemaphores_(0,3)\nalloc_(b0,1)\nalloc_(b5,1)\nalloc_(b6,1)\nalloc_(b7,1)\nalloc_(b8,1)\nalloc_(b9,1)\nalloc_(b10,1)\nalloc_(b11,1)\nalloc_(b12,1)\nthread_(can)\n"
    ++ (codes "Pre0_(0)\nloop_\nSuc1_(0)\nsend_(b0,Q)\nPre0_(0)\nSuc0_(3)\nrecv_(b6,Q)\nPre1_(3)\nendloop_\nendthread_\nmain_\nspawn_thread_(can)\n"
    ++ (codes "Pre0_(3)\nloop_\nSuc0_(0)\nop v(;b0)\nPre1_(0)\nop r(;b5)\nSuc1_(3)\nop e(b5,b6;b7)\nPre0_(3)\nop k(b7;b8)\nop w.0(b8,b7;b9)\nop w.1(b8,b7;b10)\n"
    ++ (codes "op w.2(b8,b7;b11)\nop w:y(b8,b9,b10,b11;b12)\nop m(b12;)\nendloop_\nwait_endthread_(can)\nendmain_\nprocessor_(Q)\nsemaphores_(1,2)\nalloc_(b1,8)\nalloc_(b2,1)\nalloc_(b3,8)\nalloc_(b4,1)\n"
    ++ (codes "thread_(can)\nPre0_(2)\nloop_\nSuc0_(1)\nrecv_(b2,P)\nPre1_(1)\nSuc1_(2)\nsend_(b4,P)\nPre0_(2)\nendloop_\nendthread_\nmain_\n"
    ++ (codes "spawn_thread_(can)\nPre0_(1)\nloop_\nop d:get(;b1)\nSuc1_(1)\nop h(b1,b2;b3)\nPre0_(1)\nSuc0_(2)\nop f(b3;b4)\nPre1_(2)\nop n(b4;)\nop d:set(b3;)\n"
    ++ codes "endloop_\nwait_endthread_(can)\nendmain_\n"))))))
unfolding digits
speed_text = refl
