-- What worked texts say: one operator; two operators on a bus, with one place and with two; a speed controller; numbers in another order than the processors.
use Rattle.std.proofs.Common.{◌≡◌, List, [], ◌∷◌, ◌++◌, Some, None, Result, Ok, refl}
use Rattle.std.specs.Prelude.{codes}
use Rattle.executive_program.specs.declared.program.Instr.TheVariants.{Suc0, Suc1, Pre0, Pre1, Call, Send, Sync}
use Rattle.executive_program.specs.declared.program.Program.{Program}
use Rattle.macro_code.proofs.Rows.{graph, medium, archi, code, buffer, plain_program, bus_program, speed_program, speed_names}
use Rattle.macro_code.specs.Refusals.{CodeRefusal}
use Rattle.syn_base.specs.Bytes.{Bytes}
use Rattle.macro_code.specs.Forms.{macro_of}
use Rattle.macro_code.specs.declared.fault.CodeCause.TheVariants.{UnknownMacro}
use Rattle.macro_code.specs.ReadText.{program_in}
use Rattle.text_lines.specs.Refusals.{refused}

-- lines, each with its line feed
abbrev pub text : List Bytes → Bytes
text [] = []
text (l ∷ ls) = l ++ 10 ∷ text ls

-- One operator.
abbrev pub plain : List Bytes → Result Program CodeRefusal
plain ls = program_in (text ls) (graph (codes "s" ∷ codes "a" ∷ [])) (archi (codes "P" ∷ []) [])

plain_text : plain (codes "processor_(P)" ∷ codes "semaphores_()" ∷ codes "alloc_(b0,1)" ∷ codes "main_" ∷ codes "loop_"
    ∷ codes "op s(;b0)" ∷ codes "op a(b0;)" ∷ codes "endloop_" ∷ codes "endmain_" ∷ []) ≡ Ok plain_program
unfolding macro_of
plain_text = refl

-- Blanks, comments, carriage returns and empty lines say nothing, and a number may have zeros before it.
loose_text : plain ((codes " processor_(P)\t# the first" ++ 200 ∷ []) ∷ codes "# none" ∷ [] ∷ codes "semaphores_()\r"
    ∷ codes "\talloc_(b00,001)" ∷ codes "main_\r" ∷ codes "loop_" ∷ codes "op  s(;b0)" ∷ codes " op a(b-0;) # last" ∷ codes "endloop_"
    ∷ codes "endmain_ \r" ∷ codes " " ∷ []) ≡ Ok plain_program
unfolding macro_of
loose_text = refl

-- the last line may lack its line feed
unended : program_in (codes "processor_(P)\nsemaphores_()\nalloc_(b0,1)\nmain_\nloop_\nop s(;b0)\nop a(b0;)\nendloop_\nendmain_")
    (graph (codes "s" ∷ codes "a" ∷ [])) (archi (codes "P" ∷ []) []) ≡ Ok plain_program
unfolding macro_of
unended = refl

-- a text without a processor
no_processor : plain [] ≡ Ok (record { buffers = []; pairs = []; seqs = [] })
no_processor = refl

-- Two operators on a bus.
abbrev pub bus : List Bytes → Result Program CodeRefusal
bus ls = program_in (text ls) (graph (codes "s" ∷ codes "f" ∷ codes "g" ∷ codes "a" ∷ codes "b" ∷ [])) (archi (codes "P" ∷ codes "Q" ∷ []) (medium (codes "bus") (0 ∷ 1 ∷ []) ∷ []))

abbrev thread_p : List Bytes
thread_p = codes "loop_" ∷ codes "Suc1_(0)" ∷ codes "send_(b0,Q)" ∷ codes "Pre0_(0)" ∷ codes "endloop_" ∷ codes "endthread_" ∷ []

abbrev main_p : List Bytes
main_p = codes "spawn_thread_(bus)" ∷ codes "loop_" ∷ codes "Suc0_(0)" ∷ codes "op s(;b0)" ∷ codes "Pre1_(0)" ∷ codes "op f(b0;b1)"
    ∷ codes "op a(b1;)" ∷ codes "endloop_" ∷ codes "wait_endthread_(bus)" ∷ codes "endmain_" ∷ []

abbrev thread_q : List Bytes
thread_q = codes "thread_(bus)" ∷ codes "loop_" ∷ codes "Suc0_(1)" ∷ codes "recv_(b2,P)" ∷ codes "Pre1_(1)" ∷ codes "endloop_" ∷ codes "endthread_" ∷ []

abbrev main_q : List Bytes
main_q = codes "loop_" ∷ codes "Suc1_(1)" ∷ codes "op g(b2;b3)" ∷ codes "Pre0_(1)" ∷ codes "op b(b3;)" ∷ codes "endloop_" ∷ codes "wait_endthread_(bus)" ∷ codes "endmain_" ∷ []

abbrev once_p : Bytes → List Bytes
once_p main = codes "processor_(P)" ∷ codes "semaphores_(0)" ∷ codes "alloc_(b0,1)" ∷ codes "alloc_(b1,1)" ∷ codes "thread_(bus)" ∷ codes "Pre0_(0)" ∷ thread_p ++ main ∷ main_p

abbrev once_q : List Bytes
once_q = codes "processor_(Q)" ∷ codes "semaphores_(1)" ∷ codes "alloc_(b2,1)" ∷ codes "alloc_(b3,1)" ∷ thread_q ++ codes "main_" ∷ codes "spawn_thread_(bus)" ∷ codes "Pre0_(1)" ∷ main_q

bus_once : bus (once_p (codes "main_") ++ once_q) ≡ Ok (bus_program 1 (Pre0 0 ∷ []) (Pre0 1 ∷ []))
unfolding macro_of
bus_once = refl

-- a text with fewer processors than operators
bus_half : bus (once_p (codes "main_")) ≡ Ok (record {
  buffers = buffer 0 1 1 ∷ buffer 0 1 1 ∷ [];
  pairs = 0 ∷ [];
  seqs = code 0 None [] (Suc0 0 ∷ Call 0 [] (0 ∷ []) ∷ Pre1 0 ∷ Call 1 (0 ∷ []) (1 ∷ []) ∷ Call 3 (1 ∷ []) [] ∷ []) ∷ code 0 (Some 0) (Pre0 0 ∷ []) (Suc1 0 ∷ Send 0 1 ∷ Pre0 0 ∷ []) ∷ [];
})
unfolding macro_of
bus_half = refl

bus_doubled : bus ((codes "processor_(P)" ∷ codes "semaphores_(0)" ∷ codes "alloc_(b0,1,2)" ∷ codes "alloc_(b1,1)" ∷ codes "thread_(bus)"
    ∷ codes "Pre0_(0)" ∷ codes "Pre0_(0)" ∷ thread_p ++ codes "main_" ∷ main_p)
    ++ (codes "processor_(Q)" ∷ codes "semaphores_(1)" ∷ codes "alloc_(b2,1,2)" ∷ codes "alloc_(b3,1)" ∷ thread_q ++ codes "main_"
    ∷ codes "spawn_thread_(bus)" ∷ codes "Pre0_(1)" ∷ codes "Pre0_(1)" ∷ main_q))
    ≡ Ok (bus_program 2 (Pre0 0 ∷ Pre0 0 ∷ []) (Pre0 1 ∷ Pre0 1 ∷ []))
unfolding macro_of
bus_doubled = refl

-- a macro of another name
mian : bus (once_p (codes "mian_") ++ once_q) ≡ refused 13 (UnknownMacro (codes "mian_"))
unfolding macro_of
mian = refl

-- Buffers and pairs go by their numbers, not by the order of the processors; instructions of all kinds may stand before a loop; media are numbered by the architecture.
abbrev pub three : List Bytes → Result Program CodeRefusal
three ls = program_in (text ls) (graph (codes "d:get" ∷ codes "w.1/x" ∷ []))
    (archi (codes "A" ∷ codes "B" ∷ codes "C" ∷ [])
    (medium (codes "x") (0 ∷ 1 ∷ 2 ∷ []) ∷ medium (codes "y") (0 ∷ 2 ∷ []) ∷ medium (codes "z") (0 ∷ 1 ∷ []) ∷ []))

another_order : three (codes "processor_(A)" ∷ codes "semaphores_(1,3)" ∷ codes "alloc_(b2,5,4)" ∷ codes "alloc_(b3,7)"
    ∷ codes "thread_(x)" ∷ codes "sync_(B,C)" ∷ codes "loop_" ∷ codes "sync_(C,B)" ∷ codes "endloop_" ∷ codes "endthread_"
    ∷ codes "thread_(y)" ∷ codes "loop_" ∷ codes "endloop_" ∷ codes "endthread_"
    ∷ codes "main_" ∷ codes "spawn_thread_(x)" ∷ codes "spawn_thread_(y)" ∷ codes "send_(b2,C)" ∷ codes "loop_"
    ∷ codes "op w.1/x(b3,b2,b3;b2)" ∷ codes "Suc1_(3)" ∷ codes "endloop_" ∷ codes "wait_endthread_(x)" ∷ codes "wait_endthread_(y)" ∷ codes "endmain_"
    ∷ codes "processor_(C)" ∷ codes "semaphores_(0,2)" ∷ codes "alloc_(b0,1)" ∷ codes "alloc_(b1,64,2)"
    ∷ codes "main_" ∷ codes "op d:get(;)" ∷ codes "loop_" ∷ codes "endloop_" ∷ codes "endmain_" ∷ [])
    ≡ Ok (record {
      buffers = buffer 2 1 1 ∷ buffer 2 64 2 ∷ buffer 0 5 4 ∷ buffer 0 7 1 ∷ [];
      pairs = 2 ∷ 0 ∷ 2 ∷ 0 ∷ [];
      seqs = code 0 None (Send 2 2 ∷ []) (Call 1 (3 ∷ 2 ∷ 3 ∷ []) (2 ∷ []) ∷ Suc1 3 ∷ [])
          ∷ code 0 (Some 0) (Sync 1 2 ∷ []) (Sync 2 1 ∷ [])
          ∷ code 0 (Some 1) [] []
          ∷ code 2 None (Call 0 [] [] ∷ []) [] ∷ [];
    })
unfolding macro_of
another_order = refl

speed_text : program_in
    (codes "processor_(P)\nsemaphores_(0,3)\nalloc_(b0,1)\nalloc_(b5,1)\nalloc_(b6,1)\nalloc_(b7,1)\nalloc_(b8,1)\nalloc_(b9,1)\nalloc_(b10,1)\nalloc_(b11,1)\nalloc_(b12,1)\nthread_(can)\n"
    ++ (codes "Pre0_(0)\nloop_\nSuc1_(0)\nsend_(b0,Q)\nPre0_(0)\nSuc0_(3)\nrecv_(b6,Q)\nPre1_(3)\nendloop_\nendthread_\nmain_\nspawn_thread_(can)\n"
    ++ (codes "Pre0_(3)\nloop_\nSuc0_(0)\nop v(;b0)\nPre1_(0)\nop r(;b5)\nSuc1_(3)\nop e(b5,b6;b7)\nPre0_(3)\nop k(b7;b8)\nop w.0(b8,b7;b9)\nop w.1(b8,b7;b10)\n"
    ++ (codes "op w.2(b8,b7;b11)\nop w:y(b8,b9,b10,b11;b12)\nop m(b12;)\nendloop_\nwait_endthread_(can)\nendmain_\nprocessor_(Q)\nsemaphores_(1,2)\nalloc_(b1,8)\nalloc_(b2,1)\nalloc_(b3,8)\nalloc_(b4,1)\n"
    ++ (codes "thread_(can)\nPre0_(2)\nloop_\nSuc0_(1)\nrecv_(b2,P)\nPre1_(1)\nSuc1_(2)\nsend_(b4,P)\nPre0_(2)\nendloop_\nendthread_\nmain_\n"
    ++ (codes "spawn_thread_(can)\nPre0_(1)\nloop_\nop d:get(;b1)\nSuc1_(1)\nop h(b1,b2;b3)\nPre0_(1)\nSuc0_(2)\nop f(b3;b4)\nPre1_(2)\nop n(b4;)\nop d:set(b3;)\n"
    ++ codes "endloop_\nwait_endthread_(can)\nendmain_\n"))))))
    (graph speed_names) (archi (codes "P" ∷ codes "Q" ∷ []) (medium (codes "can") (0 ∷ 1 ∷ []) ∷ [])) ≡ Ok speed_program
unfolding macro_of
speed_text = refl
