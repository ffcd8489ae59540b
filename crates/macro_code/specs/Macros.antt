-- The names of the macros.
use Rattle.std.specs.Prelude.{ℕ, List, codes}
use Rattle.macro_code.specs.declared.macros.Macro.{Macro}
use Rattle.macro_code.specs.declared.macros.Macro.TheVariants.{
  Processor,
  Semaphores,
  Alloc,
  Thread,
  EndThread,
  Main,
  EndMain,
  SpawnThread,
  WaitEndThread,
  Loop,
  EndLoop,
  Suc0,
  Suc1,
  Pre0,
  Pre1,
  Send,
  Recv,
  Sync,
}

-- A macro has this name in the text, in ASCII.
abbrev pub word_of : Macro → List ℕ
word_of Processor = codes "processor_"
word_of Semaphores = codes "semaphores_"
word_of Alloc = codes "alloc_"
word_of Thread = codes "thread_"
word_of EndThread = codes "endthread_"
word_of Main = codes "main_"
word_of EndMain = codes "endmain_"
word_of SpawnThread = codes "spawn_thread_"
word_of WaitEndThread = codes "wait_endthread_"
word_of Loop = codes "loop_"
word_of EndLoop = codes "endloop_"
word_of Suc0 = codes "Suc0_"
word_of Suc1 = codes "Suc1_"
word_of Pre0 = codes "Pre0_"
word_of Pre1 = codes "Pre1_"
word_of Send = codes "send_"
word_of Recv = codes "recv_"
word_of Sync = codes "sync_"
