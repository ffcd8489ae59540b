-- What instructions do on the semaphores of a pair, and which operation they call.
use Rattle.std.specs.Prelude.{ℕ, Bool, false, ◌&&◌, nat_eq, Option, Some, None, slice_get}
use Rattle.executive_program.specs.declared.program.Instr.{Instr}
use Rattle.executive_program.specs.declared.program.Program.{Program}
use Rattle.executive_program.specs.Instructions.{turn}
use Rattle.executive_program.specs.Places.{calls, signals_empty, signals_full, takes_empty, takes_full}
use Rattle.program_walks.specs.declared.acts.Act.{Act}
use Rattle.program_walks.specs.declared.acts.Act.TheVariants.{TakeEmpty, SignalFull, TakeFull, SignalEmpty, Call}
use Rattle.program_walks.specs.Walks.{every, implies}

-- the instruction does this on the semaphores of pair q, or calls operation q
abbrev pub is_act : Act → ℕ → Instr → Bool
is_act TakeEmpty = takes_empty
is_act SignalFull = signals_full
is_act TakeFull = takes_full
is_act SignalEmpty = signals_empty
is_act Call = calls

-- There is an instruction, and it passes the test.
abbrev pub passes : (Instr → Bool) → Option Instr → Bool
passes test None = false
passes test (Some x) = test x

module _ (p : Program) where
  -- such an instruction stands at place a of s, and nowhere else
  abbrev pub is_only : (Instr → Bool) → ℕ → ℕ → Bool
  is_only test s a =
      passes test (slice_get (turn p s) a) && every p (λ t b y. implies (test y) (nat_eq t s && nat_eq b a))
