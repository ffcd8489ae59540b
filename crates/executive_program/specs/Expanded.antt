-- The micro-steps of a program's sequences as the code keeps them.
use Rattle.std.specs.Prelude.{◌≡◌, ℕ, ◌+◌, ◌*◌, cond, nat_lt, length, List, map, Option, None}
use Rattle.interleavings.specs.Sites.{Code, step_at}
use Rattle.executive_program.specs.declared.steps.MicroStep.{MicroStep}
use Rattle.executive_program.specs.declared.program.SeqCode.{SeqCode}
use Rattle.executive_program.specs.declared.program.Program.{Program}
use Rattle.executive_program.specs.declared.expand.SeqSteps.{SeqSteps}
use Rattle.executive_program.specs.Instructions.{number_or}
use Rattle.executive_program.specs.Steps.{steps_in_list}

-- These are the micro-steps of the prologue and of the loop of a sequence. A computation
-- sequence counts as on medium 0, which matters to communications only.
abbrev pub expanded : Program → SeqCode → SeqSteps
expanded p q = record {
  prologue = steps_in_list p (number_or 0 q.seq.medium) q.prologue;
  turn = steps_in_list p (number_or 0 q.seq.medium) q.turn;
}

-- these are the micro-steps of each sequence of the program
abbrev pub AreSteps : Program → List SeqSteps → Type 0
AreSteps p list = list ≡ map (expanded p) p.seqs

-- This is the code of a sequence in the theory of interleavings, with the same prologue and turn.
abbrev pub code_of : SeqSteps → Code MicroStep
code_of q = record { prologue = q.prologue; turn = q.turn }

-- the next micro-step of a sequence that has made n, in a run of this many reactions
abbrev pub next_in : ℕ → SeqSteps → ℕ → Option MicroStep
next_in reactions q n = cond (nat_lt n (length q.prologue + reactions * length q.turn)) (step_at (code_of q) n) None
