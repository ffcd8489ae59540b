-- Well-formed programs are synchronized and ordered.
use Rattle.std.specs.Prelude.{ℕ, List}
use Rattle.executive_program.specs.declared.Seq.{Seq}
use Rattle.executive_program.specs.Places.{places, carried}
use Rattle.executive_program.specs.WellFormed.{IsOrder}
use Rattle.semaphore_core.specs.Registers.{Own}
use Rattle.semaphore_core.specs.Job.{JobData, reactions, system}
use Rattle.phase_laws.specs.Discipline.{ProgramsAreDisciplined}
use Rattle.phase_laws.proofs.Readers.{conditions}
use Rattle.phase_laws.proofs.Synchronized.{is_synchronized}
use Rattle.phase_laws.proofs.Order.{is_ordered}
use Rattle.phase_laws.proofs.Setting.{Parts, Conditions}

-- what the sequences of a job have of their own
abbrev pub parts_of : JobData → Parts Own
parts_of j = record { start = (system j).start; absorb = (system j).absorb; emit = (system j).emit; after = (system j).after }

abbrev pub conditions_of : (j : JobData) (seqs : List Seq) (order : List ℕ) → IsOrder j.program j.graph seqs j.media order → Conditions j.program (places j.program)
conditions_of j seqs order h = conditions j.program order (carried j.program) j.graph seqs j.media h

pub are_disciplined : ProgramsAreDisciplined
are_disciplined j seqs order h = (
  is_synchronized j.program (places j.program) (conditions_of j seqs order h) (reactions j) (parts_of j),
  is_ordered j.program (places j.program) (conditions_of j seqs order h) (reactions j) (parts_of j),
)
