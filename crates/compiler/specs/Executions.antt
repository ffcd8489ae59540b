-- Programs that are executed over rows of sensors, and what the actuators of their algorithms take.
use Rattle.std.specs.Prelude.{List, map, length}
use Rattle.syn_base.specs.Bytes.{Bytes}
use Rattle.syn_base.specs.Numbers.{numbers_below}
use Rattle.syn_base.specs.Rows.{Reactions}
use Rattle.syn_base.specs.Vectors.{Values}
use Rattle.algo_laws.specs.Meaning.{act_row}
use Rattle.algo_laws.specs.Tree.{Vertex}
use Rattle.sequence_build_laws.specs.Archi.{Architecture}
use Rattle.sequence_build_laws.specs.Meaning.{initial_cells}
use Rattle.sequence_build_laws.specs.declared.Program.{Program}
use Rattle.word_rule.specs.IsJob.{job_of}
use Rattle.word_rule.specs.Job.{JobData}
use Rattle.accepted_laws.specs.ActNames.{actuator_names}
use Rattle.accepted_laws.specs.ActText.{output_text}
use Rattle.accepted_laws.specs.FlatOf.{flat_of}

-- a program that is executed on an architecture, for an algorithm, over rows of its sensors
pub record Execution : Type 0 where
  pub main : Vertex
  pub architecture : Architecture
  pub program : Program
  pub rows : Reactions

-- its one job over all rows, from the initial values of the delays
abbrev pub one_job : Execution → JobData
one_job e = job_of e.program (flat_of e.main) e.architecture e.rows (initial_cells (flat_of e.main).vertices)

-- What the actuators of an algorithm take in each reaction over these rows of its sensors.
abbrev pub acts_of : Vertex → List Values → List Values
acts_of main rows = map (act_row main rows) (numbers_below (length rows))

-- The output text of what the actuators of an algorithm take over these rows of its sensors.
abbrev pub output_of : Vertex → List Values → Bytes
output_of main rows = output_text (actuator_names main) (acts_of main rows)
