-- When parts make a job, and the limit that refuses them.
use Rattle.std.specs.Prelude.{◌≡◌, ℕ, ◌-◌, ◌^◌, ◌≤◌, min, map, length, Option, None}
use Rattle.syn_base.specs.declared.limits.LimitKind.TheVariants.{Output, Total}
use Rattle.syn_base.specs.declared.limits.LimitFault.{LimitFault}
use Rattle.syn_base.specs.Limits.{above}
use Rattle.syn_base.specs.Rows.{Reactions, AreCut}
use Rattle.executive_program.specs.Graph.{Graph}
use Rattle.executive_program.specs.FlatLaws.{sensor_lens}
use Rattle.executive_program.specs.Meaning.{initial_cells}
use Rattle.executive_program.specs.Archi.{Architecture}
use Rattle.executive_program.specs.Sequences.{sequences}
use Rattle.executive_program.specs.declared.program.Program.{Program}
use Rattle.executive_program.specs.WellFormed.{IsWellFormed}
use Rattle.semaphore_core.specs.Job.{JobData, reactions, output_elements, total_steps}
use Rattle.syn_base.specs.Vectors.{Values}

-- the job of these parts
abbrev pub job_of : Program → Graph → Architecture → Reactions → Values → JobData
job_of p g a rows opening = record {
  program = p;
  graph = g;
  media = length a.media;
  sensors = rows.reactions;
  lens = rows.lens;
  opening = opening;
}

-- A program that is well formed for the flat graph and the architecture, rows of the graph's
-- sensors in at most 10,000 reactions, and a vector for each delay, of its length.
pub record FitTogether (a : Architecture) (j : JobData) : Type 0 where
  pub media : j.media ≡ length a.media
  pub formed : IsWellFormed j.program j.graph (sequences a) j.media
  pub sensed : j.lens ≡ sensor_lens j.graph.vertices
  pub few : reactions j ≤ 10000
  pub opened : map length j.opening ≡ map length (initial_cells j.graph.vertices)

-- The limit that refuses this many reactions of a program: the elements that the actuators take,
-- then the micro-steps in all. A number that the count's type does not hold is its last value.
abbrev pub limit_in : Program → Graph → ℕ → Option LimitFault
limit_in p g n = above Output (output_elements g n) (above Total (min (total_steps p n) (2 ^ 128 - 1)) None)

-- the limit that refuses a job
abbrev pub limit_of : JobData → Option LimitFault
limit_of j = limit_in j.program j.graph (reactions j)

-- what meets no limit meets none over fewer reactions
abbrev pub FewerMeetNone : Type 0
FewerMeetNone = (p : Program) (g : Graph) (m n : ℕ) → m ≤ n → limit_in p g n ≡ None → limit_in p g m ≡ None

-- what every job keeps; that each reaction has vectors of the sensors' lengths is kept by the rows
abbrev pub IsJobOn : Architecture → JobData → Type 0
IsJobOn a j = FitTogether a j × ((limit_of j ≡ None) × AreCut (record { lens = j.lens; reactions = j.sensors }))

-- It is a job: for some architecture its parts fit together, it meets no limit, and
-- each reaction has vectors of the sensors' lengths.
abbrev pub IsJob : JobData → Type 0
IsJob j = (a : Architecture) × IsJobOn a j
