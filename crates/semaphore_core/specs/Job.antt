-- A job: a well-formed program with the sensors' rows and the
-- delays' opening values, as a system of interleaved sequences.
use Rattle.std.specs.Prelude.{ℕ, ◌+◌, ◌-◌, ◌*◌, cond, nat_lt, List, [], map, length, replicate, refl}
use Rattle.std.specs.List.{sum_by}
use Rattle.std.specs.Coded.{Coded, code_by, coded×, coded_list, coded_ℕ, coded_ℤ}
use Rattle.executive_program.specs.Sites.{reaction_at, step_at}
use Rattle.executive_program.specs.System.{System}
use Rattle.executive_program.specs.Owners.{sum_below}
use Rattle.executive_program.specs.Graph.{Graph}
use Rattle.executive_program.specs.FlatLaws.{actuator_lens}
use Rattle.executive_program.specs.declared.program.Program.{Program}
use Rattle.executive_program.specs.Blocks.{block_at}
use Rattle.executive_program.specs.Instructions.{len_of, depth_of}
use Rattle.executive_program.specs.MicroSteps.{code, transfers, access, wire_len, buffer_elements}
use Rattle.operation_desks.specs.Registers.{Own, absorb_at, emit_at, after_at}
use Rattle.executive_program.specs.Steps.{steps, all_prologues, all_turns}
use Rattle.syn_base.specs.Vectors.{Values, zeros}

-- A job is a program with all that a run of it needs: the flat graph, the number of
-- media, the sensors' rows, and the opening cells of the delays.
pub record JobData : Type 0 where
  pub program : Program
  pub graph : Graph
  -- the number of media
  pub media : ℕ
  -- by reaction and sensor, and the lengths of a reaction's vectors
  pub sensors : List Values
  pub lens : List ℕ
  -- by delay
  pub opening : Values

-- how many reactions
abbrev pub reactions : JobData → ℕ
reactions j = length j.sensors

-- Elements are numbered by buffer, and then by medium. An element
-- lies in the places of its buffer, or once in its wire.
module _ (p : Program) (media : ℕ) where
  -- If element y is one of a buffer, it is one of this buffer.
  abbrev pub buffer_at : ℕ → ℕ
  buffer_at y = block_at (len_of p) (length p.buffers) y

  -- If element y is one of a wire, it is one of the wire of this medium.
  abbrev pub wire_at : ℕ → ℕ
  wire_at y = block_at (wire_len p) media (y - buffer_elements p)

  -- The number of an element within its buffer or its wire.
  abbrev pub number_at : ℕ → ℕ
  number_at y = cond (nat_lt y (buffer_elements p)) (y - sum_below (len_of p) (buffer_at y))
      (y - buffer_elements p - sum_below (wire_len p) (wire_at y))

  -- Element y has this many places: as many as its buffer, and 1 if it is one of a wire.
  abbrev pub depth_at : ℕ → ℕ
  depth_at y = cond (nat_lt y (buffer_elements p)) (depth_of p (buffer_at y)) 1

  -- how often it is stored in a reaction
  abbrev pub period_at : ℕ → ℕ
  period_at y = cond (nat_lt y (buffer_elements p)) 1 (access p (wire_at y) (number_at y) (transfers p (wire_at y)))

-- the actuators' rows before any is taken
abbrev pub zero_rows : JobData → List Values
zero_rows j = replicate (reactions j) (map zeros (actuator_lens j.graph j.graph.vertices))

-- the system of a job's sequences
abbrev pub system : JobData → System Own
system j = record {
  sequences = length j.program.seqs;
  reactions = reactions j;
  codes = code j.program;
  halves = λ m. 2 * transfers j.program m;
  period = period_at j.program j.media;
  depth = depth_at j.program j.media;
  start = λ s. record { registers = []; cells = j.opening; rows = zero_rows j };
  absorb = λ s n c z. absorb_at j.graph j.sensors (step_at (steps j.program s) n)
      (reaction_at (code j.program s) n) c z;
  emit = λ s n c. emit_at j.graph j.sensors (step_at (steps j.program s) n) (reaction_at (code j.program s) n) c;
  after = λ s n c. after_at j.graph j.sensors (step_at (steps j.program s) n) (reaction_at (code j.program s) n) c;
}

-- The two bounds of a job: elements that the actuators take, and micro-steps in all.
abbrev pub output_elements : Graph → ℕ → ℕ
output_elements g n = n * sum_by (λ l. l) (actuator_lens g g.vertices)

-- The sequences of a program make this many micro-steps in n reactions, prologues included.
abbrev pub total_steps : Program → ℕ → ℕ
total_steps p n = all_prologues p + n * all_turns p

-- a job is stored as the tuple of its parts
abbrev pub job_code : Coded Program → Coded Graph → Coded JobData
job_code program graph = code_by (Program × (Graph × (ℕ × (List Values × (List ℕ × Values)))))
    (coded× program (coded× graph (coded× coded_ℕ (coded× (coded_list (coded_list (coded_list coded_ℤ)))
    (coded× (coded_list coded_ℕ) (coded_list (coded_list coded_ℤ)))))))
    (λ j. (j.program, (j.graph, (j.media, (j.sensors, (j.lens, j.opening))))))
    (λ p. record {
      program = p.0;
      graph = p.1.0;
      media = p.1.1.0;
      sensors = p.1.1.1.0;
      lens = p.1.1.1.1.0;
      opening = p.1.1.1.1.1;
    }) (λ _. refl)
