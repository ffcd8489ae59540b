-- A fabric and its drivers, as contracts see them.
use Rattle.std.specs.Prelude.{
  ◌≡◌,
  ℕ,
  ◌<◌,
  ◌%◌,
  List,
  [],
  length,
  map,
  Option,
  Some,
  None,
  refl,
  replicate,
  slice_get,
  slice_index_or,
  ℤ,
}
use Rattle.std.specs.Coded.{Coded, code_by, coded×, coded_ℕ, coded_ℤ, coded_list}
use Rattle.std.specs.List.{range_with_len}
use Rattle.atomic_table.specs.Seated.{TableId, table_id_coded}
use Rattle.syn_base.specs.Vectors.{Values, vector_at}
use Rattle.executive_program.specs.declared.Vertex.{Vertex}
use Rattle.executive_program.specs.declared.Kind.TheVariants.{Actuator}
use Rattle.word_rule.specs.Operation.{delay_of}
use Rattle.word_rule.specs.Job.{JobData}
use Rattle.word_rule.specs.Core.{Core, full, AreReached}
use Rattle.word_rule.specs.Told.{told}
use Rattle.word_rule.specs.Agrees.{caller, row_at}

-- which table it is, the job whose words it has, and in how many groups its sequences are driven
pub record FabricData : Type 0 where
  pub table : TableId
  pub job : JobData
  pub groups : ℕ

-- how many looks were recorded, and the last one: at this word this was found
pub record Look : Type 0 where
  pub number : ℕ
  pub word : ℕ
  pub found : ℕ

-- A driver makes the micro-steps of one group of the sequences of a fabric.
pub record DriverData : Type 0 where
  -- the fabric that it drives, and the number of its group
  pub fabric : FabricData
  pub group : ℕ
  -- how many micro-steps each of its sequences has made
  pub counts : List ℕ
  pub look : Look
  -- what its sequences have of their own: the registers by sequence, the
  -- delays' cells, and the actuators' rows by reaction
  pub registers : List (List ℤ)
  pub cells : Values
  pub rows : List Values

-- A code of each, from one of the job.
abbrev pub fabric_code : Coded JobData → Coded FabricData
fabric_code job = code_by (TableId × (JobData × ℕ)) (coded× table_id_coded (coded× job coded_ℕ))
    (λ f. (f.table, (f.job, f.groups))) (λ p. record { table = p.0; job = p.1.0; groups = p.1.1 }) (λ _. refl)

abbrev pub look_code : Coded Look
look_code = code_by (ℕ × (ℕ × ℕ)) (coded× coded_ℕ (coded× coded_ℕ coded_ℕ)) (λ l. (l.number, (l.word, l.found)))
    (λ p. record { number = p.0; word = p.1.0; found = p.1.1 }) (λ _. refl)

abbrev pub driver_code : Coded JobData → Coded DriverData
driver_code job = code_by (FabricData × (ℕ × (List ℕ × (Look × (List (List ℤ) × (Values × List Values))))))
    (coded× (fabric_code job) (coded× coded_ℕ (coded× (coded_list coded_ℕ)
    (coded× look_code (coded× (coded_list (coded_list coded_ℤ))
    (coded× (coded_list (coded_list coded_ℤ)) (coded_list (coded_list (coded_list coded_ℤ)))))))))
    (λ d. (d.fabric, (d.group, (d.counts, (d.look, (d.registers, (d.cells, d.rows)))))))
    (λ p. record {
      fabric = p.0;
      group = p.1.0;
      counts = p.1.1.0;
      look = p.1.1.1.0;
      registers = p.1.1.1.1.0;
      cells = p.1.1.1.1.1.0;
      rows = p.1.1.1.1.1.1;
    }) (λ _. refl)

-- the driver drives sequence s
pub record Drives (d : DriverData) (s : ℕ) : Type 0 where
  pub there : s < length d.fabric.job.program.seqs
  pub grouped : s % d.fabric.groups ≡ d.group

-- as many counts as sequences, which are the driver's on the sequences that it drives
pub record AgreeWith (d : DriverData) (counts : List ℕ) : Type 0 where
  pub many : length counts ≡ length d.fabric.job.program.seqs
  pub agree : (s : ℕ) → Drives d s → slice_index_or counts s 0 ≡ slice_index_or d.counts s 0

-- this holds of the state that some reached counts tell that are the driver's on the sequences that it drives
abbrev pub InSome : DriverData → (Core → Type 0) → Type 0
InSome d P = (counts : List ℕ) × AreReached d.fabric.job counts × AgreeWith d counts × P (told d.fabric.job counts)

-- In a state the sequences that the driver drives, with the delays and the actuators
-- that are called in them, have the driver's registers, cells and rows.
pub record HasOwnOf (d : DriverData) (z : Core) : Type 0 where
  pub registers : (s : ℕ) → Drives d s → slice_index_or d.registers s [] ≡ slice_index_or z.registers s []
  pub cells : (v k : ℕ) (x : Vertex) → slice_get d.fabric.job.graph.vertices v ≡ Some x →
      delay_of d.fabric.job.graph v x ≡ Some k → Drives d (caller d.fabric.job v) →
      vector_at d.cells k ≡ vector_at z.cells k
  pub rows : (v a k : ℕ) (x : Vertex) → slice_get d.fabric.job.graph.vertices v ≡ Some x → x.kind ≡ Actuator a →
      Drives d (caller d.fabric.job v) → row_at d.rows k a ≡ row_at z.rows k a

-- its registers, cells and rows are those that any counts tell that are its own on the sequences that it drives
abbrev pub IsTold : DriverData → Type 0
IsTold d = (counts : List ℕ) → AgreeWith d counts → HasOwnOf d (told d.fabric.job counts)

-- Driver by driver, by the numbers of their groups, these are all the drivers of the fabric.
pub record AreDrivers (f : FabricData) (drivers : List DriverData) : Type 0 where
  pub many : length drivers ≡ f.groups
  pub each : (g : ℕ) (d : DriverData) → slice_get drivers g ≡ Some d → (d.fabric ≡ f) × (d.group ≡ g)

-- no sequence has made a micro-step, and no look is recorded
pub record IsNew (d : DriverData) : Type 0 where
  pub counts : d.counts ≡ replicate (length d.fabric.job.program.seqs) 0
  pub look : d.look.number ≡ 0

-- None of these drivers has made a micro-step or recorded a look.
abbrev pub AreNew : List DriverData → Type 0
AreNew drivers = (g : ℕ) (d : DriverData) → slice_get drivers g ≡ Some d → IsNew d

-- each sequence that it drives has made all its micro-steps
abbrev pub IsFinished : DriverData → Type 0
IsFinished d = (s : ℕ) → Drives d s → slice_index_or d.counts s 0 ≡ full d.fabric.job s

-- Each of these drivers has made all micro-steps of its sequences.
abbrev pub AreFinished : List DriverData → Type 0
AreFinished drivers = (g : ℕ) (d : DriverData) → slice_get drivers g ≡ Some d → IsFinished d

-- how many micro-steps a sequence has made by its driver
abbrev pub count_by : Option DriverData → ℕ → ℕ
count_by None s = 0
count_by (Some d) s = slice_index_or d.counts s 0

-- the counts of all sequences, each by its driver
abbrev pub counts_of : FabricData → List DriverData → List ℕ
counts_of f drivers = map (λ s. count_by (slice_get drivers (s % f.groups)) s)
    (range_with_len 0 (length f.job.program.seqs))
