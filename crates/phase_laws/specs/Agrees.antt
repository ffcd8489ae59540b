-- The state of the core, whose cells and rows are shared, and the state
-- of the theory, where each sequence has its own, say the same.
use Rattle.std.specs.Prelude.{◌≡◌, ℕ, true, ◌+◌, ◌*◌, ◌<◌, List, [], ◌∷◌, map, length, Some, slice_get, slice_index_or}
use Rattle.executive_program.specs.Level.{element_at}
use Rattle.executive_program.specs.declared.Vertex.{Vertex}
use Rattle.executive_program.specs.declared.Kind.TheVariants.{Actuator}
use Rattle.executive_program.specs.FlatValid.{is_flat}
use Rattle.executive_program.specs.Meaning.{initial_cells}
use Rattle.executive_program.specs.declared.Seq.{Seq}
use Rattle.executive_program.specs.System as theory
use Rattle.executive_program.specs.InterleavingLaws.{Discipline, IsDisciplined}
use Rattle.executive_program.specs.System.{Micro, State, take as taken, see, sub, signal, await, advance, load, store}
use Rattle.executive_program.specs.declared.program.Program.{Program}
use Rattle.executive_program.specs.declared.steps.Place.{Place}
use Rattle.executive_program.specs.declared.steps.Place.TheVariants.{Buffer, Wire}
use Rattle.executive_program.specs.declared.steps.OnLoad.{OnLoad}
use Rattle.executive_program.specs.declared.steps.OnLoad.TheVariants.{Gather, Carry as CarryIn, Compute as ComputeIn}
use Rattle.executive_program.specs.declared.steps.OnStore.{OnStore}
use Rattle.executive_program.specs.declared.steps.OnStore.TheVariants.{Give, Carry as CarryOut, Compute as ComputeOut}
use Rattle.executive_program.specs.declared.steps.MicroStep.{MicroStep}
use Rattle.executive_program.specs.declared.steps.MicroStep.TheVariants.{
  Take,
  See,
  Lower,
  Signal,
  Await,
  Advance,
  Load,
  Store,
}
use Rattle.executive_program.specs.Instructions.{len_of, depth_of}
use Rattle.executive_program.specs.MicroSteps.{code, transfers, element_of, wire_of, wire_len}
use Rattle.executive_program.specs.Places.{calling}
use Rattle.executive_program.specs.Steps.{steps}
use Rattle.semaphore_core.specs.Operation.{delay_of}
use Rattle.semaphore_core.specs.Registers.{Own}
use Rattle.semaphore_core.specs.Job.{JobData, zero_rows, system}
use Rattle.executive_program.specs.WellFormed.{IsWellFormed}
use Rattle.semaphore_core.specs.IsJob.{IsJob}
use Rattle.semaphore_core.specs.Told.{told, stored_value, own_after}
use Rattle.semaphore_core.specs.Laws.{HasLaws}
use Rattle.semaphore_core.specs.Core.{Core, opening, count, run, step, is_enabled}
use Rattle.syn_base.specs.Vectors.{Vector, Values, vector_at}

-- A job whose program is well formed, whose graph is valid, and
-- whose delays open with a vector of the right length each.
pub record IsFormed (j : JobData) : Type 0 where
  pub seqs : List Seq
  pub formed : IsWellFormed j.program j.graph seqs j.media
  pub valid : is_flat j.graph ≡ true
  pub opened : map length j.opening ≡ map length (initial_cells j.graph.vertices)

-- A micro-step of the core and one of the theory are the same, where what a load or a store does beside is forgotten.
module _ (p : Program) (media : ℕ) where
  -- element y, at its access i of a reaction, lies in this place
  abbrev pub LiesAt : Place → ℕ → ℕ → Type 0
  LiesAt (Buffer b n) y i = (b < length p.buffers) × (n < len_of p b) × (y ≡ element_of p b n) × (i ≡ 0)
  LiesAt (Wire m n) y i = (m < media) × (n < wire_len p m) × (y ≡ wire_of p m n)

  -- an operation is computed by the sequence that calls it
  abbrev pub LoadsHere : ℕ → OnLoad → Type 0
  LoadsHere s (ComputeIn v r more) = (calling p v).sequence ≡ s
  LoadsHere s CarryIn = Unit {0}
  LoadsHere s (Gather r) = Unit {0}

  -- If the store computes an operation, sequence s calls it; any other store may be
  -- made by any sequence.
  abbrev pub StoresHere : ℕ → OnStore → Type 0
  StoresHere s (ComputeOut v more) = (calling p v).sequence ≡ s
  StoresHere s CarryOut = Unit {0}
  StoresHere s (Give r more) = Unit {0}

  -- of sequence s
  abbrev pub Matches : ℕ → MicroStep → Micro → Type 0
  Matches s (Take x) c = (x < 2 * length p.pairs) × (c ≡ taken x)
  Matches s (See x) c = (x < 2 * length p.pairs) × (c ≡ see x)
  Matches s (Lower x) c = (x < 2 * length p.pairs) × (c ≡ sub x)
  Matches s (Signal x) c = (x < 2 * length p.pairs) × (c ≡ signal x)
  Matches s (Await m i n exact) c = (m < media) × (n ≡ 2 * transfers p m) × (c ≡ await m i exact)
  Matches s (Advance m) c = (m < media) × (i : ℕ) × (c ≡ advance m i)
  Matches s (Load x then) c = LoadsHere s then × (y : ℕ) × (i : ℕ) × LiesAt x y i × (c ≡ load y i)
  Matches s (Store x what) c = StoresHere s what × (y : ℕ) × (i : ℕ) × LiesAt x y i × (c ≡ store y i)

  -- one by one
  abbrev pub AreMatched : ℕ → List MicroStep → List Micro → Type 0
  AreMatched s [] [] = Unit {0}
  AreMatched s (x ∷ xs) (c ∷ cs) = Matches s x c × AreMatched s xs cs
  AreMatched s [] (c ∷ cs) = ⊥
  AreMatched s (x ∷ xs) [] = ⊥

-- The micro-steps of sequence s, in the core and in the theory.
pub record IsMatched (p : Program) (media s : ℕ) : Type 0 where
  pub prologues_as_long : length (steps p s).prologue ≡ length (code p s).prologue
  pub turns_as_long : length (steps p s).turn ≡ length (code p s).turn
  pub prologues : AreMatched p media s (steps p s).prologue (code p s).prologue
  pub turns : AreMatched p media s (steps p s).turn (code p s).turn

-- what actuator a has taken in reaction k
abbrev pub row_at : List Values → ℕ → ℕ → Vector
row_at rows k a = vector_at (slice_index_or rows k []) a

module _ (j : JobData) where
  -- the sequence that calls operation v
  abbrev pub caller : ℕ → ℕ
  caller v = (calling j.program v).sequence

  -- Words and registers are the same; a cell and a row are those of the sequence
  -- that calls the operation. The lists have the lengths of the opening.
  pub record Agrees (z : Core) (w : State Own) : Type 0 where
    pub counts : (s : ℕ) → count z s ≡ w.counts s
    pub semaphores : (x : ℕ) → x < 2 * length j.program.pairs → slice_index_or z.semaphores x 0 ≡ w.semaphores x
    pub turns : (m : ℕ) → m < j.media → slice_index_or z.turns m 0 ≡ w.turns m
    pub buffers : (b n q : ℕ) → b < length j.program.buffers → n < len_of j.program b → q < depth_of j.program b →
        element_at (slice_index_or z.elements b []) (q * len_of j.program b + n) ≡
        w.elements (element_of j.program b n) q
    pub wires : (m n : ℕ) → m < j.media → n < wire_len j.program m →
        element_at (slice_index_or z.elements (length j.program.buffers + m) []) n ≡
        w.elements (wire_of j.program m n) 0
    pub registers : (s : ℕ) → s < length j.program.seqs → slice_index_or z.registers s [] ≡ (w.own s).registers
    pub cells : (v d : ℕ) (x : Vertex) → slice_get j.graph.vertices v ≡ Some x → delay_of j.graph v x ≡ Some d →
        vector_at z.cells d ≡ vector_at (w.own (caller v)).cells d
    pub rows : (v a k : ℕ) (x : Vertex) → slice_get j.graph.vertices v ≡ Some x → x.kind ≡ Actuator a →
        row_at z.rows k a ≡ row_at (w.own (caller v)).rows k a
    pub counts_there : length z.counts ≡ length j.program.seqs
    pub semaphores_there : length z.semaphores ≡ 2 * length j.program.pairs
    pub turns_there : length z.turns ≡ j.media
    pub elements_there : map length z.elements ≡ map length (opening j).elements
    pub registers_there : length z.registers ≡ length j.program.seqs
    pub cells_there : length z.cells ≡ length j.opening
    pub rows_there : map length z.rows ≡ map length (zero_rows j)
    pub own_cells_there : (s : ℕ) → length (w.own s).cells ≡ length j.opening
    pub own_rows_there : (s : ℕ) → map length (w.own s).rows ≡ map length (zero_rows j)

-- In each formed job every sequence has the same micro-steps in the core as in the theory.
abbrev pub StepsAreMatched : Type 0
StepsAreMatched = (j : JobData) → IsFormed j → (s : ℕ) → IsMatched j.program j.media s

-- a sequence is enabled in the one state where it is in the other, and
-- a step leads from states that agree to states that agree
pub record StepsTogether (j : JobData) (z : Core) (w : State Own) (s : ℕ) : Type 0 where
  pub enabled : is_enabled j z s ≡ theory.enabled (system j) w s
  pub steps : Agrees j (step j z s) (theory.step (system j) w s)

-- In states of the core and of the theory that agree, each sequence of a formed job is
-- enabled in both or in none, and its step leads to states that agree.
abbrev pub StepsAgree : Type 0
StepsAgree = (j : JobData) → IsFormed j → (z : Core) (w : State Own) (s : ℕ) → Agrees j z w → StepsTogether j z w s

-- In each formed job every list of sequence numbers leads to states of the core and of
-- the theory that agree.
abbrev pub RunsAgree : Type 0
RunsAgree = (j : JobData) → IsFormed j → (list : List ℕ) → Agrees j (run j list) (theory.run (system j) list)

-- the state of the theory tells that of the core
abbrev pub AgreementTells : Type 0
AgreementTells = (j : JobData) → IsFormed j → (z y : Core) (w : State Own) → Agrees j z w → Agrees j y w → z ≡ y

-- what counts tell of the core and what they tell of the theory
abbrev pub ToldAgrees : Type 0
ToldAgrees = (j : JobData) → IsFormed j → (counts : List ℕ) → length counts ≡ length j.program.seqs
    → Agrees j (told j counts) (theory.told (system j) (stored_value j) (own_after j) (λ s. slice_index_or counts s 0))

-- Where the system of a job is synchronized, and has the values that are told, the laws of every run of the job hold.
abbrev pub LawsFollow : Type 0
LawsFollow = (j : JobData) → IsFormed j → (d : Discipline) →
    IsDisciplined (system j) d (stored_value j) (own_after j) → HasLaws j

-- a job on a valid graph is formed so
abbrev pub JobsAreFormed : Type 0
JobsAreFormed = (j : JobData) → IsJob j → is_flat j.graph ≡ true → IsFormed j
