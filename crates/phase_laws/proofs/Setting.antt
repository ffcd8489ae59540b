-- What the lemmas speak of: the system of a program with any private state, and what holds of the places of a well-formed program.
use Rattle.std.specs.Prelude.{◌≡◌, ◌≢◌, ℕ, ◌+◌, ◌*◌, ◌<◌, ◌≤◌, List, length, Some, slice_get, ℤ}
use Rattle.executive_program.specs.System.{System}
use Rattle.executive_program.specs.declared.Source.{Source}
use Rattle.executive_program.specs.Graph.{Graph}
use Rattle.executive_program.specs.declared.Seq.{Seq}
use Rattle.executive_program.specs.declared.program.Instr.{Instr}
use Rattle.executive_program.specs.declared.program.Instr.TheVariants.{Pre0}
use Rattle.executive_program.specs.declared.program.Program.{Program}
use Rattle.executive_program.specs.Instructions.{prologue, pair_depth, depth_of}
use Rattle.executive_program.specs.MicroSteps.{code, transfers}
use Rattle.executive_program.specs.Places.{Places}
use Rattle.executive_program.specs.WellFormed.{Stands, ReadsAt, IsOrderBy}
use Rattle.semaphore_core.specs.Job.{period_at, depth_at}

-- what a sequence has of its own, and how loads and stores change it
pub record Parts (P : Type 0) : Type 0 where
  pub start : ℕ → P
  pub absorb : ℕ → ℕ → P → ℤ → P
  pub emit : ℕ → ℕ → P → ℤ
  pub after : ℕ → ℕ → P → P

abbrev pub system_of : Program → ℕ → {P : Type 0} → ℕ → Parts P → System P
system_of p media reactions own = record {
  sequences = length p.seqs;
  reactions = reactions;
  codes = code p;
  halves = λ m. 2 * transfers p m;
  period = period_at p media;
  depth = depth_at p media;
  start = own.start;
  absorb = own.absorb;
  emit = own.emit;
  after = own.after;
}

-- Pairs guard buffers: each has a reader that is not the writing sequence, each such reader has one, and prologues signal their empty semaphores.
pub record AreGuarded (p : Program) (w : Places) : Type 0 where
  pub buffer : (q : ℕ) → q < length p.pairs → (w.pair q).buffer < length p.buffers
  pub depth : (q : ℕ) → q < length p.pairs → pair_depth p q ≡ depth_of p (w.pair q).buffer
  pub other : (q : ℕ) → q < length p.pairs → (w.pair q).reader ≢ (w.writing (w.pair q).buffer).writer
  pub some_read : (q : ℕ) → q < length p.pairs → (a : ℕ) × (k : ℕ) × (x : Instr) × Stands p (w.pair q).reader a x × ReadsAt x k (w.pair q).buffer
  pub paired : (b s a k : ℕ) (x : Instr) → b < length p.buffers → s ≢ (w.writing b).writer → Stands p s a x → ReadsAt x k b → (q : ℕ)
      × (q < length p.pairs) × ((w.pair q).buffer ≡ b) × ((w.pair q).reader ≡ s)
  pub fits : (q : ℕ) → q < length p.pairs → (w.pair q).front + pair_depth p q ≤ length (prologue p (w.pair q).reader)
  pub opens : (q l : ℕ) → q < length p.pairs → (w.pair q).front ≤ l → l < (w.pair q).front + pair_depth p q → slice_get (prologue p (w.pair q).reader) l ≡ Some (Pre0 q)
  pub opened : (s l : ℕ) (x : Instr) → slice_get (prologue p s) l ≡ Some x
      → (q : ℕ) × (q < length p.pairs) × ((w.pair q).reader ≡ s) × ((w.pair q).front ≤ l) × (l < (w.pair q).front + pair_depth p q) × (x ≡ Pre0 q)

-- a well-formed program, by its places
pub record Conditions (p : Program) (w : Places) : Type 0 where
  pub order : List ℕ
  pub carried : ℕ → Source
  pub graph : Graph
  pub seqs : List Seq
  pub media : ℕ
  pub holds : IsOrderBy p order w carried graph seqs media
  pub guarded : AreGuarded p w
