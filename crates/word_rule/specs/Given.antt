-- What the steps on a table need of a job: the laws of its runs, and where its micro-steps stand.
use Rattle.std.specs.Prelude.{
  ◌≡◌,
  ℕ,
  ◌+◌,
  ◌*◌,
  ◌<◌,
  ◌≤◌,
  ◌^◌,
  Bool,
  true,
  nat_eq,
  nat_le,
  List,
  map,
  length,
  Some,
  slice_get,
  slice_index_or,
  ℤ,
}
use Rattle.executive_program.specs.Sites.{step_at, reaction_at}
use Rattle.executive_program.specs.Sound.{AreValues}
use Rattle.executive_program.specs.FlatValid.{is_flat}
use Rattle.executive_program.specs.System.{turn_reached}
use Rattle.executive_program.specs.declared.steps.Place.{Place}
use Rattle.executive_program.specs.declared.steps.MicroStep.{MicroStep}
use Rattle.executive_program.specs.declared.steps.MicroStep.TheVariants.{
  Take,
  See,
  Lower,
  Signal,
  Await,
  Advance,
  Load,
  Store,
}
use Rattle.executive_program.specs.declared.steps.OnLoad.{OnLoad}
use Rattle.executive_program.specs.declared.steps.OnStore.{OnStore}
use Rattle.phase_laws.specs.Job.{JobData, system}
use Rattle.phase_laws.specs.Registers.{emit_by}
use Rattle.phase_laws.specs.Told.{told, stored_value, own_after}
use Rattle.phase_laws.specs.Core.{Core, run, full, home_of, slot_of, own, AreReached}
use Rattle.phase_laws.specs.Held.{NeedsReaction}
use Rattle.phase_laws.specs.Laws.{HasLaws}
use Rattle.phase_laws.specs.IsJob.{IsJob}
use Rattle.phase_laws.specs.Agrees.{IsFormed}
use Rattle.phase_laws.specs.Reached.{ReachedLaws}
use Rattle.phase_laws.specs.Values.{IsSupplied}
use Rattle.executive_program.specs.Instructions.{HasPlaces}
use Rattle.executive_program.specs.Steps.{steps}
use Rattle.word_rule.specs.declared.view.Knowledge.{Knowledge}
use Rattle.word_rule.specs.declared.view.View.{View}
use Rattle.word_rule.specs.declared.view.View.TheVariants.{Spent, Holds}
use Rattle.word_rule.specs.Words.{element_lens}
use Rattle.word_rule.specs.Rule.{Agree}
use Rattle.word_rule.specs.Views.{count_in}

module _ (j : JobData) where
  -- the lists of a state have the lengths that they had at the opening
  pub record IsShaped (z : Core) : Type 0 where
    pub counts : length z.counts ≡ length j.program.seqs
    pub semaphores : length z.semaphores ≡ 2 * length j.program.pairs
    pub turns : length z.turns ≡ j.media
    pub elements : map length z.elements ≡ element_lens j

  -- no counter is at the last value of its word
  pub record HasRoom (z : Core) : Type 0 where
    pub semaphores : (x : ℕ) → slice_index_or z.semaphores x 0 + 1 < 2 ^ 64
    pub turns : (m : ℕ) → slice_index_or z.turns m 0 + 1 < 2 ^ 64

  -- what a micro-step names is there
  abbrev pub IsHere : Place → Type 0
  IsHere x = (k : ℕ) → (home_of j.program x < length (element_lens j)) ×
      (slot_of j.program x k < slice_index_or (element_lens j) (home_of j.program x) 0)

  -- The semaphore, the medium or the place that the micro-step names is one of the job.
  abbrev pub IsThere : MicroStep → Type 0
  IsThere (Take x) = x < 2 * length j.program.pairs
  IsThere (See x) = x < 2 * length j.program.pairs
  IsThere (Lower x) = x < 2 * length j.program.pairs
  IsThere (Signal x) = x < 2 * length j.program.pairs
  IsThere (Await m i n exact) = m < j.media
  IsThere (Advance m) = m < j.media
  IsThere (Load x then) = IsHere x
  IsThere (Store x what) = IsHere x

  -- A run of the job can be made on words of 64 bits: its runs have the laws, every
  -- semaphore and turn has room for one more, and what its micro-steps name exists.
  pub record RunsOnWords : Type 0 where
    pub supplied : IsSupplied j
    pub formed : IsFormed j
    pub places : HasPlaces j.program
    pub laws : HasLaws j
    pub reached : (counts : List ℕ) → AreReached j counts → ReachedLaws j counts
    pub values : AreValues (system j) (stored_value j) (own_after j)
    pub few : (s : ℕ) → full j s ≤ 20000000
    pub bare : (s l : ℕ) (m : MicroStep) → slice_get (steps j.program s).prologue l ≡ Some m → NeedsReaction m 0 0
    pub shaped : (list : List ℕ) → IsShaped (run j list)
    pub room : (list : List ℕ) → HasRoom (run j list)
    pub there : (s n : ℕ) (m : MicroStep) → step_at (steps j.program s) n ≡ Some m → IsThere m

-- Whether the word that micro-step m of reaction k touches enables
-- it where it is n: a take, a see and a wait look at it.
abbrev pub enables : ℕ → MicroStep → ℕ → Bool
enables k (Take x) n = nat_eq n 1
enables k (See x) n = nat_le 1 n
enables k (Await m i halves exact) n = turn_reached exact n (k * halves + i)
enables k _ n = true

-- The micro-step is a take, of any semaphore; a see and a lower are none.
abbrev pub IsTake : MicroStep → Type 0
IsTake m = (x : ℕ) × (m ≡ Take x)

-- a see, or a wait for a turn
abbrev pub Waits : MicroStep → Type 0
Waits (See x) = Unit {0}
Waits (Await m i halves exact) = Unit {0}
Waits _ = ⊥

-- a signal, or an advance of a turn
abbrev pub AddsOne : MicroStep → Type 0
AddsOne (Signal x) = Unit {0}
AddsOne (Advance m) = Unit {0}
AddsOne _ = ⊥

-- it lowers a semaphore that was seen
abbrev pub IsLower : MicroStep → Type 0
IsLower m = (x : ℕ) × (m ≡ Lower x)

-- The micro-step is a load, from any place.
abbrev pub IsLoad : MicroStep → Type 0
IsLoad m = (x : Place) × (then : OnLoad) × (m ≡ Load x then)

-- Of the sequences that a view of the job drives s has made `count` micro-steps, and m is its next one, in reaction r.
pub record StandsAt (j : JobData) (v : View) (s r : ℕ) (m : MicroStep) : Type 0 where
  pub knowledge : Knowledge
  pub count : ℕ
  pub holds : v ≡ Holds knowledge
  pub job : knowledge.job ≡ j
  pub drives : count_in knowledge.driven s ≡ Some count
  pub here : s < length knowledge.job.program.seqs
  pub more : count < full knowledge.job s
  pub next : step_at (steps knowledge.job.program s) count ≡ Some m
  pub reaction : reaction_at (steps knowledge.job.program s) count ≡ r

-- The value that a store of s stores in reaction r, whatever counts of the other sequences the view agrees with.
abbrev pub Stores : View → ℕ → ℕ → MicroStep → ℤ → Type 0
Stores Spent s r m value = ⊥
Stores (Holds k) s r m value = (x : Place) × (what : OnStore) × (m ≡ Store x what) ×
    ((counts : List ℕ) → Agree k counts →
    emit_by k.job.graph k.job.sensors what r (own k.job (told k.job counts) s) ≡ value)

-- every job on a valid graph runs on words
abbrev pub JobsRunOnWords : Type 0
JobsRunOnWords = (j : JobData) → IsJob j → is_flat j.graph ≡ true → RunsOnWords j
