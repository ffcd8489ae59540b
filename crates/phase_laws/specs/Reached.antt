-- What holds in reached counts and what they tell.
use Rattle.std.specs.Prelude.{◌≡◌, ℕ, ◌≤◌, List, [], length, Some, slice_get, slice_index_or}
use Rattle.executive_program.specs.declared.Vertex.{Vertex}
use Rattle.executive_program.specs.declared.Kind.TheVariants.{Actuator}
use Rattle.executive_program.specs.Fresh.{IsFresh}
use Rattle.executive_program.specs.System.{stores, total, round_number}
use Rattle.executive_program.specs.declared.steps.Place.{Place}
use Rattle.executive_program.specs.declared.steps.MicroStep.{MicroStep}
use Rattle.executive_program.specs.declared.steps.MicroStep.TheVariants.{Lower, Load, Store}
use Rattle.semaphore_core.specs.Operation.{delay_of}
use Rattle.semaphore_core.specs.Job.{JobData, system}
use Rattle.semaphore_core.specs.Core.{Core, full, next, reaction, element_of, AreReached}
use Rattle.semaphore_core.specs.Held.{made}
use Rattle.semaphore_core.specs.Told.{told, stored_value}
use Rattle.phase_laws.specs.Agrees.{IsFormed, LiesAt, caller, row_at}
use Rattle.phase_laws.specs.Values.{IsSupplied}
use Rattle.syn_base.specs.Vectors.{vector_at}

module _ (j : JobData) where
  -- Sequence s has this count, which is 0 if the list has none for it.
  abbrev pub count_of : List ℕ → ℕ → ℕ
  count_of counts s = slice_index_or counts s 0

  -- there are as many counts as sequences, and each is at most its full count
  pub record AreWithin (counts : List ℕ) : Type 0 where
    pub many : length counts ≡ length j.program.seqs
    pub within : (s : ℕ) → count_of counts s ≤ full j s

  -- no semaphore and no turn is above the number of micro-steps made
  pub record AreBounded (z : Core) : Type 0 where
    pub semaphores : (x : ℕ) → slice_index_or z.semaphores x 0 ≤ made z
    pub turns : (m : ℕ) → slice_index_or z.turns m 0 ≤ made z

  -- sequence s has the same of its own in two states: its registers, and
  -- the cells and rows of the operations that it calls
  pub record HaveSameOwn (z y : Core) (s : ℕ) : Type 0 where
    pub registers : slice_index_or z.registers s [] ≡ slice_index_or y.registers s []
    pub cells : (v d : ℕ) (x : Vertex) → slice_get j.graph.vertices v ≡ Some x → delay_of j.graph v x ≡ Some d →
        caller j v ≡ s → vector_at z.cells d ≡ vector_at y.cells d
    pub rows : (v a k : ℕ) (x : Vertex) → slice_get j.graph.vertices v ≡ Some x → x.kind ≡ Actuator a →
        caller j v ≡ s → row_at z.rows k a ≡ row_at y.rows k a

  -- A load finds the value of its own round of the element that lies there.
  pub record FindsRound (counts : List ℕ) (s : ℕ) (x : Place) : Type 0 where
    pub element : ℕ
    pub access : ℕ
    pub lies : LiesAt j.program j.media x element access
    pub is : element_of j (told j counts) x (reaction j (told j counts) s) ≡
        stored_value j element (round_number (system j) s (count_of counts s) element access)

  -- A store is of the next round of the element that lies there.
  pub record StoresNext (counts : List ℕ) (s : ℕ) (x : Place) : Type 0 where
    pub element : ℕ
    pub access : ℕ
    pub lies : LiesAt j.program j.media x element access
    pub is : total (system j) (stores element) (count_of counts) ≡
        round_number (system j) s (count_of counts s) element access

  -- What the next micro-step of s finds in what the counts tell: a lower finds a
  -- signal, a load the value of its own round, and a store is of the next round.
  abbrev pub Finds : List ℕ → ℕ → MicroStep → Type 0
  Finds counts s (Lower x) = 1 ≤ slice_index_or (told j counts).semaphores x 0
  Finds counts s (Load x then) = FindsRound counts s x
  Finds counts s (Store x what) = StoresNext counts s x
  Finds counts s _ = Unit {0}

  -- Reached counts are within the full ones, the words that they determine are at most the number
  -- of micro-steps made, they are fresh, and each next micro-step finds what it needs.
  pub record ReachedLaws (counts : List ℕ) : Type 0 where
    pub within : AreWithin counts
    pub bounded : AreBounded (told j counts)
    pub fresh : IsFresh (system j) (count_of counts)
    pub finds : (s : ℕ) (m : MicroStep) → next j (told j counts) s ≡ Some m → Finds counts s m

-- In every job all reached counts have these laws.
abbrev pub ReachedHaveLaws : Type 0
ReachedHaveLaws = (j : JobData) → IsSupplied j → (counts : List ℕ) → AreReached j counts → ReachedLaws j counts

-- What a sequence has of its own depends on its own count alone.
abbrev pub OwnPartsAgree : Type 0
OwnPartsAgree = (j : JobData) → IsFormed j → (c d : List ℕ) (s : ℕ) → length c ≡ length j.program.seqs →
    length d ≡ length j.program.seqs → slice_index_or c s 0 ≡ slice_index_or d s 0 →
    HaveSameOwn j (told j c) (told j d) s
