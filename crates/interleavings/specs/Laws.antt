-- The laws of every run of a synchronized system: what it is, that it
-- is fresh, that it can go on, and what one more step does.
use Rattle.std.specs.Prelude.{◌≡◌, ℕ, ◌<◌, ◌≤◌, true, List, Some, ℤ}
use Rattle.interleavings.specs.Precedence.{one_more}
use Rattle.interleavings.specs.System.{
  System,
  Micro,
  sub,
  load,
  store,
  stores,
  total,
  place_number,
  round_number,
  run,
  told,
  step,
  enabled,
  full,
  next,
}
use Rattle.interleavings.specs.Owners.{Owner}
use Rattle.interleavings.specs.Media.{Half}
use Rattle.interleavings.specs.Order.{IsOrdered}
use Rattle.interleavings.specs.Sound.{AreValues}
use Rattle.interleavings.specs.Fresh.{IsFresh}
use Rattle.interleavings.specs.Synchronized.{IsSynchronized}

-- How a system is synchronized: who signals each semaphore, what is half i of a reaction's transfers on medium m,
-- the place of each micro-step of a turn in one serial order of a reaction, how
-- many such places there are, and a number above every prologue's length.
pub record Discipline : Type 0 where
  pub signaller : ℕ → Owner
  pub half : ℕ → ℕ → Half
  pub spot : ℕ → ℕ → ℕ
  pub steps : ℕ
  pub front : ℕ

module _ {P : Type 0} (w : System P) where
  -- It is synchronized so, and each sequence by itself computes these values:
  -- of each element by round, and of each private state by count.
  pub record IsDisciplined (d : Discipline) (stored : ℕ → ℕ → ℤ) (owned : ℕ → ℕ → P) : Type 0 where
    pub synchronized : IsSynchronized w d.signaller d.half
    pub ordered : IsOrdered w d.signaller d.half d.spot d.steps d.front
    pub values : AreValues w stored owned

  -- Counts are reached where some list of sequence numbers leads to them.
  abbrev pub IsReached : (ℕ → ℕ) → Type 0
  IsReached c = (list : List ℕ) × ((run w list).counts ≡ c)

  module _ (stored : ℕ → ℕ → ℤ) (owned : ℕ → ℕ → P) where
    -- One more step of a sequence that is enabled in what reached
    -- counts tell: its counts are reached, and tell that step.
    pub record HasNext (c : ℕ → ℕ) (s : ℕ) : Type 0 where
      pub reached : IsReached (one_more c s)
      pub tells : told w stored owned (one_more c s) ≡ step w (told w stored owned c) s

    -- What the next micro-step of s finds in what counts tell: a lower finds a signal, a
    -- load the value of its own round, and a store is of the next round of its element.
    abbrev pub Finds : (ℕ → ℕ) → ℕ → Micro → Type 0
    Finds c s (sub x) = 1 ≤ (told w stored owned c).semaphores x
    Finds c s (load y i) = (told w stored owned c).elements y (place_number w s (c s) y i) ≡
        stored y (round_number w s (c s) y i)
    Finds c s (store y i) = total w (stores y) c ≡ round_number w s (c s) y i
    Finds c s _ = Unit {0}

    -- Every run is what its counts tell, and fresh. Until all is done some sequence is enabled, and its step goes on.
    pub record HasLaws : Type 0 where
      pub tells : (list : List ℕ) → run w list ≡ told w stored owned (run w list).counts
      pub fresh : (list : List ℕ) → IsFresh w (run w list).counts
      pub progress : (list : List ℕ) (s : ℕ) → s < w.sequences → (run w list).counts s < full w s →
          (t : ℕ) × (t < w.sequences) × (enabled w (run w list) t ≡ true)
      pub goes_on : (c : ℕ → ℕ) (s : ℕ) → IsReached c → enabled w (told w stored owned c) s ≡ true → HasNext c s
      pub finds : (c : ℕ → ℕ) (s : ℕ) (m : Micro) → IsReached c → next w c s ≡ Some m → Finds c s m
      pub reached_fresh : (c : ℕ → ℕ) → IsReached c → IsFresh w c

-- The laws at private states that are lists of numbers. The lemmas in proofs/ say them of any private state.
abbrev pub RunsAreTold : Type 0
RunsAreTold = (w : System (List ℤ)) (d : Discipline) (stored : ℕ → ℕ → ℤ) (owned : ℕ → ℕ → List ℤ) →
    IsDisciplined w d stored owned → (list : List ℕ) → run w list ≡ told w stored owned (run w list).counts

-- In every run of a disciplined system no value is overwritten before its last load,
-- and no load is made before the store of its own round.
abbrev pub RunsAreFresh : Type 0
RunsAreFresh = (w : System (List ℤ)) (d : Discipline) (stored : ℕ → ℕ → ℤ) (owned : ℕ → ℕ → List ℤ) →
    IsDisciplined w d stored owned → (list : List ℕ) → IsFresh w (run w list).counts

-- In every run of a disciplined system some sequence is enabled as long as any
-- sequence is not at its end, so that no run deadlocks.
abbrev pub RunsProgress : Type 0
RunsProgress = (w : System (List ℤ)) (d : Discipline) (stored : ℕ → ℕ → ℤ) (owned : ℕ → ℕ → List ℤ) →
    IsDisciplined w d stored owned → (list : List ℕ) (s : ℕ) → s < w.sequences → (run w list).counts s < full w s →
    (t : ℕ) × (t < w.sequences) × (enabled w (run w list) t ≡ true)

-- If a sequence is enabled in the state that reached counts determine, the counts with
-- its step are reached too, and they determine the state after that step.
abbrev pub RunsGoOn : Type 0
RunsGoOn = (w : System (List ℤ)) (d : Discipline) (stored : ℕ → ℕ → ℤ) (owned : ℕ → ℕ → List ℤ) →
    IsDisciplined w d stored owned → (c : ℕ → ℕ) (s : ℕ) → IsReached w c →
    enabled w (told w stored owned c) s ≡ true → HasNext w stored owned c s

-- In reached counts each next micro-step finds what is its own, and the state is fresh.
abbrev pub ReachedFind : Type 0
ReachedFind = (w : System (List ℤ)) (d : Discipline) (stored : ℕ → ℕ → ℤ) (owned : ℕ → ℕ → List ℤ) →
    IsDisciplined w d stored owned → (c : ℕ → ℕ) (s : ℕ) (m : Micro) → IsReached w c → next w c s ≡ Some m →
    Finds w stored owned c s m
