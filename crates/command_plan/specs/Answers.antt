-- What an ending means.
use Rattle.std.specs.Prelude.{◌≡◌, ◌≤◌, ◌⊎◌, List, [], length, Option, Some, None, Result, Ok, Err, IsOkAnd, IsSomeAnd}
use Rattle.syn_base.specs.Bytes.{Bytes}
use Rattle.outside.specs.Faults.{Rose}
use Rattle.outside.specs.Shelf.{Held}
use Rattle.outside.specs.Sink.{Sunk, Appends, AppendsPrefix}
use Rattle.outside.specs.declared.file.File.{File}
use Rattle.command_plan.specs.Answer.{Answer, ending_for, exactly}
use Rattle.command_plan.specs.Plan.{Plan, outcome, ReadsOnly}
use Rattle.command_plan.specs.Stage.{Stage, text_of, jobs_of, after_jobs, AppendsSome, RunsSome}
use Rattle.command_plan.specs.Ending.{Ending, done, refused, unread, unwritten, no_memory}
use Rattle.command_plan.specs.Run.{Ran}

-- no count of a file that the words name rose under the name that they give it
abbrev pub NoFault : (File → Option Bytes) → Held → Held → Type 0
NoFault names held held' =
    (file : File) (name : Bytes) → names file ≡ Some name → ¬ Rose (held.faults file name) (held'.faults file name)

-- no count changed of a file that the words do not name
abbrev pub UnnamedStay : (File → Option Bytes) → Held → Held → Type 0
UnnamedStay names held held' =
    (file : File) (name : Bytes) → names file ≡ None → held'.faults file name ≡ held.faults file name

module _ {A J : Type 0} (stages : A → List (Stage J)) where
  -- What is given is made in at most one stage.
  abbrev pub IsOnce : A → Type 0
  IsOnce a = length (stages a) ≤ 1

  -- No job is run for what is to be made.
  abbrev pub RunsNone : A → Type 0
  RunsNone a = jobs_of (stages a) ≡ []

module _ {R A J D : Type 0} (leaves : J → D → D) (some : A → (Answer R J → Type 0) → Type 0) where
  -- what an ending means, where the shelf went from held to held', the output from sunk to sunk', and what is driven
  -- from driven to driven'
  pub record Answers (plan : Plan R A) (names : File → Option Bytes) (held held' : Held) (sunk sunk' : Sunk)
      (driven driven' : D) (ending : Ending R) : Type 0 where
    -- the plan was carried out, over the bytes that were read, told or not
    pub ran : Ran leaves some plan held held' sunk sunk' driven driven' ending
    -- the counts of files that the words do not name are as before
    pub unnamed_stay : UnnamedStay names held held'
    -- done: the text of an answer that is allowed was appended, and all its jobs were run
    pub done_means : ending ≡ done → (o : Result A R) → outcome held.told plan ≡ Some o →
        IsOkAnd o (λ a. some a (λ answer. IsOkAnd answer (λ stages. Appends sunk sunk' (text_of stages) ×
        (driven' ≡ after_jobs leaves (jobs_of stages) driven))))
    -- a refusal is the first one of the plan, or an answer that is allowed
    pub refused_means : (refusal : R) → ending ≡ refused refusal → (o : Result A R) → outcome held.told plan ≡ Some o →
        (o ≡ Err refusal) ⊎ IsOkAnd o (λ a. some a (λ answer. answer ≡ Err refusal))
    -- a file was not read: its count rose under the name that the words give it
    pub unread_means : (file : File) → ending ≡ unread file →
        IsSomeAnd (names file) (λ name. Rose (held.faults file name) (held'.faults file name))
    -- not all was written: the output's count rose, and a prefix of the text of an answer was appended
    pub unwritten_means : ending ≡ unwritten → Rose sunk.faults sunk'.faults
        × ((o : Result A R) → outcome held.told plan ≡ Some o →
        IsOkAnd o (λ a. some a (λ answer. IsOkAnd answer (λ stages. AppendsPrefix sunk sunk' (text_of stages) ×
        RunsSome leaves (jobs_of stages) driven driven'))))
    -- memory ran out: before anything was written and any job was run, or between two stages
    pub wanting_means : ending ≡ no_memory → ((sunk' ≡ sunk) × (driven' ≡ driven))
        ⊎ ((o : Result A R) → outcome held.told plan ≡ Some o →
        IsOkAnd o (λ a. some a (λ answer. IsOkAnd answer (λ stages. AppendsSome stages sunk sunk' ×
        RunsSome leaves (jobs_of stages) driven driven'))))
    -- nothing is appended and no job is run with any other ending
    pub nothing : (ending ≡ done) ⊎ (ending ≡ unwritten) ⊎ (ending ≡ no_memory) ⊎ ((sunk' ≡ sunk) × (driven' ≡ driven))
    -- where the first refusal is told and no file's count rose, it is answered, or memory ran out
    pub refuses : (refusal : R) → outcome held.told plan ≡ Some (Err refusal) → NoFault names held held'
        → (ending ≡ refused refusal) ⊎ (ending ≡ no_memory)
    -- where all is accepted and no count rose, the command ends by an answer that is allowed, or memory ran out
    pub complete : (a : A) → outcome held.told plan ≡ Some (Ok a) → NoFault names held held' →
        ¬ Rose sunk.faults sunk'.faults
        → some a (λ answer. ending ≡ ending_for answer) ⊎ (ending ≡ no_memory)

-- the texts of some first stages are a prefix of the whole text
abbrev pub SomeAreAPrefix : Type 0 → Type 0
SomeAreAPrefix J =
    (stages : List (Stage J)) (old new : Sunk) → AppendsSome stages old new → AppendsPrefix old new (text_of stages)

-- A plan that reads each file under the name that the words give it, and was carried out, answers.
abbrev pub PlansAnswer : (R A J D : Type 0) → Type 0
PlansAnswer R A J D = (leaves : J → D → D) (answer : A → Answer R J) (plan : Plan R A) (names : File → Option Bytes)
    (held held' : Held) (sunk sunk' : Sunk) (driven driven' : D) (ending : Ending R) → ReadsOnly names plan
    → Ran leaves (exactly answer) plan held held' sunk sunk' driven driven' ending →
    Answers leaves (exactly answer) plan names held held' sunk sunk' driven driven' ending
