-- What carrying out a plan may do, whether or not the files are told.
use Rattle.std.specs.Prelude.{◌≡◌, ◌<◌, ◌⊎◌, List, [], ◌∷◌, length, Result, Ok, Err, IfSome, false}
use Rattle.syn_base.specs.Bytes.{Bytes}
use Rattle.outside.specs.Faults.{Rose}
use Rattle.outside.specs.Shelf.{Held, IsRead, OthersStay, Stays, file_bound}
use Rattle.outside.specs.Sink.{Sunk, Appends, Wrote}
use Rattle.outside.specs.declared.file.File.{File}
use Rattle.command_plan.specs.Plan.{Plan, give, refuse, read}
use Rattle.command_plan.specs.Answer.{Answer}
use Rattle.command_plan.specs.Stage.{Stage, after_jobs, RunsSome}
use Rattle.command_plan.specs.Ending.{Ending, done, refused, unread, unwritten, no_memory}

-- no count of faults changed
abbrev pub SameFaults : Held → Held → Type 0
SameFaults old new = (file : File) (name : Bytes) → new.faults file name ≡ old.faults file name

-- this answer, or want of memory in its place, and no count changed
abbrev pub Gives : {R A : Type 0} → Held → Held → Result A (Ending R) → Result A (Ending R) → Type 0
Gives old new answer made = ((made ≡ answer) ⊎ (made ≡ Err no_memory)) × SameFaults old new

-- These bytes of a file were read, and neither what files hold nor the faults of another file
-- changed.
abbrev pub WasRead : File → Bytes → Held → Held → Bytes → Type 0
WasRead file name old new bytes = IsRead name old bytes × Stays old new × OthersStay file old new

-- a file was not read: its count of faults rose, it is too long, or memory ran out; no count of another file changed
abbrev pub FailsToRead : {R : Type 0} → File → Bytes → R → Held → Held → Ending R → Type 0
FailsToRead file name too_long old new (unread named) =
    (named ≡ file) × Rose (old.faults file name) (new.faults file name) × OthersStay file old new
FailsToRead file name too_long old new (refused refusal) =
    (refusal ≡ too_long) × IfSome (old.told name) (λ bytes. file_bound < length bytes) × OthersStay file old new
FailsToRead file name too_long old new no_memory = OthersStay file old new
FailsToRead file name too_long old new _ = ⊥

-- What the plan may give of a shelf that goes from old to new: what is to be made, or why there is nothing. Files are
-- read one by one, and the counts of a file whose turn does not come stay as they are.
pub data Makes {R A : Type 0} : Held → Held → Plan R A → Result A (Ending R) → Type 0 where
  gives : {old new : Held} {a : A} {made : Result A (Ending R)} → Gives old new (Ok a) made →
      Makes old new (give a) made
  refuses : {old new : Held} {refusal : R} {made : Result A (Ending R)} → Gives old new (Err (refused refusal)) made →
      Makes old new (refuse refusal) made
  not_read : {old new : Held} {file : File} {name : Bytes} {too_long : R} {next : Bytes → Plan R A} {ending : Ending R}
      → FailsToRead file name too_long old new ending → Makes old new (read file name too_long next) (Err ending)
  was_read : {old new : Held} {file : File} {name : Bytes} {too_long : R} {next : Bytes → Plan R A}
      {made : Result A (Ending R)} (between : Held) (bytes : Bytes)
      → WasRead file name old between bytes → Makes between new (next bytes) made →
      Makes old new (read file name too_long next) made

-- a text was written by one call; or a part of it, and the sink's count rose
abbrev pub Writes : {R : Type 0} → Bytes → Sunk → Sunk → Ending R → Type 0
Writes text sunk sunk' done = Appends sunk sunk' text
Writes text sunk sunk' unwritten = Wrote sunk sunk' text false
Writes text sunk sunk' _ = ⊥

module _ {R J D : Type 0} (leaves : J → D → D) where
  -- It stopped at this stage: memory ran out before its text was written, or not all of the text was written and the
  -- sink's count rose.
  abbrev pub Stops : Stage J → Sunk → Sunk → D → D → Ending R → Type 0
  Stops stage sunk sunk' d d' no_memory = (sunk' ≡ sunk) × RunsSome leaves stage.jobs d d'
  Stops stage sunk sunk' d d' unwritten = Wrote sunk sunk' stage.text false × (d' ≡ after_jobs leaves stage.jobs d)
  Stops stage sunk sunk' d d' _ = ⊥

  -- the stages were performed, one after another: the jobs of each were run to their ends, and then its text was
  -- appended
  abbrev pub Performs : List (Stage J) → Sunk → Sunk → D → D → Ending R → Type 0
  Performs [] sunk sunk' d d' ending = (ending ≡ done) × (sunk' ≡ sunk) × (d' ≡ d)
  Performs (stage ∷ stages) sunk sunk' d d' ending =
      Stops stage sunk sunk' d d' ending ⊎ ((mid : Sunk) × Appends sunk mid stage.text ×
      Performs stages mid sunk' (after_jobs leaves stage.jobs d) d' ending)

  -- the stages of an answer were performed; a refusal is the ending, nothing is written and no job is run
  abbrev pub Follows : Answer R J → Sunk → Sunk → D → D → Ending R → Type 0
  Follows (Ok stages) sunk sunk' d d' ending = Performs stages sunk sunk' d d' ending
  Follows (Err refusal) sunk sunk' d d' ending = (ending ≡ refused refusal) × (sunk' ≡ sunk) × (d' ≡ d)

  module _ {A : Type 0} (some : A → (Answer R J → Type 0) → Type 0) where
    -- for what was given, some answer that is allowed was followed; where nothing was given, that is the ending,
    -- nothing is written and no job is run
    abbrev pub Ends : Result A (Ending R) → Sunk → Sunk → D → D → Ending R → Type 0
    Ends (Ok a) sunk sunk' d d' ending = some a (λ answer. Follows answer sunk sunk' d d' ending)
    Ends (Err stop) sunk sunk' d d' ending = (ending ≡ stop) × (sunk' ≡ sunk) × (d' ≡ d)

    -- the plan was carried out: something was given, and then answered
    abbrev pub Ran : Plan R A → Held → Held → Sunk → Sunk → D → D → Ending R → Type 0
    Ran plan held held' sunk sunk' d d' ending =
        (made : Result A (Ending R)) × Makes held held' plan made × Ends made sunk sunk' d d' ending
