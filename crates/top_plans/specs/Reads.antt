-- What reading the files of a command answers: a file was not read, or this was made of its bytes.
use Rattle.std.specs.Prelude.{◌≡◌, ◌⊎◌, ℕ, Result, Ok, Err, Vec}
use Rattle.archi_reader.specs.Given.{Gives}
use Rattle.syn_base.specs.Bytes.{Bytes}
use Rattle.syn_base.specs.Rows.{Reactions}
use Rattle.algo_rules.specs.Tree.{Vertex}
use Rattle.self_timed.specs.Text.{description_of}
use Rattle.self_timed.specs.declared.ArchiText.{ArchiText}
use Rattle.command_status.specs.Shelf.{Held, file_limit}
use Rattle.command_status.specs.declared.File.{File}
use Rattle.command_status.specs.declared.File.TheVariants as file
use Rattle.command_status.specs.Run.{FailsToRead, WasRead}
use Rattle.command_status.specs.Ending.{Ending}
use Rattle.command_status.specs.Status.{
  Refusal,
  above,
  ending_of,
  status_of_algorithm,
  status_of_architecture,
  status_of_sensors,
}
use Rattle.command_status.specs.declared.Status.{Status}
use Rattle.top_plans.specs.Given.{Given, written}
use Rattle.compiler.specs.Compiles.{MakesAlgorithm, MakesProblem}
use Rattle.compiler.specs.Tables.{MakesTable}
use Rattle.compiler.specs.declared.stages.Algorithm.{Algorithm}
use Rattle.compiler.specs.declared.stages.Problem.{Problem}

module _ {A : Type 0} where
  -- a text that is to be written, or the ending that its status stands for
  abbrev pub text_in : Result (Vec ℕ A) Status → Result Given (Ending Refusal)
  text_in (Ok text) = Ok (written text.items)
  text_in (Err status) = Err (ending_of status)

module _ {X E : Type 0} (status_of : E → Status) (Makes : Result X E → Type 0) where
  -- What was made; or the status of the error for which nothing was.
  abbrev pub Told : Result X Status → Type 0
  Told (Ok x) = Makes (Ok x)
  Told (Err status) = (error : E) × Makes (Err error) × (status ≡ status_of error)

module _ {X : Type 0} (file : File) (Makes : Bytes → Result X Status → Type 0) where
  -- The file was not read, and the status says why; or its bytes were read, and this was made of them.
  abbrev pub ReadsFile : Bytes → Held → Held → Result X Status → Type 0
  ReadsFile name old new (Ok x) = (text : Bytes) × WasRead file name old new text × Makes text (Ok x)
  ReadsFile name old new (Err status) =
      FailsToRead file name (above file_limit) old new (ending_of status) ⊎
      ((text : Bytes) × WasRead file name old new text × Makes text (Err status))

-- the algorithm of a file
abbrev pub ReadsAlgorithm : Bytes → Held → Held → Result Algorithm Status → Type 0
ReadsAlgorithm = ReadsFile file.Algorithm (λ text. Told status_of_algorithm (MakesAlgorithm text))

-- what the text of a file describes
abbrev pub ReadsDescription : Bytes → Held → Held → Result ArchiText Status → Type 0
ReadsDescription =
    ReadsFile file.Architecture (λ text. Told status_of_architecture (λ result. Gives result (description_of text)))

-- the problem of an algorithm and the text of a file
abbrev pub ReadsProblem : Vertex → Bytes → Held → Held → Result Problem Status → Type 0
ReadsProblem main =
    ReadsFile file.Architecture (λ text. Told status_of_architecture (MakesProblem main text))

-- the rows of the table of a file for an algorithm
abbrev pub ReadsTable : Vertex → Bytes → Held → Held → Result Reactions Status → Type 0
ReadsTable main = ReadsFile file.Sensors (λ table. Told status_of_sensors (MakesTable main table))
