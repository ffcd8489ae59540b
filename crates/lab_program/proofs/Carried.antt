-- From a text that was made to what was carried out, part by part.
use Rattle.std.proofs.Common.{◌≡◌, ◌∙◌, ℕ, [], Option, Some, None, Result, Ok, Err, inl, inr, refl, subst}
use Rattle.std.specs.Prelude.{Vec}
use Rattle.syn_base.specs.Bytes.{Bytes}
use Rattle.syn_base.specs.Rows.{Reactions}
use Rattle.text_lines.specs.Refusals.{Refused, Limit, Fails}
use Rattle.text_lines.specs.declared.fault.TextError.TheVariants as error
use Rattle.algo_laws.specs.declared.Defs.{Defs}
use Rattle.algo_laws.specs.Tree.{Vertex}
use Rattle.self_timed.specs.Text.{Described, described_by}
use Rattle.self_timed.specs.declared.ArchiText.{ArchiText}
use Rattle.self_timed.specs.Archi.{Architecture as Archi}
use Rattle.self_timed.specs.Graph.{Graph}
use Rattle.self_timed.specs.Table.{Table}
use Rattle.self_timed.specs.declared.Schedule.{Schedule}
use Rattle.top_plans.specs.Shelf.{Held}
use Rattle.top_plans.specs.Sink.{Sunk}
use Rattle.top_plans.specs.declared.File.{File}
use Rattle.top_plans.specs.declared.File.TheVariants.{Architecture, Durations}
use Rattle.top_plans.specs.ReadText.{program_in}
use Rattle.top_plans.specs.CodeRefusals.{CodeError}
use Rattle.top_plans.specs.Plan.{give}
use Rattle.top_plans.specs.Ending.{Ending, no_memory, refused}
use Rattle.top_plans.specs.Answer.{text_answer}
use Rattle.top_plans.specs.Written.{Written}
use Rattle.top_plans.specs.Run.{Follows, Makes, WasRead, Writes, was_read}
use Rattle.top_plans.proofs.Meaning.{writes_one}
use Rattle.top_plans.proofs.Makes.{after_err, gave, memory}
use Rattle.top_plans.specs.Status.{Refusal, ending_of, of_code, status_of_code}
use Rattle.top_plans.specs.declared.Status.{Status}
use Rattle.top_plans.specs.Plans.{algorithm_plan, architecture_in, architecture_plan, described_in, read_file, table_plan}
use Rattle.compiler.specs.Compiles.{IsProblem}
use Rattle.top_plans.specs.Reads.{ReadsAlgorithm, ReadsProblem, ReadsDescription, ReadsTable}
use Rattle.compiler.specs.declared.stages.Algorithm.{Algorithm}
use Rattle.compiler.specs.declared.stages.Problem.{Problem}
use Rattle.top_plans.proofs.Architectures as architectures
use Rattle.top_plans.proofs.Steps as steps
use Rattle.lab_words.specs.Command.{Command, Effort, Form}
use Rattle.lab_plans.specs.Asked.{Asked, of_dates}
use Rattle.lab_plans.specs.Answers.{answer}
use Rattle.lab_plans.specs.Plans.{Asks, request, why_of_code}
use Rattle.lab_plans.specs.Replies.{CarriedOut, LeavesUnread, leaves}
use Rattle.lab_program.specs.Texts.{Carries, GivesOfFound, Is}

-- the plan stopped so
pub stopped : {A : Type 0} (plan : Asks) (old new : Held) (status : Status) → Makes old new plan (Err (ending_of status)) → Carries {A = A} plan old new (Err status)
stopped plan old new status m = (Err (ending_of status), m, refl)

-- memory ran out
pub wanted : {A : Type 0} (plan : Asks) (held : Held) (status : Status) → ending_of status ≡ no_memory → Carries {A = A} plan held held (Err status)
wanted plan held status is = (Err no_memory, memory held plan, is)

-- what is asked for was found
pub found_so : {A : Type 0} (asked : Asked) (held : Held) (result : Result (Vec ℕ A) Status) → GivesOfFound asked result → Carries (give asked) held held result
found_so asked held (Err status) (inl is) = wanted (give asked) held status is
found_so asked held (Ok text) (inl is) = absurd is
found_so asked held result (inr h) = (Ok asked, gave held asked (Ok asked) refl, h)

-- an algorithm was read, and then the plan went on with it
pub went_on : {A : Type 0} (name : Bytes) (a b c : Held) (algorithm : Algorithm) (next : Defs → Vertex → Asks) (result : Result (Vec ℕ A) Status)
    → ReadsAlgorithm name a b (Ok algorithm) → Carries (next algorithm.defs algorithm.tree) b c result → Carries (algorithm_plan name next) a c result
went_on name a b c algorithm next result reads (made, m, h) = (made, steps.went_on name a b c algorithm next made reads m, h)

-- a problem was made of a text, and then the plan went on with it
pub compiled_in : {A : Type 0} (main : Vertex) (text : Bytes) (held : Held) (problem : Problem) (next : Described → Table → Asks) (result : Result (Vec ℕ A) Status)
    → IsProblem main text problem → Carries (next (described_by problem.text) problem.durations) held held result → Carries (architecture_in text main next) held held result
compiled_in main text held problem next result is (made, m, h) = (made, architectures.described_so main text next held held problem made is m, h)

-- a problem was made from a file, and then the plan went on with it
pub compiled_on : {A : Type 0} (main : Vertex) (name : Bytes) (a b c : Held) (problem : Problem) (next : Described → Table → Asks) (result : Result (Vec ℕ A) Status)
    → ReadsProblem main name a b (Ok problem) → Carries (next (described_by problem.text) problem.durations) b c result → Carries (architecture_plan name main next) a c result
compiled_on main name a b c problem next result reads (made, m, h) = (made, architectures.went_on main name a b c problem next made reads m, h)

-- a description was read, and then the plan went on with it
pub described_on : {A : Type 0} (name : Bytes) (a b c : Held) (text : ArchiText) (next : Described → Asks) (result : Result (Vec ℕ A) Status)
    → ReadsDescription name a b (Ok text) → Carries (next (described_by text)) b c result → Carries (read_file Architecture name (λ bytes. described_in bytes next)) a c result
described_on name a b c text next result reads (made, m, h) = (made, architectures.text_went_on name a b c text next made reads m, h)

-- macro-code was refused, or memory ran out
pub code_refused : {A : Type 0} (g : Graph) (a : Archi) (text : Bytes) (held : Held) (e : CodeError) → Fails e (program_in text g a)
    → Carries {A = A} (why_of_code g a text) held held (Err (status_of_code e))
code_refused g a text held (error.Refused fault) is = (Err (refused (of_code (Refused fault))), after_err held of_code (program_in text g a) _ (Refused fault) is, refl)
code_refused g a text held (error.Limit fault) is = (Err (refused (of_code (Limit fault))), after_err held of_code (program_in text g a) _ (Limit fault) is, refl)
code_refused g a text held error.OutOfMemory is = wanted (why_of_code g a text) held (status_of_code error.OutOfMemory) refl

-- a table was read, and then the plan went on with its rows
pub rows_on : {A : Type 0} (main : Vertex) (name : Bytes) (a b c : Held) (rows : Reactions) (next : Reactions → Asks) (result : Result (Vec ℕ A) Status)
    → ReadsTable main name a b (Ok rows) → Carries (next rows) b c result → Carries (table_plan main name next) a c result
rows_on main name a b c rows next result reads (made, m, h) = (made, steps.rows_went_on main name a b c rows next made reads m, h)

-- the text was made, and then it was written
follows_so : {A : Type 0} (given : Result Bytes Refusal) (result : Result (Vec ℕ A) Status) (sunk sunk' : Sunk) (ending : Ending Refusal) → Is given result → Written result sunk sunk' ending
    → Follows {J = ⊥} leaves (text_answer given) sunk sunk' tt tt ending
follows_so (Ok bytes) (Ok text) sunk sunk' ending is h = writes_one leaves bytes sunk sunk' tt ending (subst (λ (b : Bytes). Writes b sunk sunk' ending) is h)
follows_so (Err refusal) (Err status) sunk sunk' ending is h = (h.0 ∙ is, h.1, refl)
follows_so (Ok bytes) (Err status) sunk sunk' ending is h = absurd is
follows_so (Err refusal) (Ok text) sunk sunk' ending is h = absurd is

pub ran_so : {A : Type 0} (plan : Asks) (held held' : Held) (result : Result (Vec ℕ A) Status) (sunk sunk' : Sunk)
    (ending : Ending Refusal) → Carries plan held held' result → Written result sunk sunk' ending
    → CarriedOut plan held held' sunk sunk' ending
ran_so plan held held' result sunk sunk' ending (Ok asked, m, (s, found, is)) h = (Ok asked, m, (s, found, follows_so (answer asked s) result sunk sunk' ending is h))
ran_so plan held held' (Err status) sunk sunk' ending (Err stop, m, is) h = (Err stop, m, (h.0 ∙ is, h.1, refl))
ran_so plan held held' (Ok text) sunk sunk' ending (Err stop, m, is) h = absurd is

-- a text by itself is that of no schedule
abbrev pub no_schedule : Schedule
no_schedule = record { decisions = [] }

-- the plan of dates after an architecture
abbrev pub dates_behind : Form → Bytes → ℕ → Effort → Vertex → Described → Table → Asks
dates_behind form g n effort main d t = read_file Durations g (λ text. give (of_dates form (request main d t effort) text n))

-- a file was read, and then the plan went on with its text
pub read_on : {A : Type 0} (file : File) (name : Bytes) (a b : Held) (bytes : Bytes) (next : Bytes → Asks) (result : Result (Vec ℕ A) Status)
    → WasRead file name a b bytes → Carries (next bytes) b b result → Carries (read_file file name next) a b result
read_on file name a b bytes next result read (made, m, h) = (made, was_read b bytes read m, h)

-- nothing was read, whatever the words are
pub unread_so : (command : Option Command) (held : Held) → LeavesUnread command held held
unread_so None held = refl
unread_so (Some command) held = tt
