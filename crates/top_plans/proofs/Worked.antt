-- Plans over worked texts.
use Rattle.std.proofs.Common.{◌≡◌, ℕ, refl, List, [], ◌∷◌, ◌++◌, map, Option, Some, None, Result, Ok, Err, codes}
use Rattle.csv.specs.Reading.{records_from, strip_bom}
use Rattle.csv.specs.Machine.{next_record}
use Rattle.std.specs.Fmt.{digits}
use Rattle.syn_base.specs.Bytes.{Bytes}
use Rattle.word_rule.specs.Job.{JobData, reactions}
use Rattle.command_status.specs.Forms.{macro_of}
use Rattle.command_status.specs.Bytes.{named}
use Rattle.command_status.specs.Plan.{outcome}
use Rattle.command_status.specs.Stage.{Stage}
use Rattle.command_status.specs.declared.CodeCause.TheVariants as code_cause
use Rattle.command_status.specs.declared.CheckCause.TheVariants.{Sequences}
use Rattle.command_status.specs.declared.ActualFault.TheVariants.{Text, Longer}
use Rattle.command_status.specs.Status.{Refusal, bad_code, failed_check, bad_durations}
use Rattle.self_timed.specs.declared.ArchiCause.TheVariants as archi_cause
use Rattle.top_plans.specs.Given.{Given, stages}
use Rattle.top_plans.specs.Plans.{run_plan, sim_plan, code_plan, load_plan, exec_plan, dates_plan}

abbrev text : List Bytes → Bytes
text [] = []
text (l ∷ ls) = l ++ 10 ∷ text ls

abbrev algorithm : Bytes
algorithm = text (codes "algorithm 1" ∷ codes "sensor Sense 1" ∷ codes "actuator Act 1" ∷ codes "graph main" ∷ codes "ref s Sense" ∷ codes "ref a Act" ∷ codes "edge s.o a.i" ∷ codes "end" ∷ [])

abbrev architecture : Bytes
architecture = text (codes "architecture 1" ∷ codes "operator P" ∷ codes "duration Sense P 1" ∷ codes "duration Act P 2" ∷ [])

abbrev table : Bytes
table = text (codes "k,s.0" ∷ codes "0,5" ∷ codes "1,-1" ∷ codes "2,0" ∷ [])

abbrev no_rows : Bytes
no_rows = text (codes "k,s.0" ∷ [])

-- an actuator that lasts longer
abbrev longer : Bytes
longer = text (codes "architecture 1" ∷ codes "operator P" ∷ codes "duration Sense P 1" ∷ codes "duration Act P 3" ∷ [])

-- the code of one operator
abbrev code : Bytes
code = codes "processor_(P)\nsemaphores_()\nalloc_(b0,1)\nmain_\nloop_\nop s(;b0)\nop a(b0;)\nendloop_\nendmain_\n"

-- files `A`, `H`, `S`, `E` for a table without rows, the code `C`, `N` without a byte, `B` which is no text of any kind, and `L`
abbrev told : Bytes → Option Bytes
told = named ((codes "A", algorithm) ∷ (codes "H", architecture) ∷ (codes "S", table) ∷ (codes "E", no_rows) ∷ (codes "C", code)
    ∷ (codes "N", []) ∷ (codes "B", codes "?\n") ∷ (codes "L", longer) ∷ [])

-- how many reactions each job of a stage has, and its text
abbrev in_stages : Option (Result Given Refusal) → List (List ℕ × Bytes)
in_stages (Some (Ok a)) = map (λ (x : Stage JobData). (map reactions x.jobs, x.text)) (stages a)
in_stages (Some (Err r)) = []
in_stages None = []

simulated : in_stages (outcome told (sim_plan (codes "A") (codes "S"))) ≡ (([], codes "0 a 5\n1 a -1\n2 a 0\n") ∷ [])
unfolding records_from strip_bom next_record digits
simulated = refl

coded : in_stages (outcome told (code_plan (codes "A") (codes "H"))) ≡ (([], code) ∷ [])
unfolding digits
coded = refl

-- the code and an empty line, and then one window of three reactions
ran : in_stages (outcome told (run_plan (codes "A") (codes "H") (codes "S"))) ≡ (([], code ++ codes "\n") ∷ (3 ∷ [], codes "0 a 5\n1 a -1\n2 a 0\n") ∷ [])
unfolding records_from strip_bom next_record digits
ran = refl

-- a table without rows has no window
ran_none : in_stages (outcome told (run_plan (codes "A") (codes "H") (codes "E"))) ≡ (([], code ++ codes "\n") ∷ [])
unfolding records_from strip_bom next_record digits
ran_none = refl

-- what is read of texts has one stage
loaded : in_stages (outcome told (load_plan algorithm architecture table)) ≡ ((3 ∷ [], codes "operations 2\nsequences 1\nsteps 6\nsum 4\n") ∷ [])
unfolding records_from strip_bom next_record digits
loaded = refl

-- what the code writes by itself
executed : in_stages (outcome told (exec_plan (codes "A") (codes "H") (codes "C") (codes "S"))) ≡ ((3 ∷ [], codes "0 a 5\n1 a -1\n2 a 0\n") ∷ [])
unfolding records_from strip_bom next_record digits macro_of
executed = refl

-- the code is refused before its table is asked for, which is not told here: by its text, and by its check
unread : outcome told (exec_plan (codes "A") (codes "H") (codes "B") (codes "X")) ≡ Some (Err (bad_code (record { line = 1; cause = code_cause.BadLine })))
unfolding macro_of
unread = refl

unchecked : outcome told (exec_plan (codes "A") (codes "H") (codes "N") (codes "X")) ≡ Some (Err (failed_check Sequences))
unfolding macro_of
unchecked = refl

-- the same durations as stated
dated : in_stages (outcome told (dates_plan (codes "A") (codes "H") (codes "H") 2)) ≡ (([], codes "0 op 0 1 s\n0 op 1 3 a\n1 op 3 4 s\n1 op 4 6 a\nlatest 6\n") ∷ [])
unfolding digits
dated = refl

-- a text that is no architecture, and one that lasts longer
undated : (outcome told (dates_plan (codes "A") (codes "H") (codes "B") 2) ≡ Some (Err (bad_durations (Text (record { line = 1; cause = archi_cause.BadLine })))))
    × (outcome told (dates_plan (codes "A") (codes "H") (codes "L") 2) ≡ Some (Err (bad_durations (Longer (codes "Act")))))
undated = (refl, refl)
