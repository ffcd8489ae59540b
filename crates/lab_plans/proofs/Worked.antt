-- Plans over worked texts, and what is answered of the pressure run.
use Rattle.std.proofs.Common.{◌≡◌, ℕ, refl, List, [], ◌∷◌, ◌++◌, length, Option, Some, None, Result, Ok, Err, codes}
use Rattle.top_plans.specs.Schedules.{schedule_of}
use Rattle.std.specs.Fmt.{digits}
use Rattle.csv.specs.Writing.{fields_text, is_blank}
use Rattle.syn_base.specs.Bytes.{Bytes}
use Rattle.self_timed.specs.declared.ArchiCause.TheVariants as archi_cause
use Rattle.top_plans.specs.Forms.{macro_of}
use Rattle.top_plans.specs.Bytes.{named}
use Rattle.top_plans.specs.declared.ActualFault.TheVariants.{Longer}
use Rattle.top_plans.specs.Plan.{outcome}
use Rattle.top_plans.specs.Status.{Refusal, bad_architecture, bad_durations, usage}
use Rattle.lab_words.specs.Command.{Command, Effort, for_length, code, report, drawn, traced, help, schedule, table, why, dates}
use Rattle.lab_words.specs.Help.{help_text}
use Rattle.lab_plans.specs.Asked.{Asked, of_text, of_schedule, of_dates}
use Rattle.lab_plans.specs.Answers.{answer}
use Rattle.lab_plans.specs.Plans.{plan_of}

abbrev text : List Bytes → Bytes
text [] = []
text (l ∷ ls) = l ++ 10 ∷ text ls

abbrev algorithm : Bytes
algorithm = text (codes "algorithm 1" ∷ codes "sensor Sense 1" ∷ codes "actuator Act 1" ∷ codes "graph main" ∷ codes "ref s Sense" ∷ codes "ref a Act" ∷ codes "edge s.o a.i" ∷ codes "end" ∷ [])

abbrev architecture : Bytes
architecture = text (codes "architecture 1" ∷ codes "operator P" ∷ codes "duration Sense P 1" ∷ codes "duration Act P 2" ∷ [])

-- an actuator that lasts longer
abbrev longer : Bytes
longer = text (codes "architecture 1" ∷ codes "operator P" ∷ codes "duration Sense P 1" ∷ codes "duration Act P 3" ∷ [])

-- the operator alone
abbrev undated_architecture : Bytes
undated_architecture = text (codes "architecture 1" ∷ codes "operator P" ∷ [])

-- macro-code that calls these after the sensor
abbrev code_with : List Bytes → Bytes
code_with calls =
    text (codes "processor_(P)" ∷ codes "semaphores_()" ∷ codes "alloc_(b0,1)" ∷ codes "main_" ∷ codes "loop_" ∷ codes "op s(;b0)" ∷ calls ++ codes "endloop_" ∷ codes "endmain_" ∷ [])

-- files `A`, `H`, `L`, `U`, the codes `C` and `W`, and `B` which is no text of any kind
abbrev told : Bytes → Option Bytes
told =
    named ((codes "A", algorithm) ∷ (codes "H", architecture) ∷ (codes "L", longer) ∷ (codes "U", undated_architecture) ∷
    (codes "C", code_with (codes "op a(b0;)" ∷ [])) ∷ (codes "W", code_with []) ∷ (codes "B", codes "?\n") ∷ [])

abbrev untried : Effort
untried = record { tries = 0; seed = 1; goal = for_length }

-- what is asked for: the number of operations, and the number of reactions that are dated
abbrev sizes : Option (Result Asked Refusal) → List ℕ
sizes (Some (Ok (of_text bytes))) = []
sizes (Some (Ok (of_schedule subject p))) = length p.graph.vertices ∷ []
sizes (Some (Ok (of_dates form p bytes n))) = length p.graph.vertices ∷ n ∷ []
sizes (Some (Err r)) = []
sizes None = []

-- what is answered of the pressure run
abbrev answered : Option (Result Asked Refusal) → Option (Result Bytes Refusal)
answered (Some (Ok (of_text bytes))) = Some (Ok bytes)
answered (Some (Ok (of_schedule subject p))) = Some (answer (of_schedule subject p) (schedule_of p.graph p.archi p.table))
answered (Some (Ok (of_dates form p bytes n))) = Some (answer (of_dates form p bytes n) (schedule_of p.graph p.archi p.table))
answered (Some (Err r)) = Some (Err r)
answered None = None

abbrev outcome_of : Command → Option (Result Asked Refusal)
outcome_of command = outcome told (plan_of (Some command))

no_command : outcome told (plan_of None) ≡ Some (Err usage)
no_command = refl

-- the durations that really occur are read, and not judged, before a schedule is searched
asked : (sizes (outcome_of (schedule (report 50) (codes "A") (codes "H") untried)) ≡ 2 ∷ [])
    × (sizes (outcome_of (dates drawn (codes "A") (codes "H") (codes "L") 7 untried)) ≡ 2 ∷ 7 ∷ [])
    × (sizes (outcome_of (dates drawn (codes "A") (codes "H") (codes "X") 7 untried)) ≡ [])
asked = (refl, refl, refl)

-- an architecture is refused before a file of durations is asked for, which is not told here
unread : outcome_of (dates drawn (codes "A") (codes "B") (codes "X") 7 untried) ≡ Some (Err (bad_architecture (record { line = 1; cause = archi_cause.BadLine })))
unread = refl

undated : answered (outcome_of (dates drawn (codes "A") (codes "H") (codes "L") 7 untried)) ≡ Some (Err (bad_durations (Longer (codes "Act"))))
undated = refl

coded : answered (outcome_of (schedule code (codes "A") (codes "H") untried))
    ≡ Some (Ok (codes "processor_(P)\nsemaphores_()\nalloc_(b0,1)\nmain_\nloop_\nop s(;b0)\nop a(b0;)\nendloop_\nendmain_\n"))
unfolding digits
coded = refl

reported : answered (outcome_of (schedule (report 2) (codes "A") (codes "H") untried))
    ≡ Some (Ok (codes "length 3\noperator P busy 3 share 1.000\ntransfers 0 constants 0 delays 0\nalone P 3 speed-up 1.000\nperiod 3.000 reactions 1\nbusiest operator P share 1.000\nlatency s a 3\nbound 3 ratio 1.000\nchain s 1\nchain a 2\n"))
unfolding digits
reported = refl

-- beside a schedule that was searched, here the pressure run itself, stands the pressure run
searched : answered (outcome_of (schedule (report 3) (codes "A") (codes "H") (record { tries = 5; seed = 1; goal = for_length })))
    ≡ Some (Ok (codes "length 3\noperator P busy 3 share 1.000\ntransfers 0 constants 0 delays 0\nalone P 3 speed-up 1.000\npressure-run 3 period 3.000\nbest-alone 3\nperiod 3.000 reactions 2\nbusiest operator P share 1.000\nlatency s a 3\nbound 3 ratio 1.000\nchain s 1\nchain a 2\n"))
unfolding digits
searched = refl

-- a trace of dates is refused as their picture is
untraced : answered (outcome_of (dates traced (codes "A") (codes "H") (codes "L") 7 untried)) ≡ Some (Err (bad_durations (Longer (codes "Act"))))
untraced = refl

-- help reads nothing, and a table reads the algorithm alone
helped : answered (outcome_of help) ≡ Some (Ok help_text)
helped = refl

tabled : answered (outcome_of (table (codes "A"))) ≡ Some (Ok (codes "k,s.0\n0,0\n"))
unfolding digits fields_text is_blank
tabled = refl

-- code is checked without durations: it is well formed, or an operation is not called
explained : answered (outcome_of (why (codes "A") (codes "U") (codes "C"))) ≡ Some (Ok (codes "well formed\n"))
unfolding macro_of
explained = refl

uncalled : answered (outcome_of (why (codes "A") (codes "U") (codes "W")))
    ≡ Some (Ok (codes "K2 Calls\neach operation is called once, and this one is not\noperation a\n"))
unfolding macro_of
uncalled = refl
