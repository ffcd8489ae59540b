-- Which commands worked words are.
use Rattle.std.proofs.Common.{◌≡◌, refl, List, [], ◌∷◌, Option, Some, None, codes}
use Rattle.syn_base.specs.Bytes.{Bytes}
use Rattle.command_words.specs.Table.{table}
use Rattle.command_words.specs.Command.{Command, plain, job, check, algorithm_text, schedule_text, dates, sim, run, exec, load, command_of}
use Rattle.command_words.specs.declared.table.AlgorithmText.TheVariants.{Listing}
use Rattle.command_words.specs.declared.table.ScheduleText.TheVariants.{Chart, Code}
use Rattle.command_words.specs.declared.table.CommandKind.TheVariants.{Check, Sim, Algorithm, Schedule, Run, Load, Exec, Dates}

-- the table of the code has these commands
rows : table ≡ (codes "check", Check) ∷ (codes "flat", Algorithm Listing) ∷ (codes "chart", Schedule Chart) ∷ (codes "code", Schedule Code) ∷ (codes "dates", Dates)
    ∷ (codes "sim", Sim) ∷ (codes "run", Run) ∷ (codes "exec", Exec) ∷ (codes "load", Load) ∷ []
rows = refl

abbrev a : Bytes
a = codes "a"

abbrev h : Bytes
h = codes "h"

abbrev s : Bytes
s = codes "s"

abbrev of : List Bytes → Option Command
of ws = command_of (codes "syndex" ∷ ws)

no_words : (command_of [] ≡ None) × (of [] ≡ None)
no_words = (refl, refl)

plainest : of (codes "sim" ∷ a ∷ s ∷ []) ≡ Some (plain (sim a s))
plainest = refl

checks : (of (codes "check" ∷ a ∷ []) ≡ Some (plain (check a None))) × (of (codes "check" ∷ a ∷ h ∷ []) ≡ Some (plain (check a (Some h)))) × (of (codes "check" ∷ a ∷ h ∷ s ∷ []) ≡ None)
checks = (refl, refl, refl)

others : (of (codes "flat" ∷ a ∷ []) ≡ Some (plain (algorithm_text Listing a)))
    × (of (codes "chart" ∷ a ∷ h ∷ []) ≡ Some (plain (schedule_text Chart a h))) × (of (codes "code" ∷ a ∷ h ∷ []) ≡ Some (plain (schedule_text Code a h)))
others = (refl, refl, refl)

-- no abbreviation, and no other spelling
unknown : (of (codes "si" ∷ a ∷ s ∷ []) ≡ None) × (of (codes "Sim" ∷ a ∷ s ∷ []) ≡ None) × (of (codes "--help" ∷ []) ≡ None) × (of (codes "help" ∷ []) ≡ None) × (of (codes "--version" ∷ []) ≡ None)
unknown = (refl, refl, refl, refl, refl)

abbrev workers : List Bytes → List Bytes
workers ws = codes "run" ∷ a ∷ h ∷ s ∷ ws

runs : (of (workers []) ≡ Some (job (run a h s None))) × (of (codes "run" ∷ a ∷ h ∷ []) ≡ None)
runs = (refl, refl)

-- in both forms, anywhere after the command, with leading zeros
given : (of (workers (codes "--workers" ∷ codes "80" ∷ [])) ≡ Some (job (run a h s (Some 80))))
    × (of (workers (codes "--workers=04" ∷ [])) ≡ Some (job (run a h s (Some 4))))
    × (of (codes "run" ∷ codes "--workers" ∷ codes "1" ∷ a ∷ h ∷ s ∷ []) ≡ Some (job (run a h s (Some 1))))
given = (refl, refl, refl)

not_given : (of (workers (codes "--workers" ∷ codes "0" ∷ [])) ≡ None) × (of (workers (codes "--workers" ∷ codes "81" ∷ [])) ≡ None) × (of (workers (codes "--workers" ∷ [])) ≡ None)
    × (of (workers (codes "--workers=" ∷ [])) ≡ None) × (of (workers (codes "--workers" ∷ codes "+1" ∷ [])) ≡ None) × (of (workers (codes "--worker=1" ∷ [])) ≡ None)
not_given = (refl, refl, refl, refl, refl, refl)

twice : (of (workers (codes "--workers=1" ∷ codes "--workers=1" ∷ [])) ≡ None) × (of (workers (codes "--workers" ∷ codes "--" ∷ codes "1" ∷ [])) ≡ None)
twice = (refl, refl)

-- for no other command
elsewhere : (of (codes "sim" ∷ a ∷ s ∷ codes "--workers=1" ∷ []) ≡ None) × (of (codes "--workers=1" ∷ codes "run" ∷ a ∷ h ∷ s ∷ []) ≡ None)
elsewhere = (refl, refl)

-- after `--` each word is plain, a second `--` too; before the command there is none
ended : (of (codes "run" ∷ a ∷ codes "--" ∷ codes "--workers" ∷ codes "--" ∷ []) ≡ Some (job (run a (codes "--workers") (codes "--") None))) × (of (codes "--" ∷ codes "sim" ∷ a ∷ s ∷ []) ≡ None)
ended = (refl, refl)

-- `-` and the empty word are names of files; other words that begin so are none
hyphens : (of (codes "sim" ∷ codes "-" ∷ [] ∷ []) ≡ Some (plain (sim (codes "-") []))) × (of (codes "sim" ∷ codes "-a" ∷ s ∷ []) ≡ None)
hyphens = (refl, refl)

loads : (of (codes "load" ∷ codes "1000" ∷ []) ≡ Some (job (load 1000))) × (of (codes "load" ∷ codes "0001" ∷ []) ≡ Some (job (load 1)))
    × (of (codes "load" ∷ codes "0" ∷ []) ≡ None) × (of (codes "load" ∷ codes "1001" ∷ []) ≡ None)
loads = (refl, refl, refl, refl)

-- macro-code takes workers as a run does, and needs four files
abbrev c : Bytes
c = codes "c"

execs : (of (codes "exec" ∷ a ∷ h ∷ c ∷ s ∷ []) ≡ Some (job (exec a h c s None))) × (of (codes "exec" ∷ a ∷ codes "--workers" ∷ codes "80" ∷ h ∷ c ∷ s ∷ []) ≡ Some (job (exec a h c s (Some 80))))
    × (of (codes "exec" ∷ a ∷ h ∷ c ∷ s ∷ codes "--workers=007" ∷ []) ≡ Some (job (exec a h c s (Some 7))))
    × (of (codes "exec" ∷ a ∷ h ∷ codes "--" ∷ codes "-" ∷ codes "--workers" ∷ []) ≡ Some (job (exec a h (codes "-") (codes "--workers") None)))
execs = (refl, refl, refl, refl)

no_execs : (of (codes "exec" ∷ a ∷ h ∷ s ∷ []) ≡ None) × (of (codes "exec" ∷ a ∷ h ∷ c ∷ s ∷ c ∷ []) ≡ None) × (of (codes "exec" ∷ a ∷ h ∷ c ∷ s ∷ codes "--workers=81" ∷ []) ≡ None)
    × (of (codes "exec" ∷ a ∷ h ∷ c ∷ s ∷ codes "--workers" ∷ []) ≡ None) × (of (workers (c ∷ [])) ≡ None)
no_execs = (refl, refl, refl, refl, refl)

-- 1 to 1,000 reactions are dated, and there is no option
dated : (of (codes "dates" ∷ a ∷ h ∷ h ∷ codes "2" ∷ []) ≡ Some (plain (dates a h h 2))) × (of (codes "dates" ∷ a ∷ h ∷ h ∷ codes "01000" ∷ []) ≡ Some (plain (dates a h h 1000)))
    × (of (codes "dates" ∷ a ∷ h ∷ h ∷ codes "0" ∷ []) ≡ None) × (of (codes "dates" ∷ a ∷ h ∷ h ∷ codes "1001" ∷ []) ≡ None)
dated = (refl, refl, refl, refl)

not_dated : (of (codes "dates" ∷ a ∷ h ∷ codes "2" ∷ []) ≡ None) × (of (codes "dates" ∷ a ∷ h ∷ h ∷ codes "2" ∷ s ∷ []) ≡ None)
    × (of (codes "dates" ∷ a ∷ h ∷ h ∷ codes "2" ∷ codes "--workers=1" ∷ []) ≡ None)
    × (of (codes "dates" ∷ a ∷ h ∷ h ∷ codes "-2" ∷ []) ≡ None)
not_dated = (refl, refl, refl, refl)
