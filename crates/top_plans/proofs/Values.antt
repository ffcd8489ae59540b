-- What Done of `sim`, `run` and `exec` writes, said of bytes alone.
use Rattle.std.proofs.Common.{◌≡◌, ◌∙◌, Bool, true, false, ◌||◌, List, [], ◌∷◌, ◌++◌, Option, Some, None, Result, Ok, Err, codes, length, refl, sym, ap, subst}
use Rattle.compiler.specs.Executions.{output_of}
use Rattle.std.specs.Prelude.{IsOkAnd, if◌then◌else◌, nat_lt, option_and_then, drop}
use Rattle.std.specs.List.{list_any}
use Rattle.std.specs.Str.{bytes_eq}
use Rattle.std.proofs.lemmas.Slice.Eq.{bytes_eq-Decides}
use Rattle.csv.specs.Reading.{default_config, records, strip_bom}
use Rattle.syn_base.specs.Bytes.{Bytes}
use Rattle.algo_rules.specs.declared.Defs.{Defs}
use Rattle.algo_rules.specs.Tree.{Vertex}
use Rattle.algo_rules.specs.Resolved.{resolution_of}
use Rattle.accepted_laws.specs.Marking.{marking_of}
use Rattle.accepted_laws.specs.Told.{lines_taken}
use Rattle.command_status.specs.Shelf.{Held, file_bound}
use Rattle.command_status.specs.Sink.{Sunk, Appends, appended}
use Rattle.command_status.specs.declared.File.{File}
use Rattle.command_status.specs.declared.File.TheVariants.{Algorithm, Architecture, Sensors, Code, Durations}
use Rattle.command_status.specs.SensorTable.{rows_of}
use Rattle.command_status.specs.Plan.{Plan, give, refuse, read, outcome, ReadsOnly}
use Rattle.command_status.specs.Stage.{text_of, jobs_of, after_jobs}
use Rattle.command_status.specs.Ending.{done}
use Rattle.command_status.specs.Status.{Refusal}
use Rattle.command_words.specs.Command.{Command, Arguments, plain, job, sim, run, exec, is_option, is_joined, arguments_of, with_plain, plain_by, two, run_by, exec_by, command_of}
use Rattle.command_words.proofs.OptionWords.{joined_is}
use Rattle.word_rule.specs.Driven.{Driven, driven_by}
use Rattle.top_plans.specs.Names.{names_for}
use Rattle.top_plans.specs.Given.{Given, written, printed, executed, summed, stages}
use Rattle.top_plans.specs.Plans.{plan_for}
use Rattle.top_plans.specs.Meaning.{MakesTrue}
use Rattle.top_plans.specs.Replies.{Replies, IsMade, ValuesAreWritten}
use Rattle.top_plans.specs.Values.{Asks, IsKnown, ReadingsAgree, WritesLines}
use Rattle.top_plans.proofs.Walk.{Leaf}
use Rattle.top_plans.proofs.Commands.{IsTold, reads_only, told_gives}
use Rattle.top_plans.proofs.Usage.{done_runs}

-- one reading
same_ok : {A E : Type 0} (x y : A) → ◌≡◌ {A = Result A E} (Ok x) (Ok y) → x ≡ y
same_ok x y e = cc

pub readings_agree : ReadingsAgree
readings_agree text table one other =
    let x = one.algorithm in
    let y = other.algorithm in
    let defs : x.defs ≡ y.defs = same_ok x.defs y.defs (sym x.says ∙ y.says) in
    let main : x.main ≡ y.main = same_ok x.main y.main (sym x.resolves ∙ ap (λ (d : Defs). resolution_of d.defs) defs ∙ y.resolves) in
    let marks : x.marks ≡ y.marks = same_ok x.marks y.marks (sym x.marked ∙ ap (λ (d : Defs). marking_of d.defs) defs ∙ y.marked) in
    let rows : one.rows ≡ other.rows = same_ok one.rows other.rows
    (sym one.reads ∙ ap (λ (m : Vertex). rows_of m (records default_config (strip_bom table))) main ∙ other.reads) in
    λ i. lines_taken (marks i) (main i) (rows i).reactions

-- a word that does not look like an option is none
is_no_option : (x y : Bytes) → is_option y ≡ true → is_option x ≡ false → x ≡ y → ⊥
is_no_option x y dashed bare same = let q : true ≡ false = sym dashed ∙ sym (ap is_option same) ∙ bare in cc

differs : (x y : Bytes) (t : Bool) → is_option y ≡ true → is_option x ≡ false → bytes_eq x y ≡ t → t ≡ false
differs x y false dashed bare e = refl
differs x y true dashed bare e = absurd (is_no_option x y dashed bare ((bytes_eq-Decides x y).0 e))

unjoined : (x : Bytes) (t : Bool) → is_option x ≡ false → is_joined x ≡ t → t ≡ false
unjoined x false bare e = refl
unjoined x true bare e = absurd (is_no_option x (codes "--workers=" ++ drop 10 x) refl bare (joined_is x e))

or_parts : (a b : Bool) → (a || b) ≡ false → (a ≡ false) × (b ≡ false)
or_parts false b e = (refl, e)
or_parts true b e = absurd cc

-- words none of which looks like an option are plain arguments
with_one : (takes : Bool) (w : Bytes) (ws : List Bytes) → is_option w ≡ false → arguments_of takes false (w ∷ ws) ≡ with_plain w (arguments_of takes false ws)
with_one false w ws d = rw (differs w (codes "--") (bytes_eq w (codes "--")) refl d refl, d) refl
with_one true w ws d = rw (
  differs w (codes "--") (bytes_eq w (codes "--")) refl d refl,
  differs w (codes "--workers") (bytes_eq w (codes "--workers")) refl d refl,
  unjoined w (is_joined w) d refl,
  d,
) refl

abbrev only : List Bytes → Option Arguments
only ws = Some (record { plain = ws; workers = [] })

all_plain : (takes : Bool) (ws : List Bytes) → list_any is_option ws ≡ false → arguments_of takes false ws ≡ only ws
all_plain takes [] e = refl
all_plain takes (w ∷ ws) e =
    let parts = or_parts (is_option w) (list_any is_option ws) e in
    with_one takes w ws parts.0 ∙ ap (with_plain w) (all_plain takes ws parts.1)

asks_sim : (words : List Bytes) (a s : Bytes) → Asks words (codes "sim") (a ∷ s ∷ []) → command_of words ≡ Some (plain (sim a s))
asks_sim words a s asks = ap command_of asks.words_are ∙ ap (plain_by (two (λ a s. Some (plain (sim a s))))) (all_plain false (a ∷ s ∷ []) asks.plain)

asks_run : (words : List Bytes) (a h s : Bytes) → Asks words (codes "run") (a ∷ h ∷ s ∷ []) → command_of words ≡ Some (job (run a h s None))
asks_run words a h s asks = ap command_of asks.words_are ∙ ap run_by (all_plain true (a ∷ h ∷ s ∷ []) asks.plain)

asks_exec : (words : List Bytes) (a h c s : Bytes) → Asks words (codes "exec") (a ∷ h ∷ c ∷ s ∷ []) → command_of words ≡ Some (job (exec a h c s None))
asks_exec words a h c s asks = ap command_of asks.words_are ∙ ap exec_by (all_plain true (a ∷ h ∷ c ∷ s ∷ []) asks.plain)

-- each file that a plan may read is told
abbrev AreKnown : (Bytes → Option Bytes) → (File → Option Bytes) → Type 0
AreKnown told names = (file : File) (name : Bytes) → names file ≡ Some name → IsKnown told name

-- where each file that a plan reads is told, its outcome is told
module _ {R A : Type 0} (told : Bytes → Option Bytes) (names : File → Option Bytes) where
  outcome_told : (plan : Plan R A) → ReadsOnly names plan → AreKnown told names → (o : Result A R) × (outcome told plan ≡ Some o)
  outcome_told (give a) only known = (Ok a, refl)
  outcome_told (refuse r) only known = (Err r, refl)
  outcome_told (read file name long next) only known =
      let text = known file name only.0 in
      let rest = outcome_told (next text.0) (only.1 text.0) known in
      by text.0 rest (nat_lt file_bound (length text.0)) text.1
    where
      by : (text : Bytes) → (o : Result A R) × (outcome told (next text) ≡ Some o) → (t : Bool) → told name ≡ Some text
          → (o : Result A R) × (outcome told (read file name long next) ≡ Some o)
      by text rest t e = short (nat_lt file_bound (length text)) refl
        where
          there : outcome told (read file name long next) ≡ (if nat_lt file_bound (length text) then Some (Err long) else outcome told (next text))
          there = ap (λ (o : Option Bytes). option_and_then (λ bytes. if nat_lt file_bound (length bytes) then Some (Err long) else outcome told (next bytes)) o) e

          short : (t : Bool) → nat_lt file_bound (length text) ≡ t → (o : Result A R) × (outcome told (read file name long next) ≡ Some o)
          short true q = (Err long, there ∙ (rw q refl))
          short false q = (rest.0, there ∙ (rw q refl) ∙ rest.1)

same_name : (x y : Bytes) → Some x ≡ Some y → x ≡ y
same_name x y e = cc

no_name : (y : Bytes) → None ≡ Some y → ⊥
no_name y e = cc

known_as : (told : Bytes → Option Bytes) (x y : Bytes) → IsKnown told x → Some x ≡ Some y → IsKnown told y
known_as told x y k e = subst (IsKnown told) (same_name x y e) k

module _ (held held' : Held) (sunk sunk' : Sunk) (d d' : Driven) where
  abbrev told : Bytes → Option Bytes
  told = held.told

  abbrev IsDone : Command → Type 0
  IsDone command = Replies (Some command) held held' sunk sunk' d d' done

  -- what is given where a command is done and its files are told
  given : (command : Command) → IsDone command → AreKnown told (names_for command) → (g : Given) × (outcome told (plan_for command) ≡ Some (Ok g))
  given command replies known =
      let o = outcome_told told (names_for command) (plan_for command) (reads_only (Some command)) known in
      by o.0 o.1 (replies.answers.done_means refl o.0 o.1)
    where
      by : (o : Result Given Refusal) → outcome told (plan_for command) ≡ Some o
          → IsOkAnd o (λ g. Appends sunk sunk' (text_of (stages g)) × (d' ≡ after_jobs driven_by (jobs_of (stages g)) d))
          → (g : Given) × (outcome told (plan_for command) ≡ Some (Ok g))
      by (Ok g) e h = (g, e)
      by (Err r) e h = absurd h

  abbrev Lines : Bytes → Bytes → Bytes → Type 0
  Lines a s front = WritesLines told sunk.told sunk'.told a s front

  leaf : (command : Command) (g : Given) → outcome told (plan_for command) ≡ Some (Ok g) → Leaf (IsTold told) command g
  leaf command g e = told_gives (Leaf (IsTold told) command) told command (λ g l. l) g e

  sim_lines : (a s : Bytes) → IsDone (plain (sim a s)) → IsKnown told a → IsKnown told s → Lines a s []
  sim_lines a s replies at on =
      let g = given (plain (sim a s)) replies known in
      by g.0 (leaf (plain (sim a s)) g.0 g.1) (replies.true_runs g.0 g.1) (done_runs (Some (plain (sim a s))) held held' sunk sunk' d d' g.0 replies g.1)
    where
      known : (file : File) (name : Bytes) → names_for (plain (sim a s)) file ≡ Some name → IsKnown told name
      known Algorithm name e = known_as told a name at e
      known Sensors name e = known_as told s name on e
      known Architecture name e = absurd (no_name name e)
      known Code name e = absurd (no_name name e)
      known Durations name e = absurd (no_name name e)

      by : (g : Given) → Leaf (IsTold told) (plain (sim a s)) g → MakesTrue told (Some (plain (sim a s))) g → IsMade g sunk sunk' d d' → Lines a s []
      by (written text) l m made = record {
        text = m.text;
        table = m.table;
        text_told = m.text_told;
        table_told = m.table_told;
        reading = record { algorithm = m.algorithm; rows = m.rows; reads = m.reads };
        appended = λ earlier q. made.0.told ∙ ap (appended text) q ∙ ap (λ (lines : Bytes). Some (earlier ++ lines)) m.lines;
      }
      by (printed text e) l m made = absurd l
      by (executed e) l m made = absurd l
      by (summed e text) l m made = absurd l

  run_lines : (a h s : Bytes) → IsDone (job (run a h s None)) → IsKnown told a → IsKnown told h → IsKnown told s → (front : Bytes) × Lines a s front
  run_lines a h s replies at to on =
      let g = given (job (run a h s None)) replies known in
      by g.0 (leaf (job (run a h s None)) g.0 g.1) (replies.true_runs g.0 g.1) (done_runs (Some (job (run a h s None))) held held' sunk sunk' d d' g.0 replies g.1)
    where
      known : (file : File) (name : Bytes) → names_for (job (run a h s None)) file ≡ Some name → IsKnown told name
      known Algorithm name e = known_as told a name at e
      known Architecture name e = known_as told h name to e
      known Sensors name e = known_as told s name on e
      known Code name e = absurd (no_name name e)
      known Durations name e = absurd (no_name name e)

      by : (g : Given) → Leaf (IsTold told) (job (run a h s None)) g → MakesTrue told (Some (job (run a h s None))) g → IsMade g sunk sunk' d d' → (front : Bytes) × Lines a s front
      by (printed text e) l m made = (
        text,
        record {
          text = m.0.text;
          table = m.0.table;
          text_told = m.0.is_told;
          table_told = m.0.table_told;
          reading = record { algorithm = m.0.runs.algorithm; rows = e.rows; reads = m.0.reads };
          appended = λ earlier q. made.output.told ∙ ap (appended (text ++ output_of e.main e.rows.reactions)) q
              ∙ ap (λ (lines : Bytes). Some (earlier ++ (text ++ lines))) m.0.runs.lines;
        },
      )
      by (written text) l m made = absurd l
      by (executed e) l m made = absurd l
      by (summed e text) l m made = absurd l

  exec_lines : (a h c s : Bytes) → IsDone (job (exec a h c s None)) → IsKnown told a → IsKnown told h → IsKnown told c → IsKnown told s → Lines a s []
  exec_lines a h c s replies at to by_code on =
      let g = given (job (exec a h c s None)) replies known in
      by g.0 (leaf (job (exec a h c s None)) g.0 g.1) (replies.true_runs g.0 g.1) (done_runs (Some (job (exec a h c s None))) held held' sunk sunk' d d' g.0 replies g.1)
    where
      known : (file : File) (name : Bytes) → names_for (job (exec a h c s None)) file ≡ Some name → IsKnown told name
      known Algorithm name e = known_as told a name at e
      known Architecture name e = known_as told h name to e
      known Sensors name e = known_as told s name on e
      known Code name e = known_as told c name by_code e
      known Durations name e = absurd (no_name name e)

      by : (g : Given) → Leaf (IsTold told) (job (exec a h c s None)) g → MakesTrue told (Some (job (exec a h c s None))) g → IsMade g sunk sunk' d d' → Lines a s []
      by (executed e) l m made = record {
        text = m.text;
        table = m.table;
        text_told = m.is_told;
        table_told = m.table_told;
        reading = record { algorithm = m.runs.algorithm; rows = e.rows; reads = m.reads };
        appended = λ earlier q. made.output.told ∙ ap (appended (output_of e.main e.rows.reactions)) q
            ∙ ap (λ (lines : Bytes). Some (earlier ++ lines)) m.runs.lines;
      }
      by (written text) l m made = absurd l
      by (printed text e) l m made = absurd l
      by (summed e text) l m made = absurd l

pub values_are_written : ValuesAreWritten
values_are_written words held held' sunk sunk' d d' replies =
    let of = λ (command : Command) (e : command_of words ≡ Some command).
    subst (λ (o : Option Command). Replies o held held' sunk sunk' d d' done) e replies in
    record {
      sim = λ a s asks at on. sim_lines held held' sunk sunk' d d' a s (of (plain (sim a s)) (asks_sim words a s asks)) at on;
      run = λ a h s asks at to on. run_lines held held' sunk sunk' d d' a h s (of (job (run a h s None)) (asks_run words a h s asks)) at to on;
      exec = λ a h c s asks at to by on. exec_lines held held' sunk sunk' d d' a h c s (of (job (exec a h c s None)) (asks_exec words a h c s asks)) at to by on;
    }
