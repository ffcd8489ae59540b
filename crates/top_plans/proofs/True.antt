-- What is accepted runs true.
use Rattle.std.proofs.Common.{◌≡◌, ℕ, zero, suc, cond, List, [], ◌∷◌, ◌++◌, length, map, Option, Some, None, codes, refl, sym, ap, subst, ◌∙◌, add-one, zero-add}
use Rattle.compiler.specs.Executions.{Execution, one_job}
use Rattle.compiler.specs.Schedules.{schedule_of}
use Rattle.std.specs.Prelude.{nat_lt, slice_index_or, option_map}
use Rattle.std.specs.List.{range_with_len}
use Rattle.std.proofs.lemmas.List.{map-append}
use Rattle.std.proofs.lemmas.List.FromFn.{map-range_with_len_more}
use Rattle.multi_period.specs.Meaning.{act_row_at}
use Rattle.csv.specs.Reading.{default_config, records, strip_bom}
use Rattle.syn_base.specs.Bytes.{Bytes}
use Rattle.algo_rules.specs.Meaning.{act_row}
use Rattle.word_rule.specs.Core.{run, count}
use Rattle.word_rule.specs.Told.{done_in}
use Rattle.word_rule.specs.Values.{IsSupplied}
use Rattle.word_rule.proofs.Together.{have_laws}
use Rattle.word_rule.specs.Ended.{RunsEnd, RunsTakeRows}
use Rattle.word_rule.specs.Windows.{WindowsMakeTheRun}
use Rattle.self_timed.specs.Archi.{Architecture as Archi}
use Rattle.self_timed.specs.Sequences.{sequences}
use Rattle.self_timed.specs.Table.{entry_in}
use Rattle.self_timed.specs.Meaning.{initial_cells, flat_act_row}
use Rattle.self_timed.specs.Graph.{lens_of}
use Rattle.self_timed.specs.Built.{order_of}
use Rattle.self_timed.proofs.BuildingWhole.{built_are_well_formed}
use Rattle.self_timed.specs.declared.Program.{Program}
use Rattle.self_timed.specs.WellFormed.{IsWellFormed}
use Rattle.command_status.specs.CodeText.{macro_code}
use Rattle.command_status.specs.declared.CheckCause.{CheckCause}
use Rattle.accepted_laws.specs.ActText.{output_text}
use Rattle.accepted_laws.specs.FlatOf.{flat_of}
use Rattle.accepted_laws.specs.Flat.{HasFlat}
use Rattle.accepted_laws.proofs.Definitions.{accepted_have_flat}
use Rattle.archi_reader.proofs.Accepted.{described_are}
use Rattle.accepted_laws.proofs.Tables.{tables_fit}
use Rattle.accepted_laws.proofs.Told.{accepted_do_as_told}
use Rattle.check_laws.specs.Tests.{Cause, cause}
use Rattle.check_laws.proofs.Whole.{no_cause_is_well_formed}
use Rattle.command_words.specs.Command.{Command, plain, job, check, algorithm_text, schedule_text, dates, sim, run as runs, exec, load}
use Rattle.command_words.specs.declared.table.ScheduleText.{ScheduleText}
use Rattle.command_words.specs.declared.table.ScheduleText.TheVariants as shown
use Rattle.top_plans.specs.Given.{Given, written, printed, executed, summed}
use Rattle.top_plans.specs.Plans.{head, sum_of, summary_with}
use Rattle.top_plans.specs.Checks.{told}
use Rattle.top_plans.specs.Meaning.{RunsTrue, RunsAsTold, IsAlgorithmOf, IsTableOf, PrintsCode, SimulatesTrue, ScheduleTrue, MakesTrue, AcceptedRunTrue}
use Rattle.top_plans.proofs.Schedules.{schedules_are_valid}
use Rattle.top_plans.specs.Texts.{IsCode}
use Rattle.top_plans.proofs.Texts.{is_code, checks_algorithm, checks_both, tells_true, charts_true, codes_true, dates_true}
use Rattle.top_plans.proofs.Walk.{Comes, built, checked, IsAccepted, IsBuilt, IsSimulated, LeafOn, Leaf}
use Rattle.top_plans.proofs.Commands.{IsTold, told_gives}
use Rattle.syn_base.specs.Vectors.{Values, vector_at, zeros}
use Rattle.syn_base.specs.Numbers.{numbers_below}

same_numbers : {A : Type 0} (f : ℕ → A) (n : ℕ) → map f (range_with_len 0 n) ≡ map f (numbers_below n)
same_numbers f zero = refl
same_numbers f (suc n) = ap (λ m. map f (range_with_len 0 m)) (sym (add-one n)) ∙ map-range_with_len_more f 0 n n (zero-add n)
    ∙ ap (λ xs. xs ++ f n ∷ []) (same_numbers f n) ∙ sym (map-append f (numbers_below n) (n ∷ []))

same_map : {A B : Type 0} (f g : A → B) → ((x : A) → f x ≡ g x) → (xs : List A) → map f xs ≡ map g xs
same_map f g h [] = refl
same_map f g h (x ∷ xs) = λ i. h x i ∷ same_map f g h xs i

-- where no cause is told there is none
no_cause : (o : Option Cause) → option_map told o ≡ None → o ≡ None
no_cause None e = refl
no_cause (Some c) e = absurd (is_none (told c) e)
  where
    is_none : (k : CheckCause) → Some k ≡ None → ⊥
    is_none k q = cc

module _ (e : Execution) (a : IsAccepted e) where
  has : HasFlat e.main
  has = accepted_have_flat a.text a.defs e.main a.says a.resolves

  abbrev IsFormed : Archi → Program → Type 0
  IsFormed b p = IsWellFormed p (flat_of e.main) (sequences b) (length b.media)

  formed_by : Comes a.described e → IsFormed a.described.archi e.program
  formed_by (built t lasts made) =
      let d = a.described in
      let g = flat_of e.main in
      let archi = described_are a.lines d a.describes in
      let s = schedule_of g d.archi t in
      subst (IsFormed d.archi) (sym made) (
        order_of g d.archi s,
        built_are_well_formed g d.archi (entry_in t) s has.valid archi.0 archi.1 (schedules_are_valid g a.lines d t has.valid a.describes lasts),
      )
  formed_by (checked whole) =
      let d = a.described in
      let g = flat_of e.main in
      let archi = described_are a.lines d a.describes in
      (no_cause_is_well_formed e.program g d.archi archi.0).0 (no_cause (cause e.program g.vertices (sequences d.archi) (length d.archi.operators) (length d.archi.media)) whole)

  formed : IsFormed e.architecture e.program
  formed = subst (λ b. IsFormed b e.program) (sym a.stands) (formed_by a.comes)

  supplied : IsSupplied (one_job e)
  supplied = let rows = tables_fit e.main (records default_config (strip_bom a.table)) e.rows a.tells in record {
    seqs = sequences e.architecture;
    order = formed.0;
    formed = formed.1;
    valid = has.valid;
    opened = refl;
    sensed = λ k l. rows.1 k l ∙ rows.0 ∙ sym has.lengths.sensors;
  }

-- by the laws of runs and of windows
module _ (runs_end : RunsEnd) (runs_take_rows : RunsTakeRows) (windows_make : WindowsMakeTheRun) where
  runs_true : (e : Execution) (a : IsAccepted e) → RunsTrue a.text e
  runs_true e a =
      let s = supplied e a in
      let given = has e a in
      let told = accepted_do_as_told a.text a.defs e.main a.says a.resolves in
      let marks = told.0.marks in
      let main = told.0.main in
      let rows = e.rows.reactions in
      let flat_row = flat_act_row (flat_of e.main) rows (initial_cells (flat_of e.main).vertices) in
      let takes = λ (k : ℕ). given.taken rows k ∙ told.1.takes rows k in
      let acts = same_map (act_row e.main rows) (act_row_at marks main rows) (told.1.takes rows) (numbers_below (length rows)) in
      record {
        algorithm = told.0;
        made = told.1;
        limit = a.limit;
        laws = have_laws (one_job e) s;
        rows = λ list v n k x is q l. runs_take_rows (one_job e) s list v n k x is q l
            ∙ ap (λ (w : Values). cond (nat_lt k (done_in (one_job e) (count (run (one_job e) list)) v)) (vector_at w n)
            (zeros (slice_index_or (lens_of (flat_of e.main).vertices x.ins) 0 0))) (takes k);
        ended = λ list d. (runs_end (one_job e) s list d).rows ∙ same_numbers flat_row (length rows)
            ∙ same_map flat_row (act_row_at marks main rows) takes (numbers_below (length rows));
        acts = acts;
        lines = λ i. output_text (told.1.names i) (acts i);
        windows = λ from count l. windows_make (one_job e) s from count l;
      }

  -- what a run prints first is the code of what it executes
  prints_code : (e : Execution) (a : IsAccepted e) → IsBuilt a.described e → (front : Bytes) → front ≡ head e → PrintsCode front e
  prints_code e a by front is =
      let d = a.described in
      let g = flat_of e.main in
      let coded = is_code a.lines g d by.table (has e a).valid a.describes by.lasts by.within in
      record {
        code = macro_code e.program g d.archi;
        described = d;
        stands = a.stands;
        is = subst (λ (p : Program). IsCode g d p (macro_code p g d.archi)) (sym by.made) coded;
        front = is ∙ ap (λ (b : Archi). macro_code e.program g b ++ codes "\n") a.stands;
      }

  -- a simulation of texts that are told
  simulates : (told : Bytes → Option Bytes) (a s output : Bytes) → IsSimulated (IsTold told) a s output → SimulatesTrue told a s output
  simulates told a s output is =
      let by = accepted_do_as_told is.text is.defs is.main is.says is.resolves in
      let rows = is.rows.reactions in
      record {
        text = is.text;
        table = is.table;
        rows = is.rows;
        algorithm = by.0;
        text_told = is.text_told;
        table_told = is.table_told;
        reads = sym (by.1.tables (records default_config (strip_bom is.table))) ∙ is.tells;
        lines = is.lines ∙ (λ i. output_text (by.1.names i)
            (same_map (act_row is.main rows) (act_row_at by.0.marks by.0.main rows) (by.1.takes rows) (numbers_below (length rows)) i));
      }

  runs_as : (told : Bytes → Option Bytes) (command : Command) (e : Execution) (a : IsAccepted e) → IsAlgorithmOf told command a.text → IsTableOf told command a.table → RunsAsTold told command e
  unfolding runs_true
  runs_as told command e a is listed =
      let by = accepted_do_as_told a.text a.defs e.main a.says a.resolves in
      record {
        text = a.text;
        is_told = is;
        runs = runs_true e a;
        table = a.table;
        table_told = listed;
        reads = sym (by.1.tables (records default_config (strip_bom a.table))) ∙ a.tells;
      }

  true_schedule : (told : Bytes → Option Bytes) (what : ScheduleText) (a h t : Bytes) → LeafOn (IsTold told) what a h t → ScheduleTrue told what a h t
  true_schedule told shown.Chart a h t l = charts_true told a h t l
  true_schedule told shown.Code a h t l = codes_true told a h t l.0 l.1

  true_leaf : (told : Bytes → Option Bytes) (command : Command) (g : Given) → Leaf (IsTold told) command g → MakesTrue told (Some command) g
  true_leaf told (plain (check a None)) (written t) l = checks_algorithm told a t l
  true_leaf told (plain (check a (Some h))) (written t) l = checks_both told a h t l
  true_leaf told (plain (algorithm_text what a)) (written t) l = tells_true told what a t l
  true_leaf told (plain (schedule_text what a h)) (written t) l = true_schedule told what a h t l
  true_leaf told (plain (dates a h r n)) (written t) l = dates_true told a h r n t l
  true_leaf told (plain (sim a s)) (written t) l = simulates told a s t l
  true_leaf told (plain command) (printed t e) l = absurd l
  true_leaf told (plain command) (executed e) l = absurd l
  true_leaf told (plain command) (summed e t) l = absurd l
  true_leaf told (job (runs a h s w)) (printed t e) l =
      (runs_as told (job (runs a h s w)) e l.is l.text_told l.table_told, prints_code e l.is l.by t l.first)
  true_leaf told (job (load n)) (summed e t) l =
      let ran = runs_as told (job (load n)) e l.0 l.1 l.2 in (ran, l.3 ∙ ap (λ acts. summary_with e (sum_of acts)) ran.runs.acts)
  true_leaf told (job (exec a h c s w)) (executed e) l = runs_as told (job (exec a h c s w)) e l.0 l.1 l.2
  true_leaf told (job (runs a h s w)) (written t) l = absurd l
  true_leaf told (job (load n)) (written t) l = absurd l
  true_leaf told (job (exec a h c s w)) (written t) l = absurd l
  true_leaf told (job (runs a h s w)) (executed e) l = absurd l
  true_leaf told (job (runs a h s w)) (summed e t) l = absurd l
  true_leaf told (job (load n)) (printed t e) l = absurd l
  true_leaf told (job (load n)) (executed e) l = absurd l
  true_leaf told (job (exec a h c s w)) (printed t e) l = absurd l
  true_leaf told (job (exec a h c s w)) (summed e t) l = absurd l

  pub accepted_true : AcceptedRunTrue
  accepted_true command told g e = told_gives (MakesTrue told (Some command)) told command (true_leaf told command) g e
