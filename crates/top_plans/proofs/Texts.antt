-- What commands write by one call is right for what their files say.
use Rattle.std.proofs.Common.{◌≡◌, ◌∙◌, ℕ, true, length, Option, None, Some, Ok, refl, sym, subst}
use Rattle.compiler.specs.Schedules.{program_by, schedule_of}
use Rattle.std.specs.Prelude.{replicate}
use Rattle.syn_base.specs.Bytes.{Bytes}
use Rattle.algo_print.specs.Canonical.{canonical_text}
use Rattle.algo_print.proofs.Back.{reads_back}
use Rattle.algo_rules.specs.declared.Defs.{Defs}
use Rattle.algo_rules.specs.Text.{definitions_of}
use Rattle.algo_rules.specs.Tree.{Vertex}
use Rattle.archi_reader.specs.Canonical as architecture
use Rattle.archi_reader.proofs.Accepted.{described_are}
use Rattle.archi_reader.proofs.ReadBack.{canonical_back}
use Rattle.command_words.specs.declared.table.AlgorithmText.{AlgorithmText}
use Rattle.sequence_build.specs.Limit.{program_limit}
use Rattle.code_laws.proofs.Described.{described_read_back}
use Rattle.self_timed.specs.Text.{Described, description_of}
use Rattle.self_timed.specs.Table.{Table, durations_of, entry_in}
use Rattle.self_timed.specs.Graph.{Graph}
use Rattle.self_timed.specs.FlatValid.{is_flat}
use Rattle.self_timed.specs.declared.Schedule.{Schedule}
use Rattle.self_timed.specs.Built.{order_of}
use Rattle.self_timed.proofs.BuildingWhole.{built_are_well_formed}
use Rattle.self_timed.proofs.Dated.{at_least}
use Rattle.self_timed.proofs.Whole.{entries_end_in_time}
use Rattle.dates_text.proofs.Accepted.{actual_are_within}
use Rattle.command_status.specs.CodeText.{macro_code}
use Rattle.accepted_laws.specs.Elaborated.{elaboration_of}
use Rattle.accepted_laws.specs.FlatOf.{flat_of}
use Rattle.accepted_laws.proofs.Definitions.{accepted_have_flat}
use Rattle.accepted_laws.proofs.Told.{accepted_do_as_told}
use Rattle.top_plans.specs.Plans.{both_texts, chart_of}
use Rattle.top_plans.specs.GraphText.{graph_text}
use Rattle.top_plans.specs.Texts.{SaysAgain, DescribesAgain, DoesTheSame, IsScheduled, IsCode, ChecksAlgorithm, ChecksBoth, TellsTrue, Schedules, ChartsTrue, CodesTrue, DatesTrue}
use Rattle.top_plans.proofs.Schedules.{schedules_are_valid, schedules_are_tight}
use Rattle.top_plans.proofs.Walk.{IsWithin, Writes, WritesOn, WritesDates, code_by, dates_by}

says_again : (text : Bytes) (defs : Defs) → definitions_of text ≡ Ok defs → SaysAgain text (canonical_text defs)
says_again text defs says = record { defs = defs; says = says; back = (reads_back text defs says).says }

describes_again : (lines : Bytes) (d : Described) → description_of lines ≡ Ok d → DescribesAgain lines (architecture.canonical_text d)
describes_again lines d describes = record { described = d; describes = describes; back = canonical_back lines d describes }

does_the_same : (text : Bytes) (defs : Defs) (main : Vertex) → definitions_of text ≡ Ok defs → elaboration_of defs ≡ Ok main → DoesTheSame text (flat_of main)
does_the_same text defs main says resolves =
    let by = accepted_do_as_told text defs main says resolves in
    let has = accepted_have_flat text defs main says resolves in
    record { algorithm = by.0; valid = has.valid; takes = λ rows k. has.taken rows k ∙ by.1.takes rows k }

scheduled : (text lines : Bytes) (g : Graph) (d : Described) (t : Table) → DoesTheSame text g → description_of lines ≡ Ok d
    → durations_of g d ≡ Ok t → IsScheduled text lines g d (schedule_of g d.archi t)
scheduled text lines g d t same describes lasts = record {
  same = same;
  describes = describes;
  table = t;
  lasts = lasts;
  valid = schedules_are_valid g lines d t same.valid describes lasts;
  tight = schedules_are_tight g lines d t same.valid describes lasts;
}

-- the program of a schedule that was found, within its limits
pub is_code : (lines : Bytes) (g : Graph) (d : Described) (t : Table) → is_flat g ≡ true → description_of lines ≡ Ok d → durations_of g d ≡ Ok t
    → program_limit (program_by g d.archi t) (length d.archi.media) ≡ None → IsCode g d (program_by g d.archi t) (macro_code (program_by g d.archi t) g d.archi)
is_code lines g d t valid describes lasts within =
    let archi = described_are lines d describes in
    let s = schedule_of g d.archi t in
    let right = schedules_are_valid g lines d t valid describes lasts in
    record {
      formed = (order_of g d.archi s, built_are_well_formed g d.archi (entry_in t) s valid archi.0 archi.1 right);
      printed = refl;
      back = described_read_back lines d g (entry_in t) s describes valid right within;
    }

module _ (told : Bytes → Option Bytes) where
  abbrev Told : Bytes → Bytes → Type 0
  Told name text = told name ≡ Some text

  pub checks_algorithm : (a output : Bytes) → Writes Told a (λ defs main. canonical_text defs) output → ChecksAlgorithm told a output
  checks_algorithm a output x = record {
    text = x.read.text;
    text_told = x.read.text_told;
    again = subst (SaysAgain x.read.text) (sym x.is) (says_again x.read.text x.defs x.read.says);
  }

  pub checks_both : (a h output : Bytes) → WritesOn Told a h (λ defs main d t. both_texts defs d) output → ChecksBoth told a h output
  checks_both a h output x = record {
    text = x.read.text;
    lines = x.placed.lines;
    text_told = x.read.text_told;
    lines_told = x.placed.lines_told;
    first = canonical_text x.defs;
    second = architecture.canonical_text x.described;
    parts = x.is;
    algorithm = says_again x.read.text x.defs x.read.says;
    architecture = describes_again x.placed.lines x.described x.placed.describes;
  }

  pub tells_true : (what : AlgorithmText) (a output : Bytes) → Writes Told a (λ defs main. graph_text what (flat_of main)) output → TellsTrue told what a output
  tells_true what a output x = record {
    text = x.read.text;
    text_told = x.read.text_told;
    graph = flat_of x.main;
    same = does_the_same x.read.text x.defs x.main x.read.says x.read.resolves;
    tells = x.is;
  }

  module _ (a h : Bytes) (makes : Defs → Vertex → Described → Table → Bytes) (output : Bytes) (x : WritesOn Told a h makes output) where
    abbrev graph : Graph
    graph = flat_of x.main

    abbrev schedule : Schedule
    schedule = schedule_of graph x.described.archi x.table

    schedules : Schedules told a h graph x.described schedule
    schedules = record {
      text = x.read.text;
      lines = x.placed.lines;
      text_told = x.read.text_told;
      lines_told = x.placed.lines_told;
      scheduled = scheduled x.read.text x.placed.lines graph x.described x.table
          (does_the_same x.read.text x.defs x.main x.read.says x.read.resolves) x.placed.describes x.placed.lasts;
    }

  pub charts_true : (a h output : Bytes) → WritesOn Told a h (λ defs main d t. chart_of (flat_of main) d t) output → ChartsTrue told a h output
  charts_true a h output x = let makes = λ (defs : Defs) (main : Vertex) (d : Described) (t : Table). chart_of (flat_of main) d t in record {
    graph = flat_of x.main;
    described = x.described;
    schedule = schedule a h makes output x;
    schedules = schedules a h makes output x;
    drawn = x.is;
  }

  pub codes_true : (a h output : Bytes) → (x : WritesOn Told a h code_by output) → IsWithin x.main x.described x.table → CodesTrue told a h output
  codes_true a h output x within =
      let g = flat_of x.main in
      let d = x.described in
      let p = program_by g d.archi x.table in
      let all = schedules a h code_by output x in
      record {
        graph = g;
        described = d;
        schedule = schedule a h code_by output x;
        schedules = all;
        program = p;
        code = subst (IsCode g d p) (sym x.is) (is_code x.placed.lines g d x.table all.scheduled.same.valid x.placed.describes x.placed.lasts within);
      }

  pub dates_true : (a h g : Bytes) (n : ℕ) (output : Bytes) → WritesDates Told a h g n output → DatesTrue told a h g n output
  unfolding schedules scheduled
  dates_true a h g n output w =
      let x = w.on in
      let makes = dates_by w.ticks n in
      let graph = flat_of x.main in
      let archi = x.described.archi in
      let s = schedule a h makes output x in
      let all = schedules a h makes output x in
      let valid = schedules_are_valid graph x.placed.lines x.described x.table all.scheduled.same.valid x.placed.describes x.placed.lasts in
      let depth = at_least archi (described_are x.placed.lines x.described x.placed.describes).1 in
      let within = (actual_are_within graph archi x.table s w.real w.ticks n valid w.lasts).1 in
      let ends = entries_end_in_time archi.depth graph archi (entry_in x.table) s (replicate n w.ticks) depth valid in
      record {
        graph = graph;
        described = x.described;
        schedule = s;
        schedules = all;
        real = w.real;
        real_told = w.real_told;
        ticks = w.ticks;
        lasts = w.lasts;
        listed = x.is;
        in_time = ends.0 within;
        first = λ stated. ends.1 stated all.scheduled.tight;
      }
