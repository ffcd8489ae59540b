-- The made tree does what the text says: marks stand on references that are no sensor and no actuator.
use Rattle.std.proofs.Common.{◌≡◌, ℕ, suc, List, [], ◌∷◌, ◌++◌, Option, Some, None, Result, Ok, Err, refl, sym, ap, ap₂, subst, ◌∙◌}
use Rattle.std.specs.Prelude.{codes, if◌then◌else◌}
use Rattle.std.specs.Cmp.Lexicographic.{pointwise}
use Rattle.std.specs.Str.{bytes_eq}
use Rattle.multi_period.specs.declared.mark.Mark.{Mark}
use Rattle.multi_period.specs.Marks.{mark_at, IsMarkable, MayHave, AreMarked}
use Rattle.multi_period.specs.Meaning.{act_row_at}
use Rattle.multi_period.specs.Periods.{period_by, all_periods, periods}
use Rattle.multi_period.proofs.Main.{unmarked-stays, unmarked}
use Rattle.act_text.specs.Names.{actuator_name, actuator_names_in, actuator_names}
use Rattle.sensor_table.specs.Columns.{columns_of, columns_in, header_of}
use Rattle.sensor_table.specs.declared.fault.SensorCause.TheVariants.{BadHeader}
use Rattle.sensor_table.specs.SensorTable.{reactions_of, refused, rows_of}
use Rattle.elaboration.specs.Laws.{IsElaborated}
use Rattle.elaboration.specs.Pruned.{pruned}
use Rattle.elaboration.proofs.PrunedMarks.{marked-pruned}
use Rattle.elaboration.proofs.Resolved.{resolved_tree}
use Rattle.elaboration.proofs.Whole.{accepted_elaborated}
use Rattle.algo_laws.specs.Parts.{name_of}
use Rattle.algo_laws.specs.Tree.{
  Label,
  Kind,
  sensor,
  actuator,
  constant,
  delay,
  function,
  explode,
  implode,
  merge,
  graph,
  switch,
  repeat,
  Vertex,
  vertex,
  Vertices,
  no_vertices,
  and_vertex,
}
use Rattle.algo_laws.specs.Ends.{first_length, sensor_length, sensor_lengths, sensor_lengths_in}
use Rattle.algo_laws.specs.Meaning.{vertices_in, act_row}
use Rattle.algo_laws.proofs.Lines.{accepted_well}
use Rattle.accepted_laws.specs.Told.{Algorithm, DoesAsTold, AcceptedDoAsTold}
use Rattle.accepted_laws.proofs.PrunedEnds.{names-pruned, tables-pruned}
use Rattle.syn_base.specs.Vectors.{Values}

-- what may be marked is no sensor and no actuator
no_actuator : (kind : Kind) (name : List ℕ) → IsMarkable kind → [] ≡ actuator_name kind name
no_actuator (function es) name h = refl
no_actuator (graph outs) name h = refl
no_actuator (switch values names) name h = refl
no_actuator (repeat n feeds gives) name h = refl
no_actuator (sensor n) name h = absurd h
no_actuator (actuator n) name h = absurd h
no_actuator (constant vs) name h = absurd h
no_actuator (delay vs) name h = absurd h
no_actuator explode name h = absurd h
no_actuator implode name h = absurd h
no_actuator (merge vs) name h = absurd h

no_sensor : (kind : Kind) (outs : List ℕ) → IsMarkable kind → [] ≡ sensor_length kind outs
no_sensor (function es) outs h = refl
no_sensor (graph os) outs h = refl
no_sensor (switch values names) outs h = refl
no_sensor (repeat n feeds gives) outs h = refl
no_sensor (sensor n) outs h = absurd h
no_sensor (actuator n) outs h = absurd h
no_sensor (constant vs) outs h = absurd h
no_sensor (delay vs) outs h = absurd h
no_sensor explode outs h = absurd h
no_sensor implode outs h = absurd h
no_sensor (merge vs) outs h = absurd h

no_columns : (kind : Kind) (name : List ℕ) (len : ℕ) → IsMarkable kind → [] ≡ columns_of kind name len
no_columns (function es) name len h = refl
no_columns (graph outs) name len h = refl
no_columns (switch values names) name len h = refl
no_columns (repeat n feeds gives) name len h = refl
no_columns (sensor n) name len h = absurd h
no_columns (actuator n) name len h = absurd h
no_columns (constant vs) name len h = absurd h
no_columns (delay vs) name len h = absurd h
no_columns explode name len h = absurd h
no_columns implode name len h = absurd h
no_columns (merge vs) name len h = absurd h

name_one : (o : Option Mark) (l : Label) (vs us us' : Vertices) → MayHave o l
    → actuator_names_in us' ≡ actuator_names_in us
    → actuator_names_in (and_vertex (period_by o (vertex l vs)) us') ≡ actuator_names_in (and_vertex (vertex l vs) us)
name_one None l vs us us' h e = ap (λ ns. actuator_name l.kind (name_of l.part) ++ ns) e
name_one (Some m) l vs us us' h e =
    e ∙ ap (λ ns. ns ++ actuator_names_in us) (no_actuator l.kind (name_of l.part) h.kind)

names_stay : (mark : ℕ → Option Mark) (us : Vertices) → AreMarked mark us
    → actuator_names_in (all_periods mark us) ≡ actuator_names_in us
names_stay mark no_vertices h = refl
names_stay mark (and_vertex (vertex l vs) us) h =
    name_one (mark 0) l vs us (all_periods (λ r. mark (suc r)) us) h.0 (names_stay (λ r. mark (suc r)) us h.1)

length_one : (o : Option Mark) (l : Label) (vs us us' : Vertices) → MayHave o l
    → sensor_lengths_in us' ≡ sensor_lengths_in us
    → sensor_lengths_in (and_vertex (period_by o (vertex l vs)) us') ≡ sensor_lengths_in (and_vertex (vertex l vs) us)
length_one None l vs us us' h e = ap (λ ns. sensor_length l.kind l.outs ++ ns) e
length_one (Some m) l vs us us' h e =
    e ∙ ap (λ ns. ns ++ sensor_lengths_in us) (no_sensor l.kind l.outs h.kind)

lengths_stay : (mark : ℕ → Option Mark) (us : Vertices) → AreMarked mark us
    → sensor_lengths_in (all_periods mark us) ≡ sensor_lengths_in us
lengths_stay mark no_vertices h = refl
lengths_stay mark (and_vertex (vertex l vs) us) h =
    length_one (mark 0) l vs us (all_periods (λ r. mark (suc r)) us) h.0 (lengths_stay (λ r. mark (suc r)) us h.1)

columns_one : (o : Option Mark) (l : Label) (vs us us' : Vertices) → MayHave o l → columns_in us' ≡ columns_in us
    → columns_in (and_vertex (period_by o (vertex l vs)) us') ≡ columns_in (and_vertex (vertex l vs) us)
columns_one None l vs us us' h e = ap (λ ns. columns_of l.kind (name_of l.part) (first_length l.outs) ++ ns) e
columns_one (Some m) l vs us us' h e =
    e ∙ ap (λ ns. ns ++ columns_in us) (no_columns l.kind (name_of l.part) (first_length l.outs) h.kind)

columns_stay : (mark : ℕ → Option Mark) (us : Vertices) → AreMarked mark us
    → columns_in (all_periods mark us) ≡ columns_in us
columns_stay mark no_vertices h = refl
columns_stay mark (and_vertex (vertex l vs) us) h =
    columns_one (mark 0) l vs us (all_periods (λ r. mark (suc r)) us) h.0 (columns_stay (λ r. mark (suc r)) us h.1)

module _ (marks : List Mark) where
  same_names : (main : Vertex) → AreMarked (mark_at marks) (vertices_in main)
      → actuator_names (periods marks main) ≡ actuator_names main
  same_names (vertex l us) h = names_stay (mark_at marks) us h

  same_lengths : (main : Vertex) → AreMarked (mark_at marks) (vertices_in main)
      → sensor_lengths (periods marks main) ≡ sensor_lengths main
  same_lengths (vertex l us) h = lengths_stay (mark_at marks) us h

  same_header : (main : Vertex) → AreMarked (mark_at marks) (vertices_in main)
      → header_of (periods marks main) ≡ header_of main
  same_header (vertex l us) h = ap (λ cs. codes "k" ∷ cs) (columns_stay (mark_at marks) us h)

  same_tables : (main : Vertex) → AreMarked (mark_at marks) (vertices_in main)
      → (records : List (List (List ℕ))) → rows_of (periods marks main) records ≡ rows_of main records
  same_tables main h [] = refl
  same_tables main h (header ∷ records) =
      ap₂ (λ names lens. if pointwise bytes_eq header names then reactions_of lens records else Err (refused 0 BadHeader))
      (same_header main h) (same_lengths main h)

pub accepted_do_as_told : AcceptedDoAsTold
accepted_do_as_told text defs made says e =
    let is = accepted_elaborated text defs made says e in
    let tree = resolved_tree defs.defs is.resolved (accepted_well text defs says) is.resolves in
    let cut = pruned is.resolved in
    let stand = marked-pruned is.marks is.resolved is.may.stand in (
      record {
        defs = defs;
        main = is.resolved;
        marks = is.marks;
        says = says;
        resolves = is.resolves;
        marked = is.marked;
      },
      record {
        tables = λ records. ap (λ u. rows_of u records) is.made_is ∙ same_tables is.marks cut stand records ∙ tables-pruned is.resolved records;
        names = ap actuator_names is.made_is ∙ same_names is.marks cut stand ∙ names-pruned is.resolved;
        takes = is.meaning;
        unmarked = λ none. is.made_is ∙ ap (λ ms. periods ms cut) none ∙ unmarked-stays cut;
        plain = λ none rows k. ap (λ ms. act_row_at ms is.resolved rows k) none ∙ unmarked is.resolved tree rows k;
      },
    )
