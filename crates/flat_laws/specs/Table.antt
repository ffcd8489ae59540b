-- The operations of an algorithm, unit by unit over its tree. A unit is a vertex, a case or a copy, with a path: the
-- path of the unit around it, and its own part. Operations stand in this order:
--   a graph: those of its vertices in order;
--   a switch: those of its cases in order, and then a merge for each output;
--   a repetition: an explode for each fork line, those of the copies in order, and an implode for each join line;
--   a delay: for each stage its get half and then its set half;
--   any other unit: one.
-- An operation has a condition for each case around it, outer first. Where its inputs and conditions come from is said
-- by name, so the table says the whole flat graph but for its numbering.
use Rattle.std.specs.Prelude.{ℕ, suc, ℤ, List, [], ◌∷◌, ◌++◌, map, replicate, slice_index_or}
use Rattle.std.specs.List.{flat_map}
use Rattle.algo_tree.specs.declared.Guard.{Guard}
use Rattle.algo_tree.specs.declared.Source.{Source}
use Rattle.algo_tree.specs.declared.Part.TheVariants.{Numbered}
use Rattle.algo_tree.specs.declared.Feed.{Feed}
use Rattle.algo_tree.specs.declared.Feed.TheVariants.{Fork, Diffuse, Iterate}
use Rattle.algo_tree.specs.declared.Give.{Give}
use Rattle.algo_tree.specs.declared.Give.TheVariants.{Last, Join}
use Rattle.algo_tree.specs.Level.{Path}
use Rattle.algo_tree.specs.Tree.{
  Kind,
  delay,
  explode,
  implode,
  merge,
  graph,
  switch,
  repeat,
  Label,
  Vertex,
  vertex,
  Vertices,
  no_vertices,
  and_vertex,
}
use Rattle.algo_tree.specs.Typed.{label_of}
use Rattle.flat_laws.specs.Flat.{Task, runs, gets, sets}
use Rattle.flat_laws.specs.Lines.{in_line_order}
use Rattle.flat_laws.specs.Origins.{
  Origin,
  origin_at,
  Outlet,
  inside,
  port,
  operation_name,
  stage_origin,
  origin_in,
  case_origin,
  case_output,
  copy_inputs,
  copy_output,
  outlets,
  body_leads,
}
use Rattle.syn_base.specs.Vectors.{Vector}
use Rattle.syn_base.specs.Numbers.{numbers_below}

-- That a switch with these values of cases selects this one, or the one after the last, by the value of this source.
pub record Condition : Type 0 where
  pub source : Origin
  pub values : List ℤ
  pub case : ℕ

-- An operation: its name, the definition of its unit, where its inputs come from, its conditions, the lengths of its
-- outputs, and what it does.
pub record Row : Type 0 where
  pub name : List ℕ
  pub definition : List ℕ
  pub ins : List Origin
  pub conditions : List Condition
  pub outs : List ℕ
  pub task : Task

-- An operation of a stage of a delay. Any other is of stage 0.
abbrev pub stage_row : Path → ℕ → List ℕ → List Origin → List Condition → List ℕ → Task → Row
stage_row path stage definition ins conditions outs task = record {
  name = operation_name path task stage;
  definition = definition;
  ins = ins;
  conditions = conditions;
  outs = outs;
  task = task;
}

-- The row of an operation that is no half of a delay.
abbrev pub row : Path → List ℕ → List Origin → List Condition → List ℕ → Task → Row
row path definition ins conditions outs task = stage_row path 0 definition ins conditions outs task

-- What the set half of a stage takes, where these groups of initial values are those of the stages after it: the value
-- of the next stage, or the delay's input if it is the last.
abbrev pub stage_ins : Path → ℕ → List Origin → List Vector → List Origin
stage_ins path stage own [] = own
stage_ins path stage own (v ∷ vs) = stage_origin path (suc stage) 0 ∷ []

-- The stages of a delay from this stage on, one for each group of initial values.
abbrev pub delay_rows : Path → List Condition → List ℕ → List Origin → List ℕ → ℕ → List Vector → List Row
delay_rows path conditions definition own outs stage [] = []
delay_rows path conditions definition own outs stage (v ∷ vs) =
    stage_row path stage definition [] conditions outs (gets v) ∷
    stage_row path stage definition (stage_ins path stage own vs) conditions [] sets ∷
    delay_rows path conditions definition own outs (suc stage) vs

-- An explode for each fork line among these, in order: it takes the outer input that the line
-- names, and has for each copy an output of the length of the inner input.
abbrev pub explode_rows : Path → List Condition → List ℕ → List Origin → ℕ → List Feed → List Row
explode_rows path conditions definition own count [] = []
explode_rows path conditions definition own count (Fork name input len ∷ fs) =
    row (port path name) definition (origin_at own input ∷ []) conditions (replicate count len) (runs explode) ∷
    explode_rows path conditions definition own count fs
explode_rows path conditions definition own count (Diffuse input ∷ fs) =
    explode_rows path conditions definition own count fs
explode_rows path conditions definition own count (Iterate input output ∷ fs) =
    explode_rows path conditions definition own count fs

-- An implode takes an output of each copy. The first of these lines is that of the output of this number.
abbrev pub implode_rows : Path → List Condition → List ℕ → (ℕ → List Origin) → List ℕ → ℕ → List Give → List Row
implode_rows path conditions definition copies outs number [] = []
implode_rows path conditions definition copies outs number (Join name output ∷ gs) =
    row (port path name) definition (copies output) conditions (slice_index_or outs number 0 ∷ []) (runs implode) ∷
    implode_rows path conditions definition copies outs (suc number) gs
implode_rows path conditions definition copies outs number (Last output ∷ gs) =
    implode_rows path conditions definition copies outs (suc number) gs

-- A merge takes what the switch is conditioned by, and then an output of each case. The first of these names is that
-- of this output.
abbrev pub merge_rows : Path → List Condition → List ℕ → (ℕ → List Origin) → List ℤ → List ℕ → ℕ → List (List ℕ) →
    List Row
merge_rows path conditions definition ins values outs output [] = []
merge_rows path conditions definition ins values outs output (name ∷ names) =
    row (port path name) definition (ins output) conditions (slice_index_or outs output 0 ∷ [])
    (runs (merge values)) ∷
    merge_rows path conditions definition ins values outs (suc output) names

-- What is inside a unit: the units of a level as the level sees them, what each copy of a body gives, and the
-- operations of the units of a level, of cases with these values, and of the copy of a number, from where their inputs
-- lead.
pub record Inside : Type 0 where
  pub units : List Outlet
  pub body : ℕ → List Origin → ℕ → Origin
  pub level : (Source → Origin) → List Row
  pub cases : List Origin → List ℤ → List Row
  pub copy : ℕ → List Origin → List Row

-- A unit of this path, under these conditions, of this definition, whose inputs lead here, with these lengths of
-- outputs and of this kind.
abbrev pub rows_by : Path → List Condition → List ℕ → List Origin → List ℕ → Kind → Inside → List Row
rows_by path conditions definition own outs (graph sources) i = i.level (origin_in i.units own)
rows_by path conditions definition own outs (switch values names) i =
    i.cases own values ++
    merge_rows path conditions definition (λ output. origin_at own 0 ∷ map (case_output own output) i.units) values outs
    0 names
rows_by path conditions definition own outs (repeat count feeds gives) i =
    explode_rows path conditions definition own count (in_line_order feeds) ++
    (flat_map (λ n. i.copy n (copy_inputs path feeds i.body own n)) (numbers_below count) ++
    implode_rows path conditions definition
    (λ output. map (λ n. copy_output path feeds i.body own n output) (numbers_below count)) outs 0 gives)
rows_by path conditions definition own outs (delay vs) i = delay_rows path conditions definition own outs 0 vs
rows_by path conditions definition own outs kind i = row path definition own conditions outs (runs kind) ∷ []

-- A guard as a condition, if the sources of its level lead as `lead` says.
abbrev pub condition_of : (Source → Origin) → Guard → Condition
condition_of lead g = record { source = lead g.source; values = g.values; case = g.case }

-- Between the passes of flattening an operation has guards of its own; a tree of a text has none.
abbrev pub conditions_of : (Source → Origin) → Label → List Condition
conditions_of lead l = map (condition_of lead) l.guards

abbrev mutual
  -- A unit of this path, under these conditions, whose inputs lead here.
  pub unit_rows : Path → List Condition → List Origin → Vertex → List Row
  unit_rows path conditions own (vertex l us) =
      rows_by path conditions l.definition own l.outs l.kind (record {
        units = outlets path us;
        body = λ n. body_leads (inside path (Numbered n)) us;
        level = λ lead. graph_rows path conditions lead us;
        cases = λ ins values. case_rows path conditions ins values 0 us;
        copy = λ n ins. copy_rows (inside path (Numbered n)) conditions ins us;
      })

  -- The units of a graph of this path, in which a source leads here.
  pub graph_rows : Path → List Condition → (Source → Origin) → Vertices → List Row
  graph_rows path conditions lead no_vertices = []
  graph_rows path conditions lead (and_vertex u us) =
      unit_rows (inside path (label_of u).part) (conditions ++ conditions_of lead (label_of u))
      (map lead (label_of u).ins) u ++
      graph_rows path conditions lead us

  -- The cases, from this case on, of a switch of this path whose inputs lead here. The first one conditions it.
  pub case_rows : Path → List Condition → List Origin → List ℤ → ℕ → Vertices → List Row
  case_rows path conditions own values case no_vertices = []
  case_rows path conditions own values case (and_vertex u us) =
      unit_rows (inside path (label_of u).part)
      ((conditions ++ record { source = origin_at own 0; values = values; case = case } ∷ []) ++
      conditions_of (case_origin own) (label_of u))
      (map (case_origin own) (label_of u).ins) u ++
      case_rows path conditions own values (suc case) us

  -- The one body of a repetition, as a copy of this path whose inputs lead here.
  pub copy_rows : Path → List Condition → List Origin → Vertices → List Row
  copy_rows path conditions own no_vertices = []
  copy_rows path conditions own (and_vertex u us) = unit_rows path conditions own u

-- The operations of an algorithm in order; the number of one is its place.
abbrev pub table : Vertex → List Row
table (vertex l us) = graph_rows [] [] (origin_in (outlets [] us) []) us
