-- Where the sources of an algorithm lead: each to an output of an operation. A source is followed over the tree, and
-- no pass of flattening is known here:
--   an output of a graph leads to where the source of that output leads inside it;
--   an own input of a graph, of a case or of a copy leads to where that input leads outside;
--   an output of a switch is the merge of that output;
--   an output of a repetition is the implode of its join line, or leads to where that output of the last copy leads;
--   a delay is the get half of its first stage;
--   any other unit is itself.
use Rattle.std.specs.Prelude.{
  ◌≡◌,
  ℕ,
  zero,
  suc,
  ◌-◌,
  ◌≤◌,
  ◌==◌,
  List,
  [],
  ◌∷◌,
  ◌++◌,
  length,
  map,
  Option,
  Some,
  None,
  slice_get,
  slice_index_or,
  if◌then◌else◌,
}
use Rattle.algo_tree.specs.declared.Source.{Source}
use Rattle.algo_tree.specs.declared.Source.TheVariants.{Own, Of}
use Rattle.algo_tree.specs.declared.Part.{Part}
use Rattle.algo_tree.specs.declared.Part.TheVariants.{Numbered, Port}
use Rattle.algo_tree.specs.declared.Feed.{Feed}
use Rattle.algo_tree.specs.declared.Feed.TheVariants.{Fork, Diffuse, Iterate}
use Rattle.algo_tree.specs.declared.Give.{Give}
use Rattle.algo_tree.specs.declared.Give.TheVariants.{Last, Join}
use Rattle.algo_tree.specs.Level.{Path}
use Rattle.algo_tree.specs.Order.{IsAcyclic}
use Rattle.algo_tree.specs.Tree.{
  Kind,
  delay,
  explode,
  implode,
  merge,
  graph,
  switch,
  repeat,
  Vertex,
  vertex,
  Vertices,
  no_vertices,
  and_vertex,
}
use Rattle.algo_tree.specs.Meaning.{asked_by, nodes}
use Rattle.algo_tree.specs.Typed.{label_of}
use Rattle.algo_tree.specs.Texts.{path_text}
use Rattle.flat_laws.specs.Flat.{Task, runs, gets}
use Rattle.flat_laws.specs.Names.{half_text}

-- An output of an operation: the name of the operation, and the number of the output.
pub record Origin : Type 0 where
  pub name : List ℕ
  pub output : ℕ

-- A source that is not there. In a tree with names no operation has an empty one.
abbrev pub nowhere : Origin
nowhere = record { name = []; output = 0 }

-- The origin of this number, or nowhere past the end.
abbrev pub origin_at : List Origin → ℕ → Origin
origin_at os k = slice_index_or os k nowhere

-- The path of a unit inside one of this path.
abbrev pub inside : Path → Part → Path
inside path part = path ++ part ∷ []

-- The unit that flattening makes for a port.
abbrev pub port : Path → List ℕ → Path
port path name = inside path (Port name)

-- An operation is named by its path, and the halves of a stage of a delay beside that by `:get` and `:set`, with the
-- number of the stage after it if that is not 0.
abbrev pub operation_name : Path → Task → ℕ → List ℕ
operation_name path task stage = path_text path ++ half_text task stage

-- An output of the operation of this path and kind.
abbrev pub output_of : Path → Kind → ℕ → Origin
output_of path kind output = record { name = operation_name path (runs kind) 0; output = output }

-- The get half of a stage of the delay of this path.
abbrev pub stage_origin : Path → ℕ → ℕ → Origin
stage_origin path stage output = record { name = operation_name path (gets []) stage; output = output }

-- A unit as the level around it sees it: the sources that its outputs ask for, and where an output leads, from where
-- these lead.
pub record Outlet : Type 0 where
  pub asked : List Source
  pub leads : List Origin → ℕ → Origin

-- What f gives for the unit, or the value a if there is none.
abbrev pub with_outlet : {A : Type 0} → Option Outlet → A → (Outlet → A) → A
with_outlet None a f = a
with_outlet (Some u) a f = f u

-- Where a source of a level leads, from where its own inputs and the outputs of its units lead.
abbrev pub origin_by : List Origin → (ℕ → ℕ → Origin) → Source → Origin
origin_by own given (Own k) = origin_at own k
origin_by own given (Of r p) = given r p

-- Where output p of unit r of a level leads, with this much fuel.
abbrev pub output_origin : List Outlet → List Origin → ℕ → ℕ → ℕ → Origin
output_origin units own zero r p = nowhere
output_origin units own (suc fuel) r p =
    with_outlet (slice_get units r) nowhere (λ u.
    u.leads (map (origin_by own (output_origin units own fuel)) u.asked) p)

-- Where a source of a level leads, with as much fuel as the level has units.
abbrev pub origin_in : List Outlet → List Origin → Source → Origin
origin_in units own = origin_by own (output_origin units own (length units))

-- Where a source of a case leads: the inputs of a case are inputs of its switch.
abbrev pub case_origin : List Origin → Source → Origin
case_origin own = origin_by own (λ r p. nowhere)

-- Where this output of a case leads, from where the inputs of its switch lead.
abbrev pub case_output : List Origin → ℕ → Outlet → Origin
case_output own output u = u.leads (map (case_origin own) u.asked) output

-- Where the inputs of copy i of a body lead, from where those of its repetition and the outputs of the copy before
-- lead. The explode of a fork line has an output for each copy.
abbrev pub copy_input : Path → List Origin → (ℕ → Origin) → ℕ → Feed → Origin
copy_input path own before i (Fork name input len) = output_of (port path name) explode i
copy_input path own before i (Diffuse input) = origin_at own input
copy_input path own before i (Iterate input output) = if i == 0 then origin_at own input else before output

-- Where the inputs of the copy of a number lead. `body` says where an output of a copy leads, from where its inputs do.
abbrev pub copy_inputs : Path → List Feed → (ℕ → List Origin → ℕ → Origin) → List Origin → ℕ → List Origin
copy_inputs path feeds body own zero = map (copy_input path own (λ output. nowhere) 0) feeds
copy_inputs path feeds body own (suc i) =
    map (copy_input path own (body i (copy_inputs path feeds body own i)) (suc i)) feeds

-- Where an output of the copy of a number leads.
abbrev pub copy_output : Path → List Feed → (ℕ → List Origin → ℕ → Origin) → List Origin → ℕ → ℕ → Origin
copy_output path feeds body own i = body i (copy_inputs path feeds body own i)

-- Where an output of a repetition leads, from where those of its copies lead.
abbrev pub give_origin : Path → (ℕ → ℕ → Origin) → ℕ → Give → Origin
give_origin path copy count (Last output) = copy (count - 1) output
give_origin path copy count (Join name output) = output_of (port path name) implode 0

-- Where an output of a unit of this path and kind leads, from the units inside it and from what each copy gives.
abbrev pub leads_by : Path → Kind → List Outlet → (ℕ → List Origin → ℕ → Origin) → List Origin → ℕ → Origin
leads_by path (graph sources) units body own p = origin_at (map (origin_in units own) sources) p
leads_by path (switch values names) units body own p =
    origin_at (map (λ name. output_of (port path name) (merge values) 0) names) p
leads_by path (repeat count feeds gives) units body own p =
    origin_at (map (give_origin path (copy_output path feeds body own) count) gives) p
leads_by path (delay groups) units body own p = stage_origin path 0 p
leads_by path kind units body own p = output_of path kind p

abbrev mutual
  -- A unit of this path.
  pub outlet : Path → Vertex → Outlet
  outlet path (vertex l us) = record {
    asked = asked_by l.kind l.ins;
    leads = leads_by path l.kind (outlets path us) (λ i. body_leads (inside path (Numbered i)) us);
  }

  -- The units of a level right inside one of this path.
  pub outlets : Path → Vertices → List Outlet
  outlets path no_vertices = []
  outlets path (and_vertex u us) = outlet (inside path (label_of u).part) u ∷ outlets path us

  -- The one body of a repetition, as a copy of this path.
  pub body_leads : Path → Vertices → List Origin → ℕ → Origin
  body_leads path no_vertices own p = nowhere
  body_leads path (and_vertex u us) own p = (outlet path u).leads own p

-- From the number of the units of a level on, more fuel changes nothing. In a tree the level of a graph has no cycle.
abbrev pub FuelIsEnough : Type 0
FuelIsEnough =
    (path : Path) (us : Vertices) (own : List Origin) (r p more : ℕ) → IsAcyclic (nodes us) →
    length (outlets path us) ≤ more →
    output_origin (outlets path us) own more r p ≡
    output_origin (outlets path us) own (length (outlets path us)) r p
