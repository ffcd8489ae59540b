-- The tree of the definitions of a text, or their first refusal.
use Rattle.std.specs.Prelude.{
  ℕ,
  zero,
  suc,
  ◌+◌,
  ◌*◌,
  ◌/◌,
  ℤ,
  Bool,
  true,
  false,
  ◌==◌,
  nat_lt,
  List,
  [],
  ◌∷◌,
  ◌++◌,
  length,
  map,
  take,
  drop,
  Option,
  Some,
  None,
  Result,
  Ok,
  Err,
  if◌then◌else◌,
  codes,
}
use Rattle.std.specs.List.{flat_map, sum_by, range_with_len}
use Rattle.std.specs.Str.{bytes_eq}
use Rattle.syn_base.specs.declared.limits.LimitKind.TheVariants.{Operations}
use Rattle.syn_base.specs.Limits.{bound_of, most_depth}
use Rattle.algo_tree.specs.declared.Source.{Source}
use Rattle.algo_tree.specs.declared.Source.TheVariants.{Own, Of}
use Rattle.algo_tree.specs.declared.Part.{Part}
use Rattle.algo_tree.specs.declared.Part.TheVariants.{Named, Numbered}
use Rattle.algo_tree.specs.declared.Feed.{Feed}
use Rattle.algo_tree.specs.declared.Feed.TheVariants as feed
use Rattle.algo_tree.specs.declared.Give.{Give}
use Rattle.algo_tree.specs.declared.Give.TheVariants as give
use Rattle.algo_tree.specs.Tree as tree
use Rattle.algo_tree.specs.View.{vertices_of}
use Rattle.algo_text.specs.declared.Port.{Port}
use Rattle.algo_text.specs.declared.definition.Def.{Def}
use Rattle.algo_text.specs.declared.definition.Body.{Body}
use Rattle.algo_text.specs.declared.definition.Body.TheVariants.{
  Sensor,
  Actuator,
  Constant,
  Delay,
  Function,
  Graph,
  Switch,
  Repeat,
}
use Rattle.algo_text.specs.declared.definition.Reference.{Reference}
use Rattle.algo_text.specs.declared.definition.Edge.{Edge}
use Rattle.algo_text.specs.declared.definition.End.{End}
use Rattle.algo_text.specs.declared.definition.Frontier.{Frontier}
use Rattle.algo_text.specs.declared.definition.Frontier.TheVariants.{Fork, Diffuse, Iterate, Join}
use Rattle.algo_text.specs.declared.definition.FrontierLine.{FrontierLine}
use Rattle.algo_text.specs.declared.fault.AlgoCause.TheVariants.{NoMain}
use Rattle.syn_base.specs.Bytes.{Bytes}
use Rattle.text_lines.specs.Refusals.{Limit}
use Rattle.algo_text.specs.Refusals.{AlgoRefusal}
use Rattle.algo_rules.specs.Links.{fault, first_of, definition, links_of, unknown, misplaced, recursive, too_deep}
use Rattle.reference_graph.specs.Links.{depths}
use Rattle.algo_rules.specs.Ports.{ports_of, number_of, len_of, lens_of}
use Rattle.algo_rules.specs.Frontiers.{repeat_fault, switch_fault}
use Rattle.algo_rules.specs.Graphs.{graph_fault, same_end, place, ports_at}
use Rattle.algo_rules.specs.declared.ports.Ports.{Ports}

-- The checks of a definition by itself, where those below it have passed theirs.
abbrev pub body_fault : List Def → ℕ → Body → Option AlgoRefusal
body_fault ds line (Repeat copies def lines) = repeat_fault copies (ports_of ds def) line lines
body_fault ds line (Switch on ins outs cases otherwise last) =
    switch_fault (ports_of ds) ins outs cases otherwise last
body_fault ds line (Graph ins outs references edges) =
    graph_fault ds (ports_of ds) line (record { ins = ins; outs = outs }) references edges
body_fault ds line _ = None

-- The faults of the definitions that have this depth, in order.
abbrev pub faults_at : List Def → ℕ → List Def → List ℕ → List (Option AlgoRefusal)
faults_at ds depth [] ns = []
faults_at ds depth (d ∷ rest) [] = []
faults_at ds depth (d ∷ rest) (n ∷ ns) =
    if n == depth then body_fault ds d.line d.body ∷ faults_at ds depth rest ns else faults_at ds depth rest ns

-- The first fault that a definition has by itself, in the order of their depths and, at one depth,
-- of the text; none if no definition has one.
abbrev pub bodies_fault : List Def → Option AlgoRefusal
bodies_fault ds =
    first_of (flat_map (λ depth. faults_at ds depth ds (depths (links_of ds))) (range_with_len 1 most_depth))

-- A body with these inputs and outputs has no ports.
abbrev pub is_portless : List Port → List Port → Bool
is_portless [] [] = true
is_portless [] (p ∷ ps) = false
is_portless (p ∷ ps) qs = false

-- The body is that of a graph without ports.
abbrev pub is_main_graph : Body → Bool
is_main_graph (Graph ins outs references edges) = is_portless ins outs
is_main_graph _ = false

-- The refusal for want of a main graph, unless there is a definition and it is a
-- graph without ports.
abbrev pub no_main_by : Option Def → Option AlgoRefusal
no_main_by None = fault 0 NoMain
no_main_by (Some d) = if is_main_graph d.body then None else fault 0 NoMain

-- The refusal of definitions among which no graph without ports is called `main`. It is at line 0.
abbrev pub no_main : List Def → Option AlgoRefusal
no_main ds = no_main_by (definition ds (codes "main"))

-- How many vertices a frontier line adds to the copies: 1 for `fork` (an explode) and for `join`
-- (an implode), and 0 for the others.
abbrev pub vertices_of_line : FrontierLine → ℕ
vertices_of_line l = forks l.frontier
  where
    forks : Frontier → ℕ
    forks (Fork p x) = 1
    forks (Diffuse p x) = 0
    forks (Iterate p x y q) = 0
    forks (Join y q) = 1

-- How many flat operations a definition stands for, from those that it names: a delay for two for each reaction that it
-- looks back, a switch for a merge of each output besides, a repetition for an explode of each fork line and an implode
-- of each join line besides.
abbrev pub count_by : (Bytes → ℕ) → Body → ℕ
count_by of (Delay depth values) = 2 * depth
count_by of (Graph ins outs references edges) = sum_by (λ r. of r.def) references
count_by of (Switch on ins outs cases otherwise last) =
    (sum_by (λ c. of c.def) cases + of otherwise) + length outs
count_by of (Repeat copies def lines) = copies * of def + sum_by vertices_of_line lines
count_by of _ = 1

-- The number of flat operations of a definition, from those of the definitions that it names; 0 if
-- there is no definition.
abbrev pub count_in : (Bytes → ℕ) → Option Def → ℕ
count_in of None = 0
count_in of (Some d) = count_by of d.body

-- The number of flat operations of the definition of this name, if all that is more than n
-- definitions deep counts as none.
abbrev pub count_within : List Def → ℕ → Bytes → ℕ
count_within ds zero w = 0
count_within ds (suc n) w = count_in (count_within ds n) (definition ds w)

-- The number of flat operations of the main graph, with all that it refers to.
abbrev pub operations : List Def → ℕ
operations ds = count_within ds most_depth (codes "main")

-- The refusal by the limit on operations, if the main graph has more than 2,048.
abbrev pub too_many : List Def → Option AlgoRefusal
too_many ds =
    if nat_lt 2048 (operations ds)
    then Some (Limit (record { which = Operations; count = operations ds; bound = bound_of Operations })) else None

-- The first refusal of the definitions of a text, in the order of the checks.
abbrev pub refusal : List Def → Option AlgoRefusal
refusal ds = first_of
    (unknown ds ∷ misplaced ds ∷ recursive ds ∷ too_deep ds ∷ bodies_fault ds ∷ no_main ds ∷ too_many ds ∷ [])

-- The source of a value in a graph: an own input, or an output of a reference.
module _ (of : Bytes → Ports) (ins : List Port) (references : List Reference) where
  -- The port with this owner and name as a source, by numbers: an input of the graph, or an output
  -- of the reference.
  abbrev pub source_from : Option Bytes → Bytes → Source
  source_from None p = Own (number_of ins p)
  source_from (Some r) p = Of (place references r) (number_of (ports_at of references r).outs p)

  -- Where the edge into an end comes from.
  abbrev pub source_to : List Edge → End → Source
  source_to [] e = Own 0
  source_to (f ∷ fs) e = if same_end f.to e then source_from f.from.owner f.from.port else source_to fs e

  -- The source of each of these ports of one owner, in order: the inputs of a reference, or the
  -- outputs of the graph.
  abbrev pub sources_to : List Edge → Option Bytes → List Port → List Source
  sources_to edges owner ps = map (λ p. source_to edges (record { owner = owner; port = p.name })) ps

-- As sources, n own inputs in order, of which the first has the number `first`.
abbrev pub owns : ℕ → ℕ → List Source
owns first n = map Own (range_with_len first n)

-- What the frontier lines of a repetition say, given the ports of its body and its own: how each
-- inner input is fed, and what each outer output is given.
module _ (inner outer : Ports) where
  -- How this frontier line feeds the inner input w; none if it does not.
  abbrev pub feed_by : Bytes → Frontier → Option Feed
  feed_by w (Fork p x) =
      if bytes_eq w x then Some (feed.Fork p (number_of outer.ins p) (len_of inner.ins x)) else None
  feed_by w (Diffuse p x) = if bytes_eq w x then Some (feed.Diffuse (number_of outer.ins p)) else None
  feed_by w (Iterate p x y q) =
      if bytes_eq w x then Some (feed.Iterate (number_of outer.ins p) (number_of inner.outs y)) else None
  feed_by w (Join y q) = None

  -- The first feed, if there is one, and else the second.
  abbrev pub first_feed : Option Feed → Feed → Feed
  first_feed (Some f) g = f
  first_feed None g = g

  -- How the first of these lines that feeds the inner input w does so. If none does, every copy
  -- gets the outer input 0; a repetition that is accepted feeds all of them.
  abbrev pub feed_of : List FrontierLine → Bytes → Feed
  feed_of [] w = feed.Diffuse 0
  feed_of (l ∷ ls) w = first_feed (feed_by w l.frontier) (feed_of ls w)

  -- A list that holds what a frontier line gives to the outer output that it names; `fork` and
  -- `diffuse` name none.
  abbrev pub give_by : Frontier → List Give
  give_by (Fork p x) = []
  give_by (Diffuse p x) = []
  give_by (Iterate p x y q) = give.Last (number_of inner.outs y) ∷ []
  give_by (Join y q) = give.Join q (number_of inner.outs y) ∷ []

-- How a definition becomes a vertex: with this part, these sources, and as the sensor or actuator of these numbers.
abbrev pub Making : Type 0
Making = Part → Bytes → List Source → ℕ → ℕ → tree.Vertex

-- A vertex with these outputs.
abbrev pub vertex : Part → Bytes → List Source → List Port → tree.Kind → List tree.Vertex → tree.Vertex
vertex part def ins outs kind inner =
    tree.vertex (record {
      part = part;
      definition = def;
      ins = ins;
      guards = [];
      outs = lens_of outs;
      names = map (λ p. p.name) outs;
      kind = kind;
    }) (vertices_of inner)

-- Values cut into this many groups of this length.
abbrev pub groups : ℕ → ℕ → List ℤ → List (List ℤ)
groups zero len values = []
groups (suc n) len values = take len values ∷ groups n len (drop len values)

-- 1 if there is a definition and it is that of a sensor, else 0. The sum over the references before
-- one is the number of the next sensor.
abbrev pub sensor_count : Option Def → ℕ
sensor_count None = 0
sensor_count (Some d) = senses d.body
  where
    senses : Body → ℕ
    senses (Sensor n) = 1
    senses _ = 0

-- 1 if there is a definition and it is that of an actuator, else 0. The sum over the references
-- before one is the number of the next actuator.
abbrev pub actuator_count : Option Def → ℕ
actuator_count None = 0
actuator_count (Some d) = acts d.body
  where
    acts : Body → ℕ
    acts (Actuator n) = 1
    acts _ = 0

module _ (ds : List Def) (make : Making) where
  -- The ports of the definition of this name.
  abbrev pub of : Bytes → Ports
  of w = ports_of ds w

  -- The references of a graph in order, after this many sensors and actuators.
  abbrev pub references_from : List Port → List Reference → List Edge → ℕ → ℕ → List Reference → List tree.Vertex
  references_from ins all edges sensors actuators [] = []
  references_from ins all edges sensors actuators (r ∷ rs) =
      make (Named r.name) r.def (sources_to of ins all edges (Some r.name) (of r.def).ins) sensors actuators
      ∷ references_from ins all edges
      (sensors + sensor_count (definition ds r.def)) (actuators + actuator_count (definition ds r.def)) rs

  -- Cases take the inputs of their switch after the conditioning one.
  abbrev pub cases_from : ℕ → ℕ → List Bytes → List tree.Vertex
  cases_from ins c [] = []
  cases_from ins c (w ∷ ws) = make (Numbered c) w (owns 1 ins) 0 0 ∷ cases_from ins (suc c) ws

  -- The kind of the vertex that a body with these ports becomes. A sensor or an actuator has the
  -- number that is given for it.
  abbrev pub kind_by : Ports → ℕ → ℕ → Body → tree.Kind
  kind_by own sensors actuators (Sensor n) = tree.sensor sensors
  kind_by own sensors actuators (Actuator n) = tree.actuator actuators
  kind_by own sensors actuators (Constant values) = tree.constant values
  kind_by own sensors actuators (Delay depth values) = tree.delay (groups depth (length values / depth) values)
  kind_by own sensors actuators (Function ins outs) = tree.function (map (λ o. o.formula) outs)
  kind_by own sensors actuators (Graph ins outs references edges) =
      tree.graph (sources_to of ins references edges None outs)
  kind_by own sensors actuators (Switch on ins outs cases otherwise last) =
      tree.switch (map (λ c. c.value) cases) (map (λ p. p.name) outs)
  kind_by own sensors actuators (Repeat copies def lines) =
      tree.repeat copies (map (λ p. feed_of (of def) own lines p.name) (of def).ins)
      (flat_map (λ l. give_by (of def) own l.frontier) lines)

  -- The vertices inside the vertex that a body becomes: the references of a graph, the cases of a
  -- switch with `otherwise` as the last, the one body of a repetition. The others have none.
  abbrev pub inner_by : Body → List tree.Vertex
  inner_by (Graph ins outs references edges) = references_from ins references edges 0 0 references
  inner_by (Switch on ins outs cases otherwise last) =
      cases_from (length ins) 0 (map (λ c. c.def) cases ++ otherwise ∷ [])
  inner_by (Repeat copies def lines) = make (Numbered 0) def (owns 0 (length (of def).ins)) 0 0 ∷ []
  inner_by _ = []

  -- The vertex that the definition of this name becomes, from what becomes of those that it names;
  -- an empty graph without outputs if there is no definition.
  abbrev pub vertex_by : Part → Bytes → List Source → ℕ → ℕ → Option Def → tree.Vertex
  vertex_by part w ins sensors actuators None = vertex part w ins [] (tree.graph []) []
  vertex_by part w ins sensors actuators (Some d) =
      vertex part w ins (of w).outs (kind_by (of w) sensors actuators d.body) (inner_by d.body)

-- The vertex that the definition of a name becomes, if all that is more than n definitions deep
-- becomes an empty graph without outputs.
abbrev pub vertex_within : List Def → ℕ → Making
vertex_within ds zero part w ins sensors actuators = vertex part w ins [] (tree.graph []) []
vertex_within ds (suc n) part w ins sensors actuators =
    vertex_by ds (vertex_within ds n) part w ins sensors actuators (definition ds w)

-- The tree of the main graph, with all that it refers to inside.
abbrev pub tree_of : List Def → tree.Vertex
tree_of ds = vertex_within ds most_depth (Named (codes "main")) (codes "main") [] 0 0

-- The tree of the definitions, or this refusal of them, if there is one.
abbrev pub resolved_by : List Def → Option AlgoRefusal → Result tree.Vertex AlgoRefusal
resolved_by ds None = Ok (tree_of ds)
resolved_by ds (Some e) = Err e

-- What the definitions of a text resolve to.
abbrev pub resolution_of : List Def → Result tree.Vertex AlgoRefusal
resolution_of ds = resolved_by ds (refusal ds)
