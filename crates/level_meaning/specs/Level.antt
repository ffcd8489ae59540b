-- What one level does in a reaction, from what its nodes do.
use Rattle.std.specs.Prelude.{
  ℕ,
  zero,
  suc,
  ◌*◌,
  ◌-◌,
  ℤ,
  pos,
  List,
  [],
  ◌∷◌,
  ◌++◌,
  map,
  length,
  take,
  drop,
  Bool,
  true,
  false,
  ◌&&◌,
  ◌==◌,
  nat_lt,
  if◌then◌else◌,
  slice_index_or,
  Option,
  Some,
  None,
  slice_get,
}
use Rattle.std.specs.Str.{bytes_eq}
use Rattle.std.specs.Ordering.{int_eq}
use Rattle.level_meaning.specs.declared.source.Source.{Source}
use Rattle.level_meaning.specs.declared.source.Source.TheVariants.{Own, Of}
use Rattle.level_meaning.specs.declared.source.Guard.{Guard}
use Rattle.level_meaning.specs.declared.part.Part.{Part}
use Rattle.level_meaning.specs.declared.part.Part.TheVariants.{Named, Numbered, Port}
use Rattle.level_meaning.specs.declared.frontier.Feed.{Feed}
use Rattle.level_meaning.specs.declared.frontier.Feed.TheVariants.{Fork, Diffuse, Iterate}
use Rattle.level_meaning.specs.declared.frontier.Give.{Give}
use Rattle.level_meaning.specs.declared.frontier.Give.TheVariants.{Last, Join}
use Rattle.syn_base.specs.Vectors.{Vector, Values, vector_at, zeros}
use Rattle.syn_base.specs.Numbers.{numbers_below}

-- The parts of the units around a vertex and its own, outer first.
abbrev pub Path : Type 0
Path = List Part

-- The kept values of each delay, the next to be given first, by its path below the node that is spoken of.
abbrev pub State : Type 0
State = Path → List Vector

-- What a level keeps below one part.
abbrev pub below : Part → State → State
below p st = λ q. st (p ∷ q)

-- Two parts are the same.
abbrev pub same_part : Part → Part → Bool
same_part (Named x) (Named y) = bytes_eq x y
same_part (Named x) (Numbered n) = false
same_part (Named x) (Port y) = false
same_part (Numbered m) (Named y) = false
same_part (Numbered m) (Numbered n) = m == n
same_part (Numbered m) (Port y) = false
same_part (Port x) (Named y) = false
same_part (Port x) (Numbered n) = false
same_part (Port x) (Port y) = bytes_eq x y

-- The element of number j, 0 outside the vector.
abbrev pub element_at : Vector → ℕ → ℤ
element_at v j = slice_index_or v j (pos 0)

-- What a node does in a reaction, from this row of the sensors, the kept values below it and its inputs: its outputs,
-- and what is kept next. Beside these, what its delays keep at the start.
pub record Behaviour : Type 0 where
  pub outputs : Values → State → Values → Values
  pub next : Values → State → Values → State
  pub initial : State

-- A node of a level: its part, the sources of its inputs, those that its outputs ask for (a delay's ask for none),
-- its guards, the lengths of its outputs, and what it does.
pub record Node : Type 0 where
  pub part : Part
  pub ins : List Source
  pub asked : List Source
  pub guards : List Guard
  pub outs : List ℕ
  pub does : Behaviour

-- What is said of a node, where there is one.
abbrev pub with_node : {A : Type 0} → Option Node → A → (Node → A) → A
with_node None a f = a
with_node (Some c) a f = f c

-- The number of the first case with the value of v, or the number of cases.
abbrev pub selected : List ℤ → Vector → ℕ
selected [] v = 0
selected (x ∷ xs) v = if int_eq x (element_at v 0) then 0 else suc (selected xs v)

-- The value of a source, from the level's own inputs and what its nodes give.
abbrev pub source_value : Values → (ℕ → Values) → Source → Vector
source_value ins given (Own k) = vector_at ins k
source_value ins given (Of r p) = vector_at (given r) p

-- Each guard's source selects its case.
abbrev pub all_hold : (Source → Vector) → List Guard → Bool
all_hold look [] = true
all_hold look (g ∷ gs) = (selected g.values (look g.source) == g.case) && all_hold look gs

-- The outputs of a node, by what is kept below it: zeros where a guard does not hold.
abbrev pub node_outputs : Values → State → (Source → Vector) → Node → Values
node_outputs row st look c =
    if all_hold look c.guards then c.does.outputs row st (map look c.asked) else map zeros c.outs

-- What is kept next below a node: the same where a guard does not hold.
abbrev pub node_next : Values → State → (Source → Vector) → Node → State
node_next row st look c =
    if all_hold look c.guards then c.does.next row st (map look c.ins) else st

-- The outputs of node r of a level, with this much fuel.
abbrev pub out : List Node → Values → State → Values → ℕ → ℕ → Values
out cs row st ins zero r = with_node (slice_get cs r) [] (λ c. map zeros c.outs)
out cs row st ins (suc fuel) r =
    with_node (slice_get cs r) [] (λ c.
    node_outputs row (below c.part st) (source_value ins (out cs row st ins fuel)) c)

-- The value of a source of a level, with as much fuel as the level has nodes.
abbrev pub level_value : List Node → Values → State → Values → Source → Vector
level_value cs row st ins = source_value ins (out cs row st ins (length cs))

-- The first node with this part.
abbrev pub find_node : Part → List Node → Option Node
find_node p [] = None
find_node p (c ∷ cs) = if same_part c.part p then Some c else find_node p cs

-- A graph gives the values of the sources of its outputs.
abbrev pub graph_outputs : List Source → List Node → Values → State → Values → Values
graph_outputs outs cs row st ins = map (level_value cs row st ins) outs

-- A graph keeps what its nodes keep, each below its part.
abbrev pub graph_next : List Node → Values → State → Values → State
graph_next cs row st ins [] = st []
graph_next cs row st ins (p ∷ q) =
    with_node (find_node p cs) (st (p ∷ q)) (λ c. node_next row (below c.part st) (level_value cs row st ins) c q)

-- At the start a graph keeps what its nodes keep, each below its part.
abbrev pub graph_initial : List Node → State
graph_initial cs [] = []
graph_initial cs (p ∷ q) = with_node (find_node p cs) [] (λ c. c.does.initial q)

-- The inputs of a case are inputs of the switch.
abbrev pub case_look : Values → Source → Vector
case_look ins = source_value ins (λ _. [])

-- The case that the first input, the conditioning one, selects.
abbrev pub selected_case : List ℤ → List Node → Values → Option Node
selected_case values cs ins = slice_get cs (selected values (vector_at ins 0))

-- The outputs of the selected case.
abbrev pub case_outputs : List ℤ → List Node → Values → State → Values → Values
case_outputs values cs row st ins =
    with_node (selected_case values cs ins) [] (λ c. node_outputs row (below c.part st) (case_look ins) c)

-- A switch with m outputs gives those of the selected case alone.
abbrev pub switch_outputs : List ℤ → ℕ → List Node → Values → State → Values → Values
switch_outputs values m cs row st ins = map (vector_at (case_outputs values cs row st ins)) (numbers_below m)

-- In a switch only the selected case goes on.
abbrev pub switch_next : List ℤ → List Node → Values → State → Values → State
switch_next values cs row st ins [] = st []
switch_next values cs row st ins (p ∷ q) =
    with_node (selected_case values cs ins) (st (p ∷ q)) (λ c.
    if same_part c.part p then node_next row (below c.part st) (case_look ins) c q else st (p ∷ q))

-- An input of copy i of a repetition, from the outer inputs and the outputs of the copy before.
abbrev pub copy_input : Values → Values → ℕ → Feed → Vector
copy_input ins before i (Fork name k len) = take len (drop (i * len) (vector_at ins k))
copy_input ins before i (Diffuse k) = vector_at ins k
copy_input ins before i (Iterate k y) = if i == 0 then vector_at ins k else vector_at before y

-- The outputs of copy i of a body.
abbrev pub copy_outputs : List Feed → Behaviour → Values → State → Values → ℕ → Values
copy_outputs feeds body row st ins zero = body.outputs row (below (Numbered 0) st) (map (copy_input ins [] 0) feeds)
copy_outputs feeds body row st ins (suc i) =
    body.outputs row (below (Numbered (suc i)) st)
    (map (copy_input ins (copy_outputs feeds body row st ins i) (suc i)) feeds)

-- The outputs of the copy before copy i.
abbrev pub copy_before : List Feed → Behaviour → Values → State → Values → ℕ → Values
copy_before feeds body row st ins zero = []
copy_before feeds body row st ins (suc i) = copy_outputs feeds body row st ins i

-- Output y of the copies below n, one after another.
abbrev pub joined : (ℕ → Values) → ℕ → ℕ → Vector
joined copy y zero = []
joined copy y (suc i) = joined copy y i ++ vector_at (copy i) y

-- An output of a repetition, from the outputs of its copies.
abbrev pub give_value : (ℕ → Values) → ℕ → Give → Vector
give_value copy n (Last y) = vector_at (copy (n - 1)) y
give_value copy n (Join name y) = joined copy y n

-- What the one node of a level does.
abbrev pub body_of : List Node → Behaviour
body_of [] = record { outputs = λ _ _ _. []; next = λ _ st _. st; initial = λ _. [] }
body_of (c ∷ cs) = c.does

-- A repetition applies its body to the copies below n, in order.
abbrev pub repeat_outputs : ℕ → List Feed → List Give → Behaviour → Values → State → Values → Values
repeat_outputs n feeds gives body row st ins = map (give_value (copy_outputs feeds body row st ins) n) gives

-- Each copy keeps its own values.
abbrev pub repeat_next : ℕ → List Feed → Behaviour → Values → State → Values → State
repeat_next n feeds body row st ins [] = st []
repeat_next n feeds body row st ins (Named x ∷ q) = st (Named x ∷ q)
repeat_next n feeds body row st ins (Port x ∷ q) = st (Port x ∷ q)
repeat_next n feeds body row st ins (Numbered i ∷ q) =
    if nat_lt i n
    then body.next row (below (Numbered i) st) (map (copy_input ins (copy_before feeds body row st ins i) i) feeds) q
    else st (Numbered i ∷ q)

-- At the start each copy keeps what its body keeps.
abbrev pub repeat_initial : ℕ → Behaviour → State
repeat_initial n body [] = []
repeat_initial n body (Named x ∷ q) = []
repeat_initial n body (Port x ∷ q) = []
repeat_initial n body (Numbered i ∷ q) = if nat_lt i n then body.initial q else []

-- Several vectors, one after another.
abbrev pub all_joined : Values → Vector
all_joined [] = []
all_joined (v ∷ vs) = v ++ all_joined vs

-- The input of the case that the first input selects.
abbrev pub merged : List ℤ → Values → Vector
merged values ins = vector_at ins (suc (selected values (vector_at ins 0)))

-- A delay gives the first of its kept values.
abbrev pub delay_output : State → Vector
delay_output st = slice_index_or (st []) 0 []

-- It then drops that value, and keeps its input after the others.
abbrev pub delay_next : State → Values → State
delay_next st ins [] = drop 1 (st []) ++ vector_at ins 0 ∷ []
delay_next st ins (p ∷ q) = st (p ∷ q)

-- At the start a delay keeps its initial values.
abbrev pub delay_initial : List Vector → State
delay_initial vs [] = vs
delay_initial vs (p ∷ q) = []
