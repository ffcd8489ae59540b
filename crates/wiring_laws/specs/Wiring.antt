-- A unit that stands for no operation is wiring: each of its outputs gives one of its inputs. Which one follows from
-- its definition alone.
use Rattle.std.specs.Prelude.{
  ℕ,
  zero,
  suc,
  ◌-◌,
  ◌==◌,
  List,
  [],
  ◌∷◌,
  length,
  map,
  if◌then◌else◌,
  slice_index_or,
  slice_get,
  Option,
  Some,
  None,
}
use Rattle.algo_tree.specs.declared.Source.{Source}
use Rattle.algo_tree.specs.declared.Source.TheVariants.{Own, Of}
use Rattle.algo_tree.specs.declared.Feed.{Feed}
use Rattle.algo_tree.specs.declared.Feed.TheVariants.{Fork, Diffuse, Iterate}
use Rattle.algo_tree.specs.declared.Give.{Give}
use Rattle.algo_tree.specs.declared.Give.TheVariants.{Last, Join}
use Rattle.algo_tree.specs.Tree.{Kind, graph, repeat, Vertex, vertex, Vertices, no_vertices, and_vertex}

-- What stands at the input to which an output leads, or d if it leads nowhere.
abbrev pub pick : {A : Type 0} → A → List A → Option ℕ → A
pick d xs None = d
pick d xs (Some k) = slice_index_or xs k d

-- A vertex as wiring: the sources of its inputs, and for each output the input that it gives.
pub record Wire : Type 0 where
  pub ins : List Source
  pub leads : List (Option ℕ)

-- What f says of the vertex, or a if there is none.
abbrev pub with_wire : {A : Type 0} → Option Wire → A → (Wire → A) → A
with_wire None a f = a
with_wire (Some w) a f = f w

-- The input of the level to which a source leads, from those to which the outputs of its vertices lead.
abbrev pub lead_source : (ℕ → ℕ → Option ℕ) → Source → Option ℕ
lead_source given (Own k) = Some k
lead_source given (Of r p) = given r p

-- The input of the level to which output p of vertex r leads, over so many vertices at most.
abbrev pub lead_out : List Wire → ℕ → ℕ → ℕ → Option ℕ
lead_out ws zero r p = None
lead_out ws (suc fuel) r p =
    with_wire (slice_get ws r) None (λ w.
    pick None (map (lead_source (lead_out ws fuel)) w.ins) (slice_index_or w.leads p None))

-- The input of the level to which a source leads: no way through it is longer than it has vertices.
abbrev pub lead : List Wire → Source → Option ℕ
lead ws = lead_source (lead_out ws (length ws))

-- The input of a repetition to which an input of copy i of its body leads, from those to which the outputs of the copy
-- before lead.
abbrev pub feed_lead : (ℕ → Option ℕ) → ℕ → Feed → Option ℕ
feed_lead before i (Fork name k len) = None
feed_lead before i (Diffuse k) = Some k
feed_lead before i (Iterate k y) = if i == 0 then Some k else before y

-- The input of a repetition to which output y of copy i leads, if the body leads so.
abbrev pub copy_lead : List Feed → List (Option ℕ) → ℕ → ℕ → Option ℕ
copy_lead feeds leads zero y = pick None (map (feed_lead (λ _. None) 0) feeds) (slice_index_or leads y None)
copy_lead feeds leads (suc i) y =
    pick None (map (feed_lead (copy_lead feeds leads i) (suc i)) feeds) (slice_index_or leads y None)

-- The input to which an output of a repetition of n copies leads.
abbrev pub give_lead : ℕ → List Feed → List (Option ℕ) → Give → Option ℕ
give_lead n feeds leads (Last y) = copy_lead feeds leads (n - 1) y
give_lead n feeds leads (Join name y) = None

-- Where the outputs of the one vertex of a level lead.
abbrev pub body_leads : List Wire → List (Option ℕ)
body_leads [] = []
body_leads (w ∷ ws) = w.leads

-- For each output of a vertex of this kind the input to which it leads. A switch that is no operation has no output.
abbrev pub leads_by : Kind → List Wire → List (Option ℕ)
leads_by (graph outs) ws = map (lead ws) outs
leads_by (repeat n feeds gives) ws = map (give_lead n feeds (body_leads ws)) gives
leads_by _ ws = []

abbrev mutual
  -- A vertex as wiring, from the wiring of what is inside it.
  pub wire : Vertex → Wire
  wire (vertex l us) = record { ins = l.ins; leads = leads_by l.kind (wires us) }

  -- The vertices of a level as wiring.
  pub wires : Vertices → List Wire
  wires no_vertices = []
  wires (and_vertex u us) = wire u ∷ wires us

-- For each output of a vertex the input to which it leads.
abbrev pub wiring : Vertex → List (Option ℕ)
wiring u = (wire u).leads
