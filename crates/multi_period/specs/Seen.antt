-- What is said of a declared vertex, and what stands inside it.
use Rattle.std.specs.Prelude.{◌≡◌, ℕ, suc, ◌+◌, ◌<◌, ◌^◌, List, [], ◌∷◌, ◌++◌, length}
use Rattle.algo_tree.specs.declared.Source.{Source}
use Rattle.algo_tree.specs.declared.Source.TheVariants.{Of}
use Rattle.algo_tree.specs.declared.Part.{Part}
use Rattle.algo_tree.specs.Tree as plain
use Rattle.algo_tree.specs.Tree.{Label, Kind, Vertices, no_vertices, and_vertex}
use Rattle.algo_tree.specs.View.{label_view, vertices_view}
use Rattle.algo_tree.specs.declared.vertex.Vertex.{Vertex, out-Vertex}
use Rattle.multi_period.specs.declared.copies.Kept.{Kept}
use Rattle.multi_period.specs.declared.ports.Ports.{Ports}
use Rattle.multi_period.specs.Periods.{inputs_from, firsts, when_runs, otherwise}

abbrev pub label_seen : Vertex → Label
label_seen u = label_view (out-Vertex u)

abbrev pub inside_seen : Vertex → Vertices
inside_seen u = vertices_view (out-Vertex u).inner.items

-- What a declared vertex becomes, by its label and what is inside it.
abbrev pub of_seen : {A : Type 0} → (Label → Vertices → A) → Vertex → A
of_seen f u = f (label_seen u) (inside_seen u)

-- A vertex with these declared ones inside.
abbrev pub with_inner : Label → List Vertex → plain.Vertex
with_inner l us = plain.vertex l (vertices_view us)

-- How many inputs and outputs there are. The switch stands after the count and a delay for each output; its kept inputs
-- stand after the count's and the reference's own. These numbers have 32 bits.
pub record ArePorts (ports : Ports) (label : Label) : Type 0 where
  pub ins : ports.ins ≡ length label.ins
  pub outs : ports.outs ≡ length label.outs
  pub switch : ports.switch ≡ suc (length label.outs)
  pub kept : ports.kept ≡ suc (length label.ins)
  pub few : ports.kept + ports.outs < 2 ^ 32

-- What a vertex with this label keeps.
pub record AreKept (kept : Kept) (label : Label) : Type 0 where
  pub definition : kept.definition ≡ label.definition
  pub outs : kept.outs ≡ label.outs
  pub names : kept.names ≡ label.names

-- A label of the same definition with the same outputs, without guards.
abbrev pub relabelled : Label → Part → List Source → Kind → Label
relabelled l p ins k = record {
  part = p;
  definition = l.definition;
  ins = ins;
  guards = [];
  outs = l.outs;
  names = l.names;
  kind = k;
}

-- The inputs of the switch after its count.
abbrev pub body_ins : ℕ → ℕ → List Source
body_ins a q = Of 0 0 ∷ (inputs_from 0 a ++ firsts q)

-- The cases of the switch.
abbrev pub both_cases : Label → Vertices → Vertices
both_cases l us = and_vertex (when_runs l us) (and_vertex (otherwise l) no_vertices)
