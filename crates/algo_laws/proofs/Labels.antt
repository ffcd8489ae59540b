-- What is said of the vertex that is made of a definition.
use Rattle.std.proofs.Common.{◌≡◌, ℕ, zero, suc, ◌+◌, ◌≤◌, List, [], ◌∷◌, map, Option, Some, None, refl, ap₂, arith}
use Rattle.level_meaning.specs.declared.source.Source.{Source}
use Rattle.level_meaning.specs.declared.part.Part.{Part}
use Rattle.level_meaning.specs.declared.part.Part.TheVariants.{Named}
use Rattle.syn_base.specs.Bytes.{Bytes}
use Rattle.algo_rules.specs.declared.Port.{Port}
use Rattle.algo_rules.specs.Tree.{Vertex, vertex}
use Rattle.algo_rules.specs.View.{vertices_of}
use Rattle.algo_rules.specs.Meaning.{node}
use Rattle.algo_rules.specs.Typed.{label_of, outs_of}
use Rattle.algo_rules.specs.declared.Def.{Def}
use Rattle.algo_rules.specs.declared.Reference.{Reference}
use Rattle.algo_rules.specs.declared.Edge.{Edge}
use Rattle.algo_rules.specs.Links.{definition}
use Rattle.algo_rules.specs.Ports.{ports_of, lens_of}
use Rattle.algo_rules.specs.Resolved.{Making, vertex_within, vertex_by, references_from, sources_to, sensor_count, actuator_count}
use Rattle.algo_laws.proofs.Firsts.{Each}
use Rattle.algo_laws.proofs.Ends.{reference_line}
use Rattle.algo_laws.specs.Depths.{rank}
use Rattle.algo_laws.proofs.Accepted.{IsLower, Accepted}
use Rattle.algo_laws.proofs.Joined.{out_lens}

-- its part and sources are those that it is made with, and it has no guards
pub record IsLabelled (part : Part) (ins : List Source) (u : Vertex) : Type 0 where
  pub part_is : (label_of u).part ≡ part
  pub ins_are : (label_of u).ins ≡ ins
  pub unguarded : (label_of u).guards ≡ []

labelled_by : (ds : List Def) (make : Making) (part : Part) (w : Bytes) (ins : List Source) (s a : ℕ) (o : Option Def) → IsLabelled part ins (vertex_by ds make part w ins s a o)
labelled_by ds make part w ins s a None = record { part_is = refl; ins_are = refl; unguarded = refl }
labelled_by ds make part w ins s a (Some d) = record { part_is = refl; ins_are = refl; unguarded = refl }

pub labelled : (ds : List Def) (n : ℕ) (part : Part) (w : Bytes) (ins : List Source) (s a : ℕ) → IsLabelled part ins (vertex_within ds n part w ins s a)
labelled ds zero part w ins s a = record { part_is = refl; ins_are = refl; unguarded = refl }
labelled ds (suc n) part w ins s a = labelled_by ds (vertex_within ds n) part w ins s a (definition ds w)

pub node_part : (u : Vertex) → (node u).part ≡ (label_of u).part
node_part (vertex l us) = refl

outs_by : (ds : List Def) (make : Making) (part : Part) (w : Bytes) (ins : List Source) (s a : ℕ) (o : Option Def) (d : Def) → o ≡ Some d
    → (label_of (vertex_by ds make part w ins s a o)).outs ≡ lens_of (ports_of ds w).outs
outs_by ds make part w ins s a None d e = cc
outs_by ds make part w ins s a (Some x) d e = refl

-- its outputs have the lengths of the definition's, where the definition is followed far enough
pub label_outs : (ds : List Def) → Accepted ds → (n : ℕ) (part : Part) (w : Bytes) (d : Def) (ins : List Source) (s a : ℕ) → definition ds w ≡ Some d → rank ds w ≤ n
    → (label_of (vertex_within ds n part w ins s a)).outs ≡ lens_of (ports_of ds w).outs
label_outs ds acc zero part w d ins s a e le = absurd (omega (arith, acc.ranked.positive w d e))
label_outs ds acc (suc n) part w d ins s a e le = outs_by ds (vertex_within ds n) part w ins s a (definition ds w) d e

pub references_outs : (ds : List Def) → Accepted ds
    → (n : ℕ) (ins : List Port) (all : List Reference) (edges : List Edge) (s a : ℕ) (rs : List Reference)
    → Each (λ m. IsLower ds (suc n) m.def) (map reference_line rs)
    → outs_of (vertices_of (references_from ds (vertex_within ds n) ins all edges s a rs)) ≡ out_lens (ports_of ds) rs
references_outs ds acc n ins all edges s a [] h = refl
references_outs ds acc n ins all edges s a (r ∷ rs) h =
    ap₂ (λ (ns : List ℕ) (nss : List (List ℕ)). ns ∷ nss)
    (label_outs ds acc n (Named r.name) r.def h.0.0.0 (sources_to (ports_of ds) ins all edges (Some r.name) (ports_of ds r.def).ins) s a h.0.0.1 (omega (arith, h.0.1)))
    (references_outs ds acc n ins all edges (s + sensor_count (definition ds r.def)) (a + actuator_count (definition ds r.def)) rs h.1)
