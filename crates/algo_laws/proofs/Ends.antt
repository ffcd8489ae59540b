-- Sensors and actuators stand in the main graph alone.
use Rattle.std.proofs.Common.{◌≡◌, ℕ, zero, suc, ◌+◌, true, false, List, [], ◌∷◌, ◌++◌, map, length, Option, Some, None, refl}
use Rattle.level_meaning.specs.declared.source.Source.{Source}
use Rattle.level_meaning.specs.declared.part.Part.{Part}
use Rattle.syn_base.specs.Bytes.{Bytes}
use Rattle.algo_rules.specs.declared.Port.{Port}
use Rattle.algo_rules.specs.View.{vertices_of}
use Rattle.algo_rules.specs.Ends.{HasNoEnds, AllNoEnds, IsNoEnd}
use Rattle.algo_rules.specs.declared.Def.{Def}
use Rattle.algo_rules.specs.declared.Body.{Body}
use Rattle.algo_rules.specs.declared.Body.TheVariants.{Sensor, Actuator, Constant, Delay, Function, Graph, Switch, Repeat}
use Rattle.algo_rules.specs.declared.Reference.{Reference}
use Rattle.algo_rules.specs.declared.Case.{Case}
use Rattle.algo_rules.specs.declared.Edge.{Edge}
use Rattle.algo_rules.specs.Links.{Mention, mentions, mentions_in, definition, is_main, is_end}
use Rattle.algo_rules.specs.Ports.{ports_of}
use Rattle.algo_rules.specs.declared.ports.Ports.{Ports}
use Rattle.algo_rules.specs.Resolved.{Making, vertex_within, vertex_by, references_from, cases_from, inner_by as inner_of, kind_by, sensor_count, actuator_count}
use Rattle.algo_laws.proofs.Firsts.{Each}
use Rattle.algo_laws.proofs.Standing.{Stands, IsInner, inner_by}

abbrev pub reference_line : Reference → Mention
reference_line r = record { line = r.line; def = r.def; is_reference = true }

abbrev pub case_line : Case → Mention
case_line c = record { line = c.line; def = c.def; is_reference = false }

module _ (ds : List Def) (make : Making) where
  -- what is made of an inner definition has no ends
  abbrev pub MakesNoEnds : Type 0
  MakesNoEnds = (part : Part) (w : Bytes) (ins : List Source) (s a : ℕ) → IsInner w (definition ds w) → HasNoEnds (make part w ins s a)

  references_no_ends : MakesNoEnds → (owner : Bytes) → is_main owner ≡ false → (ins : List Port) (all : List Reference) (edges : List Edge) (s a : ℕ) (rs : List Reference)
      → Each (Stands ds owner) (map reference_line rs) → AllNoEnds (vertices_of (references_from ds make ins all edges s a rs))
  references_no_ends h owner out ins all edges s a [] k = tt
  references_no_ends h owner out ins all edges s a (r ∷ rs) k = (
    h _ r.def _ s a (inner_by owner (reference_line r) (definition ds r.def) out k.0),
    references_no_ends h owner out ins all edges (s + sensor_count (definition ds r.def)) (a + actuator_count (definition ds r.def)) rs k.1,
  )

  abbrev IsNamed : Bytes → Type 0
  IsNamed w = IsInner w (definition ds w)

  cases_no_ends : MakesNoEnds → (n c : ℕ) (ws : List Bytes) → Each IsNamed ws → AllNoEnds (vertices_of (cases_from ds make n c ws))
  cases_no_ends h n c [] k = tt
  cases_no_ends h n c (w ∷ ws) k = (h _ w _ 0 0 k.0, cases_no_ends h n (suc c) ws k.1)

  named_cases : (owner : Bytes) → is_main owner ≡ false → (otherwise : Bytes) (last : ℕ) (cs : List Case)
      → Each (Stands ds owner) (map case_line cs ++ record { line = last; def = otherwise; is_reference = false } ∷ []) → Each IsNamed (map (λ c. c.def) cs ++ otherwise ∷ [])
  named_cases owner out otherwise last [] k = (inner_by owner (record { line = last; def = otherwise; is_reference = false }) (definition ds otherwise) out k.0, tt)
  named_cases owner out otherwise last (c ∷ cs) k = (inner_by owner (case_line c) (definition ds c.def) out k.0, named_cases owner out otherwise last cs k.1)

  pub inner_no_ends : MakesNoEnds → (owner : Bytes) → is_main owner ≡ false → (n : ℕ) (b : Body) → Each (Stands ds owner) (mentions_in n b) → AllNoEnds (vertices_of (inner_of ds make b))
  inner_no_ends h owner out n (Sensor len) k = tt
  inner_no_ends h owner out n (Actuator len) k = tt
  inner_no_ends h owner out n (Constant values) k = tt
  inner_no_ends h owner out n (Delay depth values) k = tt
  inner_no_ends h owner out n (Function ins outs) k = tt
  inner_no_ends h owner out n (Graph ins outs references edges) k = references_no_ends h owner out ins references edges 0 0 references k
  inner_no_ends h owner out n (Switch on ins outs cases otherwise last) k = cases_no_ends h (length ins) 0 _ (named_cases owner out otherwise last cases k)
  inner_no_ends h owner out n (Repeat copies def lines) k = (h _ def _ 0 0 (inner_by owner (record { line = n; def = def; is_reference = false }) (definition ds def) out k.0), tt)

  kind_no_end : (own : Ports) (s a : ℕ) (b : Body) → is_end b ≡ false → IsNoEnd (kind_by ds make own s a b)
  kind_no_end own s a (Sensor len) k = cc
  kind_no_end own s a (Actuator len) k = cc
  kind_no_end own s a (Constant values) k = tt
  kind_no_end own s a (Delay depth values) k = tt
  kind_no_end own s a (Function ins outs) k = tt
  kind_no_end own s a (Graph ins outs references edges) k = tt
  kind_no_end own s a (Switch on ins outs cases otherwise last) k = tt
  kind_no_end own s a (Repeat copies def lines) k = tt

-- what the definition of a name mentions may stand there
abbrev pub AllStand : List Def → Type 0
AllStand ds = (w : Bytes) (d : Def) → definition ds w ≡ Some d → Each (Stands ds w) (mentions d)

vertex_no_ends : (ds : List Def) (make : Making) → AllStand ds → MakesNoEnds ds make → (part : Part) (w : Bytes) (ins : List Source) (s a : ℕ) (o : Option Def) → definition ds w ≡ o → IsInner w o
    → HasNoEnds (vertex_by ds make part w ins s a o)
vertex_no_ends ds make stand h part w ins s a None e k = (tt, tt)
vertex_no_ends ds make stand h part w ins s a (Some d) e k =
    (kind_no_end ds make (ports_of ds w) s a d.body k.1, inner_no_ends ds make h w k.0 d.line d.body (stand w d e))

pub no_ends : (ds : List Def) → AllStand ds → (n : ℕ) → MakesNoEnds ds (vertex_within ds n)
no_ends ds stand zero part w ins s a k = (tt, tt)
no_ends ds stand (suc n) part w ins s a k = vertex_no_ends ds (vertex_within ds n) stand (no_ends ds stand n) part w ins s a (definition ds w) refl k
