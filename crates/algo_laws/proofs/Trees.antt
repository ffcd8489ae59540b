-- What the tree of definitions that are not refused is made of: its main graph without ports, and as many operations
-- as are counted.
use Rattle.std.proofs.Common.{◌≡◌, ℕ, ◌≤◌, Bool, true, false, List, [], ◌∷◌, Option, Some, None, refl, if◌then◌else◌, nat_lt}
use Rattle.std.specs.Prelude.{codes}
use Rattle.std.proofs.lemmas.Bool.{ltb-false}
use Rattle.syn_base.specs.declared.limits.LimitKind.TheVariants.{Operations}
use Rattle.syn_base.specs.Limits.{bound_of}
use Rattle.level_meaning.specs.declared.part.Part.TheVariants.{Named}
use Rattle.algo_rules.specs.declared.Port.{Port}
use Rattle.algo_rules.specs.Typed.{label_of}
use Rattle.algo_rules.specs.Valid.{HasNoPorts}
use Rattle.algo_rules.specs.declared.Def.{Def}
use Rattle.algo_rules.specs.declared.Body.{Body}
use Rattle.algo_rules.specs.declared.Body.TheVariants.{Sensor, Actuator, Constant, Delay, Function, Graph, Switch, Repeat}
use Rattle.algo_rules.specs.Tree.{graph}
use Rattle.algo_rules.specs.Links.{definition}
use Rattle.algo_rules.specs.Refusals.{AlgoRefusal}
use Rattle.algo_rules.specs.Ports.{ports_of, ports_by}
use Rattle.algo_rules.specs.declared.ports.Ports.{Ports}
use Rattle.algo_rules.specs.Resolved.{Making, vertex_within, vertex_by, kind_by, is_portless, is_main_graph, operations}
use Rattle.algo_laws.specs.Central.{OperationsAreCounted}
use Rattle.algo_laws.proofs.Numbered.{IsGraphOf}
use Rattle.algo_laws.proofs.Refused.{has_none}
use Rattle.algo_laws.proofs.Accepted.{accepted}
use Rattle.algo_laws.proofs.Counting.{counted_within}
use Rattle.syn_base.specs.Bytes.{Bytes}
use Rattle.text_lines.specs.Refusals.{Limit}

abbrev pub main : Bytes
main = codes "main"

-- the definition of `main`
pub main_by : (ds : List Def) (o : Option Def) → definition ds main ≡ o → IsGraphOf o → (d : Def) × ((definition ds main ≡ Some d) × (is_main_graph d.body ≡ true))
main_by ds None e h = absurd h
main_by ds (Some d) e h = (d, (e, h))

empty : (ins outs : List Port) → is_portless ins outs ≡ true → (ins ≡ []) × (outs ≡ [])
empty [] [] h = (refl, refl)
empty [] (p ∷ ps) h = cc
empty (p ∷ ps) outs h = cc

pub no_inputs : (of : Bytes → Ports) (b : Body) → is_main_graph b ≡ true → (ports_by of b).ins ≡ []
no_inputs of (Graph ins outs references edges) h = (empty ins outs h).0
no_inputs of (Sensor len) h = cc
no_inputs of (Actuator len) h = cc
no_inputs of (Constant values) h = cc
no_inputs of (Delay depth values) h = cc
no_inputs of (Function ins outs) h = cc
no_inputs of (Switch on ins outs cases otherwise last) h = cc
no_inputs of (Repeat copies def lines) h = cc

kind_is : (ds : List Def) (make : Making) (own : Ports) (b : Body) → is_main_graph b ≡ true → kind_by ds make own 0 0 b ≡ graph []
kind_is ds make own (Graph [] [] references edges) h = refl
kind_is ds make own (Graph [] (p ∷ ps) references edges) h = cc
kind_is ds make own (Graph (p ∷ ps) outs references edges) h = cc
kind_is ds make own (Sensor len) h = cc
kind_is ds make own (Actuator len) h = cc
kind_is ds make own (Constant values) h = cc
kind_is ds make own (Delay depth values) h = cc
kind_is ds make own (Function ins outs) h = cc
kind_is ds make own (Switch on ins outs cases otherwise last) h = cc
kind_is ds make own (Repeat copies def lines) h = cc

pub portless_by : (ds : List Def) (make : Making) (o : Option Def) → IsGraphOf o → HasNoPorts (label_of (vertex_by ds make (Named main) main [] 0 0 o))
portless_by ds make None h = absurd h
portless_by ds make (Some d) h = record { kind = kind_is ds make (ports_of ds main) d.body h; ins = refl }

pub few_by : (n : ℕ) (b : Bool) → nat_lt 2048 n ≡ b → (if◌then◌else◌ {A = Option AlgoRefusal} b (Some (Limit (record { which = Operations; count = n; bound = bound_of Operations }))) None) ≡ None → n ≤ 2048
few_by n true e h = cc
few_by n false e h = ltb-false 2048 n e

pub are_counted : OperationsAreCounted
are_counted ds read no_refusal = counted_within ds (accepted ds read (has_none ds no_refusal)) 8 (Named main) main [] 0 0
