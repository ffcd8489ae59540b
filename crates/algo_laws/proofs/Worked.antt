-- Worked definitions without a refusal, as an accepted text has them: they make a tree.
use Rattle.std.proofs.Common.{◌≡◌, refl, List, [], ◌∷◌, Some, arith, codes, None}
use Rattle.algo_rules.specs.Typed.{IsLength}
use Rattle.algo_rules.specs.Valid.{IsTree}
use Rattle.algo_rules.specs.declared.Def.{Def}
use Rattle.algo_rules.specs.declared.Body.TheVariants.{Sensor, Actuator, Graph}
use Rattle.algo_rules.specs.declared.Reference.{Reference}
use Rattle.algo_rules.specs.declared.Edge.{Edge}
use Rattle.algo_rules.specs.Resolved.{tree_of, refusal}
use Rattle.algo_rules.specs.WellRead.{IsName, ArePorts, IsGraph, IsWellRead, AreWellRead}
use Rattle.algo_laws.proofs.Firsts.{all_of}
use Rattle.algo_laws.proofs.Whole.{make_a_tree}

abbrev two : List Reference
two = record { name = codes "s"; def = codes "Sense"; every = None; line = 5 } ∷ record { name = codes "a"; def = codes "Act"; every = None; line = 6 } ∷ []

abbrev edge : Edge
edge = record { from = record { owner = Some (codes "s"); port = codes "o" }; to = record { owner = Some (codes "a"); port = codes "i" }; line = 7 }

-- a sensor into an actuator
abbrev echo : List Def
echo =
    record { name = codes "Sense"; line = 2; body = Sensor 1 }
    ∷ record { name = codes "Act"; line = 3; body = Actuator 1 }
    ∷ record { name = codes "main"; line = 4; body = Graph [] [] two (edge ∷ []) } ∷ []

accepted : refusal echo ≡ None
accepted = refl

no_ports : ArePorts []
no_ports = record { few = omega arith; named = all_of (λ p. IsName p.name) [] tt; sized = all_of (λ p. IsLength p.len) [] tt }

is_graph : IsGraph [] [] two
is_graph = record { inputs = no_ports; outputs = no_ports; distinct = tt; few = omega arith; named = all_of (λ r. IsName r.name) two (refl, (refl, tt)); once = ((refl, tt), (tt, tt)) }

well_read : AreWellRead echo
well_read = record {
  named = all_of (λ d. IsName d.name) echo (refl, (refl, (refl, tt)));
  once = ((refl, (refl, tt)), ((refl, tt), (tt, tt)));
  bodies = all_of (λ d. IsWellRead d.body) echo ((omega arith, omega arith), ((omega arith, omega arith), (is_graph, tt)));
}

is_a_tree : IsTree (tree_of echo)
is_a_tree = make_a_tree echo well_read accepted
