-- What worked texts of actual durations say beside a worked architecture and its schedule.
use Rattle.std.proofs.Common.{◌≡◌, ℕ, refl, true, false, List, [], ◌∷◌, ◌++◌, Option, Some, None, Result, Ok, Err, codes, pos}
use Rattle.syn_base.specs.Bytes.{Bytes}
use Rattle.schedule.specs.declared.MediumKind.TheVariants.{PointToPoint, Multipoint}
use Rattle.schedule.specs.declared.Source.{Source}
use Rattle.schedule.specs.declared.Vertex.{Vertex}
use Rattle.schedule.specs.declared.Kind.{Kind}
use Rattle.schedule.specs.declared.Kind.TheVariants.{Sensor, Actuator, Function, Constant, Get, Set}
use Rattle.schedule.specs.Graph.{Graph}
use Rattle.schedule.specs.Archi.{Architecture}
use Rattle.schedule.specs.declared.ArchiCause.TheVariants.{UnknownName, BadLine}
use Rattle.schedule.specs.Table.{Table}
use Rattle.schedule.specs.declared.decision.Transfer.{Transfer}
use Rattle.schedule.specs.declared.decision.Decision.{Decision}
use Rattle.schedule.specs.declared.decision.Schedule.{Schedule}
use Rattle.syn_base.specs.declared.limits.LimitKind.TheVariants.{Operators}
use Rattle.actual_defs.specs.declared.fault.ActualFault.TheVariants.{Text, Differs, Longer, Missing}
use Rattle.actual_defs.specs.declared.fault.ActualError.{ActualError}
use Rattle.actual_defs.specs.declared.fault.ActualError.TheVariants.{Refused, Limit}
use Rattle.actual_durations.specs.Actual.{actual_of}

abbrev text : List Bytes → Bytes
text [] = []
text (l ∷ ls) = l ++ 10 ∷ text ls

abbrev source : ℕ → Source
source v = record { vertex = v; port = 0 }

abbrev vertex : Bytes → Kind → List Source → List ℕ → Option ℕ → Vertex
vertex def k ins outs twin = record { name = def; def = def; kind = k; guards = []; ins = ins; outs = outs; twin = twin }

abbrev placed : ℕ → ℕ → List Transfer → Decision
placed v o transfers = record { op = v; operator = o; start = 0; end = 0; transfers = transfers }

-- a sensor that a function reads on each of two operators, and an actuator after each function
abbrev graph : Graph
graph = record {
  vertices = vertex (codes "Sense") (Sensor 0) [] (1 ∷ []) None ∷ vertex (codes "F") (Function 0) (source 0 ∷ []) (1 ∷ []) None ∷ vertex (codes "F") (Function 0) (source 0 ∷ []) (1 ∷ []) None
      ∷ vertex (codes "Act") (Actuator 0) (source 1 ∷ []) [] None ∷ vertex (codes "Act") (Actuator 1) (source 2 ∷ []) [] None ∷ [];
  bodies = [];
}

abbrev bus : ℕ → ℕ → Architecture
bus fixed per = record {
  operators = codes "P" ∷ codes "Q" ∷ [];
  media = record { name = codes "bus"; kind = PointToPoint; fixed = fixed; per = per; stands = 0 ∷ 1 ∷ [] } ∷ [];
  depth = 1;
}

abbrev stated : Table
stated = record {
  operators = 2;
  rows = (Some 1 ∷ None ∷ []) ∷ (Some 10 ∷ Some 10 ∷ []) ∷ (Some 10 ∷ Some 10 ∷ []) ∷ (Some 1 ∷ Some 1 ∷ []) ∷ (Some 1 ∷ Some 1 ∷ []) ∷ [];
  halves = None ∷ None ∷ None ∷ None ∷ None ∷ [];
}

-- the second function and its actuator stand on the second operator, to which the sensor's value is carried
abbrev worked_schedule : Schedule
worked_schedule = record {
  decisions = placed 0 0 [] ∷ placed 1 0 [] ∷ placed 2 1 (record { source = source 0; medium = 0; from = 0; to = 1; start = 0; end = 0 } ∷ []) ∷ placed 4 1 [] ∷ placed 3 0 [] ∷ [];
}

abbrev actual : List Bytes → Result (List ℕ) ActualError
actual ls = actual_of graph (bus 1 1) stated worked_schedule (text (codes "architecture 1" ∷ ls))

-- a text with this medium and these lines
abbrev over : Bytes → List Bytes → List Bytes
over medium ls = codes "operator P" ∷ codes "operator Q" ∷ medium ∷ codes "connect bus P" ∷ codes "connect bus Q" ∷ ls

abbrev over_bus : List Bytes → List Bytes
over_bus ls = over (codes "medium bus p2p 1 1") ls

abbrev as_stated : List Bytes
as_stated = codes "duration Sense P 1" ∷ codes "duration F P 10" ∷ codes "duration F Q 10" ∷ codes "duration Act P 1" ∷ codes "duration Act Q 1" ∷ []

abbrev functions_last : Bytes → Bytes → List Bytes
functions_last p q = codes "duration Sense P 1" ∷ p ∷ q ∷ codes "duration Act P 1" ∷ codes "duration Act Q 1" ∷ []

all_as_stated : actual (over_bus as_stated) ≡ Ok (1 ∷ 10 ∷ 10 ∷ 1 ∷ 1 ∷ 2 ∷ [])
all_as_stated = refl

-- each on its operator
one_is_shorter : actual (over_bus (functions_last (codes "duration F P 4") (codes "duration F Q 10"))) ≡ Ok (1 ∷ 4 ∷ 10 ∷ 1 ∷ 1 ∷ 2 ∷ [])
one_is_shorter = refl

no_time_at_all : actual (over (codes "medium bus p2p 0 0") (functions_last (codes "duration F P 0") (codes "duration F Q 0"))) ≡ Ok (1 ∷ 0 ∷ 0 ∷ 1 ∷ 1 ∷ 0 ∷ [])
no_time_at_all = refl

one_is_longer : actual (over_bus (functions_last (codes "duration F P 4") (codes "duration F Q 11"))) ≡ Err (Refused (Longer (codes "F")))
one_is_longer = refl

-- a duration on an operator on which the definition does not run counts for nothing
longer_elsewhere : actual (over_bus (codes "duration Sense Q 99" ∷ as_stated)) ≡ Ok (1 ∷ 10 ∷ 10 ∷ 1 ∷ 1 ∷ 2 ∷ [])
longer_elsewhere = refl

one_is_missing : actual (over_bus (codes "duration Sense P 1" ∷ codes "duration F P 10" ∷ codes "duration Act P 1" ∷ codes "duration Act Q 1" ∷ [])) ≡ Err (Refused (Missing (codes "F")))
one_is_missing = refl

-- the first operation is told, though another fault is of another kind
missing_before_longer : actual (over_bus (functions_last (codes "duration F Q 11") (codes "duration G P 1"))) ≡ Err (Refused (Missing (codes "F")))
missing_before_longer = refl

longer_before_missing : actual (over_bus (codes "duration Sense P 2" ∷ codes "duration F P 10" ∷ [])) ≡ Err (Refused (Longer (codes "Sense")))
longer_before_missing = refl

-- media stand before operations
slower_in_fixed : actual (over (codes "medium bus p2p 2 0") []) ≡ Err (Refused (Longer (codes "bus")))
slower_in_fixed = refl

slower_in_each : actual (over (codes "medium bus p2p 0 2") []) ≡ Err (Refused (Longer (codes "bus")))
slower_in_each = refl

-- an architecture in another shape, which is told before any number
other_operators : actual (codes "operator Q" ∷ codes "operator P" ∷ codes "medium bus p2p 2 2" ∷ codes "connect bus P" ∷ codes "connect bus Q" ∷ []) ≡ Err (Refused Differs)
other_operators = refl

one_operator_more : actual (over_bus (codes "operator R" ∷ codes "medium x p2p 1 1" ∷ codes "connect x P" ∷ codes "connect x R" ∷ as_stated)) ≡ Err (Refused Differs)
one_operator_more = refl

another_medium : actual (codes "operator P" ∷ codes "operator Q" ∷ codes "medium can p2p 1 1" ∷ codes "connect can P" ∷ codes "connect can Q" ∷ as_stated) ≡ Err (Refused Differs)
another_medium = refl

another_kind : actual (over (codes "medium bus multi 1 1") as_stated) ≡ Err (Refused Differs)
another_kind = refl

one_medium_more : actual (over_bus (codes "medium x p2p 1 1" ∷ codes "connect x P" ∷ codes "connect x Q" ∷ as_stated)) ≡ Err (Refused Differs)
one_medium_more = refl

another_depth : actual_of graph (bus 1 1) stated worked_schedule (text (codes "architecture 2" ∷ codes "depth 2" ∷ over_bus as_stated)) ≡ Err (Refused Differs)
another_depth = refl

-- a text of version 2 has one place where it does not say otherwise
another_version : actual_of graph (bus 1 1) stated worked_schedule (text (codes "architecture 2" ∷ over_bus as_stated)) ≡ Ok (1 ∷ 10 ∷ 10 ∷ 1 ∷ 1 ∷ 2 ∷ [])
another_version = refl

-- three operators at two multipoint media, of which one does not join the same ones
abbrev three : Architecture
three = record {
  operators = codes "P" ∷ codes "Q" ∷ codes "R" ∷ [];
  media = record { name = codes "can"; kind = Multipoint; fixed = 1; per = 1; stands = 0 ∷ 1 ∷ 2 ∷ [] }
      ∷ record { name = codes "lin"; kind = Multipoint; fixed = 1; per = 1; stands = 0 ∷ 1 ∷ [] } ∷ [];
  depth = 1;
}

abbrev lin_joins : Bytes → Result (List ℕ) ActualError
lin_joins operator = actual_of (record { vertices = []; bodies = [] }) three (record { operators = 3; rows = []; halves = [] })
    (record { decisions = [] }) (text (codes "architecture 1" ∷ codes "operator P" ∷ codes "operator Q" ∷ codes "operator R"
    ∷ codes "medium can multi 1 1" ∷ codes "medium lin multi 1 1" ∷ codes "connect can R" ∷ codes "connect can Q" ∷ codes "connect can P" ∷ codes "connect lin P" ∷ operator ∷ []))

the_same_connections : lin_joins (codes "connect lin Q") ≡ Ok []
the_same_connections = refl

other_connections : lin_joins (codes "connect lin R") ≡ Err (Refused Differs)
other_connections = refl

-- the text's own refusal comes first
unknown_operator : actual (codes "operator Q" ∷ codes "duration F x 1" ∷ []) ≡ Err (Refused (Text (record { line = 3; cause = UnknownName (codes "x") })))
unknown_operator = refl

no_text : actual_of graph (bus 1 1) stated worked_schedule [] ≡ Err (Refused (Text (record { line = 1; cause = BadLine })))
no_text = refl

-- a limit is no refusal of this kind
abbrev operators : List Bytes
operators = codes "operator A" ∷ codes "operator B" ∷ codes "operator C" ∷ codes "operator D" ∷ codes "operator E" ∷ codes "operator F" ∷ codes "operator G" ∷ codes "operator H" ∷ codes "operator I"
    ∷ codes "operator J" ∷ codes "operator K" ∷ codes "operator L" ∷ codes "operator M" ∷ codes "operator N" ∷ codes "operator O" ∷ codes "operator P" ∷ codes "operator Q" ∷ []

too_many : actual operators ≡ Err (Limit (record { which = Operators; count = 17; bound = 16 }))
too_many = refl

-- A constant and both halves of a delay last no time, whatever the text says of their definitions.
abbrev made_graph : Graph
made_graph = record {
  vertices = vertex (codes "C") (Constant (pos 7 ∷ [])) [] (1 ∷ []) None ∷ vertex (codes "D") (Get (pos 0 ∷ [])) [] (1 ∷ []) (Some 2) ∷ vertex (codes "D") Set (source 0 ∷ []) [] (Some 1) ∷ [];
  bodies = [];
}

made_last_no_time : actual_of made_graph (record { operators = codes "P" ∷ []; media = []; depth = 1 })
    (record { operators = 1; rows = (Some 0 ∷ []) ∷ (Some 0 ∷ []) ∷ (Some 0 ∷ []) ∷ []; halves = None ∷ None ∷ Some 1 ∷ [] })
    (record { decisions = placed 0 0 [] ∷ placed 1 0 [] ∷ placed 2 0 [] ∷ [] }) (text (codes "architecture 1" ∷ codes "operator P" ∷ codes "duration C P 5" ∷ codes "duration D P 5" ∷ []))
    ≡ Ok (0 ∷ 0 ∷ 0 ∷ [])
made_last_no_time = refl
