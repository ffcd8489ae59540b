-- What the definitions of worked texts resolve to.
use Rattle.std.proofs.Common.{◌≡◌, ℕ, refl, List, [], ◌∷◌, ◌++◌, pos, Result, Ok, Err, codes}
use Rattle.level_meaning.specs.declared.source.Source.TheVariants.{Own, Of}
use Rattle.level_meaning.specs.declared.part.Part.TheVariants.{Named, Numbered}
use Rattle.level_meaning.specs.declared.frontier.Feed.TheVariants as feed
use Rattle.level_meaning.specs.declared.frontier.Give.TheVariants as give
use Rattle.syn_base.specs.declared.limits.LimitKind.TheVariants.{PortLength, Depth, Operations}
use Rattle.syn_base.specs.Bytes.{Bytes}
use Rattle.text_lines.specs.Refusals.{and_then, Limit, refused}
use Rattle.algo_rules.specs.Refusals.{AlgoRefusal}
use Rattle.algo_rules.specs.Tree as tree
use Rattle.algo_rules.specs.declared.AlgoCause.TheVariants.{UnknownName, WrongLength, Unconnected, TwiceConnected, Recursive, Cycle, NoMain, BadCase, Misplaced, BadRepeat}
use Rattle.algo_rules.specs.Text.{definitions_of}
use Rattle.algo_rules.specs.declared.Port.{Port}
use Rattle.algo_rules.specs.Ports.{one_port, port}
use Rattle.algo_rules.specs.Resolved.{resolution_of, vertex}

abbrev text : List Bytes → Bytes
text [] = []
text (l ∷ ls) = l ++ 10 ∷ text ls

abbrev read_as : Bytes → List Bytes → Result tree.Vertex AlgoRefusal
read_as version ls = and_then (definitions_of (text (version ∷ ls))) (λ d. resolution_of d.defs)

abbrev read : List Bytes → Result tree.Vertex AlgoRefusal
read ls = read_as (codes "algorithm 1") ls

-- one output
abbrev out : Bytes → ℕ → List Port
out w len = one_port w len

-- a sensor into an actuator, with these edges
abbrev echo : List Bytes → List Bytes
echo edges = codes "sensor Sense 1" ∷ codes "actuator Act 1" ∷ codes "graph main" ∷ codes "ref s Sense" ∷ codes "ref a Act" ∷ edges ++ codes "end" ∷ []

abbrev main_with : List tree.Vertex → tree.Vertex
main_with us = vertex (Named (codes "main")) (codes "main") [] [] (tree.graph []) us

plainest : read (echo (codes "edge s.o a.i" ∷ [])) ≡ Ok (main_with
    (vertex (Named (codes "s")) (codes "Sense") [] (out (codes "o") 1) (tree.sensor 0) []
    ∷ vertex (Named (codes "a")) (codes "Act") (Of 0 0 ∷ []) [] (tree.actuator 0) [] ∷ []))
plainest = refl

unknown_target : read (echo (codes "edge s.o a.j" ∷ [])) ≡ refused 7 (UnknownName (codes "a.j"))
unknown_target = refl

-- the source is told before the target
unknown_source : read (echo (codes "edge s.i b.j" ∷ [])) ≡ refused 7 (UnknownName (codes "s.i"))
unknown_source = refl

no_edge : read (echo []) ≡ refused 6 (Unconnected (codes "a.i"))
no_edge = refl

twice : read (echo (codes "edge s.o a.i" ∷ codes "edge s.o a.i" ∷ [])) ≡ refused 8 (TwiceConnected (codes "a.i"))
twice = refl

unequal : read (codes "sensor S 2" ∷ codes "actuator A 1" ∷ codes "graph main" ∷ codes "ref s S" ∷ codes "ref a A" ∷ codes "edge s.o a.i" ∷ codes "end" ∷ []) ≡ refused 7 (WrongLength (codes "a.i"))
unequal = refl

-- two references that feed each other
cycle : read (codes "function F" ∷ codes "in x 1" ∷ codes "out y 1 = 1" ∷ codes "end" ∷ codes "graph main" ∷ codes "ref f F"
    ∷ codes "ref g F" ∷ codes "edge f.y g.x" ∷ codes "edge g.y f.x" ∷ codes "end" ∷ [])
    ≡ refused 6 (Cycle (codes "f" ∷ codes "g" ∷ []))
cycle = refl

-- an edge out of a delay is not counted
delayed : read (codes "delay M = 7" ∷ codes "graph main" ∷ codes "ref m M" ∷ codes "edge m.o m.i" ∷ codes "end" ∷ [])
    ≡ Ok (main_with (vertex (Named (codes "m")) (codes "M") (Of 0 0 ∷ []) (out (codes "o") 1) (tree.delay ((pos 7 ∷ []) ∷ [])) [] ∷ []))
delayed = refl

-- a group for each reaction that a delay looks back
deep : read_as (codes "algorithm 2") (codes "delay M 2 = 1 2 3 4" ∷ codes "graph main" ∷ codes "ref m M" ∷ codes "edge m.o m.i" ∷ codes "end" ∷ [])
    ≡ Ok (main_with (vertex (Named (codes "m")) (codes "M") (Of 0 0 ∷ []) (out (codes "o") 2) (tree.delay ((pos 1 ∷ pos 2 ∷ []) ∷ (pos 3 ∷ pos 4 ∷ []) ∷ [])) [] ∷ []))
deep = refl

-- it stands for two operations for each of them
many_operations : read_as (codes "algorithm 2")
    (codes "delay M 16 = 1 2 3 4 5 6 7 8 9 10 11 12 13 14 15 16" ∷ codes "constant C = 0" ∷ codes "graph G" ∷ codes "ref a M"
    ∷ codes "ref c C" ∷ codes "edge a.o a.i" ∷ codes "end"
    ∷ codes "repeat R 63 G" ∷ codes "end" ∷ codes "graph main" ∷ codes "ref r R" ∷ codes "end" ∷ [])
    ≡ Err (Limit (record { which = Operations; count = 2079; bound = 2048 }))
many_operations = refl

unknown_definition : read (codes "graph main" ∷ codes "ref m M" ∷ codes "end" ∷ []) ≡ refused 3 (UnknownName (codes "M"))
unknown_definition = refl

main_inside : read (codes "graph G" ∷ codes "ref m main" ∷ codes "end" ∷ codes "graph main" ∷ codes "end" ∷ []) ≡ refused 3 (Misplaced (codes "main"))
main_inside = refl

sensor_outside : read (codes "sensor S 1" ∷ codes "graph G" ∷ codes "ref s S" ∷ codes "end" ∷ codes "graph main" ∷ codes "end" ∷ []) ≡ refused 4 (Misplaced (codes "S"))
sensor_outside = refl

delay_as_body : read (codes "delay D = 1" ∷ codes "repeat R 2 D" ∷ codes "end" ∷ []) ≡ refused 3 (Misplaced (codes "D"))
delay_as_body = refl

-- a definition that only leads to a cycle is not in it
recursive : read (codes "graph A" ∷ codes "ref b B" ∷ codes "end" ∷ codes "graph B" ∷ codes "ref c C" ∷ codes "end" ∷ codes "graph C" ∷ codes "ref b B" ∷ codes "end" ∷ [])
    ≡ refused 5 (Recursive (codes "B"))
recursive = refl

no_main : read (codes "sensor S 1" ∷ []) ≡ refused 0 NoMain
no_main = refl

main_with_port : read (codes "graph main" ∷ codes "in x 1" ∷ codes "end" ∷ []) ≡ refused 0 NoMain
main_with_port = refl

main_not_a_graph : read (codes "sensor main 1" ∷ []) ≡ refused 0 NoMain
main_not_a_graph = refl

-- an own output without a source, at the graph's line
open_output : read (codes "graph G" ∷ codes "out y 1" ∷ codes "end" ∷ []) ≡ refused 2 (Unconnected (codes "y"))
open_output = refl

-- a value before, and the ports of a case
abbrev switched : List Bytes → List Bytes
switched cases = codes "function F" ∷ codes "in x 1" ∷ codes "out y 1 = 1" ∷ codes "end" ∷ codes "function H" ∷ codes "in x 2" ∷ codes "out y 1 = 1" ∷ codes "end"
    ∷ codes "switch Sw" ∷ codes "on c" ∷ codes "in x 1" ∷ codes "out y 1" ∷ cases ++ codes "end" ∷ codes "graph main" ∷ codes "end" ∷ []

value_twice : read (switched (codes "case 0 F" ∷ codes "case -0 F" ∷ codes "otherwise F" ∷ [])) ≡ refused 15 BadCase
value_twice = refl

other_ports : read (switched (codes "case 0 H" ∷ codes "case 0 F" ∷ codes "otherwise F" ∷ [])) ≡ refused 14 BadCase
other_ports = refl

bad_otherwise : read (switched (codes "case 0 F" ∷ codes "otherwise H" ∷ [])) ≡ refused 15 BadCase
bad_otherwise = refl

good_switch : read (switched (codes "otherwise F" ∷ [])) ≡ Ok (main_with [])
good_switch = refl

-- repetitions
abbrev repeated : Bytes → List Bytes → List Bytes
repeated count lines = codes "function F" ∷ codes "in x 2" ∷ codes "in a 1" ∷ codes "out y 1 = 1" ∷ codes "end" ∷ codes "constant Z = 0" ∷ codes "constant V = 1 2 3 4"
    ∷ (codes "repeat R " ++ count ++ codes " F") ∷ lines ++ codes "end" ∷ codes "graph main" ∷ codes "ref v V" ∷ codes "ref z Z"
    ∷ codes "ref r R" ∷ codes "edge v.o r.p" ∷ codes "edge z.o r.z" ∷ codes "end" ∷ []

copies : read (repeated (codes "2") (codes "fork p x" ∷ codes "iterate z a y t" ∷ codes "join y q" ∷ [])) ≡ Ok (main_with
    (vertex (Named (codes "v")) (codes "V") [] (out (codes "o") 4) (tree.constant (pos 1 ∷ pos 2 ∷ pos 3 ∷ pos 4 ∷ [])) []
    ∷ vertex (Named (codes "z")) (codes "Z") [] (out (codes "o") 1) (tree.constant (pos 0 ∷ [])) []
    ∷ vertex (Named (codes "r")) (codes "R") (Of 0 0 ∷ Of 1 0 ∷ []) (port (codes "t") 1 ∷ port (codes "q") 2 ∷ [])
    (tree.repeat 2 (feed.Fork (codes "p") 0 2 ∷ feed.Iterate 1 0 ∷ []) (give.Last 0 ∷ give.Join (codes "q") 0 ∷ []))
    (vertex (Numbered 0) (codes "F") (Own 0 ∷ Own 1 ∷ []) (out (codes "y") 1) (tree.function (Rattle.algo_rules.specs.Expr.literal (pos 1) ∷ [])) [] ∷ []) ∷ []))
copies = refl

used_twice : read (repeated (codes "2") (codes "fork p x" ∷ codes "diffuse z x" ∷ [])) ≡ refused 11 BadRepeat
used_twice = refl

unequal_iterate : read (repeated (codes "2") (codes "iterate p x y z" ∷ [])) ≡ refused 10 BadRepeat
unequal_iterate = refl

unfed : read (repeated (codes "2") (codes "fork p x" ∷ [])) ≡ refused 9 BadRepeat
unfed = refl

too_long : read (repeated (codes "33") (codes "fork p x" ∷ codes "join y a" ∷ [])) ≡ Err (Limit (record { which = PortLength; count = 66; bound = 64 }))
too_long = refl

abbrev graph : Bytes → Bytes → List Bytes → List Bytes
graph name inner ls = (codes "graph " ++ name) ∷ (codes "ref r " ++ inner) ∷ codes "end" ∷ ls

-- nine definitions, one inside the other; the first by line is told
too_deep : read (codes "graph main" ∷ codes "end" ∷ graph (codes "B") (codes "C") (graph (codes "C") (codes "D") (graph (codes "D") (codes "E") (graph (codes "E") (codes "F")
    (graph (codes "F") (codes "G") (graph (codes "G") (codes "H") (graph (codes "H") (codes "I") (graph (codes "I") (codes "J") (codes "constant J = 1" ∷ [])))))))))
    ≡ Err (Limit (record { which = Depth; count = 9; bound = 8 }))
too_deep = refl
