-- The statements of worked graphs.
use Rattle.std.proofs.Common.{◌≡◌, [], ◌∷◌, Some, None, refl}
use Rattle.std.specs.Prelude.{codes}
use Rattle.schedule.specs.declared.Kind.TheVariants.{Sensor, Actuator, Get, Set}
use Rattle.schedule.proofs.Examples.{source, vertex, operation as worked, plain_graph, speed_schedule, relay_schedule}
use Rattle.graph_drawing.specs.Colours.{fill_of, stroke_of}
use Rattle.graph_drawing.specs.FlatDrawing.{operator_of, medium_for}
use Rattle.graph_drawing.specs.Statements.{operation, input, keeps, keeping, statements_of, statements_from}

-- a sensor and an actuator
plain_row : statements_from 0 plain_graph.vertices ≡ operation 0 (vertex 115 (Sensor 0) [] (1 ∷ [])) ∷ operation 1 (vertex 97 (Actuator 0) (source 0 ∷ []) []) ∷ input 1 0 (source 0) ∷ []
unfolding keeping
plain_row = refl

-- the set half of a delay leads back to its get half, which does not lead there
set_row : statements_of 3 (worked 100 Set [] (source 4 ∷ []) [] (Some 2)) ≡ operation 3 (worked 100 Set [] (source 4 ∷ []) [] (Some 2)) ∷ input 3 0 (source 4) ∷ keeps 3 2 ∷ []
unfolding keeping
set_row = refl

get_row : statements_of 2 (worked 99 (Get []) [] [] (8 ∷ []) (Some 3)) ≡ operation 2 (worked 99 (Get []) [] [] (8 ∷ []) (Some 3)) ∷ []
unfolding keeping
get_row = refl

-- the operation 4 runs on operator 1, to which its second input comes over the medium 0, and the operation 3 on the same
placed_row : operator_of speed_schedule.decisions 4 ≡ Some 1
placed_row = refl

medium_row : medium_for speed_schedule.decisions 4 (source 0) ≡ Some 0
medium_row = refl

local_row : medium_for speed_schedule.decisions 3 (source 4) ≡ None
local_row = refl

-- of a value that goes over two media, the one over which it comes to its reader
relay_row : medium_for relay_schedule.decisions 1 (source 0) ≡ Some 1
relay_row = refl

colour_row : fill_of 1 ≡ codes "#ee8866"
unfolding fill_of
colour_row = refl

last_colour_row : stroke_of 31 ≡ codes "#228833"
unfolding stroke_of
last_colour_row = refl
