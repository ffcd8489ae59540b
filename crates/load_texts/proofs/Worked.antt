-- Lines of loads, worked by hand.
use Rattle.std.proofs.Common.{◌≡◌, refl, codes, pos, negsuc}
use Rattle.std.specs.Fmt.{digits}
use Rattle.load_texts.specs.Architecture.{duration_line}
use Rattle.load_texts.specs.Algorithm.{layers_of, mix_reference, mix_edges, edges_from_layer}
use Rattle.load_texts.specs.Table.{next_state, value_of, row, rows, reactions_of}

layers_of_one : layers_of 1 ≡ 2
layers_of_one = refl

layers_of_seven : layers_of 7 ≡ 8
layers_of_seven = refl

layers_of_a_thousand : layers_of 1000 ≡ 1
layers_of_a_thousand = refl

a_reference : mix_reference 2 3 ≡ codes "ref f2_3 Mix\n"
unfolding digits
a_reference = refl

-- the first layer takes the sensor
into_the_first_layer : mix_edges 0 3 ≡ codes "edge s.o f1_3.x\nedge s.o f1_3.y\n"
unfolding digits
into_the_first_layer = refl

-- the output after the last one is the first one
into_the_second_layer : mix_edges 1 3 ≡ codes "edge f1_3.z f2_3.x\nedge f1_0.z f2_3.y\n"
unfolding digits
into_the_second_layer = refl

into_the_middle : mix_edges 1 1 ≡ codes "edge f1_1.z f2_1.x\nedge f1_2.z f2_1.y\n"
unfolding digits
into_the_middle = refl

from_the_last_layer : edges_from_layer 2 ≡ codes "edge f2_0.z g.x\nedge f2_1.z w.x\nedge f2_2.z r.x\n"
unfolding digits
from_the_last_layer = refl

a_duration : duration_line (codes "Mix") (codes "o3") (codes "10") ≡ codes "duration Mix o3 10\n"
a_duration = refl

first_state : next_state 1 ≡ 7806831264735756412
first_state = refl

first_value : value_of 7806831264735756412 ≡ negsuc 228
first_value = refl

third_value : value_of (next_state (next_state (next_state 1))) ≡ pos 165
third_value = refl

first_row : row 0 1 ≡ codes "0,-229,-62,165,-119\n"
unfolding digits
first_row = refl

first_rows : rows 1 2 ≡ codes "0,-229,-62,165,-119\n1,-102,-315,-7,53\n"
unfolding digits
first_rows = refl

how_many : reactions_of 7 ≡ 107
how_many = refl
