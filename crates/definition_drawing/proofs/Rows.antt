-- Worked definitions and their drawings.
use Rattle.std.proofs.Common.{◌≡◌, [], ◌∷◌, ◌++◌, Some, None, refl}
use Rattle.std.specs.Prelude.{codes}
use Rattle.std.specs.Fmt.{decimal}
use Rattle.algo_text.specs.declared.definition.Body.TheVariants.{Sensor, Delay}
use Rattle.algo_text.specs.declared.definition.Frontier.TheVariants.{Iterate}
use Rattle.definition_drawing.specs.Words.{word_text}
use Rattle.definition_drawing.specs.Drawing.{in_id, out_id, ref_id, rest_id, single_head, body_text, reference_text, link_text, frontier_text}

-- a sensor, with its length
sensor_row : body_text [] (codes "Speed") (Sensor 3) ≡ codes "    \"Speed\" [label=\"sensor Speed\\no " ++ ((decimal 3 ++ codes "\",shape=ellipse") ++ codes "];\n")
unfolding word_text in_id out_id ref_id rest_id single_head
sensor_row = refl

-- a reference with a mark, which is no delay
reference_row : reference_text (record { name = codes "D"; line = 1; body = Delay 2 [] } ∷ []) (codes "main") (record { name = codes "r"; def = codes "E"; every = Some 4; line = 7 })
    ≡ codes "    \"main.ref.r\" [label=\"r\\nE\\nevery " ++ ((decimal 4 ++ codes "\"") ++ codes "];\n")
unfolding word_text in_id out_id ref_id rest_id single_head
reference_row = refl

-- a reference to a delay
delay_row : reference_text (record { name = codes "D"; line = 1; body = Delay 2 [] } ∷ []) (codes "main") (record { name = codes "r"; def = codes "D"; every = None; line = 7 })
    ≡ codes "    \"main.ref.r\" [label=\"r\\nD\",style=\"filled,dashed\"];\n"
unfolding word_text in_id out_id ref_id rest_id single_head
delay_row = refl

-- an edge from an input of the graph to a port of a reference, and one from there to an output
edge_row : link_text (codes "G") (record { from = record { owner = None; port = codes "x" }; to = record { owner = Some (codes "f"); port = codes "a" }; line = 3 })
    ≡ codes "    \"G.in.x\" -> \"G.ref.f\" [taillabel=\"x\",headlabel=\"a\"];\n"
unfolding word_text in_id out_id ref_id rest_id single_head
edge_row = refl

back_row : link_text (codes "G") (record { from = record { owner = Some (codes "f"); port = codes "b" }; to = record { owner = None; port = codes "y" }; line = 4 })
    ≡ codes "    \"G.ref.f\" -> \"G.out.y\" [taillabel=\"b\",headlabel=\"y\"];\n"
unfolding word_text in_id out_id ref_id rest_id single_head
back_row = refl

-- what is iterated goes to the copies and comes back
iterate_row : frontier_text (codes "R") (Iterate (codes "p") (codes "x") (codes "y") (codes "q"))
    ≡ codes "    \"R.in.p\" [label=\"p\",shape=cds];\n    \"R.in.p\" -> \"R.rest\" [label=\"iterate\",headlabel=\"x\"];\n    \"R.out.q\" [label=\"q\",shape=cds];\n    \"R.rest\" -> \"R.out.q\" [label=\"iterate\",taillabel=\"y\"];\n"
unfolding word_text in_id out_id ref_id rest_id single_head
iterate_row = refl
