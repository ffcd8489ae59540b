-- The architecture of a load: four operators on two media, the same for every load.
use Rattle.std.specs.Prelude.{List, [], ◌∷◌, ◌++◌, codes}
use Rattle.syn_base.specs.Bytes.{Bytes}
use Rattle.load_texts.specs.Lines.{lines_text}

-- operators o0 to o3; `b0` joins o0, o1 and o2, `b1` joins o2 and o3
abbrev pub graph_lines : List Bytes
graph_lines =
    codes "architecture 1"
    ∷ codes "operator o0"
    ∷ codes "operator o1"
    ∷ codes "operator o2"
    ∷ codes "operator o3"
    ∷ codes "medium b0 multi 2 1"
    ∷ codes "medium b1 multi 2 1"
    ∷ codes "connect b0 o0"
    ∷ codes "connect b0 o1"
    ∷ codes "connect b0 o2"
    ∷ codes "connect b1 o2"
    ∷ codes "connect b1 o3"
    ∷ []

-- the sensor runs on o0 and the actuators on o3
abbrev pub end_durations : List Bytes
end_durations =
    codes "duration Src o0 1"
    ∷ codes "duration Dst o3 1"
    ∷ []

-- the line of a definition that lasts this many ticks on an operator
abbrev pub duration_line : Bytes → Bytes → Bytes → Bytes
duration_line name operator ticks =
    codes "duration " ++ (name ++ (codes " " ++ (operator ++ (codes " " ++ (ticks ++ codes "\n")))))

-- The lines that give an operation these ticks on each of the four operators.
abbrev pub durations_everywhere : Bytes → Bytes → Bytes
durations_everywhere name ticks =
    duration_line name (codes "o0") ticks
    ++ (duration_line name (codes "o1") ticks
    ++ (duration_line name (codes "o2") ticks ++ duration_line name (codes "o3") ticks))

-- the functions that last one tick
abbrev pub short_durations : Bytes
short_durations =
    durations_everywhere (codes "Bit") (codes "1")
    ++ (durations_everywhere (codes "Same") (codes "1")
    ++ (durations_everywhere (codes "Flip") (codes "1") ++ durations_everywhere (codes "Acc") (codes "1")))

-- The text of the architecture, which is the same for every load.
abbrev pub architecture_text : Bytes
architecture_text =
    lines_text graph_lines
    ++ (lines_text end_durations ++ (durations_everywhere (codes "Mix") (codes "10") ++ short_durations))
