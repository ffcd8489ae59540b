-- The frame of a chart: its sides, and a lane for each operator and each medium.
use Rattle.std.specs.Prelude.{ℕ, ◌+◌, ◌*◌, ◌++◌, length, map, max, min, codes}
use Rattle.std.specs.Fmt.{decimal}
use Rattle.syn_base.specs.Bytes.{Bytes}
use Rattle.self_timed.specs.Archi.{Architecture}
use Rattle.svg_text.specs.declared.scale.Scale.{Scale}
use Rattle.svg_text.specs.declared.shapes.Point.{Point}
use Rattle.svg_text.specs.Axis.{longest}
use Rattle.svg_text.specs.Shapes.{aside_text, class_text, group_text, point, words_end}

-- the space for the names, left of the lanes
abbrev pub margin : Architecture → ℕ
margin a = 20 + 7 * min 32 (max (longest a.operators) (longest (map (λ m. m.name) a.media)))

-- The height of all lanes together, 36 units for each operator and each medium.
abbrev pub height_of_lanes : Architecture → ℕ
height_of_lanes a = 36 * (length a.operators + length a.media)

-- the sides of the picture
abbrev pub size_of : Architecture → Scale → Point
size_of a scale = point (margin a + scale.width + 24) (height_of_lanes a + 88)

-- the ground of a lane, and its name
unfoldable pub ground_text : Bytes → ℕ → Bytes
ground_text class width =
    codes "<path" ++ (class_text class ++ (codes " d=\"M0 2H" ++ (decimal width ++ codes "V34H0z\"/>\n")))

-- The name of a lane, as a text left of the lane.
unfoldable pub name_text : Bytes → Bytes
name_text name = aside_text (codes "name") (codes "22") ++ (name ++ words_end)

-- the lane of this number, up to its bars; its identifier is a word and its name
unfoldable pub lane_text : ℕ → Bytes → Bytes → Bytes → ℕ → Bytes
lane_text width class word name k =
    group_text word name (point 0 (36 * k)) ++ (ground_text class width ++ name_text name)
