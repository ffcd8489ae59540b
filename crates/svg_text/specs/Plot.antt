-- The picture of what the actuators take.
use Rattle.std.specs.Prelude.{
  ℕ,
  suc,
  ◌+◌,
  ◌*◌,
  ◌/◌,
  ◌%◌,
  ℤ,
  pos,
  List,
  [],
  ◌∷◌,
  ◌++◌,
  length,
  max,
  min,
  codes,
  slice_index_or,
}
use Rattle.std.specs.Fmt.{decimal, signed_decimal}
use Rattle.std.specs.List.{flat_map, range_with_len}
use Rattle.syn_base.specs.Bytes.{Bytes}
use Rattle.syn_base.specs.Rows.{Reactions, element}
use Rattle.svg_text.specs.declared.scale.Scale.{Scale}
use Rattle.svg_text.specs.declared.shapes.Point.{Point}
use Rattle.svg_text.specs.declared.style.TheConstants.{END, END_GROUP}
use Rattle.svg_text.specs.Axis.{axis_text, longest}
use Rattle.svg_text.specs.Scale.{place, width_for}
use Rattle.svg_text.specs.Shapes.{aside_text, bar_end, group_text, head_text, point, words_end}
use Rattle.svg_text.specs.declared.range.Range.{Range}
use Rattle.svg_text.specs.Level.{level, range_of}

-- eight colours in turn
abbrev pub colour : ℕ → ℕ
colour j = j % 8 + 1

-- element j of vector a of a reaction
abbrev pub value_of : ℕ → ℕ → List (List ℤ) → ℤ
value_of a j row = slice_index_or (slice_index_or row a []) j (pos 0)

-- to the place of reaction k, and from there at the height of its value
unfoldable pub step_text : Scale → Range → ℕ → ℤ → Bytes
step_text scale r k v = codes "H" ++ (decimal (place scale k) ++ (codes "V" ++ decimal (level r v)))

module _ (scale : Scale) (r : Range) (a j : ℕ) where
  -- the steps of these reactions, of which the first has number k
  abbrev pub steps_text : ℕ → List (List (List ℤ)) → Bytes
  steps_text k [] = []
  steps_text k (row ∷ rows) = step_text scale r k (value_of a j row) ++ steps_text (suc k) rows

-- the beginning of the line of element j, at a height
unfoldable pub begin_text : ℕ → ℕ → Bytes
begin_text j y = codes "<path class=\"curve line" ++ (decimal (colour j) ++ (codes "\" d=\"M0 " ++ decimal y))

-- `NAME[j]`
unfoldable pub title_text : Bytes → ℕ → Bytes
title_text name j = name ++ (codes "[" ++ (decimal j ++ codes "]"))

-- to the end of the last reaction, and the title: the actuator and the element
unfoldable pub end_text : ℕ → Bytes → ℕ → Bytes
end_text width name j = codes "H" ++ (decimal width ++ (codes "\"><title>" ++ (title_text name j ++ bar_end)))

-- The line of an element: each value is held until the next reaction.
unfoldable pub curve_text : Scale → Range → Bytes → ℕ → ℕ → List (List (List ℤ)) → Bytes
curve_text scale r name a j rows =
    begin_text j (level r (element rows 0 a j)) ++
    (steps_text scale r a j 0 rows ++ end_text scale.width name j)

-- the number of an element below its panel, in its colour: 64 of them have room
unfoldable pub key_text : ℕ → Bytes
key_text j =
    codes "<text class=\"ink" ++
    (decimal (colour j) ++
    (codes "\" x=\"" ++ (decimal (16 * j) ++ (codes "\" y=\"134\">" ++ (decimal j ++ words_end)))))

-- The number of element j below the panel of actuator a, and the line of its values in these
-- reactions.
unfoldable pub element_text : Scale → Range → Bytes → ℕ → List (List (List ℤ)) → ℕ → Bytes
element_text scale r name a rows j = key_text j ++ curve_text scale r name a j rows

-- the top of the panel of actuator a; 65,536 of them count
abbrev pub top_of : ℕ → ℕ
top_of a = 160 * min a 65536

-- The ground of a panel, of this width and 120 units high.
unfoldable pub ground_text : ℕ → Bytes
ground_text width = codes "<path class=\"lane\" d=\"M0 0H" ++ (decimal width ++ codes "V120H0z\"/>\n")

-- its name, and its greatest and its least value
unfoldable pub name_text : Bytes → Bytes
name_text name = aside_text (codes "name") (codes "64") ++ (name ++ words_end)

-- A value as a number left of a panel, at this height.
unfoldable pub limit_text : Bytes → ℤ → Bytes
limit_text y v = aside_text (codes "value") y ++ (signed_decimal v ++ words_end)

-- The greatest value of a panel at its top and the least one at its bottom, both left of it.
unfoldable pub limits_text : Range → Bytes
limits_text r = limit_text (codes "10") r.high ++ limit_text (codes "120") r.low

-- the panel of an actuator, up to its lines
unfoldable pub panel_text : ℕ → Bytes → ℕ → Range → Bytes
panel_text width name a r =
    group_text (codes "actuator-") name (point 0 (top_of a)) ++ (ground_text width ++ (name_text name ++ limits_text r))

-- the panel of an actuator whose vectors have this length
unfoldable pub actuator_text : Scale → Bytes → ℕ → ℕ → List (List (List ℤ)) → Bytes
actuator_text scale name a len rows =
    panel_text scale.width name a (range_of a rows) ++
    (flat_map (element_text scale (range_of a rows) name a rows) (range_with_len 0 len) ++ END_GROUP.now)

-- the panels of actuators whose names these are, of which the first has number a
abbrev pub actuators_text : Scale → Reactions → ℕ → List Bytes → Bytes
actuators_text scale rows a [] = []
actuators_text scale rows a (name ∷ names) =
    actuator_text scale name a (slice_index_or rows.lens a 0) rows.reactions ++
    actuators_text scale rows (suc a) names

-- a thousand units, and a thousand more for each 1,024 reactions
abbrev pub scale_of : ℕ → Scale
scale_of n = record { width = width_for (n / 8); length = n }

-- the space left of the panels, for names and values
abbrev pub margin : List Bytes → ℕ
margin names = 20 + 7 * min 32 (max 20 (longest names))

-- The width and the height of the picture of the actuators of these names, in units.
abbrev pub size_of : List Bytes → Scale → Point
size_of names scale = point (margin names + scale.width + 24) (top_of (length names) + 44)

-- The beginning of the picture, and of the group of all its panels.
unfoldable pub head_of : List Bytes → Scale → Bytes
head_of names scale = head_text (size_of names scale) ++ group_text (codes "plot") [] (point (margin names) 44)

-- the picture on a scale
unfoldable pub plot_on : Scale → List Bytes → Reactions → Bytes
plot_on scale names rows =
    head_of names scale ++
    (axis_text (codes "reactions ") scale (top_of (length names)) ++
    (actuators_text scale rows 0 names ++ (END_GROUP.now ++ END.now)))

-- the picture of what the actuators of these names take
abbrev pub plot : List Bytes → Reactions → Bytes
plot names rows = plot_on (scale_of (length rows.reactions)) names rows
