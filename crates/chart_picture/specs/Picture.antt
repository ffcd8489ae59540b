-- The chart of a schedule as a picture.
use Rattle.std.specs.Prelude.{ℕ, suc, ◌+◌, Bool, List, [], ◌∷◌, ◌++◌, length, codes}
use Rattle.syn_base.specs.Bytes.{Bytes}
use Rattle.self_timed.specs.Graph.{Graph}
use Rattle.self_timed.specs.declared.Medium.{Medium}
use Rattle.self_timed.specs.Archi.{Architecture}
use Rattle.self_timed.specs.declared.Schedule.{Schedule}
use Rattle.self_timed.specs.Acts.{Act, acts, is_over, is_on, length_of}
use Rattle.svg_text.specs.declared.scale.Scale.{Scale}
use Rattle.svg_text.specs.declared.style.TheConstants.{END, END_GROUP, LEGEND}
use Rattle.svg_text.specs.Scale.{width_for}
use Rattle.svg_text.specs.Axis.{axis_text}
use Rattle.svg_text.specs.Shapes.{group_text, head_text, point}
use Rattle.chart_picture.specs.Arrows.{arrows_text}
use Rattle.chart_picture.specs.Bars.{bars_text}
use Rattle.chart_picture.specs.Frame.{height_of_lanes, lane_text, margin, size_of}

-- the length of the schedule takes the width that is given for the operations
abbrev pub scale_of : Graph → Schedule → Scale
scale_of g s = record { width = width_for (length g.vertices); length = length_of s }

module _ (g : Graph) (a : Architecture) (scale : Scale) where
  -- a lane and the bars of the acts that pass
  unfoldable pub lane_part : Bytes → Bytes → Bytes → ℕ → (Act → Bool) → List Act → Bytes
  lane_part class word name k test xs =
      lane_text scale.width class word name k ++ (bars_text g a scale test xs ++ END_GROUP.now)

  -- operators whose names these are, of which the first has number o
  abbrev pub operator_lanes : List Act → ℕ → List Bytes → Bytes
  operator_lanes xs o [] = []
  operator_lanes xs o (name ∷ names) =
      lane_part (codes "lane") (codes "operator-") name o (is_on o) xs ++ operator_lanes xs (suc o) names

  -- media, of which the first has number m
  abbrev pub medium_lanes : List Act → ℕ → List Medium → Bytes
  medium_lanes xs m [] = []
  medium_lanes xs m (x ∷ media) =
      lane_part (codes "medium") (codes "medium-") x.name (length a.operators + m) (is_over m) xs ++
      medium_lanes xs (suc m) media

  -- the lanes of all operators, and then those of all media
  unfoldable pub lanes_text : List Act → Bytes
  lanes_text xs = operator_lanes xs 0 a.operators ++ medium_lanes xs 0 a.media

  -- what stands inside the group of the whole chart
  unfoldable pub plot_text : List Act → Bytes
  plot_text xs =
      axis_text (codes "length ") scale (height_of_lanes a) ++
      (lanes_text xs ++ arrows_text g.vertices (length a.operators) scale xs)

-- what the colours mean, below the lanes
unfoldable pub legend_text : Architecture → Bytes
legend_text a = group_text (codes "legend") [] (point 0 (height_of_lanes a + 14)) ++ (LEGEND.now ++ END_GROUP.now)

-- the beginning of the picture, and of the group of the whole chart
unfoldable pub begin_text : Architecture → Scale → Bytes
begin_text a scale = head_text (size_of a scale) ++ group_text (codes "chart") [] (point (margin a) 44)

-- The text of a whole picture of these acts at a scale: its head, the chart with its axis, lanes
-- and arrows, and the legend below.
unfoldable pub whole_text : Graph → Architecture → Scale → List Act → Bytes
whole_text g a scale xs =
    begin_text a scale ++ (plot_text g a scale xs ++ (legend_text a ++ (END_GROUP.now ++ END.now)))

-- the picture of the chart of a schedule
abbrev pub picture : Graph → Architecture → Schedule → Bytes
picture g a s = whole_text g a (scale_of g s) (acts s)
