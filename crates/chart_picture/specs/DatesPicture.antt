-- The dates of a schedule's reactions as a picture.
use Rattle.std.specs.Prelude.{ℕ, zero, suc, ◌+◌, ◌-◌, ◌*◌, ◌^◌, List, [], ◌∷◌, ◌++◌, length, min, codes}
use Rattle.std.specs.Fmt.{decimal}
use Rattle.std.specs.List.{flat_map, range_with_len}
use Rattle.syn_base.specs.Bytes.{Bytes}
use Rattle.self_timed.specs.Graph.{Graph}
use Rattle.self_timed.specs.declared.Medium.{Medium}
use Rattle.self_timed.specs.Archi.{Architecture}
use Rattle.self_timed.specs.declared.Schedule.{Schedule}
use Rattle.self_timed.specs.Acts.{Act, acts, length_of}
use Rattle.self_timed.specs.declared.dates.Span.{Span}
use Rattle.self_timed.specs.Running.{span}
use Rattle.self_timed.specs.Told.{start_at, end_at}
use Rattle.dates_text.specs.Listing.{Dated, dated_from}
use Rattle.svg_text.specs.declared.scale.Scale.{Scale}
use Rattle.svg_text.specs.declared.style.TheConstants.{END, END_GROUP}
use Rattle.svg_text.specs.Scale.{place, width_for}
use Rattle.svg_text.specs.Axis.{axis_text}
use Rattle.svg_text.specs.Shapes.{
  bar_end,
  group_text,
  line_text,
  point,
  shade_text,
  tile_text,
  words_end,
  words_text,
}
use Rattle.chart_picture.specs.Arrows.{lane_of}
use Rattle.chart_picture.specs.Bars.{title_of}
use Rattle.chart_picture.specs.Frame.{height_of_lanes, lane_text}
use Rattle.chart_picture.specs.Picture.{begin_text}
use Rattle.chart_picture.specs.declared.board.TheConstants.{NOTE}

-- The date at which so many reactions would end if the chart were repeated, one after another, as far as dates have
-- 64 bits.
abbrev pub repeated : ℕ → ℕ → ℕ
repeated k ticks = min (k * ticks) (2 ^ 64 - 1)

-- as many charts of these ticks, one after another, take the width that is given for their operations
abbrev pub scale_for : Graph → ℕ → ℕ → Scale
scale_for g n ticks = record {
  width = width_for (min (n * length g.vertices) (2 ^ 64 - 1));
  length = repeated n ticks;
}

-- `reaction K, `
unfoldable pub number_text : ℕ → Bytes
number_text k = codes "reaction " ++ (decimal k ++ codes ", ")

module _ (g : Graph) (a : Architecture) (scale : Scale) where
  -- an act of a reaction, in its lane
  unfoldable pub dated_text : Dated → Bytes
  dated_text d =
      tile_text (place scale d.when.start) (place scale d.when.end) (36 * lane_of (length a.operators) d.act + 6) ++
      (number_text d.reaction ++ (title_of g a d.when.start d.when.end d.act ++ bar_end))

  -- The tiles of these acts at their dates, in their order.
  abbrev pub tiles_text : List Dated → Bytes
  tiles_text ds = flat_map dated_text ds

  -- a reaction, in its shade
  unfoldable pub reaction_text : ℕ → List Dated → Bytes
  reaction_text k ds = shade_text (codes "reaction-") k ++ (tiles_text ds ++ END_GROUP.now)

  -- Act i of reaction k, which is x, takes `when k i x`: this many reactions, in their order.
  abbrev pub reactions_text : (ℕ → ℕ → Act → Span) → ℕ → List Act → Bytes
  reactions_text when zero xs = []
  reactions_text when (suc k) xs = reactions_text when k xs ++ reaction_text k (dated_from when k 0 xs)

-- a lane with no bars
unfoldable pub ground_text : ℕ → Bytes → Bytes → Bytes → ℕ → Bytes
ground_text width class word name k = lane_text width class word name k ++ END_GROUP.now

-- the lanes of operators whose names these are, of which the first has number o
abbrev pub operator_lanes : ℕ → ℕ → List Bytes → Bytes
operator_lanes width o [] = []
operator_lanes width o (name ∷ names) =
    ground_text width (codes "lane") (codes "operator-") name o ++ operator_lanes width (suc o) names

-- the lanes of media, of which the first has this number
abbrev pub medium_lanes : ℕ → ℕ → List Medium → Bytes
medium_lanes width k [] = []
medium_lanes width k (x ∷ media) =
    ground_text width (codes "medium") (codes "medium-") x.name k ++ medium_lanes width (suc k) media

-- a line where one more repetition of the chart would end
unfoldable pub repeat_text : Scale → ℕ → ℕ → ℕ → Bytes
repeat_text scale height ticks k = line_text (codes "end") (point (place scale (repeated (k + 1) ticks)) 0) height

-- The group of n vertical lines of this height, one for each date at which a repetition of the
-- chart would end, if the chart takes these ticks.
unfoldable pub repeats_text : Scale → ℕ → ℕ → ℕ → Bytes
repeats_text scale height ticks n =
    group_text (codes "repetitions") [] (point 0 0) ++
    (flat_map (repeat_text scale height ticks) (range_with_len 0 n) ++ END_GROUP.now)

-- what the lines and the shades mean, below the lanes
unfoldable pub note_words : ℕ → Bytes
note_words ticks = words_text (codes "note") 0 (codes "10") ++ (NOTE.now ++ (decimal ticks ++ words_end))

-- The group below the lanes with the note on the lines and the shades, which also has the ticks of
-- the chart.
unfoldable pub note_text : Architecture → ℕ → Bytes
note_text a ticks =
    group_text (codes "note") [] (point 0 (height_of_lanes a + 14)) ++ (note_words ticks ++ END_GROUP.now)

-- the lanes of all operators, and then those of all media
unfoldable pub lanes_text : Architecture → ℕ → Bytes
lanes_text a width = operator_lanes width 0 a.operators ++ medium_lanes width (length a.operators) a.media

-- lanes, axis and repetitions
unfoldable pub board_text : Architecture → Scale → ℕ → ℕ → Bytes
board_text a scale ticks n =
    lanes_text a scale.width ++
    (axis_text (codes "chart repeated: ") scale (height_of_lanes a) ++ repeats_text scale (height_of_lanes a) ticks n)

module _ (g : Graph) (a : Architecture) (s : Schedule) where
  -- the picture of this many reactions
  unfoldable pub dated_picture : (ℕ → ℕ → Act → Span) → ℕ → Bytes
  dated_picture when n =
      let scale = scale_for g n (length_of s) in
      begin_text a scale ++
      (board_text a scale (length_of s) n ++
      (reactions_text g a scale when n (acts s) ++ (note_text a (length_of s) ++ (END_GROUP.now ++ END.now))))

  -- The picture of dates in which the acts of each reaction last these ticks and wait only for what
  -- must precede them.
  abbrev pub dates_picture : List (List ℕ) → Bytes
  dates_picture ticks =
      dated_picture (λ k i x. span (start_at a.depth g s ticks k i x) (end_at a.depth g s ticks k i)) (length ticks)
