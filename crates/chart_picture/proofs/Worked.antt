-- The bars and arrows of worked schedules.
use Rattle.std.proofs.Common.{◌≡◌, [], ◌∷◌, ◌++◌, refl}
use Rattle.std.specs.Prelude.{codes}
use Rattle.std.specs.Fmt.{decimal}
use Rattle.std.specs.List.{flat_map}
use Rattle.self_timed.specs.Acts.{acts, is_on, is_over}
use Rattle.self_timed.proofs.Examples.{
  plain_graph,
  plain_archi,
  plain_schedule,
  bus_graph,
  bus_archi,
  bus_schedule,
  relay_archi,
  relay_schedule,
}
use Rattle.svg_text.specs.Shapes.{arrow_text, point}
use Rattle.chart_picture.specs.Arrows.{link_text, links_from}
use Rattle.chart_picture.specs.Bars.{bars_of, dates_text, title_of, way_text}
use Rattle.chart_picture.specs.Frame.{margin, size_of}
use Rattle.chart_picture.specs.Picture.{scale_of}

-- a sensor from 0 to 1, and an actuator from 1 to 3
plain_bars : bars_of plain_graph plain_archi (scale_of plain_graph plain_schedule) (is_on 0) (acts plain_schedule) ≡ record {
  class = codes "sensor";
  left = 0;
  right = 333;
  title = codes "s" ++ ((codes ": " ++ (decimal 0 ++ (codes " to " ++ decimal 1))) ++ (codes " on " ++ codes "P"));
  label = codes "s";
} ∷ record {
  class = codes "actuator";
  left = 333;
  right = 1000;
  title = codes "a" ++ ((codes ": " ++ (decimal 1 ++ (codes " to " ++ decimal 3))) ++ (codes " on " ++ codes "P"));
  label = codes "a";
} ∷ []
unfolding title_of dates_text
plain_bars = refl

-- one lane: the name takes 27, and the axis and the legend 88
plain_size : size_of plain_archi (scale_of plain_graph plain_schedule) ≡ point 1051 124
plain_size = refl

-- the only transfer, from 1 to 3 of 14
bus_bars : bars_of bus_graph bus_archi (scale_of bus_graph (bus_schedule 3 13)) (is_over 0) (acts (bus_schedule 3 13)) ≡ record {
  class = codes "transfer";
  left = 71;
  right = 214;
  title = codes "s" ++ (codes ", output " ++ (decimal 0 ++ ((codes ": " ++ (decimal 1 ++ (codes " to " ++ decimal 3)))
      ++ (codes " over " ++ (codes "m" ++ (codes ", " ++ (codes "P" ++ (codes " to " ++ codes "Q"))))))));
  label = codes "s";
} ∷ []
unfolding title_of dates_text way_text
bus_bars = refl

-- it stands in the third lane, and the function that reads it above it in the second
bus_arrows : flat_map (links_from bus_graph.vertices 2 (scale_of bus_graph (bus_schedule 3 13)) (acts (bus_schedule 3 13))) (acts (bus_schedule 3 13))
    ≡ (arrow_text (point 214 78) (point 214 66) ++ []) ++ []
unfolding link_text
bus_arrows = refl

-- The first hop stands in the fourth lane, the second one in the fifth, and the actuator in the third.
relay_arrows : flat_map (links_from plain_graph.vertices 3 (scale_of plain_graph relay_schedule) (acts relay_schedule)) (acts relay_schedule)
    ≡ (arrow_text (point 500 138) (point 500 150) ++ []) ++ ((arrow_text (point 833 150) (point 833 102) ++ []) ++ [])
unfolding link_text
relay_arrows = refl

relay_margin : margin relay_archi ≡ 27
relay_margin = refl
