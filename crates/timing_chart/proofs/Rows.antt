-- The lines of the charts of worked schedules.
use Rattle.std.proofs.Common.{◌≡◌, [], ◌∷◌, refl}
use Rattle.std.specs.Prelude.{codes}
use Rattle.std.specs.Fmt.{decimal}
use Rattle.schedule.proofs.Examples.{
  plain_graph,
  plain_archi,
  plain_schedule,
  bus_graph,
  bus_archi,
  bus_schedule,
  relay_archi,
  relay_schedule,
  multi_graph,
  multi_archi,
  multi_schedule,
  speed_graph,
  speed_archi,
  speed_schedule,
}
use Rattle.timing_chart.specs.Chart.{chart_lines}

plain_chart : chart_lines plain_graph plain_archi plain_schedule ≡ (codes "operator" ∷ codes "P" ∷ [])
    ∷ (decimal 0 ∷ decimal 1 ∷ codes "s" ∷ [])
    ∷ (decimal 1 ∷ decimal 3 ∷ codes "a" ∷ [])
    ∷ (codes "length" ∷ decimal 3 ∷ []) ∷ []
plain_chart = refl

bus_chart : chart_lines bus_graph bus_archi (bus_schedule 3 13) ≡ (codes "operator" ∷ codes "P" ∷ [])
    ∷ (decimal 0 ∷ decimal 1 ∷ codes "s" ∷ [])
    ∷ (decimal 1 ∷ decimal 11 ∷ codes "f" ∷ [])
    ∷ (decimal 11 ∷ decimal 12 ∷ codes "a" ∷ [])
    ∷ (codes "operator" ∷ codes "Q" ∷ [])
    ∷ (decimal 3 ∷ decimal 13 ∷ codes "g" ∷ [])
    ∷ (decimal 13 ∷ decimal 14 ∷ codes "b" ∷ [])
    ∷ (codes "medium" ∷ codes "m" ∷ [])
    ∷ (decimal 1 ∷ decimal 3 ∷ codes "s" ∷ decimal 0 ∷ codes "P" ∷ codes "Q" ∷ [])
    ∷ (codes "length" ∷ decimal 14 ∷ []) ∷ []
bus_chart = refl

relay_chart : chart_lines plain_graph relay_archi relay_schedule ≡ (codes "operator" ∷ codes "A" ∷ [])
    ∷ (decimal 0 ∷ decimal 1 ∷ codes "s" ∷ [])
    ∷ (codes "operator" ∷ codes "B" ∷ [])
    ∷ (codes "operator" ∷ codes "C" ∷ [])
    ∷ (decimal 5 ∷ decimal 6 ∷ codes "a" ∷ [])
    ∷ (codes "medium" ∷ codes "x" ∷ [])
    ∷ (decimal 1 ∷ decimal 3 ∷ codes "s" ∷ decimal 0 ∷ codes "A" ∷ codes "B" ∷ [])
    ∷ (codes "medium" ∷ codes "y" ∷ [])
    ∷ (decimal 3 ∷ decimal 5 ∷ codes "s" ∷ decimal 0 ∷ codes "B" ∷ codes "C" ∷ [])
    ∷ (codes "length" ∷ decimal 6 ∷ []) ∷ []
relay_chart = refl

multi_chart : chart_lines multi_graph multi_archi multi_schedule ≡ (codes "operator" ∷ codes "A" ∷ [])
    ∷ (decimal 0 ∷ decimal 1 ∷ codes "s" ∷ [])
    ∷ (codes "operator" ∷ codes "B" ∷ [])
    ∷ (decimal 3 ∷ decimal 4 ∷ codes "a" ∷ [])
    ∷ (codes "operator" ∷ codes "C" ∷ [])
    ∷ (decimal 0 ∷ decimal 1 ∷ codes "t" ∷ [])
    ∷ (codes "operator" ∷ codes "D" ∷ [])
    ∷ (decimal 5 ∷ decimal 6 ∷ codes "b" ∷ [])
    ∷ (codes "medium" ∷ codes "m" ∷ [])
    ∷ (decimal 1 ∷ decimal 3 ∷ codes "s" ∷ decimal 0 ∷ codes "A" ∷ codes "B" ∷ [])
    ∷ (decimal 3 ∷ decimal 5 ∷ codes "t" ∷ decimal 0 ∷ codes "C" ∷ codes "D" ∷ [])
    ∷ (codes "length" ∷ decimal 6 ∷ []) ∷ []
multi_chart = refl

speed_chart : chart_lines speed_graph speed_archi speed_schedule ≡ (codes "operator" ∷ codes "P" ∷ [])
    ∷ (decimal 0 ∷ decimal 2 ∷ codes "a" ∷ [])
    ∷ (decimal 2 ∷ decimal 4 ∷ codes "b" ∷ [])
    ∷ (decimal 18 ∷ decimal 21 ∷ codes "g" ∷ [])
    ∷ (decimal 21 ∷ decimal 22 ∷ codes "h" ∷ [])
    ∷ (decimal 22 ∷ decimal 23 ∷ codes "i" ∷ [])
    ∷ (decimal 23 ∷ decimal 24 ∷ codes "j" ∷ [])
    ∷ (decimal 24 ∷ decimal 25 ∷ codes "k" ∷ [])
    ∷ (decimal 25 ∷ decimal 25 ∷ codes "l" ∷ [])
    ∷ (decimal 25 ∷ decimal 27 ∷ codes "m" ∷ [])
    ∷ (codes "operator" ∷ codes "Q" ∷ [])
    ∷ (decimal 0 ∷ decimal 0 ∷ codes "c" ∷ [])
    ∷ (decimal 5 ∷ decimal 9 ∷ codes "e" ∷ [])
    ∷ (decimal 9 ∷ decimal 15 ∷ codes "f" ∷ [])
    ∷ (decimal 15 ∷ decimal 20 ∷ codes "n" ∷ [])
    ∷ (decimal 20 ∷ decimal 20 ∷ codes "d" ∷ [])
    ∷ (codes "medium" ∷ codes "c" ∷ [])
    ∷ (decimal 2 ∷ decimal 5 ∷ codes "a" ∷ decimal 0 ∷ codes "P" ∷ codes "Q" ∷ [])
    ∷ (decimal 15 ∷ decimal 18 ∷ codes "f" ∷ decimal 0 ∷ codes "Q" ∷ codes "P" ∷ [])
    ∷ (codes "length" ∷ decimal 27 ∷ []) ∷ []
speed_chart = refl
