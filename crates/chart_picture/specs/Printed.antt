-- The picture entry by entry, as it is drawn.
use Rattle.std.specs.Prelude.{ℕ, zero, suc, List, [], ◌++◌, length}
use Rattle.syn_base.specs.Bytes.{Bytes}
use Rattle.self_timed.specs.Graph.{Graph}
use Rattle.self_timed.specs.Archi.{Architecture}
use Rattle.self_timed.specs.Acts.{Act}
use Rattle.self_timed.specs.declared.dates.Span.{Span}
use Rattle.self_timed.specs.Told.{reaction_at}
use Rattle.dates_text.specs.Printed.{dated_by}
use Rattle.svg_text.specs.declared.scale.Scale.{Scale}
use Rattle.svg_text.specs.declared.style.TheConstants.{END, END_GROUP}
use Rattle.chart_picture.specs.Picture.{begin_text}
use Rattle.chart_picture.specs.DatesPicture.{board_text, note_text, reaction_text}

-- reaction k of these, where the transfers' entries come after those of the operations
abbrev pub drawn_reaction : Graph → Architecture → Scale → List (List Span) → List Act → ℕ → Bytes
drawn_reaction g a scale reactions xs k =
    reaction_text g a scale k (dated_by k (reaction_at reactions k) (length g.vertices) xs)

-- this many of them
abbrev pub drawn_up_to : Graph → Architecture → Scale → List (List Span) → List Act → ℕ → Bytes
drawn_up_to g a scale reactions xs zero = []
drawn_up_to g a scale reactions xs (suc k) =
    drawn_up_to g a scale reactions xs k ++ drawn_reaction g a scale reactions xs k

-- the picture of all of them, on a scale, beside the chart of these ticks
unfoldable pub drawn_picture : Graph → Architecture → Scale → ℕ → List (List Span) → List Act → Bytes
drawn_picture g a scale ticks reactions xs =
    begin_text a scale ++
    (board_text a scale ticks (length reactions) ++
    (drawn_up_to g a scale reactions xs (length reactions) ++ (note_text a ticks ++ (END_GROUP.now ++ END.now))))
