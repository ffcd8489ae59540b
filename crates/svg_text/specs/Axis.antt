-- The axis of a picture.
use Rattle.std.specs.Prelude.{ℕ, ◌+◌, ◌*◌, List, [], ◌∷◌, ◌++◌, length, max, codes}
use Rattle.std.specs.Fmt.{decimal}
use Rattle.std.specs.List.{flat_map, range_with_len}
use Rattle.syn_base.specs.Bytes.{Bytes}
use Rattle.svg_text.specs.declared.scale.Scale.{Scale}
use Rattle.svg_text.specs.declared.style.TheConstants.{END_GROUP}
use Rattle.svg_text.specs.Scale.{place, step_of, steps_of}
use Rattle.svg_text.specs.Shapes.{group_text, line_text, point, words_end, words_text}

-- the bytes of the longest of these names
abbrev pub longest : List Bytes → ℕ
longest [] = 0
longest (name ∷ names) = max (length name) (longest names)

-- a date at the axis: a line down from it, and the date in words
unfoldable pub date_text : Scale → ℕ → ℕ → Bytes
date_text scale height date =
    line_text (codes "grid") (point (place scale date) 0) height ++
    (words_text (codes "tick") (place scale date) (codes "-8") ++ (decimal date ++ words_end))

-- the date after this many others beside 0
abbrev pub tick_text : Scale → ℕ → ℕ → Bytes
tick_text scale height k = date_text scale height ((k + 1) * step_of scale)

-- 0, and all other dates at the axis
unfoldable pub ticks_text : Scale → ℕ → Bytes
ticks_text scale height =
    date_text scale height 0 ++ flat_map (tick_text scale height) (range_with_len 0 (steps_of scale))

-- where all ends
unfoldable pub end_text : Bytes → Scale → ℕ → Bytes
end_text word scale height =
    line_text (codes "end") (point scale.width 0) height ++
    (words_text (codes "length") scale.width (codes "-26") ++ (word ++ (decimal scale.length ++ words_end)))

-- The group of the axis: a line down through all lanes and a date for 0 and for each step, and at
-- the right end one with this word and the length of all.
unfoldable pub axis_text : Bytes → Scale → ℕ → Bytes
axis_text word scale height =
    group_text (codes "axis") [] (point 0 0) ++
    (ticks_text scale height ++ (end_text word scale height ++ END_GROUP.now))
