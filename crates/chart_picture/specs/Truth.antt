-- That a picture tells the truth.
use Rattle.std.specs.Prelude.{
  ◌≡◌,
  ℕ,
  suc,
  ◌+◌,
  ◌≤◌,
  ◌<◌,
  Bool,
  ◌||◌,
  ◌==◌,
  not,
  IsTrue,
  List,
  [],
  ◌∷◌,
  ◌++◌,
  All,
  Option,
}
use Rattle.std.specs.List.{count_by, filter}
use Rattle.syn_base.specs.Bytes.{Bytes}
use Rattle.syn_base.specs.Name.{is_name}
use Rattle.self_timed.specs.declared.Vertex.{Vertex}
use Rattle.self_timed.specs.Graph.{Graph, operation_name}
use Rattle.self_timed.specs.FlatValid.{is_flat}
use Rattle.self_timed.specs.Archi.{Architecture}
use Rattle.self_timed.specs.declared.Schedule.{Schedule}
use Rattle.self_timed.specs.declared.Transfer.{Transfer}
use Rattle.self_timed.specs.Acts.{Act, carry, acts, is_over, is_on, start_of, end_of, length_of}
use Rattle.self_timed.specs.Tight.{reads_from}
use Rattle.self_timed.specs.ScheduleValid.{is_valid}
use Rattle.svg_text.specs.declared.scale.Scale.{Scale}
use Rattle.svg_text.specs.Scale.{place}
use Rattle.chart_picture.specs.Arrows.{takes}
use Rattle.chart_picture.specs.Bars.{Bar, bars_of}

-- the acts of lanes, lane by lane, of which the first has number n: of operators or of media
abbrev pub lane_acts : {A : Type 0} → (ℕ → Act → Bool) → List Act → ℕ → List A → List Act
lane_acts lane xs n [] = []
lane_acts lane xs n (x ∷ more) = filter (lane n) xs ++ lane_acts lane xs (suc n) more

-- the acts that have a bar, in the order of the bars
abbrev pub charted : Architecture → List Act → List Act
charted a xs = lane_acts is_on xs 0 a.operators ++ lane_acts is_over xs 0 a.media

-- Every operation and every transfer of a valid schedule has exactly one bar, and every bar is that of one: whatever is
-- asked of them, as many bars as acts pass.
abbrev pub EachHasOneBar : Type 0
EachHasOneBar = (g : Graph) (a : Architecture) (ticks : ℕ → ℕ → Option ℕ) (s : Schedule) (test : Act → Bool)
    → IsTrue (is_valid g a ticks s) → count_by test (charted a (acts s)) ≡ count_by test (acts s)

-- no bar is left of where it begins, and each ends before all those after it begin
abbrev pub AreApart : List Bar → Type 0
AreApart [] = Unit {0}
AreApart (b ∷ bs) = (b.left ≤ b.right) × All (λ (c : Bar). b.right ≤ c.left) bs × AreApart bs

-- The bars of each operator and of each medium stand in order, and do not overlap.
abbrev pub LanesAreInOrder : Type 0
LanesAreInOrder = (g : Graph) (a : Architecture) (ticks : ℕ → ℕ → Option ℕ) (s : Schedule) (scale : Scale) (n : ℕ)
    → IsTrue (is_valid g a ticks s)
    → AreApart (bars_of g a scale (is_on n) (acts s)) × AreApart (bars_of g a scale (is_over n) (acts s))

-- Where the length is at most the width, whatever lasts has a bar that is seen.
abbrev pub WhatLastsIsSeen : Type 0
WhatLastsIsSeen = (scale : Scale) (start end : ℕ)
    → scale.length ≤ scale.width → start < end → end ≤ scale.length → place scale start < place scale end

-- an arrow leads from a transfer to exactly those acts that read what it makes
abbrev pub WhoTakesReads : Type 0
WhoTakesReads = (vertices : List Vertex) (t : Transfer) (x : Act)
    → takes vertices t x ≡ reads_from vertices x (carry t)

-- the byte stands for itself in a text and in an attribute: it is none of `"`, `&`, `'`, `<` and `>`
abbrev pub is_bare : ℕ → Bool
is_bare b = not ((b == 34) || (b == 38) || (b == 39) || (b == 60) || (b == 62))

-- The names of operations, and those of operators and media, need no escape.
abbrev pub NamesNeedNoEscape : Type 0
NamesNeedNoEscape =
    ((g : Graph) (v : ℕ) → IsTrue (is_flat g) → All (λ b. IsTrue (is_bare b)) (operation_name g.vertices v))
    × ((name : Bytes) → IsTrue (is_name name) → All (λ b. IsTrue (is_bare b)) name)
