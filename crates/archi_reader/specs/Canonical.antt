-- The canonical text of an architecture and its durations, of a version.
use Rattle.std.specs.Prelude.{ℕ, ◌==◌, if◌then◌else◌, List, [], ◌∷◌, ◌++◌, map, codes}
use Rattle.std.specs.List.{flat_map}
use Rattle.archi_defs.specs.declared.Medium.{Medium}
use Rattle.archi_defs.specs.declared.MediumKind.{MediumKind}
use Rattle.archi_defs.specs.declared.MediumKind.TheVariants.{Multipoint, PointToPoint}
use Rattle.archi_defs.specs.Archi.{Architecture, operator_name}
use Rattle.archi_defs.specs.declared.text.DurationLine.{DurationLine}
use Rattle.syn_base.specs.Bytes.{Bytes}
use Rattle.archi_defs.specs.Text.{Described}
use Rattle.text_lines.specs.Text.{count_text}

-- a line, as its words
abbrev pub Words : Type 0
Words = List Bytes

-- words separated by one space
abbrev pub joined : Words → Bytes
joined [] = []
joined (w ∷ []) = w
joined (w ∷ v ∷ ws) = w ++ 32 ∷ joined (v ∷ ws)

-- lines, each with its line feed
abbrev pub text_of : List Words → Bytes
text_of [] = []
text_of (ws ∷ lines) = joined ws ++ 10 ∷ text_of lines

-- there are versions 1 and 2
abbrev pub version_word : ℕ → Bytes
version_word version = if version == 1 then codes "1" else codes "2"

-- The words of the first line of a text of this version.
abbrev pub version_words : ℕ → Words
version_words version = codes "architecture" ∷ version_word version ∷ []

-- The words of the line of the depth.
abbrev pub depth_words : ℕ → Words
depth_words depth = codes "depth" ∷ count_text depth ∷ []

-- a text of version 1 has no depth
abbrev pub depth_lines : ℕ → ℕ → List Words
depth_lines version depth = if version == 1 then [] else depth_words depth ∷ []

-- the version, and then the depth
abbrev pub opening_lines : ℕ → ℕ → List Words
opening_lines version depth = version_words version ∷ depth_lines version depth

-- The words of the line of an operator.
abbrev pub operator_words : Bytes → Words
operator_words name = codes "operator" ∷ name ∷ []

-- The word of a kind of media.
abbrev pub kind_word : MediumKind → Bytes
kind_word PointToPoint = codes "p2p"
kind_word Multipoint = codes "multi"

-- The words of the line of a medium.
abbrev pub medium_words : Medium → Words
medium_words m = codes "medium" ∷ m.name ∷ kind_word m.kind ∷ count_text m.fixed ∷ count_text m.per ∷ []

-- The words of the line that connects operator o to the medium of this name.
abbrev pub connect_words : List Bytes → Bytes → ℕ → Words
connect_words operators medium o = codes "connect" ∷ medium ∷ operator_name operators o ∷ []

-- the connections of a medium, by operator
abbrev pub connections_of : List Bytes → Medium → List Words
connections_of operators m = map (connect_words operators m.name) m.stands

-- The words of the line of a duration.
abbrev pub duration_words : List Bytes → DurationLine → Words
duration_words operators d = codes "duration" ∷ d.def ∷ operator_name operators d.operator ∷ count_text d.ticks ∷ []

-- the version, the depth, operators, media, connections by medium and then operator, and durations as given
abbrev pub canonical_lines : ℕ → Architecture → List DurationLine → List Words
canonical_lines version a durations =
    opening_lines version a.depth ++ map operator_words a.operators ++ map medium_words a.media ++
    flat_map (connections_of a.operators) a.media ++ map (duration_words a.operators) durations

-- The canonical text of what a text describes, in the version of that text.
abbrev pub canonical_text : Described → Bytes
canonical_text d = text_of (canonical_lines d.version d.archi d.durations)
