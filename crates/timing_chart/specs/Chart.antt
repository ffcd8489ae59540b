-- The timing chart of a schedule.
use Rattle.std.specs.Prelude.{ℕ, suc, Bool, List, [], ◌∷◌, ◌++◌, map, codes}
use Rattle.std.specs.Fmt.{decimal}
use Rattle.std.specs.List.{filter, flat_map}
use Rattle.syn_base.specs.Bytes.{Bytes}
use Rattle.schedule.specs.declared.Vertex.{Vertex}
use Rattle.schedule.specs.Graph.{Graph, operation_name}
use Rattle.schedule.specs.declared.Medium.{Medium}
use Rattle.schedule.specs.Archi.{Architecture, operator_name}
use Rattle.schedule.specs.declared.decision.Schedule.{Schedule}
use Rattle.schedule.specs.Acts.{Act, carry, run, acts, is_over, is_on, length_of}

-- a line, word by word
abbrev pub Line : Type 0
Line = List Bytes

-- a blank before each word, and the end of the line
abbrev pub rest_of_line : Line → Bytes
rest_of_line [] = codes "\n"
rest_of_line (w ∷ ws) = codes " " ++ (w ++ rest_of_line ws)

-- words that are separated by single blanks
abbrev pub line_text : Line → Bytes
line_text [] = codes "\n"
line_text (w ∷ ws) = w ++ rest_of_line ws

-- The text of these lines in their order, each with a line feed at its end.
abbrev pub text_of : List Line → Bytes
text_of lines = flat_map line_text lines

module _ (vertices : List Vertex) (operators : List Bytes) where
  -- START END OPERATION, and of a transfer PORT FROM TO
  abbrev pub act_line : Act → Line
  act_line (run d) = decimal d.start ∷ decimal d.end ∷ operation_name vertices d.op ∷ []
  act_line (carry c) =
      decimal c.start ∷ decimal c.end ∷ operation_name vertices c.source.vertex ∷ decimal c.source.port ∷
      operator_name operators c.from ∷ operator_name operators c.to ∷ []

  -- a head, and then the acts that pass, in their order
  abbrev pub part : Bytes → Bytes → (Act → Bool) → List Act → List Line
  part word name test xs = (word ∷ name ∷ []) ∷ map act_line (filter test xs)

  -- operators whose names these are, of which the first has number o
  abbrev pub operator_parts : List Act → ℕ → List Bytes → List Line
  operator_parts xs o [] = []
  operator_parts xs o (name ∷ names) = part (codes "operator") name (is_on o) xs ++ operator_parts xs (suc o) names

  -- media, of which the first has number m
  abbrev pub medium_parts : List Act → ℕ → List Medium → List Line
  medium_parts xs m [] = []
  medium_parts xs m (x ∷ media) = part (codes "medium") x.name (is_over m) xs ++ medium_parts xs (suc m) media

-- operators, media, and the length
abbrev pub chart_lines : Graph → Architecture → Schedule → List Line
chart_lines g a s =
    operator_parts g.vertices a.operators (acts s) 0 a.operators
    ++ (medium_parts g.vertices a.operators (acts s) 0 a.media ++ (codes "length" ∷ decimal (length_of s) ∷ []) ∷ [])

-- The timing chart of a schedule: for each operator its operations, for each medium its transfers,
-- each with its start and end in ticks, and at the end the length of the schedule.
abbrev pub chart : Graph → Architecture → Schedule → Bytes
chart g a s = text_of (chart_lines g a s)
