-- The canonical text of definitions: the one form of each line, words separated by one space, no empty lines and no
-- comments.
use Rattle.std.specs.Prelude.{ℕ, ◌==◌, if◌then◌else◌, List, [], ◌∷◌, ◌++◌, map, All, Option, Some, None, codes, ℤ}
use Rattle.std.specs.Fmt.{signed_decimal}
use Rattle.body_text.specs.Canonical.{canonical, IsRead}
use Rattle.algo_text.specs.declared.Port.{Port}
use Rattle.algo_text.specs.declared.definition.Def.{Def}
use Rattle.algo_text.specs.declared.definition.Defs.{Defs}
use Rattle.algo_text.specs.declared.definition.Body.{Body}
use Rattle.algo_text.specs.declared.definition.Body.TheVariants.{
  Sensor,
  Actuator,
  Constant,
  Delay,
  Function,
  Graph,
  Switch,
  Repeat,
}
use Rattle.algo_text.specs.declared.definition.Output.{Output}
use Rattle.algo_text.specs.declared.definition.Reference.{Reference}
use Rattle.algo_text.specs.declared.definition.Edge.{Edge}
use Rattle.algo_text.specs.declared.definition.Case.{Case}
use Rattle.algo_text.specs.declared.definition.Frontier.{Frontier}
use Rattle.algo_text.specs.declared.definition.Frontier.TheVariants.{Fork, Diffuse, Iterate, Join}
use Rattle.algo_text.specs.declared.definition.FrontierLine.{FrontierLine}
use Rattle.syn_base.specs.Bytes.{Bytes}
use Rattle.text_lines.specs.Text.{count_text}
use Rattle.algo_text.specs.Words.{end_word}

-- words, each after a space
abbrev pub spaced : List Bytes → Bytes
spaced [] = []
spaced (w ∷ ws) = 32 ∷ (w ++ spaced ws)

-- words separated by one space
abbrev pub joined : List Bytes → Bytes
joined [] = []
joined (w ∷ ws) = w ++ spaced ws

-- The line of these words: one space between each two of them, and a line feed at the end.
abbrev pub line_of : List Bytes → Bytes
line_of ws = joined ws ++ 10 ∷ []

-- lines of words, each ended by a line feed
abbrev pub text_of : List (List Bytes) → Bytes
text_of [] = []
text_of (ws ∷ lines) = line_of ws ++ text_of lines

-- The words of the line of a port: the key, `in` or `out`, and then its name and its length.
abbrev pub port_words : Bytes → Port → List Bytes
port_words key p = key ∷ p.name ∷ count_text p.len ∷ []

-- the output of a function with these inputs
abbrev pub output_words : List Port → Output → List Bytes
output_words ins o =
    codes "out" ∷ o.port.name ∷ count_text o.port.len ∷ codes "=" ∷ canonical (map (λ p. p.name) ins) o.formula ∷ []

-- a mark, where there is one
abbrev pub mark_words : Option ℕ → List Bytes
mark_words None = []
mark_words (Some n) = codes "every" ∷ count_text n ∷ []

-- The words of the line of a reference, with `every N` at the end if it has a mark.
abbrev pub reference_words : Reference → List Bytes
reference_words r = codes "ref" ∷ r.name ∷ r.def ∷ mark_words r.every

-- The words of the line of an edge.
abbrev pub edge_words : Edge → List Bytes
edge_words e = codes "edge" ∷ end_word e.from ∷ end_word e.to ∷ []

-- The words of a line `case VALUE DEF`.
abbrev pub case_words : Case → List Bytes
case_words c = codes "case" ∷ signed_decimal c.value ∷ c.def ∷ []

-- The words of a frontier line, in the order in which the text has its ports.
abbrev pub words_of_frontier : Frontier → List Bytes
words_of_frontier (Fork outer inner) = codes "fork" ∷ outer ∷ inner ∷ []
words_of_frontier (Diffuse outer inner) = codes "diffuse" ∷ outer ∷ inner ∷ []
words_of_frontier (Iterate outer inner given last) = codes "iterate" ∷ outer ∷ inner ∷ given ∷ last ∷ []
words_of_frontier (Join given outer) = codes "join" ∷ given ∷ outer ∷ []

-- The words of a frontier line; its number is not printed.
abbrev pub frontier_words : FrontierLine → List Bytes
frontier_words l = words_of_frontier l.frontier

-- The words of a line `KEY NAME = V0 V1 ..`, of a constant or of a delay in version 1.
abbrev pub value_words : Bytes → Bytes → List ℤ → List Bytes
value_words key name values = key ∷ name ∷ codes "=" ∷ map signed_decimal values

-- the depth of a delay stands in its line from version 2 on
abbrev pub delay_words : ℕ → Bytes → ℕ → List ℤ → List Bytes
delay_words version name depth values =
    if version == 1 then value_words (codes "delay") name values else
    codes "delay" ∷ name ∷ count_text depth ∷ codes "=" ∷ map signed_decimal values

-- The one word of the last line of a block.
abbrev pub end_words : List Bytes
end_words = codes "end" ∷ []

-- The lines of a function between its first and its last: inputs and outputs.
abbrev pub function_lines : List Port → List Output → List (List Bytes)
function_lines ins outs = map (port_words (codes "in")) ins ++ map (output_words ins) outs

-- The lines of a graph between its first and its last: inputs, outputs, references and edges.
abbrev pub graph_lines : List Port → List Port → List Reference → List Edge → List (List Bytes)
graph_lines ins outs references edges =
    map (port_words (codes "in")) ins ++ (map (port_words (codes "out")) outs
    ++ (map reference_words references ++ map edge_words edges))

-- the lines of a switch between its first and the one with `otherwise`
abbrev pub switch_lines : Bytes → List Port → List Port → List Case → List (List Bytes)
switch_lines on ins outs cases =
    (codes "on" ∷ on ∷ [])
    ∷ (map (port_words (codes "in")) ins ++ (map (port_words (codes "out")) outs ++ map case_words cases))

-- the last lines of a switch
abbrev pub otherwise_lines : Bytes → List (List Bytes)
otherwise_lines def = (codes "otherwise" ∷ def ∷ []) ∷ end_words ∷ []

-- All lines of a switch of this name, `end` included.
abbrev pub whole_switch : Bytes → Bytes → List Port → List Port → List Case → Bytes → List (List Bytes)
whole_switch name on ins outs cases otherwise =
    (codes "switch" ∷ name ∷ []) ∷ (switch_lines on ins outs cases ++ otherwise_lines otherwise)

-- All lines of a function of this name, `end` included.
abbrev pub whole_function : Bytes → List Port → List Output → List (List Bytes)
whole_function name ins outs = (codes "function" ∷ name ∷ []) ∷ (function_lines ins outs ++ end_words ∷ [])

-- All lines of a graph of this name, `end` included.
abbrev pub whole_graph : Bytes → List Port → List Port → List Reference → List Edge → List (List Bytes)
whole_graph name ins outs references edges =
    (codes "graph" ∷ name ∷ []) ∷ (graph_lines ins outs references edges ++ end_words ∷ [])

-- All lines of a repetition of this name, `end` included.
abbrev pub whole_repeat : Bytes → ℕ → Bytes → List FrontierLine → List (List Bytes)
whole_repeat name copies def lines =
    (codes "repeat" ∷ name ∷ count_text copies ∷ def ∷ []) ∷ (map frontier_words lines ++ end_words ∷ [])

-- the lines of a definition of this name in a text of this version
abbrev pub body_lines : ℕ → Bytes → Body → List (List Bytes)
body_lines version name (Sensor len) = (codes "sensor" ∷ name ∷ count_text len ∷ []) ∷ []
body_lines version name (Actuator len) = (codes "actuator" ∷ name ∷ count_text len ∷ []) ∷ []
body_lines version name (Constant values) = value_words (codes "constant") name values ∷ []
body_lines version name (Delay depth values) = delay_words version name depth values ∷ []
body_lines version name (Function ins outs) = whole_function name ins outs
body_lines version name (Graph ins outs references edges) = whole_graph name ins outs references edges
body_lines version name (Switch on ins outs cases otherwise line) = whole_switch name on ins outs cases otherwise
body_lines version name (Repeat copies def lines) = whole_repeat name copies def lines

-- The lines of these definitions, in order, in a text of this version.
abbrev pub definition_lines : ℕ → List Def → List (List Bytes)
definition_lines version [] = []
definition_lines version (d ∷ ds) = body_lines version d.name d.body ++ definition_lines version ds

-- The words of the first line of a text of this version.
abbrev pub version_words : ℕ → List Bytes
version_words version = codes "algorithm" ∷ count_text version ∷ []

-- the canonical text, of the version that was read
abbrev pub canonical_text : Defs → Bytes
canonical_text d = text_of (version_words d.version ∷ definition_lines d.version d.defs)

-- each expression of a function is what some text over its inputs says
abbrev pub IsPrintable : Body → Type 0
IsPrintable (Function ins outs) = All (λ o. IsRead (map (λ p. p.name) ins) o.formula) outs
IsPrintable _ = Unit {0}

-- Each expression of each function among these definitions is what some text over its inputs says,
-- so that it can be printed and read back.
abbrev pub ArePrintable : List Def → Type 0
ArePrintable ds = All (λ d. IsPrintable d.body) ds
