-- The bars of a chart, one for each operation and each transfer.
use Rattle.std.specs.Prelude.{ℕ, Bool, if◌then◌else◌, List, [], ◌++◌, length, map, codes, slice_get}
use Rattle.std.specs.Fmt.{decimal}
use Rattle.std.specs.List.{filter, flat_map}
use Rattle.syn_base.specs.Bytes.{Bytes}
use Rattle.self_timed.specs.declared.Kind.{Kind}
use Rattle.self_timed.specs.declared.Kind.TheVariants.{
  Sensor,
  Actuator,
  Function,
  Constant,
  Get,
  Set,
  Explode,
  Implode,
  Merge,
}
use Rattle.self_timed.specs.Graph.{Graph, with_vertex, operation_name}
use Rattle.self_timed.specs.Archi.{Architecture, operator_name, medium_name}
use Rattle.self_timed.specs.Acts.{Act, carry, run, start_of, end_of}
use Rattle.svg_text.specs.declared.scale.Scale.{Scale}
use Rattle.svg_text.specs.Scale.{fits, middle, place}
use Rattle.svg_text.specs.Shapes.{bar_end, bar_text, words_end, words_text}

-- the class of an element, by which it has its colour
abbrev pub class_of : Kind → Bytes
class_of (Sensor n) = codes "sensor"
class_of (Actuator n) = codes "actuator"
class_of (Function n) = codes "function"
class_of (Constant v) = codes "constant"
class_of (Get v) = codes "delay"
class_of Set = codes "delay"
class_of Explode = codes "route"
class_of Implode = codes "route"
class_of (Merge v) = codes "route"

-- a bar in its lane, from one place to another
pub record Bar : Type 0 where
  pub class : Bytes
  pub left : ℕ
  pub right : ℕ
  pub title : Bytes
  pub label : Bytes

-- a label in the middle of a bar
unfoldable pub label_words : ℕ → Bytes → Bytes
label_words at label = words_text (codes "label") at (codes "22") ++ (label ++ words_end)

-- the label of a bar, where it fits
unfoldable pub label_text : ℕ → ℕ → Bytes → Bytes
label_text left right label =
    if fits (length label) left right
    then label_words (middle left right) label else []

-- The text of a bar with its title, and after it the label if that fits into the bar.
unfoldable pub bar_line : Bar → Bytes
bar_line b = bar_text b.class b.left b.right ++ (b.title ++ (bar_end ++ label_text b.left b.right b.label))

-- `: START to END`
unfoldable pub dates_text : ℕ → ℕ → Bytes
dates_text start end = codes ": " ++ (decimal start ++ (codes " to " ++ decimal end))

-- ` over MEDIUM, FROM to TO`
unfoldable pub way_text : Architecture → ℕ → ℕ → ℕ → Bytes
way_text a medium from to =
    codes " over " ++
    (medium_name a.media medium ++
    (codes ", " ++ (operator_name a.operators from ++ (codes " to " ++ operator_name a.operators to))))

module _ (g : Graph) (a : Architecture) where
  -- `OPERATION: START to END on OPERATOR`, and `OPERATION, output PORT: START to END over MEDIUM, FROM to TO`
  unfoldable pub title_of : ℕ → ℕ → Act → Bytes
  title_of start end (run d) =
      operation_name g.vertices d.op ++
      (dates_text start end ++ (codes " on " ++ operator_name a.operators d.operator))
  title_of start end (carry t) =
      operation_name g.vertices t.source.vertex ++
      (codes ", output " ++ (decimal t.source.port ++ (dates_text start end ++ way_text a t.medium t.from t.to)))

  -- The class of the bar of an act: that of the kind of its operation for a run, empty if there is
  -- no such operation, and `transfer` for a transfer.
  abbrev pub act_class : Act → Bytes
  act_class (run d) = with_vertex (slice_get g.vertices d.op) [] (λ x. class_of x.kind)
  act_class (carry t) = codes "transfer"

  -- the operation that runs, or whose value is carried
  abbrev pub act_label : Act → Bytes
  act_label (run d) = operation_name g.vertices d.op
  act_label (carry t) = operation_name g.vertices t.source.vertex

  -- The bar of an act: where it begins and ends, its class, its title and its label.
  abbrev pub bar_of : Scale → Act → Bar
  bar_of scale x = record {
    class = act_class x;
    left = place scale (start_of x);
    right = place scale (end_of x);
    title = title_of (start_of x) (end_of x) x;
    label = act_label x;
  }

  -- the bars of the acts that pass, in their order
  abbrev pub bars_of : Scale → (Act → Bool) → List Act → List Bar
  bars_of scale test xs = map (bar_of scale) (filter test xs)

  -- The text of the bars of the acts that pass, in their order.
  abbrev pub bars_text : Scale → (Act → Bool) → List Act → Bytes
  bars_text scale test xs = flat_map bar_line (bars_of scale test xs)
