-- The fixed words of a drawing.
use Rattle.std.specs.Prelude.{codes}
use Rattle.syn_base.specs.Bytes.{Bytes}
use Rattle.graph_drawing.specs.declared.word.Word.{Word}
use Rattle.graph_drawing.specs.declared.word.Word.TheVariants.{
  Operation,
  Arrow,
  Label,
  Line,
  Shape,
  Finish,
  Fill,
  Stroke,
  Quote,
  Tail,
  Head,
  Condition,
  Delay,
  Legend,
  Operator,
  OperatorColour,
  Medium,
  MediumColour,
  QuoteFinish,
  LegendFinish,
}

-- The bytes of each fixed word.
unfoldable pub word_text : Word → Bytes
word_text Operation = codes "  v"
word_text Arrow = codes " -> v"
word_text Label = codes " [label=\""
word_text Line = codes "\\n"
word_text Shape = codes "\",shape="
word_text Finish = codes "];\n"
word_text Fill = codes ",fillcolor=\""
word_text Stroke = codes ",penwidth=2,color=\""
word_text Quote = codes "\""
word_text Tail = codes " [taillabel=\""
word_text Head = codes "\",headlabel=\""
word_text Condition = codes " [style=dotted,label=\"?"
word_text Delay = codes " [style=dashed,constraint=false];\n"
word_text Legend = codes "  subgraph cluster_legend {\n    label=\"operators and media\";\n"
word_text Operator = codes "    o"
word_text OperatorColour = codes "\",fillcolor=\""
word_text Medium = codes "    m"
word_text MediumColour = codes "\",style=\"\",penwidth=2,color=\""
word_text QuoteFinish = codes "\"];\n"
word_text LegendFinish = codes "  }\n"
