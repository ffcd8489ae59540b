-- The fixed words of a drawing.
use Rattle.std.specs.Prelude.{◌++◌, codes}
use Rattle.syn_base.specs.Bytes.{Bytes}
use Rattle.definition_drawing.specs.declared.word.Word.{Word}
use Rattle.definition_drawing.specs.declared.word.Word.TheVariants.{
  Begin,
  Frame,
  FrameEnd,
  Blank,
  Copies,
  Case,
  In,
  Out,
  Ref,
  Rest,
  Target,
  Attributes,
  Label,
  FrameLabel,
  Quote,
  Head,
  Double,
  Arrow,
  Round,
  Note,
  Dashed,
  Cylinder,
  Tail,
  TitleEnd,
  Line,
  Depth,
  Every,
  Taken,
  Input,
  Given,
  Output,
  Finish,
  Actuator,
  Selected,
  Constant,
  Delay,
  Diffuse,
  Opening,
  Fork,
  Function,
  Graph,
  Iterate,
  Join,
  EdgeLabel,
  On,
  Otherwise,
  Repeat,
  Sensor,
  Dotted,
  Switch,
  EdgeTail,
  Closing,
}

-- The bytes of each fixed word.
unfoldable pub word_text : Word → Bytes
word_text Begin = codes "    \""
word_text Frame = codes "  subgraph \"cluster_"
word_text FrameEnd = codes "  }\n"
word_text Blank = codes " "
word_text Copies = codes " copies\\n"
word_text Case = codes ".case."
word_text In = codes ".in."
word_text Out = codes ".out."
word_text Ref = codes ".ref."
word_text Rest = codes ".rest"
word_text Target = codes "\" -> \""
word_text Attributes = codes "\" ["
word_text Label = codes "\" [label=\""
word_text FrameLabel = codes "\" {\n    label=\""
word_text Quote = codes "\""
word_text Head = codes "\",headlabel=\""
word_text Double = codes "\",peripheries=2"
word_text Arrow = codes "\",shape=cds"
word_text Round = codes "\",shape=ellipse"
word_text Note = codes "\",shape=note"
word_text Dashed = codes "\",style=\"filled,dashed\""
word_text Cylinder = codes "\",style=\"filled,dashed\",shape=cylinder"
word_text Tail = codes "\",taillabel=\""
word_text TitleEnd = codes "\";\n"
word_text Line = codes "\\n"
word_text Depth = codes "\\ndepth "
word_text Every = codes "\\nevery "
word_text Taken = codes "\\ni "
word_text Input = codes "\\nin "
word_text Given = codes "\\no "
word_text Output = codes "\\nout "
word_text Finish = codes "];\n"
word_text Actuator = codes "actuator"
word_text Selected = codes "case "
word_text Constant = codes "constant"
word_text Delay = codes "delay"
word_text Diffuse = codes "diffuse"
word_text Opening =
    codes "digraph algorithm {\n  rankdir=LR;\n  fontname=\"sans-serif\";\n" ++
    (codes "  node [shape=box,style=filled,fillcolor=white,fontname=\"sans-serif\"];\n" ++
    codes "  edge [fontname=\"sans-serif\",fontsize=9,labeldistance=1.5];\n")
word_text Fork = codes "fork"
word_text Function = codes "function"
word_text Graph = codes "graph"
word_text Iterate = codes "iterate"
word_text Join = codes "join"
word_text EdgeLabel = codes "label=\""
word_text On = codes "on "
word_text Otherwise = codes "otherwise\\n"
word_text Repeat = codes "repeat"
word_text Sensor = codes "sensor"
word_text Dotted = codes "style=dotted"
word_text Switch = codes "switch"
word_text EdgeTail = codes "taillabel=\""
word_text Closing = codes "}\n"
