-- The fixed words of a trace.
use Rattle.std.specs.Prelude.{◌++◌, codes}
use Rattle.syn_base.specs.Bytes.{Bytes}
use Rattle.trace_events.specs.declared.word.Word.{Word}
use Rattle.trace_events.specs.declared.word.Word.TheVariants.{
  LaneName,
  Name,
  Blank,
  NameEnd,
  Rank,
  RankNumber,
  End,
  Slice,
  Category,
  Start,
  Lasting,
  Place,
  Reaction,
  Leaves,
  Arrives,
  Number,
  Between,
  Date,
  FlowEnd,
  Dot,
  To,
  Operator,
  Medium,
  Operation,
  Transfer,
  Opening,
  Closing,
}

-- The bytes of each fixed word.
unfoldable pub word_text : Word → Bytes
word_text LaneName = codes ",\n{\"name\":\"thread_name\",\"ph\":\"M\""
word_text Name = codes ",\"args\":{\"name\":\""
word_text Blank = codes " "
word_text NameEnd = codes "\"}}"
word_text Rank = codes ",\n{\"name\":\"thread_sort_index\",\"ph\":\"M\""
word_text RankNumber = codes ",\"args\":{\"sort_index\":"
word_text End = codes "}}"
word_text Slice = codes ",\n{\"name\":\""
word_text Category = codes "\",\"cat\":\""
word_text Start = codes "\",\"ph\":\"X\",\"ts\":"
word_text Lasting = codes ",\"dur\":"
word_text Place = codes ",\"pid\":1,\"tid\":"
word_text Reaction = codes ",\"args\":{\"reaction\":"
word_text Leaves = codes ",\n{\"name\":\"value\",\"cat\":\"flow\",\"ph\":\"s\""
word_text Arrives = codes ",\n{\"name\":\"value\",\"cat\":\"flow\",\"ph\":\"f\",\"bp\":\"e\""
word_text Number = codes ",\"id\":\"0x"
word_text Between = codes "a"
word_text Date = codes "\",\"ts\":"
word_text FlowEnd = codes "}"
word_text Dot = codes "."
word_text To = codes " to "
word_text Operator = codes "operator"
word_text Medium = codes "medium"
word_text Operation = codes "operation"
word_text Transfer = codes "transfer"
word_text Opening =
    codes "{\"traceEvents\":[\n{\"name\":\"process_name\",\"ph\":\"M\",\"pid\":1," ++
    codes "\"args\":{\"name\":\"schedule\"}}"
word_text Closing = codes "\n]}\n"
