-- The bounds of this profile, and the words that messages have for them.
use Rattle.std.specs.Prelude.{ℕ, List, codes, nat_lt, cond, Option, Some}
use Rattle.syn_base.specs.declared.limits.LimitKind.{LimitKind}
use Rattle.syn_base.specs.declared.limits.LimitKind.TheVariants.{
  File,
  Tokens,
  PortLength,
  Ports,
  Copies,
  Cases,
  References,
  Depth,
  Delay,
  Operations,
  Operators,
  Media,
  Connections,
  Words,
  MicroSteps,
  Reactions,
  Output,
  Total,
}
use Rattle.syn_base.specs.declared.limits.LimitFault.{LimitFault}

-- The word by which messages name a quantity.
abbrev pub word_of : LimitKind → List ℕ
word_of File = codes "file"
word_of Tokens = codes "tokens"
word_of PortLength = codes "length"
word_of Ports = codes "ports"
word_of Copies = codes "copies"
word_of Cases = codes "cases"
word_of References = codes "references"
word_of Depth = codes "depth"
word_of Delay = codes "delay"
word_of Operations = codes "operations"
word_of Operators = codes "operators"
word_of Media = codes "media"
word_of Connections = codes "connections"
word_of Words = codes "words"
word_of MicroSteps = codes "steps"
word_of Reactions = codes "reactions"
word_of Output = codes "output"
word_of Total = codes "total"

-- The most that a quantity may be.
abbrev pub bound_of : LimitKind → ℕ
bound_of File = 16777216
bound_of Tokens = 512
bound_of PortLength = 64
bound_of Ports = 64
bound_of Copies = 64
bound_of Cases = 64
bound_of References = 64
bound_of Depth = 8
bound_of Delay = 16
bound_of Operations = 2048
bound_of Operators = 16
bound_of Media = 16
bound_of Connections = 64
bound_of Words = 65536
bound_of MicroSteps = 262144
bound_of Reactions = 10000
bound_of Output = 2000000
bound_of Total = 20000000

-- The fault of this count, if it is above the bound of its quantity, and otherwise what comes next.
abbrev pub above : LimitKind → ℕ → Option LimitFault → Option LimitFault
above which count next = cond (nat_lt (bound_of which) count)
    (Some (record { which = which; count = count; bound = bound_of which })) next

-- The most operations of a flat graph.
abbrev pub most_operations : ℕ
most_operations = 2048

-- The most definitions that name one another in a chain from `main` on.
abbrev pub most_depth : ℕ
most_depth = 8

-- No file has as many lines, names or definitions, and whatever is counted up to it has a number of 32 bits.
abbrev pub most_in_text : ℕ
most_in_text = 4000000000
