-- The text of findings: a line for each.
use Rattle.std.specs.Prelude.{ℕ, List, ◌++◌, codes}
use Rattle.std.specs.Fmt.{decimal, signed_decimal}
use Rattle.std.specs.List.{flat_map}
use Rattle.syn_base.specs.Bytes.{Bytes}
use Rattle.text_lint.specs.declared.finding.Finding.{Finding}
use Rattle.text_lint.specs.declared.finding.Finding.TheVariants.{
  UnusedDefinition,
  OutsideElement,
  NeverTaken,
  UnreadDelay,
  IdleDuration,
  IdleOperator,
}
use Rattle.text_lint.specs.declared.finding.Why.{Why}
use Rattle.text_lint.specs.declared.finding.Why.TheVariants.{Unknown, Timeless, Unused}

-- The word for why a duration changes nothing, with a space before it.
abbrev pub why_word : Why → Bytes
why_word Unknown = codes " unknown"
why_word Timeless = codes " timeless"
why_word Unused = codes " unused"

-- Which line of which text, and what is found there.
abbrev pub head : Bytes → ℕ → Bytes → Bytes
head text n word = text ++ (decimal n ++ (codes ": " ++ word))

-- The beginning of the line of what is found at line n of the algorithm.
abbrev pub algorithm_head : ℕ → Bytes → Bytes
algorithm_head n word = head (codes "algorithm line ") n word

-- The beginning of the line of what is found at line n of the architecture.
abbrev pub architecture_head : ℕ → Bytes → Bytes
architecture_head n word = head (codes "architecture line ") n word

-- A space before each of two names.
abbrev pub two_names : Bytes → Bytes → Bytes
two_names v w = codes " " ++ (v ++ (codes " " ++ w))

-- ` F b[7] 3`: a function, an element of its input, and how many this has.
abbrev pub element_words : Bytes → Bytes → Bytes → ℕ → Bytes
element_words def port element len =
    two_names def port ++ (codes "[" ++ (element ++ (codes "] " ++ decimal len)))

-- The beginning of the line of a finding: the line of which text it is at, and its kind.
abbrev pub finding_head : Finding → Bytes
finding_head (UnusedDefinition n def) = algorithm_head n (codes "L1 UnusedDefinition")
finding_head (OutsideElement n def port element len) = algorithm_head n (codes "L2 OutsideElement")
finding_head (NeverTaken n reference value) = algorithm_head n (codes "L3 NeverTaken")
finding_head (UnreadDelay n reference) = algorithm_head n (codes "L4 UnreadDelay")
finding_head (IdleDuration n def operator why) = architecture_head n (codes "L5 IdleDuration")
finding_head (IdleOperator n operator) = architecture_head n (codes "L6 IdleOperator")

-- The end of the line of a finding: the names and numbers that it is about, with a space first.
abbrev pub finding_words : Finding → Bytes
finding_words (UnusedDefinition n def) = codes " " ++ def
finding_words (OutsideElement n def port element len) =
    element_words def port (signed_decimal element) len
finding_words (NeverTaken n reference value) = two_names reference (signed_decimal value)
finding_words (UnreadDelay n reference) = codes " " ++ reference
finding_words (IdleDuration n def operator why) = two_names def operator ++ why_word why
finding_words (IdleOperator n operator) = codes " " ++ operator

-- The whole line of a finding, with its line feed.
abbrev pub finding_line : Finding → Bytes
finding_line f = finding_head f ++ (finding_words f ++ codes "\n")

-- The lines of these findings, in order; no byte if there are none.
abbrev pub findings_text : List Finding → Bytes
findings_text fs = flat_map finding_line fs
