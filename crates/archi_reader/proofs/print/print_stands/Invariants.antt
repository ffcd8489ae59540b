use Rattle.std.proofs.Common.{◌≡◌, ◌++◌, drop, map}
use Rattle.archi_reader.specs.Canonical.{text_of, connect_words}
use Rattle.archi_reader.proofs.print.print_stands.Given as goal

-- what is left completes the text
abbrev pub invariant-loop-operator : goal.invariant-loop-operator
invariant-loop-operator l = l.text.items ++ text_of (map (connect_words l.operators l.medium) (drop l.operator-index l.stands))
    ≡ l.fn.text.items ++ text_of (map (connect_words l.operators l.medium) l.stands)
