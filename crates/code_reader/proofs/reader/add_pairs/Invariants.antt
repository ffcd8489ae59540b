use Rattle.std.proofs.Common.{◌≡◌, ◌++◌, map, take}
use Rattle.macro_code.specs.ReadText.{numbered}
use Rattle.code_reader.proofs.reader.add_pairs.Given as goal

abbrev pub invariant-loop-number : goal.invariant-loop-number
invariant-loop-number l = (l.pairs.items ≡ l.initial.pairs.items ++ map (numbered l.line) (take l.number-index l.numbers))
    × (l.owners.items ≡ l.initial.owners.items ++ map (λ _. l.operator) (take l.number-index l.numbers))
