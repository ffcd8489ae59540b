use Rattle.std.proofs.Common.{◌≡◌, ◌++◌, drop, map}
use Rattle.std.specs.Fmt.{decimal}
use Rattle.macro_code.proofs.arguments.append_more_numbers.Given as goal
use Rattle.syn_base.specs.Bytes.{each_after_comma}

-- what is there, with what is left, is the whole
abbrev pub invariant-loop-number : goal.invariant-loop-number
invariant-loop-number l = l.out.items ++ each_after_comma (map decimal (drop l.number-index l.numbers)) ≡ l.fn.out.items ++ each_after_comma (map decimal l.numbers)
