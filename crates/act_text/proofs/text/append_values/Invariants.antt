use Rattle.std.proofs.Common.{◌≡◌, ◌++◌, drop}
use Rattle.act_text.specs.Text.{values_text}
use Rattle.act_text.proofs.text.append_values.Given as goal

-- what is there, with the text of the values that are left, is the whole
abbrev pub invariant-loop-value : goal.invariant-loop-value
invariant-loop-value l = l.text.items ++ values_text (drop l.value-index l.values) ≡ l.fn.text.items ++ values_text l.values
