use Rattle.std.proofs.Common.{◌≡◌, ◌++◌, take}
use Rattle.operation_desks.proofs.laying.push_all.Given as goal

abbrev pub invariant-loop-len : goal.invariant-loop-len
invariant-loop-len l = l.lens.items ≡ l.initial.lens.items ++ take l.len-index l.list
