use Rattle.std.proofs.Common.{◌≡◌, ◌++◌, drop}
use Rattle.body_lang.specs.Layout.{ends_from, bounds_of}
use Rattle.body_lang.proofs.layout.Layout.new.Given as goal

-- the bounds so far, with the ends of the vectors that are left, are the whole
abbrev pub invariant-loop-len : goal.invariant-loop-len
invariant-loop-len l = l.bounds.items ++ ends_from l.width (drop l.len-index l.lens) ≡ bounds_of l.lens
