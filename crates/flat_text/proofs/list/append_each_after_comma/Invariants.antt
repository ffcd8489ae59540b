use Rattle.std.proofs.Common.{◌≡◌, ◌++◌, drop, map}
use Rattle.flat_text.proofs.list.append_each_after_comma.Given as goal
use Rattle.syn_base.specs.Bytes.{each_after_comma}

-- what is there, with the text of the entries that are left, is the whole
abbrev pub invariant-loop-entry : goal.invariant-loop-entry
invariant-loop-entry g l = l.out.items ++ each_after_comma (map g.T.Entry.shown (drop l.entry-index l.entries)) ≡ l.fn.out.items ++ each_after_comma (map g.T.Entry.shown l.entries)
