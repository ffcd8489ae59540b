use Rattle.std.proofs.Common.{◌≡◌, ◌++◌, drop}
use Rattle.flat_text.specs.Listing.{lines_from}
use Rattle.flat_text.proofs.listing.append_lines.Given as goal

-- what is there, with the lines of the operations that are left, is the whole
abbrev pub invariant-loop-number : goal.invariant-loop-number
invariant-loop-number l = l.out.items ++ lines_from l.number (drop l.number l.vertices) ≡ l.fn.out.items ++ lines_from 0 l.vertices
