use Rattle.std.proofs.Common.{◌≡◌, ◌++◌, drop, map}
use Rattle.sequence_build.specs.Around.{line_of}
use Rattle.sequence_build.proofs.around.push_lines.Given as goal

-- what is left makes the whole
abbrev pub invariant-loop-pair : goal.invariant-loop-pair
invariant-loop-pair l = l.out.items ++ map (line_of l.line) (drop l.pair-index l.pairs) ≡ l.fn.out.items ++ map (line_of l.line) l.pairs
