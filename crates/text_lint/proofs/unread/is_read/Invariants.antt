use Rattle.std.proofs.Common.{◌≡◌, drop}
use Rattle.text_lint.specs.Algorithm.{is_read}
use Rattle.text_lint.proofs.unread.is_read.Given as goal

-- the edges that are left decide
abbrev pub invariant-loop-edge : goal.invariant-loop-edge
invariant-loop-edge l = is_read l.reference (drop l.edge-index l.edges) ≡ is_read l.reference l.edges
