use Rattle.std.proofs.Common.{◌≡◌, drop}
use Rattle.archi_graph.specs.Archi.{ascends_from}
use Rattle.archi_graph.proofs.valid.ascends.Given as goal

-- the numbers that are left decide
abbrev pub invariant-loop-number : goal.invariant-loop-number
invariant-loop-number l = ascends_from l.least (drop l.number-index l.numbers) ≡ ascends_from 0 l.numbers
