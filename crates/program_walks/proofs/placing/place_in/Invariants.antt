use Rattle.std.proofs.Common.{◌≡◌, ◌+◌, drop}
use Rattle.executive_program.specs.WellFormed.{place_in}
use Rattle.program_walks.proofs.placing.place_in.Given as goal

-- the entries that are left decide
abbrev pub invariant-loop-place : goal.invariant-loop-place
invariant-loop-place l = l.place + place_in (drop l.place l.order) l.sequence l.left ≡ place_in l.order l.sequence l.at
