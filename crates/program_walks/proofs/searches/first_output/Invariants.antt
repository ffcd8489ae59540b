use Rattle.std.proofs.Common.{◌≡◌, ◌+◌, drop, nat_eq}
use Rattle.std.specs.List.{position_or_len}
use Rattle.program_walks.proofs.searches.first_output.Given as goal

-- the outputs that are left decide
abbrev pub invariant-loop-place : goal.invariant-loop-place
invariant-loop-place l = l.place + position_or_len (λ c. nat_eq c l.buffer) (drop l.place l.outs) ≡ position_or_len (λ c. nat_eq c l.buffer) l.outs
