use Rattle.std.proofs.Common.{◌≡◌, ◌+◌, drop}
use Rattle.std.specs.List.{position_or_len}
use Rattle.program_walks.specs.Acts.{is_act}
use Rattle.program_walks.proofs.acts.first_act.Given as goal

-- the instructions that are left decide
abbrev pub invariant-loop-place : goal.invariant-loop-place
invariant-loop-place l = l.place + position_or_len (is_act l.act l.pair) (drop l.place l.list) ≡ position_or_len (is_act l.act l.pair) l.list
