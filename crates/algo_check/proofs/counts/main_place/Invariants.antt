use Rattle.std.proofs.Common.{◌≡◌, ◌+◌, codes, drop}
use Rattle.std.specs.List.{position_or_len}
use Rattle.std.specs.Str.{bytes_eq}
use Rattle.algo_check.proofs.counts.main_place.Given as goal

abbrev pub invariant-loop-place : goal.invariant-loop-place
invariant-loop-place l = l.place + position_or_len (λ d. bytes_eq (codes "main") d.name) (drop l.place l.defs) ≡ position_or_len (λ d. bytes_eq (codes "main") d.name) l.defs
