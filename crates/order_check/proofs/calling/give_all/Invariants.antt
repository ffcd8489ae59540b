use Rattle.std.proofs.Common.{◌≡◌, ℕ, drop}
use Rattle.std.specs.Prelude.{slice_get}
use Rattle.program_walks.specs.Walks.{all_at}
use Rattle.order_check.specs.Calls.{gives_at}
use Rattle.order_check.proofs.calling.give_all.Given as goal

-- the lengths that are left decide
abbrev pub invariant-loop-port : goal.invariant-loop-port
invariant-loop-port l = all_at (λ (k n : ℕ). gives_at l.program l.operation k n (slice_get l.outs k)) l.port (drop l.port l.lens)
    ≡ all_at (λ (k n : ℕ). gives_at l.program l.operation k n (slice_get l.outs k)) 0 l.lens
