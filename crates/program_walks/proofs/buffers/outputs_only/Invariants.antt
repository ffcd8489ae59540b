use Rattle.std.proofs.Common.{◌≡◌, ℕ, ◌&&◌, drop, nat_eq}
use Rattle.program_walks.specs.Walks.{all_at, implies}
use Rattle.program_walks.proofs.buffers.outputs_only.Given as goal

-- the outputs that are left decide
abbrev pub invariant-loop-place : goal.invariant-loop-place
invariant-loop-place l = all_at (λ (k c : ℕ). implies (nat_eq c l.buffer) (l.here && nat_eq k l.port)) l.place (drop l.place l.outs)
    ≡ all_at (λ (k c : ℕ). implies (nat_eq c l.buffer) (l.here && nat_eq k l.port)) 0 l.outs
