use Rattle.std.proofs.Common.{◌&&◌, nat_eq, drop}
use Rattle.std.specs.List.{list_any}
use Rattle.sequence_build.proofs.touched.put_all.Given as goal
use Rattle.sequence_build.proofs.Touching.{PutsUp}

-- what is left makes the whole
abbrev pub invariant-loop-buffer : goal.invariant-loop-buffer
invariant-loop-buffer l = PutsUp l.width l.initial.marks l.marks
    (λ b s. nat_eq l.sequence s && list_any (λ c. nat_eq c b) (drop l.buffer-index l.buffers))
    (λ b s. nat_eq l.sequence s && list_any (λ c. nat_eq c b) l.buffers)
