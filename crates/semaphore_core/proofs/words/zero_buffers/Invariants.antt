use Rattle.std.proofs.Common.{◌≡◌, ◌*◌, map, take}
use Rattle.executive_program.specs.declared.program.Buffer.{Buffer}
use Rattle.semaphore_core.proofs.words.zero_buffers.Given as goal
use Rattle.syn_base.specs.Vectors.{zeros}

abbrev pub invariant-loop-buffer : goal.invariant-loop-buffer
invariant-loop-buffer l = l.all.items ≡ map (λ (x : Buffer). zeros (x.depth * x.len)) (take l.buffer-index l.program.buffers)
