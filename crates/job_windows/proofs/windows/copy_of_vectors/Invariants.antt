use Rattle.std.proofs.Common.{◌≡◌, ◌++◌, drop}
use Rattle.job_windows.proofs.windows.copy_of_vectors.Given as goal

-- what is copied, with the vectors that are left, is the whole
abbrev pub invariant-loop-vector : goal.invariant-loop-vector
invariant-loop-vector l = l.copy.items ++ drop l.vector-index l.vectors ≡ l.vectors
