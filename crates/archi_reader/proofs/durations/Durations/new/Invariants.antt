use Rattle.std.proofs.Common.{◌≡◌, ℕ, [], length}
use Rattle.std.specs.Prelude.{slice_index_or}
use Rattle.archi_reader.proofs.durations.Durations.new.Given as goal

abbrev pub invariant-loop-operator : goal.invariant-loop-operator
invariant-loop-operator l = record {
  counted : length l.given.items ≡ l._operator;
  empty : (o : ℕ) → slice_index_or l.given.items o [] ≡ [];
}
