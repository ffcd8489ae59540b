-- A program with its pairs, first without and then with the instructions of semaphores.
use Rattle.std.specs.Prelude.{ℕ, List, map, slice_get}
use Rattle.sequence_build_laws.specs.declared.Program.{Program}
use Rattle.sequence_build_laws.specs.Guarded.{operator_in}
use Rattle.sequence_build.specs.declared.pairs.Pair.{Pair}
use Rattle.sequence_build.specs.Pairs.{deepened, plain_pairs}
use Rattle.sequence_build.specs.Around.{codes_with}

-- the buffers of the pairs have this many places
abbrev pub paired : ℕ → List Pair → Program → Program
paired depth pairs p = record {
  buffers = deepened depth pairs p.buffers;
  pairs = map (λ (x : Pair). operator_in (slice_get p.buffers x.buffer)) pairs;
  seqs = p.seqs;
}

abbrev pub lined : ℕ → List Pair → Program → Program
lined depth pairs p = record { buffers = p.buffers; pairs = p.pairs; seqs = codes_with depth pairs 0 p.seqs }

abbrev pub assembled : ℕ → Program → Program
assembled depth p = lined depth (plain_pairs p) (paired depth (plain_pairs p) p)
