-- The pairs of semaphores with the places of what they guard.
use Rattle.std.specs.Prelude.{
  ℕ,
  Bool,
  false,
  cond,
  nat_eq,
  List,
  [],
  ◌∷◌,
  length,
  Option,
  Some,
  None,
  slice_get,
  slice_set,
}
use Rattle.std.specs.Global.{Vec}
use Rattle.sequence_build_laws.specs.declared.Buffer.{Buffer}
use Rattle.sequence_build_laws.specs.Blocks.{blocks}
use Rattle.sequence_build_laws.specs.declared.Program.{Program}
use Rattle.sequence_build_laws.specs.Instructions.{reads, writes}
use Rattle.sequence_build.specs.declared.uses.Use.{Use}
use Rattle.sequence_build.specs.declared.uses.Place.{Place}
use Rattle.sequence_build.specs.declared.pairs.Pair.{Pair}
use Rattle.sequence_build.specs.Uses.{uses_at, write_at, uses_by, write_by}

-- the place is in this sequence
abbrev pub is_in : Option Place → ℕ → Bool
is_in None s = false
is_in (Some w) s = nat_eq w.sequence s

-- a pair for each sequence that reads the buffer and does not write it
abbrev pub pairs_with : ℕ → Option Place → List Use → List Pair
pairs_with b w [] = []
pairs_with b w (u ∷ us) =
    cond (is_in w u.sequence) (pairs_with b w us)
    (record { buffer = b; reader = u.sequence; first = u.first; last = u.last; write = w } ∷ pairs_with b w us)

-- those of the first n buffers
abbrev pub pairs_below : List (Vec Use) → List (Option Place) → ℕ → List Pair
pairs_below uses writes n = blocks (λ b. pairs_with b (write_at writes b) (uses_at uses b)) n

-- a buffer with this many places, if it is there
abbrev pub deep_buffer : ℕ → Option Buffer → List Buffer → ℕ → List Buffer
deep_buffer depth None xs b = xs
deep_buffer depth (Some x) xs b = slice_set xs b (record { operator = x.operator; len = x.len; depth = depth })

-- the buffers of these pairs have this many places
abbrev pub deepened : ℕ → List Pair → List Buffer → List Buffer
deepened depth [] xs = xs
deepened depth (p ∷ ps) xs = deepened depth ps (deep_buffer depth (slice_get xs p.buffer) xs p.buffer)

-- the pairs of a program without semaphores, by buffer
abbrev pub pairs_at : Program → ℕ → List Pair
pairs_at p b = pairs_with b (write_by (writes b) 0 p.seqs None) (uses_by (reads b) 0 p.seqs [])

abbrev pub plain_pairs : Program → List Pair
plain_pairs p = blocks (pairs_at p) (length p.buffers)
