-- Which sequences read and write each buffer in steps without semaphores, and marks that say so.
use Rattle.std.specs.Prelude.{
  ◌≡◌,
  ℕ,
  ◌+◌,
  ◌*◌,
  ◌<◌,
  Bool,
  true,
  false,
  ◌&&◌,
  ◌||◌,
  not,
  cond,
  nat_eq,
  nat_lt,
  List,
  length,
  slice_index_or,
  slice_set,
}
use Rattle.std.specs.List.{list_any}
use Rattle.sequence_build_laws.specs.Owners.{sum_below}
use Rattle.sequence_build_laws.specs.Instructions.{reads, writes}
use Rattle.sequence_build_laws.specs.Serial.{Step}
use Rattle.sequence_build.specs.declared.touched.Touched.{Touched}

-- of these steps
module _ (steps : List Step) where
  -- sequence s reads buffer b, or writes it
  abbrev pub reads_in : ℕ → ℕ → Bool
  reads_in b s = list_any (λ (x : Step). nat_eq x.sequence s && reads b x.instr) steps

  abbrev pub writes_in : ℕ → ℕ → Bool
  writes_in b s = list_any (λ (x : Step). nat_eq x.sequence s && writes b x.instr) steps

  -- how many of this many sequences read buffer b and do not write it
  abbrev pub readers_in : ℕ → ℕ → ℕ
  readers_in width b = sum_below (λ s. cond (reads_in b s && not (writes_in b s)) 1 0) width

-- the mark of a buffer and a sequence, of which there are this many
abbrev pub mark_at : ℕ → List Bool → ℕ → ℕ → Bool
mark_at width marks b s = slice_index_or marks (b * width + s) false

-- the mark of a buffer and sequence t was put, if its place is there
abbrev pub put_in : ℕ → List Bool → ℕ → ℕ → List Bool
put_in width marks t c = cond (nat_lt t width) (slice_set marks (c * width + t) true) marks

-- marks were put where this passes
pub record Puts (width : ℕ) (old new : List Bool) (test : ℕ → ℕ → Bool) : Type 0 where
  pub many : length new ≡ length old
  pub marks : (b s : ℕ) → s < width → b * width + s < length old →
      mark_at width new b s ≡ (test b s || mark_at width old b s)

-- what these steps read and write was noted
pub record Notes (old new : Touched) (steps : List Step) : Type 0 where
  pub width : new.width ≡ old.width
  pub reads : Puts old.width old.reads.items new.reads.items (reads_in steps)
  pub writes : Puts old.width old.writes.items new.writes.items (writes_in steps)

-- a sequence reads a buffer and does not write it
abbrev pub waits : Touched → ℕ → ℕ → Bool
waits x b s = mark_at x.width x.reads.items b s && not (mark_at x.width x.writes.items b s)

-- how many sequences do
abbrev pub readers_of : Touched → ℕ → ℕ
readers_of x b = sum_below (λ s. cond (waits x b s) 1 0) x.width

-- of this many buffers and sequences, it was noted what these steps read and write
pub record IsNoted (sequences buffers : ℕ) (steps : List Step) (x : Touched) : Type 0 where
  pub width : x.width ≡ sequences
  pub each : (b s : ℕ) → b < buffers → s < sequences → waits x b s ≡ (reads_in steps b s && not (writes_in steps b s))

-- these say of each of this many buffers how many sequences read it and do not write it
pub record Counts (width buffers : ℕ) (steps : List Step) (counts : List ℕ) : Type 0 where
  pub many : length counts ≡ buffers
  pub each : (b : ℕ) → b < buffers → slice_index_or counts b 0 ≡ readers_in steps width b
