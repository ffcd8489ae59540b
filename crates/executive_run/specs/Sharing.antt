-- Which sequences have something to do.
use Rattle.std.specs.Prelude.{
  ◌≡◌,
  ℕ,
  ◌%◌,
  ◌<◌,
  ◌≤◌,
  ◌==◌,
  ◌&&◌,
  ◌||◌,
  not,
  min,
  Bool,
  false,
  List,
  length,
  count_by,
  Option,
  Some,
  None,
  slice_get,
}
use Rattle.executive_program.specs.declared.program.SeqCode.{SeqCode}
use Rattle.semaphore_core.specs.Job.{JobData}

-- the sequence has an instruction
abbrev pub is_busy : SeqCode → Bool
is_busy s = not (length s.prologue == 0) || not (length s.turn == 0)

-- There is a sequence, and it has an instruction.
abbrev pub is_busy_by : Option SeqCode → Bool
is_busy_by None = false
is_busy_by (Some s) = is_busy s

-- Sequence s of these has an instruction; it is false if there is no sequence s.
abbrev pub is_busy_at : List SeqCode → ℕ → Bool
is_busy_at seqs s = is_busy_by (slice_get seqs s)

-- these two have an instruction, and are in one of so few groups, but in two of so many
abbrev pub meet : List SeqCode → ℕ → ℕ → ℕ → ℕ → Bool
meet seqs few many s t =
    is_busy_at seqs s && (is_busy_at seqs t && ((s % few == t % few) && not (s % many == t % many)))

-- sequences with an instruction that so many groups keep apart are kept apart by so few
abbrev pub KeepsApart : List SeqCode → ℕ → ℕ → Type 0
KeepsApart seqs few many =
    (s t : ℕ) → s < length seqs → t < length seqs → meet seqs few many s t ≡ false

-- How the sequences of a job are shared out: in this many groups, which so many workers drive.
pub record IsShared (j : JobData) (workers groups active : ℕ) : Type 0 where
  pub few : groups ≤ workers
  pub apart : KeepsApart j.program.seqs groups workers
  pub only_busy : active ≡ min (count_by is_busy j.program.seqs) groups
