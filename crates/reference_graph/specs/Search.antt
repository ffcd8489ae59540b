-- The search from a vertex: a queue of the vertices that it has come to, which are marked.
use Rattle.std.specs.Prelude.{
  ◌≡◌,
  ℕ,
  ◌+◌,
  ◌<◌,
  ◌≤◌,
  Bool,
  true,
  false,
  not,
  List,
  length,
  count_by,
  slice_index,
  slice_index_or,
  Contains,
  ◌⊎◌,
}

abbrev pub IsMarked : List Bool → ℕ → Type 0
IsMarked marks b = slice_index_or marks b false ≡ true

-- The queue has each marked vertex, once.
pub record IsQueue (marks : List Bool) (queue : List ℕ) : Type 0 where
  pub count : length queue + count_by not marks ≡ length marks
  pub marked : (k : ℕ) → k < length queue → IsMarked marks (slice_index queue k)
  pub queued : (b : ℕ) → IsMarked marks b → Contains queue b

-- More vertices were put last, and marked: some of these.
pub record Grows (refs : List ℕ) (marks : List Bool) (queue : List ℕ)
    (marks_after : List Bool) (queue_after : List ℕ) : Type 0 where
  pub is_queue : IsQueue marks_after queue_after
  pub longer : length queue ≤ length queue_after
  pub places : (k : ℕ) → k < length queue → slice_index queue_after k ≡ slice_index queue k
  pub kept : (b : ℕ) → IsMarked marks b → IsMarked marks_after b
  pub only : (b : ℕ) → IsMarked marks_after b → IsMarked marks b ⊎ Contains refs b
