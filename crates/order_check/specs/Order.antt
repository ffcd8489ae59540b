-- What makes a serial order right, as one test.
use Rattle.std.specs.Prelude.{ℕ, Bool, ◌&&◌, List, length}
use Rattle.executive_program.specs.declared.Seq.{Seq}
use Rattle.executive_program.specs.declared.Vertex.{Vertex}
use Rattle.executive_program.specs.declared.program.Program.{Program}
use Rattle.order_check.specs.Checked.{communicators, counts, follows_loops, named, on_media}
use Rattle.program_walks.specs.Buffers.{are_buffers}
use Rattle.order_check.specs.Calls.{are_called}
use Rattle.order_check.specs.Carries.{are_kept}
use Rattle.program_walks.specs.Opened.{are_opened}
use Rattle.program_walks.specs.Pairs.{are_pairs}
use Rattle.order_check.specs.Sequenced.{are_sequences}
use Rattle.order_check.specs.Transfers.{are_transfers}

module _ (p : Program) where
  -- names and numbers, where there are this many operations and media
  abbrev pub are_numbers_right : ℕ → ℕ → Bool
  are_numbers_right operations media = named p operations && communicators p && on_media p media && counts p

  -- buffers, the semaphores that guard them, and the prologues that signal these
  abbrev pub are_guards_right : List ℕ → Bool
  are_guards_right order = are_buffers p && are_pairs p order && are_opened p

  -- the values that are computed and sent
  abbrev pub are_values_right : List ℕ → List Vertex → ℕ → Bool
  are_values_right order vertices media = are_called p vertices && are_transfers p order media && are_kept p media

  abbrev pub is_order : List Vertex → List Seq → ℕ → List ℕ → Bool
  is_order vertices seqs media order =
      are_sequences p.seqs seqs && follows_loops p order && are_numbers_right (length vertices) media &&
      are_guards_right order && are_values_right order vertices media
