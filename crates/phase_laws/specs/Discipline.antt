-- How a program with a serial order is synchronized: who signals each semaphore, what is
-- each half of a reaction's transfers, and where each micro-step stands in the order.
use Rattle.std.specs.Prelude.{ℕ, suc, ◌+◌, ◌*◌, ◌/◌, ◌%◌, cond, nat_eq, List, length}
use Rattle.executive_program.specs.Owners.{Owner, sum_below}
use Rattle.executive_program.specs.Media.{Half}
use Rattle.executive_program.specs.Pairs.{late}
use Rattle.executive_program.specs.InterleavingOrder.{IsOrdered}
use Rattle.executive_program.specs.Synchronized.{IsSynchronized}
use Rattle.executive_program.specs.InterleavingLaws.{Discipline}
use Rattle.executive_program.specs.declared.Seq.{Seq}
use Rattle.executive_program.specs.declared.program.Program.{Program}
use Rattle.executive_program.specs.Blocks.{block_at}
use Rattle.executive_program.specs.Instructions.{turn, len_of, pair_depth}
use Rattle.executive_program.specs.MicroSteps.{code, size, begins}
use Rattle.executive_program.specs.Places.{Places, places}
use Rattle.executive_program.specs.WellFormed.{place, IsOrder}
use Rattle.semaphore_core.specs.Job.{JobData, system}

module _ (p : Program) (w : Places) where
  -- the reader signals the empty semaphore: before its loop once for each place of the buffer, and in its loop
  abbrev pub empty_owner : ℕ → Owner
  empty_owner q = record {
    sequence = (w.pair q).reader;
    site = record {
      first = (w.pair q).front;
      early = pair_depth p q;
      place = begins p (w.pair q).reader (w.pair q).signal_empty;
    };
  }

  -- the writer signals the full semaphore
  abbrev pub full_owner : ℕ → Owner
  full_owner q = late (w.writing (w.pair q).buffer).writer
      (begins p (w.writing (w.pair q).buffer).writer (w.pair q).signal_full)

  -- semaphores 2q and 2q + 1 are the empty and the full one of pair q
  abbrev pub signaller : ℕ → Owner
  signaller x = cond (nat_eq (x % 2) 0) (empty_owner (x / 2)) (full_owner (x / 2))

  -- A send or a receive of this many elements: a wait, a load and a store for each element, and the advance.
  abbrev pub half_by : ℕ → ℕ → ℕ → Half
  half_by s a len = record { sequence = s; waits = begins p s a; advances = begins p s a + suc (2 * len) }

  -- half 2t of a medium's transfers is the send of transfer t, half 2t + 1 its receive
  abbrev pub half : ℕ → ℕ → Half
  half m i = cond (nat_eq (i % 2) 0)
      (half_by (w.transfer m (i / 2)).sender (w.transfer m (i / 2)).send_at (len_of p (w.transfer m (i / 2)).sent))
      (half_by (w.transfer m (i / 2)).receiver (w.transfer m (i / 2)).receive_at
      (len_of p (w.transfer m (i / 2)).received))

module _ (p : Program) (order : List ℕ) where
  -- no loop has more micro-steps than that
  abbrev pub stride : ℕ
  stride = sum_below (λ s. length (code p s).turn) (length p.seqs)

  -- a micro-step stands by its instruction's place in the order, and then by its own place in the loop
  abbrev pub spot : ℕ → ℕ → ℕ
  spot s l = place p order s (block_at (size p s) (length (turn p s)) l) * stride + l

  -- The places of all micro-steps of a reaction in the serial order are below this number.
  abbrev pub steps : ℕ
  steps = length order * stride

  -- no prologue has more micro-steps than that
  abbrev pub front : ℕ
  front = sum_below (λ s. length (code p s).prologue) (length p.seqs)

-- A program with this serial order of its instructions is synchronized in this way.
abbrev pub discipline : Program → List ℕ → Discipline
discipline p order = record {
  signaller = signaller p (places p);
  half = half p (places p);
  spot = spot p order;
  steps = steps p order;
  front = front p order;
}

-- With a serial order, a job's system is synchronized and ordered so.
abbrev pub ProgramsAreDisciplined : Type 0
ProgramsAreDisciplined = (j : JobData) (seqs : List Seq) (order : List ℕ) →
    IsOrder j.program j.graph seqs j.media order →
    IsSynchronized (system j) (discipline j.program order).signaller (discipline j.program order).half ×
    IsOrdered (system j) (discipline j.program order).signaller (discipline j.program order).half
    (discipline j.program order).spot (discipline j.program order).steps (discipline j.program order).front
