-- What is left of a fabric whose drivers are all gathered.
use Rattle.std.proofs.Common.{◌≡◌, ℕ, ◌+◌, ◌<◌, List, min, sum, Some, sym, ap, subst, ◌∙◌}
use Rattle.word_rule.specs.Job.{JobData}
use Rattle.word_rule.specs.Core.{AreReached}
use Rattle.word_rule.specs.Told.{told}
use Rattle.word_rule.specs.Ended.{FullIsEnded, full_counts}
use Rattle.word_rule.specs.Driven.{Driven, closed, driven_by, last_number}
use Rattle.word_rule.specs.Steps.{HoldsCounts}
use Rattle.word_rule.specs.Table.{SeatData}
use Rattle.word_rule.specs.Words.{words_of}
use Rattle.word_table.specs.declared.remains.Remains.{Remains}
use Rattle.word_table.specs.declared.fabric_parts.FabricParts.{FabricParts}
use Rattle.word_table.specs.Closed.{ClosedData, IsClosedAt, IsAtEnd}
use Rattle.word_table.specs.Driver.{FabricData, DriverData, AreDrivers, AreFinished, counts_of}
use Rattle.word_table.specs.Ends.{IsGathered, SeatHolds}
use Rattle.word_table.specs.Parts.{AreFabricParts, fabric_view}
use Rattle.word_table.proofs.Closings.{counts_many, finished_counts, ends_whole, seat_all}
use Rattle.word_table.proofs.Ends.{cells_told, rows_told, counts_are}
use Rattle.syn_base.specs.Vectors.{Values}

module _ (w : FabricParts) (is : AreFabricParts w) (ds : List DriverData) (r : Remains)
    (g : IsGathered w.job.now w.groups 0 (counts_of (fabric_view w) ds) r) (key : JobData) (key_is : key ≡ w.job.now) (xs : List ℕ)
    (xs_are : xs ≡ r.counts.items) where
  counts_whole : r.counts.items ≡ counts_of (fabric_view w) ds
  counts_whole = counts_are w.job.now is.runs w.groups (counts_of (fabric_view w) ds) (counts_many (fabric_view w) ds) r g

  -- the seat drives every sequence
  pub seat_whole : (s : SeatData) → SeatHolds w.job.now w.table.table w.groups 0 (Some s) (counts_of (fabric_view w) ds) → HoldsCounts key s.view xs
  seat_whole s h = subst (λ (j : JobData). HoldsCounts j s.view xs) (sym key_is)
      (subst (HoldsCounts w.job.now s.view) (sym (xs_are ∙ counts_whole)) (seat_all w.job.now w.table.table w.groups (counts_of (fabric_view w) ds) s (counts_many (fabric_view w) ds) h))

  module _ (f : FabricData) (view_is : fabric_view w ≡ f) where
    counts_now : r.counts.items ≡ counts_of f ds
    counts_now = counts_whole ∙ ap (λ (v : FabricData). counts_of v ds) view_is

    job_now : key ≡ f.job
    job_now = key_is ∙ ap (λ (v : FabricData). v.job) view_is

    pub driven_whole : (old : Driven) (before number : ℕ) (ys words : List ℕ) → before ≡ old.number → ys ≡ r.counts.items → number ≡ min (before + sum ys) last_number → words ≡ words_of (told key xs)
        → record { number = number; counts = r.counts.items; words = words } ≡ closed f.job (counts_of f ds) old
    driven_whole old before number ys words b y n e = λ i. record {
      number = (n ∙ (λ k. min (b k + sum ((y ∙ counts_now) k)) last_number)) i;
      counts = counts_now i;
      words = (e ∙ (λ k. words_of (told (job_now k) ((xs_are ∙ counts_now) k)))) i;
    }

    pub closed_whole : (cells : Values) → cells ≡ r.cells.items → AreReached key xs → IsClosedAt f.job (counts_of f ds) (record { rows = r.rows; cells = cells })
    closed_whole cells c h = subst (λ (v : FabricData). IsClosedAt v.job (counts_of v ds) (record { rows = r.rows; cells = cells })) view_is (record {
      reached = subst (AreReached w.job.now) (xs_are ∙ counts_whole) (subst (λ (j : JobData). AreReached j xs) key_is h);
      lens = g.lens;
      rows = rows_told w.job.now is.runs w.groups (counts_of (fabric_view w) ds) (counts_many (fabric_view w) ds) r g;
      cells = c ∙ cells_told w.job.now is.runs w.groups (counts_of (fabric_view w) ds) (counts_many (fabric_view w) ds) r g;
    })

    pub ended_whole : FullIsEnded → AreDrivers f ds → (old new : Driven) (c : ClosedData) → new ≡ closed f.job (counts_of f ds) old
        → IsClosedAt f.job (counts_of f ds) c → AreFinished ds → (new ≡ driven_by f.job old) × IsAtEnd f.job c
    ended_whole law all old new c e i h = (
      e ∙ ap (λ (cs : List ℕ). closed f.job cs old) full,
      subst (λ (v : FabricData). (cs : List ℕ) → cs ≡ full_counts v.job → IsClosedAt v.job cs c → IsAtEnd v.job c) view_is
          (λ cs q a. ends_whole law w.job.now is.runs cs c q a) (counts_of f ds) full i,
    )
      where
        full : counts_of f ds ≡ full_counts f.job
        full = finished_counts f ds (subst (λ (v : FabricData). 0 < v.groups) view_is is.some) all h
