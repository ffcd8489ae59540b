-- The counts of all drivers, and the seats that are made one.
use Rattle.std.proofs.Common.{◌≡◌, ℕ, zero, suc, ◌+◌, ◌%◌, ◌<◌, ◌≤◌, ◌⊎◌, inl, inr, ⊎_elim, List, [], ◌∷◌, ◌++◌, length, get_or, Option, Some, None, refl, sym, ap, subst, arith, ◌∙◌, zero-add}
use Rattle.std.specs.Prelude.{slice_get}
use Rattle.std.proofs.lemmas.Bool.{cases_eq}
use Rattle.std.proofs.lemmas.List.FromFn.{length-map-range_with_len, get_or-map-range_with_len}
use Rattle.std.proofs.lemmas.Nat.{mod_below}
use Rattle.std.proofs.lemmas.Option.{slice_get_within}
use Rattle.atomic_table.specs.Seated.{TableId}
use Rattle.executive_program.specs.Graph.{lens_of}
use Rattle.word_rule.specs.Job.{JobData}
use Rattle.word_rule.specs.Core.{full}
use Rattle.word_rule.specs.Held.{HasRow}
use Rattle.word_rule.specs.Told.{told}
use Rattle.word_rule.proofs.Numbered.{actuator_at}
use Rattle.word_rule.specs.Ended.{FullIsEnded, full_counts}
use Rattle.word_rule.specs.declared.view.Knowledge.{Knowledge}
use Rattle.word_rule.specs.declared.view.View.{View}
use Rattle.word_rule.specs.declared.view.View.TheVariants.{Spent, Holds}
use Rattle.word_rule.specs.Given.{RunsOnWords}
use Rattle.word_rule.specs.Steps.{HoldsCounts}
use Rattle.word_rule.specs.Table.{SeatData}
use Rattle.word_rule.specs.Views.{count_in, joined}
use Rattle.word_rule.proofs.Ending.{same_lists}
use Rattle.word_rule.proofs.Splitting.{both_back, both_left, both_right}
use Rattle.word_table.specs.declared.remains.Remains.{Remains}
use Rattle.word_table.specs.declared.driver_parts.DriverParts.{DriverParts}
use Rattle.word_table.specs.Driver.{FabricData, DriverData, AreDrivers, AreFinished, count_by, counts_of}
use Rattle.word_table.specs.Closed.{ClosedData, IsClosedAt, IsAtEnd}
use Rattle.word_table.specs.Ends.{AreOfJob, FitsTo, IsGathered, HoldsFrom, SeatHolds, seat_with}
use Rattle.word_table.specs.Parts.{IsDriver, AreDriverParts}

-- the count of a sequence is its driver's
pub counts_at : (f : FabricData) (ds : List DriverData) (s : ℕ) (d : DriverData) → s < length f.job.program.seqs
    → slice_get ds (s % f.groups) ≡ Some d → get_or (counts_of f ds) s 0 ≡ get_or d.counts s 0
counts_at f ds s d l e = get_or-map-range_with_len (λ i. count_by (slice_get ds (i % f.groups)) i) 0 (length f.job.program.seqs) s s 0 l (zero-add s) ∙ ap (λ (o : Option DriverData). count_by o s) e

pub counts_many : (f : FabricData) (ds : List DriverData) → length (counts_of f ds) ≡ length f.job.program.seqs
counts_many f ds = length-map-range_with_len (λ i. count_by (slice_get ds (i % f.groups)) i) 0 (length f.job.program.seqs)

there_at : {A : Type 0} (xs : List A) (k : ℕ) → k < length xs → (x : A) × (slice_get xs k ≡ Some x)
there_at [] k l = absurd (omega arith)
there_at (x ∷ xs) zero l = (x, refl)
there_at (x ∷ xs) (suc k) l = there_at xs k (omega arith)

-- where all drivers are finished, all counts are full
pub finished_counts : (f : FabricData) (ds : List DriverData) → 0 < f.groups → AreDrivers f ds → AreFinished ds → counts_of f ds ≡ full_counts f.job
finished_counts f ds some a h = same_lists (counts_of f ds) (full_counts f.job) (counts_many f ds ∙ sym (length-map-range_with_len (full f.job) 0 (length f.job.program.seqs))) each
  where
    each : (s : ℕ) → s < length (counts_of f ds) → get_or (counts_of f ds) s 0 ≡ get_or (full_counts f.job) s 0
    each s q = let l : s < length f.job.program.seqs = (let m = counts_many f ds in omega (arith, m, q)) in
        let d = there_at ds (s % f.groups) (let m = mod_below s f.groups some in let n = a.many in omega (arith, m, n)) in
        let o = a.each (s % f.groups) d.0 d.1 in
        counts_at f ds s d.0 l d.1
        ∙ h (s % f.groups) d.0 d.1 s (record { there = subst (λ (w : FabricData). s < length w.job.program.seqs) (sym o.0) l; grouped = ap (λ (w : FabricData). s % w.groups) o.0 ∙ sym o.1 })
        ∙ ap (λ (w : FabricData). full w.job s) o.0
        ∙ sym (get_or-map-range_with_len (full f.job) 0 (length f.job.program.seqs) s s 0 l (zero-add s))

-- what is closed at full counts is at its end
pub ends_whole : FullIsEnded → (j : JobData) → RunsOnWords j → (counts : List ℕ) (c : ClosedData) → counts ≡ full_counts j → IsClosedAt j counts c → IsAtEnd j c
ends_whole law j g counts c e i = let h = law j g.supplied in record {
  lens = i.lens;
  rows = i.rows ∙ ap (λ (cs : List ℕ). (told j cs).rows) e ∙ h.rows;
  cells = i.cells ∙ ap (λ (cs : List ℕ). (told j cs).cells) e ∙ h.cells;
}

-- what is gathered so far fits to a driver
pub fits_to : (j : JobData) (groups m : ℕ) (counts : List ℕ) (r : Remains) (d : DriverParts) → RunsOnWords j → d.job.now ≡ j → IsGathered j groups m counts r → FitsTo d r
fits_to j groups m counts r d g e h = record {
  of_job = subst (λ (i : JobData). AreOfJob i r) (sym e) h.of_job;
  laid = subst (λ (i : JobData). (v : ℕ) → HasRow i r.rows.lens v) (sym e) (λ v x a is k. let q = actuator_at j.graph g.formed.valid v a x is k in
      subst (λ (l : List ℕ). (a < length l) × (get_or l a 0 ≡ get_or (lens_of j.graph.vertices x.ins) 0 0)) (sym h.lens) q);
}

-- the view of a driver's seat
pub holds_group : (j : JobData) (k : Knowledge) (d : DriverParts) (t : TableId) (counts : List ℕ) → IsDriver j t k d
    → ((s : ℕ) → s < length j.program.seqs → s % d.groups ≡ d.group → get_or counts s 0 ≡ get_or d.counts.items s 0)
    → (s : ℕ) → s < length j.program.seqs → s % d.groups ≡ d.group → count_in k.driven s ≡ Some (get_or counts s 0)
holds_group j k d t counts i agree s l q = let r = i.all s l q in r.1 ∙ ap (λ (n : ℕ). Some n) (sym (i.counted s r.0 r.1) ∙ sym (agree s l q))

-- one group more
module _ (j : JobData) (table : TableId) (groups m : ℕ) (counts : List ℕ) (k : Knowledge)
    (mine : (s : ℕ) → s < length j.program.seqs → s % groups ≡ m → count_in k.driven s ≡ Some (get_or counts s 0))
    (only : (s n : ℕ) → count_in k.driven s ≡ Some n → s % groups ≡ m) (some : 0 < groups) where
  which : (s : ℕ) → m ≤ s % groups → (s % groups ≡ m) ⊎ (m + 1 ≤ s % groups)
  which s h = ⊎_elim (λ q. inl q) (λ q. inr (omega (arith, q, h))) (cases_eq (s % groups) m)

  -- the last group alone
  alone : m + 1 ≡ groups → HoldsFrom j groups m (Holds k) counts
  alone e = record {
    inside = λ s l h. mine s l (let b = mod_below s groups some in omega (arith, b, e, h));
    none_else = λ s n c. let q = only s n c in omega (arith, q);
  }

  -- with those after it
  beside : (v : View) → HoldsFrom j groups (m + 1) v counts → HoldsFrom j groups m (joined v (Holds k)) counts
  beside Spent h = record {
    inside = λ s l q. ⊎_elim (λ e. mine s l e) (λ e. absurd (no_count _ (h.inside s l e))) (which s q);
    none_else = λ s n c. let q = only s n c in omega (arith, q);
  }
    where
      no_count : (n : ℕ) → ◌≡◌ {A = Option ℕ} None (Some n) → ⊥
      no_count n e = cc
  beside (Holds l) h = record {
    inside = λ s i q. ⊎_elim
        (λ e. second s i e (both_right l.driven k.driven s (get_or counts s 0) (mine s i e)))
        (λ e. both_left l.driven k.driven s (get_or counts s 0) (h.inside s i e)) (which s q);
    none_else = λ s n c. ⊎_elim (λ e. let q = h.none_else s n e in omega (arith, q)) (λ e. let q = only s n e in omega (arith, q)) (both_back l.driven k.driven s n c);
  }
    where
      second : (s : ℕ) → s < length j.program.seqs → s % groups ≡ m → (n : ℕ) × (count_in (l.driven ++ k.driven) s ≡ Some n) → count_in (l.driven ++ k.driven) s ≡ Some (get_or counts s 0)
      second s i q (n, c) = ⊎_elim
          (λ w. let a = h.none_else s n w in absurd (omega (arith, a, q)))
          (λ w. c ∙ sym w ∙ mine s i q) (both_back l.driven k.driven s n c)

  pub seat_more : (seat : Option SeatData) (own : SeatData) → own.table ≡ table → own.view ≡ Holds k
      → SeatHolds j table groups (m + 1) seat counts → SeatHolds j table groups m (Some (seat_with seat own)) counts
  seat_more None own e v h = (e, subst (λ (w : View). HoldsFrom j groups m w counts) (sym v) (alone h))
  seat_more (Some s) own e v h = (h.0, subst (λ (w : View). HoldsFrom j groups m (joined s.view w) counts) (sym v) (beside s.view h.1))

-- in the end a seat drives every sequence
pub seat_all : (j : JobData) (table : TableId) (groups : ℕ) (counts : List ℕ) (s : SeatData) → length counts ≡ length j.program.seqs
    → SeatHolds j table groups 0 (Some s) counts → HoldsCounts j s.view counts
seat_all j table groups counts s many h = record { long = many; each = λ i l. h.1.inside i l (omega arith) }

-- the rows of the actuators of a driver's group are laid out
pub own_laid : (d : DriverParts) (r : Remains) → AreDriverParts d → FitsTo d r → (v : ℕ) → get_or r.callers.items v 0 % d.groups ≡ d.group → HasRow d.job.now d.own.kept.lens v
own_laid d r (k, i) f v q x a is e = (i.laid v (ap (λ (s : ℕ). s % d.groups) (sym (f.of_job.callers v (slice_get_within d.job.now.graph.vertices v x is))) ∙ q)).row x a is e
