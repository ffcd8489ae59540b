-- One driver of a fabric is gathered: the one of the last group of those that are left.
use Rattle.std.proofs.Common.{◌≡◌, ℕ, ◌+◌, ◌%◌, ◌<◌, ◌≤◌, ◌++◌, List, [], ◌∷◌, take, length, get_or, Option, Some, None, refl, sym, ap, subst, arith, ◌∙◌}
use Rattle.std.specs.Prelude.{slice_get}
use Rattle.std.proofs.lemmas.List.{length-append}
use Rattle.std.proofs.lemmas.Option.{slice_get_within}
use Rattle.word_rule.specs.Job.{JobData}
use Rattle.word_rule.specs.Table.{SeatData}
use Rattle.word_rule.specs.Views.{count_in}
use Rattle.word_table.specs.declared.remains.Remains.{Remains}
use Rattle.word_table.specs.declared.driver_parts.DriverParts.{DriverParts}
use Rattle.word_table.specs.declared.fabric_parts.FabricParts.{FabricParts}
use Rattle.word_table.specs.Driver.{FabricData, DriverData, AreDrivers, counts_of}
use Rattle.word_table.specs.Ends.{FitsTo, Gathers, IsGathered, SeatHolds, seat_with}
use Rattle.word_table.specs.Parts.{IsDriver, AreDriverParts, AreFabricParts, driver_view, fabric_view}
use Rattle.word_table.proofs.Closings.{counts_at, fits_to, seat_more}
use Rattle.word_table.proofs.Ends.{none_gathered, gathered_more}
use Rattle.word_table.proofs.Popped.{popped}

module _ (w : FabricParts) (is : AreFabricParts w) (ds : List DriverData) (all : AreDrivers (fabric_view w) ds) where
  -- what the drivers from group m on have is gathered, in these remains and this seat
  abbrev pub AreGathered : ℕ → Remains → Option SeatData → Type 0
  AreGathered m r seat = IsGathered w.job.now w.groups m (counts_of (fabric_view w) ds) r × SeatHolds w.job.now w.table.table w.groups m seat (counts_of (fabric_view w) ds)

  pub begin : AreGathered (length ds) w.remains None
  begin = subst (λ (m : ℕ). AreGathered m w.remains None) (sym all.many) (none_gathered w.job.now w.groups (counts_of (fabric_view w) ds) w.remains is.some is.laid, refl)

  module _ (m : ℕ) (d : DriverParts) (v : DriverData) (view_is : driver_view d ≡ v) (here : slice_get ds m ≡ Some v) (parts : AreDriverParts d) where
    of : (driver_view d).fabric ≡ fabric_view w
    of = ap (λ (x : DriverData). x.fabric) view_is ∙ (all.each m v here).0

    job : d.job.now ≡ w.job.now
    job = ap (λ (f : FabricData). f.job) of

    groups : d.groups ≡ w.groups
    groups = ap (λ (f : FabricData). f.groups) of

    group : d.group ≡ m
    group = ap (λ (x : DriverData). x.group) view_is ∙ (all.each m v here).1

    driver : IsDriver w.job.now d.seat.table parts.0 d
    driver = subst (λ (j : JobData). IsDriver j d.seat.table parts.0 d) job parts.1

    own_count : (s : ℕ) → s < length w.job.now.program.seqs → s % w.groups ≡ m → get_or (counts_of (fabric_view w) ds) s 0 ≡ get_or d.counts.items s 0
    own_count s l q = counts_at (fabric_view w) ds s v l (subst (λ (n : ℕ). slice_get ds n ≡ Some v) (sym q) here) ∙ ap (λ (x : DriverData). get_or x.counts s 0) (sym view_is)

    mine : (s : ℕ) → s < length w.job.now.program.seqs → s % w.groups ≡ m → count_in parts.0.driven s ≡ Some (get_or (counts_of (fabric_view w) ds) s 0)
    mine s l q = let r = driver.all s l (ap (λ (n : ℕ). s % n) groups ∙ q ∙ sym group) in r.1 ∙ ap (λ (n : ℕ). Some n) (sym (driver.counted s r.0 r.1) ∙ sym (own_count s l q))

    only : (s n : ℕ) → count_in parts.0.driven s ≡ Some n → s % w.groups ≡ m
    only s n c = ap (λ (n : ℕ). s % n) (sym groups) ∙ driver.only s n c ∙ group

    pub below : d.group < d.groups
    below = let l = slice_get_within ds m v here in let a = all.many in let b = groups in let c = group in omega (arith, l, a, b, c)

    pub fits : (r : Remains) (seat : Option SeatData) → AreGathered (m + 1) r seat → FitsTo d r
    fits r seat g = fits_to w.job.now w.groups (m + 1) (counts_of (fabric_view w) ds) r d is.runs job g.0

    pub at_table : d.seat.table ≡ w.table.table
    at_table = ap (λ (f : FabricData). f.table) of

    pub one_more : (old new : Remains) (seat : Option SeatData) (own : SeatData) → Gathers d old new → own ≡ d.seat → AreGathered (m + 1) old seat → AreGathered m new (Some (seat_with seat own))
    one_more old new seat own t e g = (
      gathered_more w.job.now is.runs w.groups m (counts_of (fabric_view w) ds) old new d parts.0 driver groups group g.0 t own_count,
      seat_more w.job.now w.table.table w.groups m (counts_of (fabric_view w) ds) parts.0 mine only is.some seat own
          (ap (λ (s : SeatData). s.table) e ∙ at_table) (ap (λ (s : SeatData). s.view) e ∙ driver.holds) g.1,
    )

  -- the last driver of those that are left
  module _ (old new : List DriverData) (v : DriverData) (part : old ≡ take (length old) ds) (taken : old ≡ new ++ v ∷ []) (d : DriverParts)
      (view_is : driver_view d ≡ v) (parts : AreDriverParts d) where
    here : slice_get ds (length new) ≡ Some v
    here = (popped ds old new v part taken).1

    shorter : length old ≡ length new + 1
    shorter = ap (length {A = DriverData}) taken ∙ length-append new (v ∷ [])

    before : (r : Remains) (seat : Option SeatData) → AreGathered (length old) r seat → AreGathered (length new + 1) r seat
    before r seat = subst (λ (m : ℕ). AreGathered m r seat) shorter

    pub last_part : new ≡ take (length new) ds
    last_part = (popped ds old new v part taken).0

    pub last_short : length new ≤ length ds
    last_short = let l = slice_get_within ds (length new) v here in omega (arith, l)

    pub last_below : d.group < d.groups
    last_below = below (length new) d v view_is here parts

    pub last_fits : (r : Remains) (seat : Option SeatData) → AreGathered (length old) r seat → FitsTo d r
    last_fits r seat g = fits (length new) d v view_is here parts r seat (before r seat g)

    pub last_table : d.seat.table ≡ w.table.table
    last_table = at_table (length new) d v view_is here parts

    pub last_gathered : (r r' : Remains) (seat : Option SeatData) (own : SeatData) → Gathers d r r' → own ≡ d.seat
        → AreGathered (length old) r seat → AreGathered (length new) r' (Some (seat_with seat own))
    last_gathered r r' seat own t e g = one_more (length new) d v view_is here parts r r' seat own t e (before r seat g)
