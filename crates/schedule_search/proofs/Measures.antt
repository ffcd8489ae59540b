-- The measure of schedules: of those on one operator alone, and of the better one of two.
use Rattle.std.proofs.Common.{◌≡◌, ℕ, zero, suc, ◌+◌, ◌-◌, ◌*◌, ◌<◌, ◌≤◌, Bool, true, false, inl, inr, List, [], ◌∷◌, Option, Some, Ok, Err, refl, sym, ap, subst, arith, ◌∙◌}
use Rattle.std.specs.Prelude.{All, IfOk, IsTrue, Result, nat_le, slice_get, sum_by}
use Rattle.std.specs.List.{list_all}
use Rattle.std.proofs.lemmas.Bool.{and_parts, cases_lt, leb-true}
use Rattle.std.proofs.lemmas.Option.{same_Some}
use Rattle.syn_base.specs.declared.memory.OutOfMemory.{OutOfMemory}
use Rattle.comm_routing.specs.Task.{Task}
use Rattle.pressure_heuristic.specs.Adequation.{IsRunOfAny}
use Rattle.pressure_heuristic.specs.Pressure.{pressure_run}
use Rattle.pressure_heuristic.specs.Tasks.{task}
use Rattle.self_timed.specs.Graph.{Graph}
use Rattle.self_timed.specs.Archi.{Architecture, is_depth}
use Rattle.self_timed.specs.Table.{IsRow, Table}
use Rattle.self_timed.specs.declared.Schedule.{Schedule}
use Rattle.self_timed.specs.Acts.{acts, is_on}
use Rattle.self_timed.specs.Entries.{stated}
use Rattle.self_timed.specs.Told.{IsValidForSome}
use Rattle.self_timed.specs.Period.{OneOperatorHasItsLengthAsPeriod}
use Rattle.plan_costs.specs.declared.site.Goal.{Goal}
use Rattle.plan_costs.specs.declared.site.Goal.TheVariants.{Length, Period}
use Rattle.plan_costs.specs.declared.site.Site.{Site}
use Rattle.schedule_search.specs.declared.measured.Measured.{Measured}
use Rattle.schedule_search.specs.Alone.{IsAlone, IsLone, IsLowAlone, IsLowOn, MayAllStandOn}
use Rattle.schedule_search.specs.Drafts.{IsMeasured, IsValidIn, site_task}
use Rattle.schedule_search.specs.Found.{IsNoSlowerThanAlone, IsNoSlowerThanRun, MayAllStand, last_half, measure, measure_alone, time_alone}

pub valid_for_some : (s : Site) (x : Schedule) → All (IsRow s.durations.now.operators) s.durations.now.rows → IsValidIn (site_task s) x → IsValidForSome s.flat.now s.archi.now x
valid_for_some s x rows valid = record { durations = s.durations.now; rows = rows; valid = valid }

all_at : {A : Type 0} (test : A → Bool) (xs : List A) → list_all test xs ≡ true → (k : ℕ) (y : A) → slice_get xs k ≡ Some y → test y ≡ true
all_at test [] h k y e = absurd cc
all_at test (x ∷ xs) h zero y e = subst (λ z. test z ≡ true) (same_Some x y e) (and_parts (test x) (list_all test xs) h).0
all_at test (x ∷ xs) h (suc k) y e = all_at test xs (and_parts (test x) (list_all test xs) h).1 k y e

-- on one operator the measure is low: 50 reactions have 25 in their last half
low_measure : OneOperatorHasItsLengthAsPeriod → (s : Site) (goal : Goal) (p : ℕ) (x : Schedule) → 1 ≤ s.archi.now.depth → IsLone (site_task s) p x
    → measure goal s.flat.now s.archi.now x ≤ measure_alone goal (time_alone s.flat.now s.archi.now (site_task s).ticks p)
low_measure law s Length p x deep lone = lone.long
low_measure law s Period p x deep lone =
    let e : last_half s.flat.now s.archi.now x ≡ 25 * sum_by stated (acts x) = law s.flat.now s.archi.now x p 50 deep (all_at (is_on p) (acts x) lone.on) in
    let l = lone.lasting in
    omega arith

pub lone_is_low : OneOperatorHasItsLengthAsPeriod → (s : Site) (goal : Goal) (p : ℕ) (x : Schedule) → IsTrue (is_depth s.archi.now.depth) → IsAlone (site_task s) p (Some x)
    → (r : Result Measured OutOfMemory) → IfOk r (IsMeasured s goal) → IfOk r (λ m. m.schedule ≡ x) → IfOk r (λ m. IsLowOn (site_task s) goal p m.measure)
lone_is_low law s goal p x deep alone (Err e) is same = same
lone_is_low law s goal p x deep alone (Ok m) is same = low
  where
    low : IsLowOn (site_task s) goal p m.measure
    low may =
        let d = leb-true 1 s.archi.now.depth (and_parts (nat_le 1 s.archi.now.depth) (nat_le s.archi.now.depth 4) deep).0 in
        let l = low_measure law s goal p x d (alone may) in
        let e = is.measure ∙ ap (measure goal s.flat.now s.archi.now) same in
        omega arith

pub lower : (t : Task) (goal : Goal) (n k : ℕ) → n ≤ k → IsLowAlone t goal k → IsLowAlone t goal n
lower t goal n k l low p may = let h = low p may in omega arith

-- after one operator more
pub low_next : (t : Task) (goal : Goal) (k n m : ℕ) → m ≤ n → ((p : ℕ) → p < k → IsLowOn t goal p n) → IsLowOn t goal k m → (p : ℕ) → p < k + 1 → IsLowOn t goal p m
low_next t goal k n m l before here p lt may = elim (cases_lt p k) [
  | inl h ↦ (let b = before p h may in omega arith)
  | inr h ↦ (let e : k ≡ p = omega arith in subst (λ (q : ℕ). IsLowOn t goal q m) e here may)
]

-- what is no more than one of two that are the same is no more than the other
pub low_same : {A : Type 0} (f : A → ℕ) (n : ℕ) (x y : A) → n ≤ f x → x ≡ y → n ≤ f y
low_same f n x y l same = subst (λ z. n ≤ f z) same l

-- the pressure run is no slower than itself
pub run_is_no_slower : (g : Graph) (a : Architecture) (d : Table) (x : Schedule) → IsRunOfAny g a d x → IsNoSlowerThanRun g a d x
run_is_no_slower g a d x any r table = low_same (last_half g a) (last_half g a x) x (pressure_run (task g a r d)) (itself (last_half g a x)) (any r table)
  where
    itself : (n : ℕ) → n ≤ n
    itself n = omega arith

-- what is no slower than the pressure run, where the period is the goal
pub no_slower_than_run : (g : Graph) (a : Architecture) (d : Table) (goal : Goal) (x : Schedule) → IsRunOfAny g a d x → goal ≡ Period
    → (r : Result Schedule OutOfMemory) → IfOk r (λ s. measure goal g a s ≤ measure goal g a x) → IfOk r (IsNoSlowerThanRun g a d)
no_slower_than_run g a d goal x any period (Err e) low = low
no_slower_than_run g a d goal x any period (Ok s) low =
    let l : last_half g a s ≤ last_half g a x = subst (λ (q : Goal). measure q g a s ≤ measure q g a x) period low in
    λ r table. low_same (last_half g a) (last_half g a s) x (pressure_run (task g a r d)) l (any r table)

-- and no slower than all on one operator
pub no_slower_than_alone : (g : Graph) (a : Architecture) (ticks : ℕ → ℕ → Option ℕ) (goal : Goal) → goal ≡ Period
    → (r : Result Schedule OutOfMemory) → IfOk r (λ s. (p : ℕ) → MayAllStand g a ticks p → measure goal g a s ≤ measure_alone goal (time_alone g a ticks p))
    → IfOk r (IsNoSlowerThanAlone g a ticks)
no_slower_than_alone g a ticks goal period (Err e) low = low
no_slower_than_alone g a ticks goal period (Ok s) low =
    λ p may. subst (λ (q : Goal). measure q g a s ≤ measure_alone q (time_alone g a ticks p)) period (low p may)
