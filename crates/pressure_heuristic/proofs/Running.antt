-- The run, one decision more; what guides it; and that its answer is valid.
use Rattle.std.proofs.Common.{◌≡◌, ℕ, zero, suc, ◌<◌, ◌≤◌, Bool, true, false, cond, List, [], ◌∷◌, ◌++◌, length, max, Option, Some, None, Ok, Err, refl, sym, ap, subst, arith, ◌∙◌, inl, inr}
use Rattle.std.specs.Prelude.{All, IfOk, IsTrue, Result, nat_eq, slice_index_or}
use Rattle.std.specs.List.{list_any}
use Rattle.std.proofs.lemmas.Bool.{cases_lt}
use Rattle.route_table.specs.Table.{RouteTable, IsTableOf}
use Rattle.pressure_heuristic.specs.Tasks.{task}
use Rattle.pressure_heuristic.proofs.Unique.{one_table}
use Rattle.syn_base.specs.declared.memory.OutOfMemory.{OutOfMemory}
use Rattle.schedule.specs.declared.Vertex.{Vertex}
use Rattle.schedule.specs.Graph.{Graph}
use Rattle.schedule.specs.Archi.{Architecture}
use Rattle.schedule.specs.Table.{Table, IsRow, entry_in}
use Rattle.schedule.specs.declared.decision.Decision.{Decision}
use Rattle.schedule.specs.declared.decision.Schedule.{Schedule}
use Rattle.schedule.specs.Acts.{acts_of}
use Rattle.schedule.specs.Valid.{is_valid}
use Rattle.comm_routing.specs.Task.{Task}
use Rattle.comm_routing.specs.Placing.{decision}
use Rattle.comm_routing.specs.Draft.{Drafted, IsSite, after_placing, task_of}
use Rattle.pressure_heuristic.specs.Pressure.{next, run_after, pressure_run, with_some}
use Rattle.pressure_heuristic.specs.Choosing.{IsGuide}
use Rattle.pressure_heuristic.specs.Tails.{raised, tails_in}
use Rattle.pressure_heuristic.proofs.Rounds.{tails_same}
use Rattle.pressure_heuristic.proofs.Whole.{runs_are_valid}

stopped : (t : Task) (m : ℕ) (ds : List Decision) → next t (acts_of ds) ≡ None → run_after t m ds ≡ ds
stopped t zero ds e = refl
stopped t (suc m) ds e = ap (λ (o : Option Decision). with_some o ds (λ d. run_after t m (ds ++ d ∷ []))) e

-- where no choice is left, or no step, the run is what was decided
pub run_ends : (t u : Task) (m ops : ℕ) (ds : List Decision) (s : Schedule) → t ≡ u → ops ≡ length u.graph.vertices → run_after t m ds
    ≡ run_after t ops [] → run_after t m ds ≡ ds → s.decisions ≡ ds → s ≡ pressure_run u
run_ends t u m ops ds s same count left done is =
    (λ i. record { decisions = (is ∙ sym done ∙ left ∙ (λ j. run_after (same j) (count j) [])) i })

pub ends_without : (t u : Task) (m ops : ℕ) (ds : List Decision) (s : Schedule) → t ≡ u → ops ≡ length u.graph.vertices → run_after t m ds
    ≡ run_after t ops [] → next t (acts_of ds) ≡ None → s.decisions ≡ ds → s ≡ pressure_run u
ends_without t u m ops ds s same count left none is = run_ends t u m ops ds s same count left (stopped t m ds none) is

pub ends_after : (t u : Task) (m ops : ℕ) (ds : List Decision) (s : Schedule) → t ≡ u → ops ≡ length u.graph.vertices → run_after t m ds
    ≡ run_after t ops [] → m ≡ 0 → s.decisions ≡ ds → s ≡ pressure_run u
ends_after t u m ops ds s same count left zero_left is = run_ends t u m ops ds s same count left (ap (λ (n : ℕ). run_after t n ds) zero_left) is

pub run_step : (t : Task) (m k : ℕ) (ds : List Decision) (d : Decision) → m ≡ suc k → next t (acts_of ds) ≡ Some d → run_after t m ds ≡ run_after t k (ds ++ d ∷ [])
run_step t m k ds d e n = ap (λ (j : ℕ). run_after t j ds) e ∙ ap (λ (o : Option Decision). with_some o ds (λ x. run_after t k (ds ++ x ∷ []))) n

pub guide_after : (d e : Drafted) (v p : ℕ) (table : Table) (tails : List ℕ) → e ≡ after_placing d v p → IsGuide d table tails → IsGuide e table tails
guide_after d e v p table tails is g =
    subst (λ (x : Drafted). IsGuide x table tails) (sym is) (record { same = g.same; tails_are = g.tails_are; size = g.size; low = g.low; columns = g.columns; rows = g.rows })

pub left_after : (d e : Drafted) (v p m k ops : ℕ) → e ≡ after_placing d v p → m ≡ suc k → next (task_of d) (acts_of d.decisions) ≡ Some (decision (task_of d) (acts_of d.decisions) v p)
    → run_after (task_of d) m d.decisions ≡ run_after (task_of d) ops [] → run_after (task_of e) k e.decisions ≡ run_after (task_of e) ops []
left_after d e v p m k ops is more n left =
    subst (λ (x : Drafted). run_after (task_of x) k x.decisions ≡ run_after (task_of x) ops []) (sym is)
    (sym (run_step (task_of d) m k d.decisions (decision (task_of d) (acts_of d.decisions) v p) more n) ∙ left)

row_short : (rs : List (List (Option ℕ))) (operators v : ℕ) → All (IsRow operators) rs → length (slice_index_or rs v []) ≤ operators
row_short [] operators v h = omega arith
row_short (x ∷ rs) operators zero h = let e = (h 0 x (omega arith)).each in omega arith
row_short (x ∷ rs) operators (suc v) h = row_short rs operators v (λ k d l. h (suc k) d (omega arith))

-- the tails guide a draft that begins
pub guide_of : (g : Graph) (a : Architecture) (r : RouteTable) (table : Table) (d : Drafted) → d
    ≡ record { graph = g; archi = a; routes = r; durations = table; decisions = [] } → length table.rows ≡ length g.vertices
    → table.operators ≡ length a.operators
    → All (IsRow table.operators) table.rows → (vs : List Vertex) → vs ≡ g.vertices → (tails : List ℕ) → length tails ≡ length vs → ((v : ℕ) → slice_index_or tails v 0 ≤ 2048000000000)
    → ((v : ℕ) → v < length vs → slice_index_or tails v 0 ≡ tails_in vs table (length vs) v) → IsGuide d table tails
guide_of g a r table d is rows columns all vs same tails size low are =
    subst (λ (x : Drafted). IsGuide x table tails) (sym is) (record {
      same = refl;
      tails_are = λ v l.
          let n = ap length same in
          are v (omega arith) ∙ (λ i. tails_in (same i) table (length (same i)) v)
          ∙ tails_same (task_of (record { graph = g; archi = a; routes = r; durations = table; decisions = [] })) table (λ w o. refl)
          (λ w. (let s = row_short table.rows table.operators w all in omega arith)) (length g.vertices) v;
      size = size ∙ ap length same;
      low = low;
      columns = columns;
      rows = rows;
    })

-- an answer that is the run is valid
pub valid_run : (g : Graph) (a : Architecture) (r : RouteTable) (table : Table) (d : Drafted) → d
    ≡ record { graph = g; archi = a; routes = r; durations = table; decisions = [] }
    → IsSite (record { graph = g; archi = a; routes = r; durations = table; decisions = [] })
    → (answer : Result Schedule OutOfMemory) → IfOk answer (λ s. s ≡ pressure_run (task_of d)) → IfOk answer (λ s. IsTrue (is_valid g a (entry_in table) s))
valid_run g a r table d is site (Ok s) h =
    let t = task_of (record { graph = g; archi = a; routes = r; durations = table; decisions = [] }) in
    let e : s ≡ pressure_run (task_of (record { graph = g; archi = a; routes = r; durations = table; decisions = [] })) = h ∙ ap (λ (x : Drafted). pressure_run (task_of x)) is in
    ap (is_valid g a (entry_in table)) e ∙ runs_are_valid t site.given
valid_run g a r table d is site (Err x) h = h

-- Dates that are raised stay low.
pub raised_low : (needs : List ℕ) (v date n bound : ℕ) → date ≤ bound → n ≤ bound → raised needs v date n ≤ bound
raised_low needs v date n bound d l = by (list_any (nat_eq v) needs)
  where
    by : (b : Bool) → cond b (max n date) n ≤ bound
    by true = omega arith
    by false = l

pub past_zero : (xs : List ℕ) (v : ℕ) → length xs ≤ v → slice_index_or xs v 0 ≡ 0
past_zero [] v l = refl
past_zero (x ∷ xs) zero l = absurd (omega arith)
past_zero (x ∷ xs) (suc v) l = past_zero xs v (omega arith)

pub dates_low : (old new : List ℕ) (needs : List ℕ) (date bound : ℕ) → length new ≡ length old
    → ((v : ℕ) → v < length old → slice_index_or new v 0 ≡ raised needs v date (slice_index_or old v 0))
    → ((v : ℕ) → slice_index_or old v 0 ≤ bound) → date ≤ bound
    → (v : ℕ) → slice_index_or new v 0 ≤ bound
dates_low old new needs date bound size is low d v = elim (cases_lt v (length old)) [
  | inl l ↦ (let e = is v l in let r = raised_low needs v date (slice_index_or old v 0) bound d (low v) in omega arith)
  | inr m ↦ (let e = past_zero new v (omega arith) in omega arith)
]

-- the table of routes does not matter, since there is one
pub run_of_any : (g : Graph) (a : Architecture) (r : RouteTable) (table : Table) (d : Drafted) → d ≡ record { graph = g; archi = a; routes = r; durations = table; decisions = [] } → IsTableOf a r
    → (answer : Result Schedule OutOfMemory) → IfOk answer (λ s. s ≡ pressure_run (task_of d)) → IfOk answer (λ s. (x : RouteTable) → IsTableOf a x → s ≡ pressure_run (task g a x table))
run_of_any g a r table d is routes (Ok s) h = λ x y. h ∙ ap (λ (e : Drafted). pressure_run (task_of e)) is ∙ ap (λ (z : RouteTable). pressure_run (task g a z table)) (one_table a r x routes y)
run_of_any g a r table d is routes (Err x) h = h
