-- Drafts under way: one more decision, and what a draft gives in the end.
use Rattle.std.proofs.Common.{
  ◌≡◌,
  ℕ,
  zero,
  suc,
  ◌+◌,
  ◌<◌,
  ◌≤◌,
  Bool,
  true,
  false,
  cond,
  ◌&&◌,
  not,
  List,
  [],
  ◌∷◌,
  ◌++◌,
  length,
  Option,
  Some,
  None,
  Ok,
  Err,
  refl,
  sym,
  ap,
  subst,
  arith,
  ◌∙◌,
  inl,
  inr,
  ◌⊎◌,
}
use Rattle.std.specs.Prelude.{All, IfOk, IfSome, IsNone, IsSome, IsSomeAnd, IsTrue, Result, nat_lt, slice_get, sum_by}
use Rattle.std.specs.List.{filter, list_all, range_with_len}
use Rattle.std.proofs.lemmas.Bool.{false≢true, true≢false}
use Rattle.std.proofs.lemmas.Option.{same_Some}
use Rattle.std.proofs.lemmas.List.FromFn.{length-range_with_len}
use Rattle.syn_base.specs.declared.memory.OutOfMemory.{OutOfMemory}
use Rattle.comm_routing.specs.Task.{Task}
use Rattle.comm_routing.specs.Given.{IsTask}
use Rattle.comm_routing.specs.Laws.{AreRight}
use Rattle.comm_routing.specs.Draft.{Drafted, after_placing, task_of}
use Rattle.comm_routing.specs.Placing.{decision, is_candidate, is_placed, may_place, needs}
use Rattle.comm_routing.proofs.Arrivals.{placed_rightly_behind}
use Rattle.comm_routing.proofs.Sites.{site_of}
use Rattle.self_timed.specs.FlatValid.{is_flat}
use Rattle.self_timed.specs.Archi.{is_archi}
use Rattle.self_timed.specs.Table.{IsRow, StandBeside}
use Rattle.self_timed.specs.declared.Decision.{Decision}
use Rattle.self_timed.specs.declared.Schedule.{Schedule}
use Rattle.self_timed.specs.Acts.{acts, acts_of, is_on, latest}
use Rattle.self_timed.specs.ScheduleValid.{is_valid}
use Rattle.self_timed.specs.Entries.{stated}
use Rattle.plan_costs.specs.declared.site.Site.{Site}
use Rattle.pressure_heuristic.specs.Pressure.{operations}
use Rattle.pressure_heuristic.proofs.Lists.{left, none_left}
use Rattle.pressure_heuristic.proofs.Whole.{all_of, left_within}
use Rattle.schedule_search.specs.Alone.{IsAlone, IsLone, MayAllStandOn, SoFar, when}
use Rattle.schedule_search.specs.Drafts.{IsDone, IsSite, IsUnderWay, IsValidIn, opened, site_task}
use Rattle.schedule_search.proofs.Lone.{at_first, count_left, may_stand_there, one_less, still_so}
use Rattle.schedule_search.proofs.Whole.{drafts_are_valid, passes_none}

pub begun : (s : Site) → is_flat s.flat.now ≡ true → is_archi s.archi.now.operators s.archi.now.media ≡ true → IsSite s
    → All (IsRow s.durations.now.operators) s.durations.now.rows → StandBeside s.durations.now
    → (r : Result Drafted OutOfMemory) → IfOk r (λ d. d ≡ opened s) → IfOk r (λ d. IsUnderWay d)
begun s flat archi site rows beside (Ok d) is =
    subst (λ (x : Drafted). IsUnderWay x) (sym is) (record {
      given = (site_of s.flat.now s.archi.now s.routes.now s.durations.now flat archi site.routes site.fits rows beside).given;
      right = refl;
    })
begun s flat archi site rows beside (Err e) h = h

pub still_under_way : (d e : Drafted) (v p : ℕ) → e ≡ after_placing d v p → IsTrue (may_place (task_of d) (acts_of d.decisions) v p) → IsUnderWay d → IsUnderWay e
still_under_way d e v p is may u =
    subst (λ (x : Drafted). IsUnderWay x) (sym is) (record {
      given = u.given;
      right = placed_rightly_behind (task_of d) u.given d.decisions v p u.right may;
    })

pub finished : (d : Drafted) (s : Schedule) → IsUnderWay d → IsDone (task_of d) d.decisions → s.decisions ≡ d.decisions → IsValidIn (task_of d) s
finished d s u done is =
    subst (λ (ds : List Decision). IsTrue (is_valid (task_of d).graph (task_of d).archi (task_of d).ticks (record { decisions = ds }))) (sym is)
    (drafts_are_valid (task_of d) u.given d.decisions u.right done)

pub valid_same : (t u : Task) → t ≡ u → (o : Option Schedule) → IfSome o (IsValidIn t) → IfSome o (IsValidIn u)
valid_same t u same o h = subst (λ (x : Task). IfSome o (IsValidIn x)) same h

-- where none is left to place, there is no candidate
pub done_of : (t : Task) (ds : List Decision) → count_left t ds ≤ 0 → IsDone t ds
done_of t ds l =
    let all = none_left (is_placed (acts_of ds)) (operations t) l in
    passes_none (is_candidate t (acts_of ds)) (operations t) (λ k v is. placed v (all_of (is_placed (acts_of ds)) (operations t) all k v is))
  where
    placed : (v : ℕ) → is_placed (acts_of ds) v ≡ true → is_candidate t (acts_of ds) v ≡ false
    placed v h = by (is_placed (acts_of ds) v) h (nat_lt v (length t.graph.vertices)) (list_all (is_placed (acts_of ds)) (needs t v))
      where
        by : (b : Bool) → b ≡ true → (low rest : Bool) → (low && not b && rest) ≡ false
        by true h true rest = refl
        by true h false rest = refl
        by false h low rest = absurd (true≢false (sym h))

pub few_left : (t : Task) → count_left t [] ≤ length t.graph.vertices
few_left t = let l = left_within t (is_placed []) (operations t) in let m = length-range_with_len 0 (length t.graph.vertices) in omega arith

-- all on one operator, so far and in the end
pub lone_of : (t : Task) (p : ℕ) (ds : List Decision) (s : Schedule) → acts s ≡ acts_of ds → SoFar t p ds → IsLone t p s
lone_of t p ds s is so =
    let w = so.within in
    let l = so.lasting in
    let long = ap latest is in
    let sum = ap (sum_by stated) is in
    record {
      long = omega arith;
      on = ap (list_all (is_on p)) is ∙ so.on;
      lasting = omega arith;
    }

-- what a draft with all on one operator gives
pub alone_of : (t u : Task) (p : ℕ) (ds : List Decision) → t ≡ u → (MayAllStandOn t p → IsDone t ds) → (MayAllStandOn t p → SoFar t p ds)
    → (o : Option Schedule) → (IsDone t ds → IsSome o) → IfSome o (λ s. s.decisions ≡ ds) → IsAlone u p o
alone_of t u p ds same done so o some is = subst (λ (x : Task). IsAlone x p o) same (λ all. by o (some (done all)) is (so all))
  where
    by : (o : Option Schedule) → IsSome o → IfSome o (λ s. s.decisions ≡ ds) → SoFar t p ds → IsSomeAnd o (IsLone t p)
    by None h is so = absurd (false≢true h)
    by (Some s) h is so = lone_of t p ds s (ap acts_of is) so

-- an operation that is returned where it may be placed may be placed
pub when_passes : (f : ℕ → Bool) (v : ℕ) (r : Option ℕ) → r ≡ when (f v) v → IfSome r (λ w. IsTrue (f w))
when_passes f v r e = subst (λ (o : Option ℕ). IfSome o (λ w. IsTrue (f w))) (sym e) (by (f v) refl)
  where
    by : (b : Bool) → f v ≡ b → IfSome (cond b (Some v) None) (λ w. IsTrue (f w))
    by true h = h
    by false h = tt

-- what stands among those that pass passes
pub passes_at : {A : Type 0} (test : A → Bool) (xs : List A) (k : ℕ) (y : A) → slice_get (filter test xs) k ≡ Some y → test y ≡ true
passes_at test [] k y e = absurd cc
passes_at test (x ∷ xs) k y e = by (test x) refl k e (λ j z. passes_at test xs j y z)
  where
    by : (b : Bool) → test x ≡ b → (k : ℕ) → slice_get (cond b (x ∷ filter test xs) (filter test xs)) k ≡ Some y → ((j : ℕ) → slice_get (filter test xs) j ≡ Some y → test y ≡ true) → test y ≡ true
    by true h zero e later = ap test (sym (same_Some x y e)) ∙ h
    by true h (suc j) e later = later j e
    by false h k e later = later k e

-- a candidate that is not returned may not be placed, so not all may stand there
pub none_returned : (d : Drafted) (v p : ℕ) (r : Option ℕ) → IsUnderWay d → slice_get (filter (is_candidate (task_of d) (acts_of d.decisions)) (range_with_len 0 (length d.graph.vertices))) 0 ≡ Some v
    → r ≡ when (may_place (task_of d) (acts_of d.decisions) v p) v → IsNone r → SoFar (task_of d) p d.decisions → MayAllStandOn (task_of d) p → IsDone (task_of d) d.decisions
none_returned d v p r u there is none so all =
    let can = passes_at (is_candidate (task_of d) (acts_of d.decisions)) (range_with_len 0 (length d.graph.vertices)) 0 v there in
    let may = may_stand_there (task_of d) u.given d.decisions v p so all can in
    absurd (by r (is ∙ ap (λ (b : Bool). when b v) may) none)
  where
    by : (o : Option ℕ) → o ≡ Some v → IsNone o → ⊥
    by None e h = cc
    by (Some w) e h = true≢false h

-- at first all are left, in time
pub count_first : (t : Task) (ds : List Decision) (n : ℕ) → ds ≡ [] → n ≡ length t.graph.vertices → count_left t ds + 0 ≤ n
count_first t ds n none all = let l = subst (λ (es : List Decision). count_left t es ≤ length t.graph.vertices) (sym none) (few_left t) in omega arith

pub so_first : (t : Task) (p : ℕ) (ds : List Decision) → ds ≡ [] → SoFar t p ds
so_first t p ds none = subst (λ (es : List Decision). SoFar t p es) (sym none) (at_first t p)

-- and after one decision more
pub count_next : (d e : Drafted) (v p n i : ℕ) → e ≡ after_placing d v p → IsUnderWay d → IsTrue (may_place (task_of d) (acts_of d.decisions) v p)
    → count_left (task_of d) d.decisions + i ≤ n → count_left (task_of e) e.decisions + (i + 1) ≤ n
count_next d e v p n i is u may l =
    let less = one_less (task_of d) u.given d.decisions v p may in
    subst (λ (x : Drafted). count_left (task_of x) x.decisions + (i + 1) ≤ n) (sym is) (omega arith)

pub so_next : (d e : Drafted) (v p : ℕ) → e ≡ after_placing d v p → IsUnderWay d → IsTrue (may_place (task_of d) (acts_of d.decisions) v p)
    → (MayAllStandOn (task_of d) p → SoFar (task_of d) p d.decisions) → MayAllStandOn (task_of e) p → SoFar (task_of e) p e.decisions
so_next d e v p is u may so =
    subst (λ (x : Drafted). MayAllStandOn (task_of x) p → SoFar (task_of x) p x.decisions) (sym is) (λ all. still_so (task_of d) u.given d.decisions v p may (so all))
