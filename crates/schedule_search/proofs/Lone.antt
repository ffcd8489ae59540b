-- All operations on one operator: nothing is carried, and each one starts when the one before it ends.
use Rattle.std.proofs.Common.{
  ◌≡◌,
  ℕ,
  zero,
  suc,
  ◌+◌,
  ◌-◌,
  ◌<◌,
  ◌≤◌,
  Bool,
  true,
  false,
  cond,
  ◌&&◌,
  ◌||◌,
  not,
  nat_eq,
  List,
  [],
  ◌∷◌,
  ◌++◌,
  map,
  length,
  Option,
  Some,
  None,
  max,
  refl,
  sym,
  ap,
  subst,
  arith,
  ◌∙◌,
  eq-eqb,
}
use Rattle.std.specs.Prelude.{IsTrue, is_some, nat_le, nat_lt, slice_get, sum_by}
use Rattle.std.specs.List.{filter, list_all, list_any, range_with_len}
use Rattle.std.specs.Cmp.Derive.{both_true}
use Rattle.std.proofs.lemmas.Bool.{false≢true, and_parts, or_left, or_right, lt-ltb, ltb-true, leb-true, eqb-true}
use Rattle.std.proofs.lemmas.List.{append-nil, append_assoc}
use Rattle.std.proofs.lemmas.List.Folds.{list_any-append}
use Rattle.std.proofs.lemmas.List.Sums.{sum_by_push}
use Rattle.std.proofs.Math.Nat.{le-max_left, le-max_right}
use Rattle.comm_routing.specs.Task.{Task}
use Rattle.comm_routing.specs.Given.{IsTask}
use Rattle.comm_routing.specs.Placing.{
  arrival,
  decision,
  fetched,
  fetched_all,
  along,
  half_end,
  halves,
  held_from,
  holds,
  is_candidate,
  is_placed,
  last_end,
  makes,
  may_place,
  may_stand,
  needs,
  operator_of,
  sources,
  start,
  ticks_in,
  transfers,
}
use Rattle.comm_routing.proofs.Done.{any_more, held_where_made}
use Rattle.comm_routing.proofs.Right.{candidate_given, is_given}
use Rattle.pressure_heuristic.specs.Pressure.{operations}
use Rattle.pressure_heuristic.proofs.Lists.{left, one_fewer}
use Rattle.pressure_heuristic.proofs.Whole.{in_range}
use Rattle.self_timed.specs.declared.Source.{Source}
use Rattle.self_timed.specs.Graph.{len_of}
use Rattle.self_timed.specs.declared.Transfer.{Transfer}
use Rattle.self_timed.specs.declared.Decision.{Decision}
use Rattle.self_timed.specs.Acts.{Act, carry, run, acts_of, end_of, is_on, latest, runs, copy}
use Rattle.self_timed.proofs.Behind.{acts-append}
use Rattle.self_timed.proofs.Lengths.{latest-append}
use Rattle.self_timed.specs.Entries.{stated}
use Rattle.schedule_search.specs.Found.{MayAllStand, time_alone}
use Rattle.schedule_search.specs.Alone.{SoFar, time_left}
use Rattle.schedule_search.proofs.Timed.{all_left, less_left}
use Rattle.syn_base.specs.Numbers.{greatest}

pub on_operator : (p : ℕ) (acts : List Act) (v : ℕ) → list_all (is_on p) acts ≡ true → is_placed acts v ≡ true → operator_of acts v ≡ p
on_operator p [] v on h = absurd (false≢true h)
on_operator p (carry c ∷ acts) v on h = absurd (false≢true on)
on_operator p (run d ∷ acts) v on h =
    let both = and_parts (nat_eq d.operator p) (list_all (is_on p) acts) on in
    by (nat_eq d.op v) h (eqb-true d.operator p both.0) (λ e. on_operator p acts v both.1 e)
  where
    by : (b : Bool) → (b || is_placed acts v) ≡ true → d.operator ≡ p → (is_placed acts v ≡ true → operator_of acts v ≡ p) → cond b d.operator (operator_of acts v) ≡ p
    by true h here later = here
    by false h here later = later h

pub all_append : {A : Type 0} (f : A → Bool) (xs ys : List A) → list_all f xs ≡ true → list_all f ys ≡ true → list_all f (xs ++ ys) ≡ true
all_append f [] ys h k = k
all_append f (x ∷ xs) ys h k = let both = and_parts (f x) (list_all f xs) h in both_true both.0 (all_append f xs ys both.1 k)

latest_filter : (test : Act → Bool) (acts : List Act) → latest (filter test acts) ≤ latest acts
latest_filter test [] = omega arith
latest_filter test (x ∷ acts) = by (test x) (latest_filter test acts)
  where
    by : (b : Bool) → latest (filter test acts) ≤ latest acts → latest (cond b (x ∷ filter test acts) (filter test acts)) ≤ max (end_of x) (latest acts)
    by true l = omega arith
    by false l = omega arith

greatest_low : {A : Type 0} (f : A → ℕ) (bound : ℕ) → ((x : A) → f x ≤ bound) → (xs : List A) → greatest (map f xs) ≤ bound
greatest_low f bound low [] = omega arith
greatest_low f bound low (x ∷ xs) = let a = low x in let b = greatest_low f bound low xs in omega arith

module _ (t : Task) (p : ℕ) where
  -- what is given is held on the operator already
  none_fetched : (before : List Act) → list_all (is_on p) before ≡ true → (xs : List Source) → list_all (is_given t before) xs ≡ true → fetched_all t before p xs ≡ []
  none_fetched before on [] given = refl
  none_fetched before on (x ∷ xs) given =
      let both = and_parts (is_given t before x) (list_all (is_given t before) xs) given in
      let parts = and_parts (is_placed before x.vertex) (nat_le 1 (len_of t.graph.vertices x)) both.0 in
      let made = held_where_made t before x parts.0 (leb-true 1 (len_of t.graph.vertices x) parts.1) in
      let held : holds t before (copy p x) ≡ true = subst (λ (o : ℕ). holds t before (copy o x) ≡ true) (on_operator p before x.vertex on parts.0) made in
      let from = operator_of before x.vertex in
      let none : fetched t before p x ≡ [] = ap (λ (b : Bool). cond b [] (along t before x from (t.route from p))) held in
      (λ i. none i ++ fetched_all t (before ++ map carry (none i)) p xs)
      ∙ ap (λ (l : List Act). fetched_all t l p xs) (append-nil before) ∙ none_fetched before on xs both.1

  -- nothing starts later than the last end
  start_low : (before : List Act) (v : ℕ) → transfers t before v p ≡ [] → start t before v p ≤ latest before
  start_low before v none =
      let after = before ++ map carry (transfers t before v p) in
      let same : latest after ≡ latest before = ap (λ (cs : List Transfer). latest (before ++ map carry cs)) none ∙ ap latest (append-nil before) in
      let a : arrival t before v p ≤ latest after = greatest_low (λ x. held_from t after (copy p x)) (latest after) (λ x. latest_filter (makes t (copy p x)) after) (sources t v) in
      let b : last_end (is_on p) before ≤ latest before = latest_filter (is_on p) before in
      let c : half_end t before v ≤ latest before = greatest_low (λ u. last_end (runs u) before) (latest before) (λ u. latest_filter (runs u) before) (halves t v) in
      omega arith

-- how many operations are left
abbrev pub count_left : Task → List Decision → ℕ
count_left t ds = left (is_placed (acts_of ds)) (operations t)

pub at_first : (t : Task) (p : ℕ) → SoFar t p []
at_first t p = record {
  on = refl;
  within = let e = all_left (λ v. ticks_in (t.ticks v p)) (is_placed []) (λ v. refl) (operations t) in omega arith;
  lasting = let e = all_left (λ v. ticks_in (t.ticks v p)) (is_placed []) (λ v. refl) (operations t) in omega arith;
}

-- acts, and one operation more for which nothing is carried
module _ (t : Task) (given : IsTask t) (ds : List Decision) (v p : ℕ) (may : may_place t (acts_of ds) v p ≡ true) where
  can : is_candidate t (acts_of ds) v ≡ true
  can = (and_parts (is_candidate t (acts_of ds) v) (may_stand t (acts_of ds) v p) may).0

  there : v < length t.graph.vertices
  there =
      let low = nat_lt v (length t.graph.vertices) in
      let fresh = not (is_placed (acts_of ds) v) in
      ltb-true v (length t.graph.vertices) (and_parts low fresh (and_parts (low && fresh) (list_all (is_placed (acts_of ds)) (needs t v)) can).0).0

  joined : acts_of (ds ++ decision t (acts_of ds) v p ∷ []) ≡ (acts_of ds ++ map carry (transfers t (acts_of ds) v p)) ++ run (decision t (acts_of ds) v p) ∷ []
  joined = acts-append ds (decision t (acts_of ds) v p ∷ []) ∙ sym (append_assoc (acts_of ds) (map carry (transfers t (acts_of ds) v p)) (run (decision t (acts_of ds) v p) ∷ []))

  more : (w : ℕ) → is_placed (acts_of ds) w ≡ true → is_placed (acts_of (ds ++ decision t (acts_of ds) v p ∷ [])) w ≡ true
  more w h = ap (λ (l : List Act). is_placed l w) joined
      ∙ any_more (runs w) (acts_of ds ++ map carry (transfers t (acts_of ds) v p)) (run (decision t (acts_of ds) v p) ∷ [])
      (any_more (runs w) (acts_of ds) (map carry (transfers t (acts_of ds) v p)) h)

  now : is_placed (acts_of (ds ++ decision t (acts_of ds) v p ∷ [])) v ≡ true
  now = ap (λ (l : List Act). is_placed l v) joined ∙ list_any-append (runs v) (acts_of ds ++ map carry (transfers t (acts_of ds) v p)) (run (decision t (acts_of ds) v p) ∷ [])
      ∙ or_right (is_placed (acts_of ds ++ map carry (transfers t (acts_of ds) v p)) v) (nat_eq v v || false) (or_left (nat_eq v v) false (eq-eqb v v refl))

  -- one fewer is left
  pub one_less : count_left t (ds ++ decision t (acts_of ds) v p ∷ []) < count_left t ds
  one_less = one_fewer (is_placed (acts_of ds)) (is_placed (acts_of (ds ++ decision t (acts_of ds) v p ∷ []))) more (operations t) v v
      (in_range (length t.graph.vertices) v there) (candidate_given t given.flat (acts_of ds) v can).fresh now

  -- and all is done in time
  pub still_so : SoFar t p ds → SoFar t p (ds ++ decision t (acts_of ds) v p ∷ [])
  still_so so =
      let c = candidate_given t given.flat (acts_of ds) v can in
      let none : transfers t (acts_of ds) v p ≡ [] = none_fetched t p (acts_of ds) so.on (sources t v) c.given in
      let d = decision t (acts_of ds) v p in
      let shut : acts_of (ds ++ decision t (acts_of ds) v p ∷ []) ≡ acts_of ds ++ run (decision t (acts_of ds) v p) ∷ []
      = joined ∙ ap (λ (cs : List Transfer). (acts_of ds ++ map carry cs) ++ run (decision t (acts_of ds) v p) ∷ []) none
      ∙ ap (λ (l : List Act). l ++ run (decision t (acts_of ds) v p) ∷ []) (append-nil (acts_of ds)) in
      let low = start_low t p (acts_of ds) v none in
      let long : latest (acts_of (ds ++ decision t (acts_of ds) v p ∷ [])) ≡ max (latest (acts_of ds)) (max (start t (acts_of ds) v p + ticks_in (t.ticks v p)) 0)
      = ap latest shut ∙ latest-append (acts_of ds) (run (decision t (acts_of ds) v p) ∷ []) in
      let less = less_left (λ w. ticks_in (t.ticks w p)) (is_placed (acts_of ds))
      (is_placed (acts_of (ds ++ decision t (acts_of ds) v p ∷ []))) more (operations t) v v (in_range (length t.graph.vertices) v there) c.fresh now in
      let w = so.within in
      let l = so.lasting in
      let sum : sum_by stated (acts_of (ds ++ decision t (acts_of ds) v p ∷ [])) ≡ sum_by stated (acts_of ds) + (start t (acts_of ds) v p + ticks_in (t.ticks v p) - start t (acts_of ds) v p)
      = ap (sum_by stated) shut ∙ sum_by_push stated (acts_of ds) (run (decision t (acts_of ds) v p)) in
      record {
        on = ap (list_all (is_on p)) shut ∙ all_append (is_on p) (acts_of ds) (run (decision t (acts_of ds) v p) ∷ []) so.on (both_true (eq-eqb p p refl) refl);
        within = omega arith;
        lasting = omega arith;
      }

-- where all may stand on the operator, a candidate may
pub may_stand_there : (t : Task) → IsTask t → (ds : List Decision) (v p : ℕ) → SoFar t p ds → MayAllStand t.graph t.archi t.ticks p
    → is_candidate t (acts_of ds) v ≡ true → may_place t (acts_of ds) v p ≡ true
may_stand_there t given ds v p so all can =
    let c = candidate_given t given.flat (acts_of ds) v can in
    let low = nat_lt v (length t.graph.vertices) in
    let fresh = not (is_placed (acts_of ds) v) in
    let there = ltb-true v (length t.graph.vertices) (and_parts low fresh (and_parts (low && fresh) (list_all (is_placed (acts_of ds)) (needs t v)) can).0).0 in
    both_true can (both_true (both_true (lt-ltb p (length t.archi.operators) all.operator) (all.each v there)) (beside (halves t v) c.half))
  where
    beside : (us : List ℕ) → list_all (is_placed (acts_of ds)) us ≡ true → list_all (λ u. nat_eq (operator_of (acts_of ds) u) p) us ≡ true
    beside [] h = refl
    beside (u ∷ us) h =
        let both = and_parts (is_placed (acts_of ds) u) (list_all (is_placed (acts_of ds)) us) h in
        both_true (eq-eqb (operator_of (acts_of ds) u) p (on_operator p (acts_of ds) u so.on both.0)) (beside us both.1)

-- what stands first among those that pass passes
pub first_passes : {A : Type 0} (test : A → Bool) (xs ys : List A) (y : A) → filter test xs ≡ y ∷ ys → test y ≡ true
first_passes test [] ys y e = absurd cc
first_passes test (x ∷ xs) ys y e = by (test x) refl e (λ z. first_passes test xs ys y z)
  where
    by : (b : Bool) → test x ≡ b → cond b (x ∷ filter test xs) (filter test xs) ≡ y ∷ ys → (filter test xs ≡ y ∷ ys → test y ≡ true) → test y ≡ true
    by true h e later = let same : x ≡ y = cc in subst (λ z. test z ≡ true) same h
    by false h e later = later e
