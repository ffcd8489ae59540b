-- The pressure run is tight.
use Rattle.std.proofs.Common.{
  ◌≡◌,
  ℕ,
  zero,
  suc,
  ◌+◌,
  ◌≤◌,
  Bool,
  true,
  false,
  cond,
  ◌&&◌,
  ◌||◌,
  not,
  nat_eq,
  List,
  [],
  ◌∷◌,
  ◌++◌,
  map,
  length,
  Option,
  Some,
  None,
  Ok,
  Err,
  refl,
  sym,
  ap,
  subst,
  arith,
  ◌∙◌,
  eq-eqb,
}
use Rattle.std.specs.Prelude.{IfOk, IsTrue, Result, slice_get, nat_lt, is_some, max}
use Rattle.std.specs.List.{list_all, list_any, filter}
use Rattle.std.specs.Cmp.Derive.{both_true}
use Rattle.std.proofs.lemmas.Bool.{and_parts, eqb-true, not-true, or_left, or_right, true≢false}
use Rattle.std.proofs.lemmas.List.{append-nil, append_assoc, map-append}
use Rattle.std.proofs.lemmas.List.Folds.{list_any-append}
use Rattle.std.proofs.lemmas.List.Elements.{filter-append, filter_agree}
use Rattle.route_table.specs.Table.{RouteTable}
use Rattle.syn_base.specs.declared.memory.OutOfMemory.{OutOfMemory}
use Rattle.schedule.specs.declared.Source.{Source}
use Rattle.schedule.specs.Graph.{Graph, with_vertex}
use Rattle.schedule.specs.declared.Hop.{Hop}
use Rattle.schedule.specs.Archi.{Architecture}
use Rattle.schedule.specs.Table.{Table}
use Rattle.schedule.specs.declared.decision.Decision.{Decision}
use Rattle.schedule.specs.declared.decision.Schedule.{Schedule}
use Rattle.schedule.specs.Acts.{Act, carry, run, acts_of, start_of, end_of, is_over, is_on, runs, copy, read_by, latest}
use Rattle.schedule.specs.Valid.{are_right, follows_get, have_ended, is_held, is_placement, lasts}
use Rattle.schedule.specs.Tight.{same_line, last_end_or, reads_from, are_tight, is_tight}
use Rattle.schedule.proofs.Behind.{acts-append}
use Rattle.schedule.proofs.Tight.{tight-append}
use Rattle.comm_routing.specs.Task.{Task}
use Rattle.comm_routing.specs.Given.{IsTask}
use Rattle.comm_routing.specs.Draft.{Drafted, IsSite, task_of}
use Rattle.comm_routing.specs.Placing.{
  last_end,
  is_placed,
  operator_of,
  makes,
  holds,
  held_from,
  sources,
  halves,
  half_end,
  transfer,
  along,
  fetched,
  fetched_all,
  transfers,
  arrival,
  start,
  decision,
  may_stand,
}
use Rattle.comm_routing.proofs.Done.{any_more, end_carried}
use Rattle.comm_routing.proofs.Right.{good, right, with_decision}
use Rattle.pressure_heuristic.specs.Pressure.{with_some, next, run_after, pressure_run}
use Rattle.pressure_heuristic.specs.Runs.{RunsAreTight}
use Rattle.pressure_heuristic.proofs.Whole.{chosen, still_good}
use Rattle.syn_base.specs.Numbers.{greatest}

-- two acts in one line have the same acts in their line
one_line : (z x y : Act) → same_line z x ≡ true → same_line z y ≡ same_line x y
one_line (carry t) (carry u) y h = ap (λ (m : ℕ). is_over m y) (sym (eqb-true u.medium t.medium h))
one_line (carry t) (run d) y h = absurd (true≢false (sym h))
one_line (run d) (carry t) y h = absurd (true≢false (sym h))
one_line (run d) (run e) y h = ap (λ (o : ℕ). is_on o y) (sym (eqb-true e.operator d.operator h))

last_added : (date : ℕ) (xs : List Act) (x : Act) → last_end_or date (xs ++ x ∷ []) ≡ end_of x
last_added date [] x = refl
last_added date (y ∷ ys) x = last_added (end_of y) ys x

latest_added : (xs : List Act) (x : Act) → latest (xs ++ x ∷ []) ≡ max (latest xs) (end_of x)
latest_added [] x = omega arith
latest_added (y ∷ ys) x = let e = latest_added ys x in omega arith

latest_none : (xs : List Act) → latest (filter (λ y. false) xs) ≡ 0
latest_none [] = refl
latest_none (x ∷ xs) = latest_none xs

-- of those that pass one test or the other
latest_either : (f g : Act → Bool) (xs : List Act) → latest (filter (λ y. f y || g y) xs) ≡ max (latest (filter f xs)) (latest (filter g xs))
latest_either f g [] = refl
latest_either f g (x ∷ xs) = by (f x) (g x) (latest_either f g xs)
  where
    by : (a b : Bool) → latest (filter (λ y. f y || g y) xs) ≡ max (latest (filter f xs)) (latest (filter g xs))
        → latest (cond (a || b) (x ∷ filter (λ y. f y || g y) xs) (filter (λ y. f y || g y) xs))
        ≡ max (latest (cond a (x ∷ filter f xs) (filter f xs))) (latest (cond b (x ∷ filter g xs) (filter g xs)))
    by true true e = omega arith
    by true false e = omega arith
    by false true e = omega arith
    by false false e = e

module _ (t : Task) where
  -- They are tight, and in each line none ends after the last.
  pub record IsSmooth (acts : List Act) : Type 0 where
    pub tight : are_tight t.graph.vertices [] acts ≡ true
    pub lined : (z : Act) → last_end_or 0 (filter (same_line z) acts) ≡ latest (filter (same_line z) acts)

  -- one act more, which starts when its line is free and what it reads is made
  one_more : (acts : List Act) (x : Act) → IsSmooth acts → start_of x ≡ max (latest (filter (same_line x) acts)) (latest (filter (reads_from t.graph.vertices x) acts)) → start_of x ≤ end_of x
      → IsSmooth (acts ++ x ∷ [])
  one_more acts x s e l =
      let line = s.lined x in
      let begun : start_of x ≡ max (last_end_or 0 (filter (same_line x) acts)) (latest (filter (reads_from t.graph.vertices x) acts)) = omega arith in
      record {
        tight = tight-append t.graph.vertices [] acts (x ∷ [])
            ∙ both_true s.tight (both_true (eq-eqb (start_of x)
            (max (last_end_or 0 (filter (same_line x) acts)) (latest (filter (reads_from t.graph.vertices x) acts))) begun) refl);
        lined = λ z. still z;
      }
    where
      by : (z : Act) (b : Bool) → same_line z x ≡ b
          → last_end_or 0 (filter (same_line z) acts ++ cond b (x ∷ []) []) ≡ latest (filter (same_line z) acts ++ cond b (x ∷ []) [])
      by z true h =
          let last = last_added 0 (filter (same_line z) acts) x in
          let late = latest_added (filter (same_line z) acts) x in
          let same : latest (filter (same_line z) acts) ≡ latest (filter (same_line x) acts) = ap latest (filter_agree (same_line z) (same_line x) (λ y. one_line z x y h) acts) in
          omega arith
      by z false h = subst (λ (ys : List Act). last_end_or 0 ys ≡ latest ys) (sym (append-nil (filter (same_line z) acts))) (s.lined z)

      still : (z : Act) → last_end_or 0 (filter (same_line z) (acts ++ x ∷ [])) ≡ latest (filter (same_line z) (acts ++ x ∷ []))
      still z = subst (λ (ys : List Act). last_end_or 0 ys ≡ latest ys) (sym (filter-append (same_line z) acts (x ∷ []))) (by z (same_line z x) refl)

  carried_tightly : (acts : List Act) (x : Source) (from : ℕ) (h : Hop) → IsSmooth acts → IsSmooth (acts ++ carry (transfer t acts x from h) ∷ [])
  carried_tightly acts x from h s =
      let c = copy from x in
      let read = latest_either (makes t c) (λ y. false) acts in
      let none = latest_none acts in
      one_more acts (carry (transfer t acts x from h)) s (omega arith) (omega arith)

  along_tightly : (acts : List Act) (x : Source) (from : ℕ) (hops : List Hop) → IsSmooth acts → IsSmooth (acts ++ map carry (along t acts x from hops))
  along_tightly acts x from [] s = subst IsSmooth (sym (append-nil acts)) s
  along_tightly acts x from (h ∷ hops) s =
      by (holds t acts (copy h.to x)) (along_tightly acts x h.to hops s) (along_tightly (acts ++ carry (transfer t acts x from h) ∷ []) x h.to hops (carried_tightly acts x from h s))
    where
      by : (b : Bool) → IsSmooth (acts ++ map carry (along t acts x h.to hops))
          → IsSmooth ((acts ++ carry (transfer t acts x from h) ∷ []) ++ map carry (along t (acts ++ carry (transfer t acts x from h) ∷ []) x h.to hops))
          → IsSmooth (acts ++ map carry (cond b (along t acts x h.to hops) (transfer t acts x from h ∷ along t (acts ++ carry (transfer t acts x from h) ∷ []) x h.to hops)))
      by true there over = there
      by false there over = subst IsSmooth (append_assoc acts (carry (transfer t acts x from h) ∷ []) (map carry (along t (acts ++ carry (transfer t acts x from h) ∷ []) x h.to hops))) over

  fetched_tightly : (acts : List Act) (p : ℕ) (x : Source) → IsSmooth acts → IsSmooth (acts ++ map carry (fetched t acts p x))
  fetched_tightly acts p x s = by (holds t acts (copy p x)) (along_tightly acts x (operator_of acts x.vertex) (t.route (operator_of acts x.vertex) p) s)
    where
      by : (b : Bool) → IsSmooth (acts ++ map carry (along t acts x (operator_of acts x.vertex) (t.route (operator_of acts x.vertex) p)))
          → IsSmooth (acts ++ map carry (cond b [] (along t acts x (operator_of acts x.vertex) (t.route (operator_of acts x.vertex) p))))
      by true there = subst IsSmooth (sym (append-nil acts)) s
      by false there = there

  all_tightly : (acts : List Act) (p : ℕ) (xs : List Source) → IsSmooth acts → IsSmooth (acts ++ map carry (fetched_all t acts p xs))
  all_tightly acts p [] s = subst IsSmooth (sym (append-nil acts)) s
  all_tightly acts p (x ∷ xs) s =
      let cs = fetched t acts p x in
      let ds = fetched_all t (acts ++ map carry cs) p xs in
      let joined : acts ++ map carry (cs ++ ds) ≡ (acts ++ map carry cs)
      ++ map carry ds = ap (λ (l : List Act). acts ++ l) (map-append carry cs ds) ∙ sym (append_assoc acts (map carry cs) (map carry ds)) in
      subst IsSmooth (sym joined) (all_tightly (acts ++ map carry cs) p xs (fetched_tightly acts p x s))

  -- what a run reads is made when the last of its sources is held
  reads_all : (acts : List Act) (p : ℕ) (xs : List Source) → latest (filter (λ y. list_any (λ c. makes t c y) (map (copy p) xs)) acts) ≡ greatest (map (λ x. held_from t acts (copy p x)) xs)
  reads_all acts p [] = latest_none acts
  reads_all acts p (x ∷ xs) =
      let either = latest_either (makes t (copy p x)) (λ y. list_any (λ c. makes t c y) (map (copy p) xs)) acts in
      either ∙ ap (λ (n : ℕ). max (held_from t acts (copy p x)) n) (reads_all acts p xs)

  -- an operation that ran does not run again
  once_after : (before acts : List Act) (u : ℕ) → are_right t.graph t.archi t.ticks before acts ≡ true → is_placed before u ≡ true → last_end (runs u) acts ≡ 0
  once_after before [] u g h = refl
  once_after before (carry c ∷ acts) u g h =
      once_after (before ++ carry c ∷ []) acts u
      (and_parts (right t before (carry c)) (are_right t.graph t.archi t.ticks (before ++ carry c ∷ []) acts) g).1
      (any_more (runs u) before (carry c ∷ []) h)
  once_after before (run d ∷ acts) u g h = by (nat_eq d.op u) refl (once_after (before ++ run d ∷ []) acts u both.1 (any_more (runs u) before (run d ∷ []) h))
    where
      both : (right t before (run d) ≡ true) × (are_right t.graph t.archi t.ticks (before ++ run d ∷ []) acts ≡ true)
      both = and_parts (right t before (run d)) (are_right t.graph t.archi t.ticks (before ++ run d ∷ []) acts) g

      by : (b : Bool) → nat_eq d.op u ≡ b → last_end (runs u) acts ≡ 0 → latest (cond b (run d ∷ filter (runs u) acts) (filter (runs u) acts)) ≡ 0
      by false e later = later
      by true e later =
          let follows = with_vertex (slice_get t.graph.vertices d.op) false (λ x. follows_get before d.operator x.kind x.twin) in
          let below = nat_lt d.operator (length t.archi.operators) in
          let long = lasts (t.ticks d.op d.operator) d.start d.end in
          let once = not (list_any (runs d.op) before) in
          let act = (and_parts (is_placement t.graph t.archi t.ticks before d) (list_all (is_held t.graph t.archi t.ticks before d.start) (read_by t.graph.vertices (run d))) both.0).0 in
          let p = and_parts (follows && below && long && once) (have_ended (is_on d.operator) before d.start) act in
          let q = and_parts (follows && below && long) once p.0 in
          let fresh = not-true (list_any (runs d.op) before) q.1 in
          absurd (true≢false (sym h ∙ ap (λ (v : ℕ). is_placed before v) (sym (eqb-true d.op u e)) ∙ fresh))

  -- so its end is no later than the last one of its operator
  end_on : (before acts : List Act) (u : ℕ) → are_right t.graph t.archi t.ticks before acts ≡ true → last_end (runs u) acts ≤ last_end (is_on (operator_of acts u)) acts
  end_on before [] u g = omega arith
  end_on before (carry c ∷ acts) u g = end_on (before ++ carry c ∷ []) acts u (and_parts (right t before (carry c)) (are_right t.graph t.archi t.ticks (before ++ carry c ∷ []) acts) g).1
  end_on before (run d ∷ acts) u g = by (nat_eq d.op u) refl (end_on (before ++ run d ∷ []) acts u after)
    where
      after : are_right t.graph t.archi t.ticks (before ++ run d ∷ []) acts ≡ true
      after = (and_parts (right t before (run d)) (are_right t.graph t.archi t.ticks (before ++ run d ∷ []) acts) g).1

      same_on : (b : Bool) → b ≡ true → end_of (run d) ≤ latest (cond b (run d ∷ filter (is_on d.operator) acts) (filter (is_on d.operator) acts))
      same_on true e = omega arith
      same_on false e = absurd (true≢false (sym e))

      more : (b : Bool) → last_end (is_on (operator_of acts u)) acts ≤ latest (cond b (run d ∷ filter (is_on (operator_of acts u)) acts) (filter (is_on (operator_of acts u)) acts))
      more true = omega arith
      more false = omega arith

      placed : d.op ≡ u → is_placed (before ++ run d ∷ []) u ≡ true
      placed e = list_any-append (runs u) before (run d ∷ []) ∙ or_right (is_placed before u) (nat_eq d.op u || false) (or_left (nat_eq d.op u) false (eq-eqb d.op u e))

      by : (b : Bool) → nat_eq d.op u ≡ b → last_end (runs u) acts ≤ last_end (is_on (operator_of acts u)) acts
          → latest (cond b (run d ∷ filter (runs u) acts) (filter (runs u) acts)) ≤ last_end (is_on (cond b d.operator (operator_of acts u))) (run d ∷ acts)
      by true e later =
          let none = once_after (before ++ run d ∷ []) acts u after (placed (eqb-true d.op u e)) in
          let here = same_on (nat_eq d.operator d.operator) (eq-eqb d.operator d.operator refl) in
          omega arith
      by false e later =
          let rest = more (nat_eq d.operator (operator_of acts u)) in
          omega arith

  -- a get half on the operator has ended by the operator's last end
  halves_end : (acts : List Act) (p : ℕ) (us : List ℕ) → good t acts ≡ true → list_all (λ u. nat_eq (operator_of acts u) p) us ≡ true
      → greatest (map (λ u. last_end (runs u) acts) us) ≤ last_end (is_on p) acts
  halves_end acts p [] g h = omega arith
  halves_end acts p (u ∷ us) g h =
      let both = and_parts (nat_eq (operator_of acts u) p) (list_all (λ u. nat_eq (operator_of acts u) p) us) h in
      let one : last_end (runs u) acts ≤ last_end (is_on p) acts = subst (λ (o : ℕ). last_end (runs u) acts ≤ last_end (is_on o) acts) (eqb-true (operator_of acts u) p both.0) (end_on [] acts u g) in
      let rest = halves_end acts p us g both.1 in
      omega arith

  -- a placement where the operation may stand
  placed_tightly : (acts : List Act) (v p : ℕ) → good t acts ≡ true → may_stand t acts v p ≡ true → IsSmooth acts → IsSmooth (with_decision t acts (decision t acts v p))
  placed_tightly acts v p g may s =
      let beside = and_parts (nat_lt p (length t.archi.operators) && is_some (t.ticks v p)) (list_all (λ u. nat_eq (operator_of acts u) p) (halves t v)) may in
      let after = acts ++ map carry (transfers t acts v p) in
      let half : half_end t acts v ≤ last_end (is_on p) acts = halves_end acts p (halves t v) g beside.1 in
      let free : last_end (is_on p) after ≡ last_end (is_on p) acts = end_carried (is_on p) (λ x. refl) acts (transfers t acts v p) in
      let read : latest (filter (reads_from t.graph.vertices (run (decision t acts v p))) after) ≡ arrival t acts v p = reads_all after p (sources t v) in
      let begun : start t acts v p ≡ max (last_end (is_on p) after) (latest (filter (reads_from t.graph.vertices (run (decision t acts v p))) after)) = omega arith in
      one_more after (run (decision t acts v p)) (all_tightly acts p (sources t v) s) begun (omega arith)

  still_tight : IsTask t → (ds : List Decision) (d : Decision) → good t (acts_of ds) ≡ true → IsSmooth (acts_of ds) → next t (acts_of ds) ≡ Some d → IsSmooth (acts_of (ds ++ d ∷ []))
  still_tight given ds d g s e =
      let c = chosen t (acts_of ds) d e in
      let r = placed_tightly (acts_of ds) c.op c.operator g c.stand s in
      let joined : acts_of (ds ++ d ∷ []) ≡ with_decision t (acts_of ds) d = acts-append ds (d ∷ []) ∙ sym (append_assoc (acts_of ds) (map carry d.transfers) (run d ∷ [])) in
      subst IsSmooth (sym joined) (subst (λ (x : Decision). IsSmooth (with_decision t (acts_of ds) x)) c.is r)

  runs_tightly : IsTask t → (n : ℕ) (ds : List Decision) → good t (acts_of ds) ≡ true → IsSmooth (acts_of ds) → IsSmooth (acts_of (run_after t n ds))
  runs_tightly given zero ds g s = s
  runs_tightly given (suc n) ds g s = by (next t (acts_of ds)) refl (λ d g' s'. runs_tightly given n (ds ++ d ∷ []) g' s')
    where
      by : (o : Option Decision) → next t (acts_of ds) ≡ o
          → ((d : Decision) → good t (acts_of (ds ++ d ∷ [])) ≡ true → IsSmooth (acts_of (ds ++ d ∷ [])) → IsSmooth (acts_of (run_after t n (ds ++ d ∷ []))))
          → IsSmooth (acts_of (with_some o ds (λ d. run_after t n (ds ++ d ∷ []))))
      by None e later = s
      by (Some d) e later = later d (still_good t given ds d g e) (still_tight given ds d g s e)

pub runs_are_tight : RunsAreTight
runs_are_tight t given = (runs_tightly t given (length t.graph.vertices) [] refl (record { tight = refl; lined = λ z. refl })).tight

-- what is answered is tight, since it is the run
pub tight_run : (g : Graph) (a : Architecture) (r : RouteTable) (table : Table) (d : Drafted) → d
    ≡ record { graph = g; archi = a; routes = r; durations = table; decisions = [] }
    → IsSite (record { graph = g; archi = a; routes = r; durations = table; decisions = [] })
    → (answer : Result Schedule OutOfMemory) → IfOk answer (λ s. s ≡ pressure_run (task_of d)) → IfOk answer (λ s. IsTrue (is_tight g s))
tight_run g a r table d is site (Ok s) h =
    let t = task_of (record { graph = g; archi = a; routes = r; durations = table; decisions = [] }) in
    let e : s ≡ pressure_run (task_of (record { graph = g; archi = a; routes = r; durations = table; decisions = [] })) = h ∙ ap (λ (x : Drafted). pressure_run (task_of x)) is in
    ap (is_tight g) e ∙ runs_are_tight t site.given
tight_run g a r table d is site (Err x) h = h
