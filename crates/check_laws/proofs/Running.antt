-- The run: each of its entries was ready when it came, it stops only where nothing is ready, and it makes all that any order makes that keeps what is awaited.
use Rattle.std.proofs.Common.{
  ◌≡◌,
  ◌≢◌,
  ℕ,
  zero,
  suc,
  ◌+◌,
  ◌<◌,
  ◌≤◌,
  true,
  cond,
  nat_eq,
  List,
  [],
  ◌∷◌,
  ◌++◌,
  length,
  take,
  Option,
  Some,
  None,
  refl,
  sym,
  ap,
  subst,
  inl,
  inr,
  arith,
  ◌∙◌,
  eq-eqb,
  length-append,
}
use Rattle.std.specs.Prelude.{slice_get, nat_lt}
use Rattle.std.proofs.lemmas.Bool.{false≢true, cases_eq, cases_lt, ne_eqb, lt-ltb, ltb-true}
use Rattle.std.proofs.lemmas.Option.{same_Some, slice_get_within}
use Rattle.std.proofs.lemmas.List.{take_all, take-append-le}
use Rattle.sequence_build_laws.specs.Owners.{sum_below}
use Rattle.sequence_build_laws.specs.declared.Instr.{Instr}
use Rattle.sequence_build_laws.specs.declared.Program.{Program}
use Rattle.sequence_build_laws.specs.Instructions.{turn}
use Rattle.sequence_build_laws.specs.WellFormed.{Stands, place_in, FollowsLoops}
use Rattle.sequence_build_laws.proofs.InterleavingSums.{le_below, more_below, none_below}
use Rattle.sequence_build_laws.proofs.Lists.{get_some, from_append, tally, counts_tally, tally-append, tally_grows, take_next}
use Rattle.sequence_build_laws.proofs.Loops.{code_there}
use Rattle.sequence_build_laws.proofs.Turns.{mine, seen, unseen, entry, place_here}
use Rattle.check_laws.specs.Run.{Place, made, awaited, is_past, may_go, is_ready, next, step_with, run_from, run, left_from, stuck, IsRun}
use Rattle.check_laws.proofs.Searches.{lowest_none, lowest_some, none_left, all_made}

-- In this order each instruction comes after what it awaits.
abbrev pub Keeps : Program → List ℕ → Type 0
Keeps p order = (s a : ℕ) (x : Instr) (y : Place) → Stands p s a x → awaited p s a x ≡ Some y →
    place_in order y.sequence y.at < place_in order s a

pub made_is : (order : List ℕ) (s : ℕ) → made order s ≡ tally (mine s) order
made_is order s = counts_tally (mine s) order

-- one entry more
one_more : (order : List ℕ) (s t : ℕ) → tally (mine t) (order ++ s ∷ []) ≡ tally (mine t) order + cond (nat_eq s t) 1 0
one_more order s t = tally-append (mine t) order (s ∷ [])

pub own_more : (order : List ℕ) (s : ℕ) → tally (mine s) (order ++ s ∷ []) ≡ tally (mine s) order + 1
own_more order s = one_more order s s ∙ ap (λ b. tally (mine s) order + cond b 1 0) (eq-eqb s s refl)

pub other_more : (order : List ℕ) (s t : ℕ) → t ≢ s → tally (mine t) (order ++ s ∷ []) ≡ tally (mine t) order
other_more order s t h = let z = one_more order s t ∙ ap (λ b. tally (mine t) order + cond b 1 0) (ne_eqb s t (λ e. h (sym e))) in omega arith

module _ (p : Program) where
  pub ready_at : (order : List ℕ) (s a : ℕ) (x : Instr) → made order s ≡ a → Stands p s a x → is_ready p order s ≡ is_past p order (awaited p s a x)
  ready_at order s a x e h = (λ j. may_go p order s (e j) (slice_get (turn p s) (e j))) ∙ ap (may_go p order s a) h

  -- a sequence that is ready has a next instruction
  pub record Going (order : List ℕ) (s : ℕ) : Type 0 where
    pub it : Instr
    pub stands : Stands p s (made order s) it
    pub past : is_past p order (awaited p s (made order s) it) ≡ true

  pub going : (order : List ℕ) (s : ℕ) → is_ready p order s ≡ true → Going order s
  going order s h = by (slice_get (turn p s) (made order s)) refl h
    where
      by : (o : Option Instr) → slice_get (turn p s) (made order s) ≡ o → may_go p order s (made order s) o ≡ true → Going order s
      by None e h = absurd (false≢true h)
      by (Some x) e h = record { it = x; stands = e; past = h }

  pub more : (order : List ℕ) (s : ℕ) → IsRun p order → s < length p.seqs → is_ready p order s ≡ true → IsRun p (order ++ s ∷ [])
  more order s r l h = record { names = λ i t e. (both i t e).0; ready = λ i t e. (both i t e).1 }
    where
      both : (i t : ℕ) → slice_get (order ++ s ∷ []) i ≡ Some t → (t < length p.seqs) × (is_ready p (take i (order ++ s ∷ [])) t ≡ true)
      both i t e = elim (from_append order (s ∷ []) i t e) [
        | inl q ↦ (let w = slice_get_within order i t q in (r.names i t q, ap (λ o. is_ready p o t) (take-append-le i order (s ∷ []) (omega arith)) ∙ r.ready i t q))
        | inr q ↦ last q.at q.is q.stands
      ]
        where
          last : (k : ℕ) → i ≡ length order + k → slice_get (s ∷ []) k ≡ Some t → (t < length p.seqs) × (is_ready p (take i (order ++ s ∷ [])) t ≡ true)
          last zero q f =
              let same : s ≡ t = same_Some s t f in
              let whole : take i (order ++ s ∷ []) ≡ order = take-append-le i order (s ∷ []) (omega arith) ∙ take_all i order (omega arith) in
              (subst (λ n. n < length p.seqs) same l, ap (λ o. is_ready p o t) whole ∙ ap (is_ready p order) (sym same) ∙ h)
          last (suc k) q f = absurd cc

  pub run_is : (n : ℕ) (order : List ℕ) → IsRun p order → IsRun p (run_from p n order)
  run_is zero order r = r
  run_is (suc n) order r = by (next p order) refl (λ o q. run_is n o q)
    where
      by : (o : Option ℕ) → next p order ≡ o → ((order : List ℕ) → IsRun p order → IsRun p (run_from p n order)) → IsRun p (step_with o order (λ o. run_from p n o))
      by None e f = r
      by (Some s) e f = let w = lowest_some (is_ready p order) 0 (length p.seqs) s e in let l = w.1 in f (order ++ s ∷ []) (more order s r (omega arith) w.0)

  -- it makes no more than the loops have
  pub no_more : (order : List ℕ) → IsRun p order → (s : ℕ) → tally (mine s) order ≤ length (turn p s)
  no_more order r s = elim (cases_lt (length (turn p s)) (tally (mine s) order)) [
    | inl l ↦ (let e = entry order s (length (turn p s)) l in let g = going (take (place_in order s (length (turn p s))) order) s (r.ready (place_in order s (length (turn p s))) s e.stands) in
        let n = e.number in let m = made_is (take (place_in order s (length (turn p s))) order) s in
        let w = slice_get_within (turn p s) (made (take (place_in order s (length (turn p s))) order) s) g.it g.stands in absurd (omega arith))
    | inr l ↦ l
  ]

  -- all entries counted
  counted : (order : List ℕ) → IsRun p order → (i : ℕ) → i ≤ length order → sum_below (λ t. tally (mine t) (take i order)) (length p.seqs) ≡ i
  counted order r zero l = none_below (λ t. tally (mine t) (take 0 order)) (length p.seqs) (λ i k. refl)
  counted order r (suc i) l =
      let s = get_some order i l in
      let before = counted order r i (omega arith) in
      let step = take_next order i s.0 s.1 in
      let own : tally (mine s.0) (take (suc i) order) ≡ tally (mine s.0) (take i order) + 1 = ap (tally (mine s.0)) step ∙ own_more (take i order) s.0 in
      let rest = more_below (λ t. tally (mine t) (take i order)) (λ t. tally (mine t) (take (suc i) order)) (length p.seqs) s.0
      (r.names i s.0 s.1) own (λ t h. ap (tally (mine t)) step ∙ other_more (take i order) s.0 t h) in
      omega arith

  total : ℕ
  total = sum_below (λ s. length (turn p s)) (length p.seqs)

  pub short : (order : List ℕ) → IsRun p order → length order ≤ sum_below (λ s. length (turn p s)) (length p.seqs)
  short order r =
      let all = counted order r (length order) (omega arith) in
      let l = le_below (λ t. tally (mine t) (take (length order) order)) (λ s. length (turn p s)) (length p.seqs)
      (λ t _. subst (λ o. tally (mine t) o ≤ length (turn p t)) (sym (take_all (length order) order (omega arith))) (no_more order r t)) in
      omega arith

  stops_from : (n : ℕ) (order : List ℕ) → IsRun p order → sum_below (λ s. length (turn p s)) (length p.seqs) ≤ length order + n → next p (run_from p n order) ≡ None
  stops_from zero order r l = by (next p order) refl
    where
      by : (o : Option ℕ) → next p order ≡ o → next p order ≡ None
      by None e = e
      by (Some s) e = let w = lowest_some (is_ready p order) 0 (length p.seqs) s e in let k = w.1 in
          let z = short (order ++ s ∷ []) (more order s r (omega arith) w.0) in let m = length-append order (s ∷ []) in absurd (omega arith)
  stops_from (suc n) order r l = by (next p order) refl (λ o q k. stops_from n o q k)
    where
      by : (o : Option ℕ) → next p order ≡ o → ((order : List ℕ) → IsRun p order → sum_below (λ s. length (turn p s)) (length p.seqs) ≤ length order + n → next p (run_from p n order) ≡ None)
          → next p (step_with o order (λ o. run_from p n o)) ≡ None
      by None e f = e
      by (Some s) e f = let w = lowest_some (is_ready p order) 0 (length p.seqs) s e in let k = w.1 in let m = length-append order (s ∷ []) in
          f (order ++ s ∷ []) (more order s r (omega arith) w.0) (omega arith)

  pub empty_run : IsRun p []
  empty_run = record { names = λ i s e. absurd cc; ready = λ i s e. absurd cc }

  pub is_run : IsRun p (run p)
  is_run = run_is (sum_below (λ s. length (turn p s)) (length p.seqs)) [] empty_run

  pub stops : next p (run p) ≡ None
  stops = stops_from (sum_below (λ s. length (turn p s)) (length p.seqs)) [] empty_run (omega arith)

  -- An order is nowhere further than what is done, if no entry of it goes further.
  module _ (order done : List ℕ)
      (moves : (i s : ℕ) → slice_get order i ≡ Some s → i < length order → ((u : ℕ) → tally (mine u) (take i order) ≤ tally (mine u) done)
      → tally (mine s) (take i order) ≡ tally (mine s) done → ⊥) where
    no_further : (i : ℕ) → i ≤ length order → (t : ℕ) → tally (mine t) (take i order) ≤ tally (mine t) done
    no_further zero l t = omega arith
    no_further (suc i) l t = by (get_some order i l).0 (get_some order i l).1 (λ u. no_further i (omega arith) u)
      where
        by : (s : ℕ) → slice_get order i ≡ Some s → ((u : ℕ) → tally (mine u) (take i order) ≤ tally (mine u) done) → tally (mine t) (take (suc i) order) ≤ tally (mine t) done
        by s e before = elim (cases_eq t s) [
          | inl q ↦ subst (λ u. tally (mine u) (take (suc i) order) ≤ tally (mine u) done) (sym q) own
          | inr q ↦ (let z = ap (tally (mine t)) step ∙ other_more (take i order) s t q in let w = before t in omega arith)
        ]
          where
            step : take (suc i) order ≡ take i order ++ s ∷ []
            step = take_next order i s e

            own : tally (mine s) (take (suc i) order) ≤ tally (mine s) done
            own = let z = ap (tally (mine s)) step ∙ own_more (take i order) s in let w = before s in
                elim (cases_lt (tally (mine s) (take i order)) (tally (mine s) done)) [ inl k ↦ omega arith | inr k ↦ absurd (moves i s e l before (omega arith)) ]

  -- Beside an order that keeps what is awaited, a run that stops has made all.
  module _ (order : List ℕ) (follows : FollowsLoops p order) (keeps : Keeps p order) (done : List ℕ) (stopped : next p done ≡ None) where
    ordered_moves : (i s : ℕ) → slice_get order i ≡ Some s → i < length order
        → ((u : ℕ) → tally (mine u) (take i order) ≤ tally (mine u) done) → tally (mine s) (take i order) ≡ tally (mine s) done → ⊥
    ordered_moves i s e l before same =
        let low = follows.names i s e in
        let grows = tally_grows (mine s) order i (length order) s e (eq-eqb s s refl) l in
        let whole = ap (tally (mine s)) (take_all (length order) order (omega arith)) in
        let lengths = sym (counts_tally (mine s) order) ∙ follows.lengths s low in
        let x = get_some (turn p s) (tally (mine s) (take i order)) (omega arith) in
        let m : made done s ≡ tally (mine s) (take i order) = made_is done s ∙ sym same in
        let not_ready = lowest_none (is_ready p done) 0 (length p.seqs) stopped s (omega arith) (omega arith) in
        let goes = ready_at done s (tally (mine s) (take i order)) x.0 m x.1 in
        false≢true (sym not_ready ∙ goes ∙ past x.0 x.1 (awaited p s (tally (mine s) (take i order)) x.0) refl)
      where
        past : (x : Instr) → Stands p s (tally (mine s) (take i order)) x → (o : Option Place) → awaited p s (tally (mine s) (take i order)) x ≡ o → is_past p done o ≡ true
        past x h None q = refl
        past x h (Some y) q =
            let k = keeps s (tally (mine s) (take i order)) x y h q in
            let here = place_here order i s e in
            let there = seen order i y.sequence y.at (omega arith) (omega arith) in
            let w = before y.sequence in
            let m = made_is done y.sequence in
            lt-ltb y.at (made done y.sequence) (omega arith)

    pub made_all : (s : ℕ) → s < length p.seqs → length (turn p s) ≤ made done s
    made_all s l =
        let z = no_further order done ordered_moves (length order) (omega arith) s in
        let whole = ap (tally (mine s)) (take_all (length order) order (omega arith)) in
        let lengths = sym (counts_tally (mine s) order) ∙ follows.lengths s l in
        let m = made_is done s in
        omega arith

  -- Beside any run, a run that stops has made all.
  module _ (order : List ℕ) (r : IsRun p order) (done : List ℕ) (stopped : next p done ≡ None) where
    run_moves : (i s : ℕ) → slice_get order i ≡ Some s → i < length order → ((u : ℕ) → tally (mine u) (take i order) ≤ tally (mine u) done) → tally (mine s) (take i order) ≡ tally (mine s) done → ⊥
    run_moves i s e l before same =
        let low = r.names i s e in
        let g = going (take i order) s (r.ready i s e) in
        let m : made done s ≡ made (take i order) s = made_is done s ∙ sym same ∙ sym (made_is (take i order) s) in
        let not_ready = lowest_none (is_ready p done) 0 (length p.seqs) stopped s (omega arith) (omega arith) in
        false≢true (sym not_ready ∙ ready_at done s (made (take i order) s) g.it m g.stands ∙ past (awaited p s (made (take i order) s) g.it) g.past)
      where
        past : (o : Option Place) → is_past p (take i order) o ≡ true → is_past p done o ≡ true
        past None h = refl
        past (Some y) h =
            let z = ltb-true y.at (made (take i order) y.sequence) h in
            let w = before y.sequence in
            let a = made_is (take i order) y.sequence in
            let b = made_is done y.sequence in
            lt-ltb y.at (made done y.sequence) (omega arith)

    pub no_less : (s : ℕ) → made order s ≤ made done s
    no_less s =
        let z = no_further order done run_moves (length order) (omega arith) s in
        let whole = ap (tally (mine s)) (take_all (length order) order (omega arith)) in
        let a = made_is order s in
        let b = made_is done s in
        omega arith

  same_left : (o q : List ℕ) → ((s : ℕ) → made o s ≡ made q s) → (k n : ℕ) → left_from p o k n ≡ left_from p q k n
  same_left o q h k zero = refl
  same_left o q h k (suc n) =
      let rest = same_left o q h (suc k) n in
      λ i. cond (nat_lt (h k i) (length (turn p k))) (record { sequence = k; at = h k i } ∷ rest i) (rest i)

  -- where runs stop does not depend on which ready sequence they take
  pub stop_alike : (order : List ℕ) → IsRun p order → next p order ≡ None → left_from p order 0 (length p.seqs) ≡ stuck p
  stop_alike order r e = same_left order (run p) (λ s. let a = no_less order r (run p) stops s in let b = no_less (run p) is_run order e s in omega arith) 0 (length p.seqs)

  pub none_stuck : (order : List ℕ) → FollowsLoops p order → Keeps p order → stuck p ≡ []
  none_stuck order follows keeps = all_made p (run p) 0 (length p.seqs) (λ s l. made_all order follows keeps (run p) stops s (omega arith))

  -- A run that makes all is an order that keeps what is awaited.
  module _ (order : List ℕ) (r : IsRun p order) (ends : left_from p order 0 (length p.seqs) ≡ []) where
    pub follows_loops : FollowsLoops p order
    follows_loops = record {
      names = r.names;
      lengths = λ s l. let z = none_left p order 0 (length p.seqs) ends s (omega arith) (omega arith) in let w = no_more order r s in let m = made_is order s in omega arith;
    }

    pub keeps_awaited : Keeps p order
    keeps_awaited s a x y h q =
        let w = slice_get_within (turn p s) a x h in
        let m = made_is order s in
        let z = none_left p order 0 (length p.seqs) ends s (omega arith) (low s a x h) in
        let e = entry order s a (omega arith) in
        let k = r.ready (place_in order s a) s e.stands in
        let n = made_is (take (place_in order s a) order) s ∙ e.number in
        let past : is_past p (take (place_in order s a) order) (Some y) ≡ true = ap (is_past p (take (place_in order s a) order)) (sym q)
        ∙ sym (ready_at (take (place_in order s a) order) s a x n h) ∙ k in
        let d = ltb-true y.at (made (take (place_in order s a) order) y.sequence) past in
        let u = made_is (take (place_in order s a) order) y.sequence in
        unseen order (place_in order s a) y.sequence y.at (omega arith)
      where
        low : (s a : ℕ) (x : Instr) → Stands p s a x → s < 0 + length p.seqs
        low s a x h = let c = code_there p s a x h in let l = slice_get_within p.seqs s c.it c.stands in omega arith
