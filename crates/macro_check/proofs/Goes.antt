-- The run keeps to its list of looks: all that are ready are among them, and it comes to an end.
use Rattle.std.proofs.Common.{
  ◌≡◌,
  ◌≢◌,
  ℕ,
  zero,
  suc,
  ◌+◌,
  ◌-◌,
  ◌*◌,
  ◌<◌,
  ◌≤◌,
  ◌⊎◌,
  Bool,
  true,
  false,
  cond,
  nat_eq,
  List,
  [],
  ◌∷◌,
  ◌++◌,
  length,
  map,
  replicate,
  take,
  Option,
  Some,
  None,
  refl,
  sym,
  ap,
  subst,
  inl,
  inr,
  arith,
  ◌∙◌,
  length-append,
  append_assoc,
}
use Rattle.std.specs.Prelude.{slice_get, slice_index, slice_set, nat_lt}
use Rattle.std.specs.List.{filter, range_with_len}
use Rattle.std.proofs.lemmas.Bool.{false≢true, cases_eq, eqb-true, ltb-true, ltb-false}
use Rattle.std.proofs.lemmas.Option.{same_Some, slice_get_within}
use Rattle.std.proofs.Math.ListN.{length-set}
use Rattle.program_tables.specs.declared.mark_table.Mark.{Mark}
use Rattle.program_tables.specs.declared.roles.Role.TheVariants.{FullTaken}
use Rattle.program_tables.specs.Communications.{communicators_from, joining}
use Rattle.program_tables.specs.Marks.{marks_of}
use Rattle.sequence_build_laws.specs.Owners.{sum_below}
use Rattle.sequence_build_laws.specs.declared.Instr.{Instr}
use Rattle.sequence_build_laws.specs.declared.Instr.TheVariants.{Suc0, Suc1, Pre0, Pre1, Call, Send, Recv, Sync}
use Rattle.sequence_build_laws.specs.declared.SeqCode.{SeqCode}
use Rattle.sequence_build_laws.specs.declared.Program.{Program}
use Rattle.sequence_build_laws.specs.Instructions.{medium, turn}
use Rattle.sequence_build_laws.specs.WellFormed.{Stands}
use Rattle.sequence_build_laws.proofs.Lists.{Past, from_append, get_before, get_past}
use Rattle.sequence_build_laws.proofs.Loops.{code_there}
use Rattle.sequence_build_laws.proofs.Sequences.{range_there}
use Rattle.check_laws.specs.Run.{Place, IsRun, awaited, is_past, is_ready, left_from, lowest, made, may_go, stuck}
use Rattle.check_laws.specs.Tests.{stopped, stuck_at}
use Rattle.check_laws.proofs.Running.{Going, stop_alike, empty_run, going, made_is, more, other_more, own_more, ready_at, short}
use Rattle.check_cause.specs.declared.cause.Stop.{Stop}
use Rattle.macro_check.specs.Awaiting.{
  place_of,
  first_in,
  on_it,
  sequences_in,
  stop_at,
  to_do,
  IsWhole,
  IsEnded,
  IsGoing,
  IsStep,
  MayRun,
  goes_in,
  is_past_in,
  is_ready_in,
  left_in,
  stand_or,
  woken,
  woken_at,
}
use Rattle.macro_check.proofs.Wakes.{Among, wakes}

module _ (p : Program) where
  -- the counts tell what was passed
  past_is : (order done : List ℕ) → ((s : ℕ) → slice_index done s ≡ made order s) → (o : Option Place) → is_past_in done (stand_or o) ≡ is_past p order o
  past_is order done h None = refl
  past_is order done h (Some y) = ap (nat_lt y.at) (h y.sequence)

  pub ready_is : (order done : List ℕ) → ((s : ℕ) → slice_index done s ≡ made order s) → (s : ℕ) → is_ready_in p done s ≡ is_ready p order s
  ready_is order done h s = (λ i. goes_in p done s (h s i) (slice_get (turn p s) (h s i))) ∙ by (slice_get (turn p s) (made order s))
    where
      by : (o : Option Instr) → goes_in p done s (made order s) o ≡ may_go p order s (made order s) o
      by None = refl
      by (Some x) = past_is order done h (awaited p s (made order s) x)

  pub left_is : (order done : List ℕ) → ((s : ℕ) → slice_index done s ≡ made order s) → (k n : ℕ) → left_in p done k n ≡ left_from p order k n
  left_is order done h k zero = refl
  left_is order done h k (suc n) =
      let rest = left_is order done h (suc k) n in
      λ i. cond (nat_lt (h k i) (length (turn p k))) (record { sequence = k; at = h k i } ∷ rest i) (rest i)

  -- at the start
  pub starts : IsGoing p [] (replicate (length p.seqs) 0) (range_with_len 0 (length p.seqs))
  starts = record {
    run = empty_run p;
    many = zeros (length p.seqs);
    counts = none (length p.seqs);
    ready = λ s l e. (s, range_there 0 (length p.seqs) s l ∙ ap (λ (n : ℕ). Some n) (let z : 0 + s ≡ s = omega arith in z));
  }
    where
      zeros : (n : ℕ) → length {A = ℕ} (replicate n 0) ≡ n
      zeros zero = refl
      zeros (suc n) = ap (λ (k : ℕ). suc k) (zeros n)

      none : (n s : ℕ) → slice_index (replicate n 0) s ≡ 0
      none zero s = refl
      none (suc n) zero = refl
      none (suc n) (suc s) = none n s

  pub starts_here : (n : ℕ) (order done looks : List ℕ) → n ≡ length p.seqs → order ≡ [] → done ≡ replicate n 0 → looks ≡ range_with_len 0 n → IsGoing p order done looks
  starts_here n order done looks e a b c =
      let P : List ℕ → Type 0 = λ o. IsGoing p o done looks in
      subst P (sym a)
      (let Q : List ℕ → Type 0 = λ d. IsGoing p [] d looks in
      subst Q (sym (b ∙ ap (λ (k : ℕ). replicate k 0) e))
      (let S : List ℕ → Type 0 = λ l. IsGoing p [] (replicate (length p.seqs) 0) l in
      subst S (sym (c ∙ ap (range_with_len 0) e)) starts))

  -- a sequence that is not ready need not be looked at
  pub passes_over : (order done looks : List ℕ) (s : ℕ) → IsGoing p order done (looks ++ s ∷ []) → is_ready_in p done s ≡ false → IsGoing p order done looks
  passes_over order done looks s g e = record {
    run = g.run;
    many = g.many;
    counts = g.counts;
    ready = λ u l h. let r = g.ready u l h in by u h r.0 (from_append looks (s ∷ []) r.0 u r.1);
  }
    where
      by : (u : ℕ) → is_ready p order u ≡ true → (i : ℕ) → (slice_get looks i ≡ Some u) ⊎ Past looks (s ∷ []) i u → Among u looks
      by u h i (inl q) = (i, q)
      by u h i (inr q) = last q.at q.stands
        where
          last : (k : ℕ) → slice_get (s ∷ []) k ≡ Some u → Among u looks
          last zero f = absurd (false≢true (sym e ∙ ready_is order done g.counts s ∙ ap (is_ready p order) (same_Some s u f) ∙ h))
          last (suc k) f = absurd cc

  -- none is left to look at
  pub ends : (order done : List ℕ) → IsGoing p order done [] → IsEnded p order done
  ends order done g = record { run = g.run; stopped = none 0 (length p.seqs) (λ s l. not_ready s l); counts = g.counts }
    where
      not_ready : (s : ℕ) → s < 0 + length p.seqs → is_ready p order s ≡ false
      not_ready s l = by (is_ready p order s) refl
        where
          by : (b : Bool) → is_ready p order s ≡ b → b ≡ false
          by true e = let r = g.ready s (omega arith) e in let z = r.1 in absurd cc
          by false e = refl

      none : (k n : ℕ) → ((s : ℕ) → s < k + n → is_ready p order s ≡ false) → lowest (is_ready p order) k n ≡ None
      none k zero h = refl
      none k (suc n) h = ap (λ (b : Bool). cond b (Some k) (lowest (is_ready p order) (suc k) n)) (h k (omega arith)) ∙ none (suc k) n (λ s l. h s (omega arith))

  pub ends_here : (order done looks : List ℕ) → IsGoing p order done looks → length looks ≡ 0 → IsEnded p order done
  ends_here order done [] g e = ends order done g
  ends_here order done (x ∷ xs) g e = absurd (omega arith)

set_same : (xs : List ℕ) (i v : ℕ) → i < length xs → slice_index (slice_set xs i v) i ≡ v
set_same [] i v l = absurd (omega arith)
set_same (x ∷ xs) zero v l = refl
set_same (x ∷ xs) (suc i) v l = set_same xs i v (omega arith)

set_other : (xs : List ℕ) (i j v : ℕ) → j ≢ i → slice_index (slice_set xs i v) j ≡ slice_index xs j
set_other [] i j v h = refl
set_other (x ∷ xs) zero zero v h = absurd (h refl)
set_other (x ∷ xs) zero (suc j) v h = refl
set_other (x ∷ xs) (suc i) zero v h = refl
set_other (x ∷ xs) (suc i) (suc j) v h = set_other xs i j v (λ e. h (ap (λ (n : ℕ). suc n) e))

-- one sequence more to look at
pub range_more : (n : ℕ) (xs ys : List ℕ) → ys ≡ xs ++ n ∷ [] → xs ≡ range_with_len 0 n → ys ≡ range_with_len 0 (n + 1)
range_more n xs ys e was = e ∙ ap (λ (zs : List ℕ). zs ++ n ∷ []) was ∙ ap (λ (k : ℕ). range_with_len 0 n ++ k ∷ []) (let z : n ≡ 0 + n = omega arith in z) ∙ sym (one 0 n)
  where
    one : (a n : ℕ) → range_with_len a (n + 1) ≡ range_with_len a n ++ (a + n) ∷ []
    one a zero = ap (λ (k : ℕ). k ∷ []) (let z : a ≡ a + 0 = omega arith in z)
    one a (suc n) = ap (range_with_len a) (let z : suc n + 1 ≡ suc (n + 1) = omega arith in z)
        ∙ ap (λ (zs : List ℕ). a ∷ zs) (one (a + 1) n)
        ∙ ap (λ (k : ℕ). a ∷ (range_with_len (a + 1) n ++ k ∷ [])) (let z : a + 1 + n ≡ a + suc n = omega arith in z)

-- the stop of one sequence more
pub stops_more : (p : Program) (done : List ℕ) (s n : ℕ) (old new whole : List Place) → s < n → old ++ left_in p done s (n - s) ≡ whole
    → new ≡ old ++ stop_at p done s → new ++ left_in p done (s + 1) (n - (s + 1)) ≡ whole
stops_more p done s n old new whole l was e =
    ap (λ (xs : List Place). xs ++ left_in p done (s + 1) (n - (s + 1))) e
    ∙ append_assoc old (stop_at p done s) (left_in p done (s + 1) (n - (s + 1))) ∙ ap (λ (xs : List Place). old ++ xs) (sym step) ∙ was
  where
    step : left_in p done s (n - s) ≡ stop_at p done s ++ left_in p done (s + 1) (n - (s + 1))
    step = ap (left_in p done s) (let z : n - s ≡ suc (n - (s + 1)) = omega arith in z)
        ∙ by (nat_lt (slice_index done s) (length (turn p s)))
        ∙ ap (λ (k : ℕ). stop_at p done s ++ left_in p done k (n - (s + 1))) (let z : suc s ≡ s + 1 = omega arith in z)
      where
        by : (b : Bool) → cond b (record { sequence = s; at = slice_index done s } ∷ left_in p done (suc s) (n - (s + 1)))
            (left_in p done (suc s) (n - (s + 1))) ≡ cond b (record { sequence = s; at = slice_index done s } ∷ []) [] ++ left_in p done (suc s) (n - (s + 1))
        by true = refl
        by false = refl

-- a pop that finds none
pub popped_none : (n : ℕ) (before after : List ℕ) → n ≡ 0 → before ≡ after ++ [] → after ≡ take (n - 1) before → length before ≡ 0
popped_none n before after z e f = ap (λ (xs : List ℕ). length xs) (e ∙ ap (λ (xs : List ℕ). xs ++ []) (f ∙ ap (λ (k : ℕ). take (k - 1) before) z))

-- few are woken
few_on : (m s : ℕ) (qs : List SeqCode) → length (sequences_in (filter (λ (x : Mark). nat_eq x.number m) (communicators_from s qs))) ≤ length qs
few_on m s [] = omega arith
few_on m s (q ∷ qs) = by q.seq.medium (few_on m (s + 1) qs)
  where
    by : (o : Option ℕ) → length (sequences_in (filter (λ (x : Mark). nat_eq x.number m) (communicators_from (s + 1) qs))) ≤ length qs
        → length (sequences_in (filter (λ (x : Mark). nat_eq x.number m) (joining s o (communicators_from (s + 1) qs)))) ≤ length (q ∷ qs)
    by None h = omega arith
    by (Some n) h = on (nat_eq n m)
      where
        on : (b : Bool) → length (sequences_in
            (cond b (record { number = n; sequence = s; at = 0; port = 0 }
            ∷ filter (λ (x : Mark). nat_eq x.number m) (communicators_from (s + 1) qs))
            (filter (λ (x : Mark). nat_eq x.number m) (communicators_from (s + 1) qs)))) ≤ length (q ∷ qs)
        on true = omega arith
        on false = omega arith

pub few_woken : (p : Program) (s : ℕ) (o : Option Instr) → length (woken_at p s o) ≤ length p.seqs + 1
few_woken p s None = omega arith
few_woken p s (Some x) = by x
  where
    first : (ms : List Mark) → length (first_in ms) ≤ length p.seqs + 1
    first [] = omega arith
    first (m ∷ ms) = omega arith

    on : (o : Option ℕ) → length (on_it p o) ≤ length p.seqs + 1
    on None = omega arith
    on (Some m) = let z = few_on m 0 p.seqs in omega arith

    by : (x : Instr) → length (woken p s x) ≤ length p.seqs + 1
    by (Pre1 q) = first (marks_of p FullTaken q)
    by (Send b o) = on (medium p s)
    by (Recv b o) = on (medium p s)
    by (Suc0 q) = omega arith
    by (Suc1 q) = omega arith
    by (Pre0 q) = omega arith
    by (Call v ins outs) = omega arith
    by (Sync q r) = omega arith

-- where a step less is left, and few are added
pub falls : (k j c l m : ℕ) → k ≡ j + 1 → m < c + l → j * c + m < k * c + l
falls k j c l m e h = let z : k * c ≡ j * c + c = ap (λ (n : ℕ). n * c) e ∙ one j c in omega arith
  where
    one : (j c : ℕ) → (j + 1) * c ≡ j * c + c
    one j c = grind arith

module _ (p : Program) (media : ℕ) (r : MayRun p media) where
  module _ (order done looks : List ℕ) (s : ℕ) (g : IsGoing p order done (looks ++ s ∷ [])) (ready : is_ready_in p done s ≡ true) where
    is_ready_here : is_ready p order s ≡ true
    is_ready_here = sym (ready_is p order done g.counts s) ∙ ready

    here : Going p order s
    here = going p order s is_ready_here

    pub low : s < length p.seqs
    low = let c = code_there p s (made order s) here.it here.stands in slice_get_within p.seqs s c.it c.stands

    pub in_done : s < length done
    in_done = let l = low in let m = g.many in omega arith

    pub in_turn : slice_index done s < length (turn p s)
    in_turn = let l = slice_get_within (turn p s) (made order s) here.it here.stands in let m = g.counts s in omega arith

    run_more : IsRun p (order ++ s ∷ [])
    run_more = more p order s g.run low is_ready_here

    -- fewer steps are left than there were
    pub steps_left : length order < sum_below (λ t. length (turn p t)) (length p.seqs)
    steps_left = let l = short p (order ++ s ∷ []) run_more in let n = length-append order (s ∷ []) in omega arith

    made_more : made (order ++ s ∷ []) s ≡ made order s + 1
    made_more = made_is (order ++ s ∷ []) s ∙ own_more order s ∙ ap (λ (n : ℕ). n + 1) (sym (made_is order s))

    made_same : (u : ℕ) → u ≢ s → made (order ++ s ∷ []) u ≡ made order u
    made_same u h = made_is (order ++ s ∷ []) u ∙ other_more order s u h ∙ sym (made_is order u)

    woken_is : woken_at p s (slice_get (turn p s) (slice_index done s)) ≡ woken p s here.it
    woken_is = ap (λ (a : ℕ). woken_at p s (slice_get (turn p s) a)) (g.counts s) ∙ ap (woken_at p s) here.stands

    -- what became ready is woken
    looked_at : (u : ℕ) → u < length p.seqs → u ≢ s → is_ready p (order ++ s ∷ []) u ≡ true → Among u looks ⊎ Among u (woken p s here.it)
    looked_at u l h e = before (is_ready p order u) refl
      where
        c : Going p (order ++ s ∷ []) u
        c = going p (order ++ s ∷ []) u e

        stands : Stands p u (made order u) c.it
        stands = ap (slice_get (turn p u)) (sym (made_same u h)) ∙ c.stands

        past : is_past p (order ++ s ∷ []) (awaited p u (made order u) c.it) ≡ true
        past = ap (λ (a : ℕ). is_past p (order ++ s ∷ []) (awaited p u a c.it)) (sym (made_same u h)) ∙ c.past

        from : (i : ℕ) → (slice_get looks i ≡ Some u) ⊎ Past looks (s ∷ []) i u → Among u looks
        from i (inl q) = (i, q)
        from i (inr q) = last q.at q.stands
          where
            last : (k : ℕ) → slice_get (s ∷ []) k ≡ Some u → Among u looks
            last zero f = absurd (h (sym (same_Some s u f)))
            last (suc k) f = absurd cc

        awaits : (o : Option Place) → awaited p u (made order u) c.it ≡ o → is_past p order o ≡ false → is_past p (order ++ s ∷ []) o ≡ true → Among u (woken p s here.it)
        awaits None q f k = absurd (false≢true (sym f))
        awaits (Some y) q f k = by (cases_eq y.sequence s)
          where
            was : made order y.sequence ≤ y.at
            was = ltb-false y.at (made order y.sequence) f

            is : y.at < made (order ++ s ∷ []) y.sequence
            is = ltb-true y.at (made (order ++ s ∷ []) y.sequence) k

            by : (y.sequence ≡ s) ⊎ (y.sequence ≡ s → ⊥) → Among u (woken p s here.it)
            by (inl same) =
                let m = made_more in
                let a = ap (made order) same in
                let b = ap (made (order ++ s ∷ [])) same in
                let v = was in let w = is in
                wakes p media r u (made order u) c.it s (made order s) here.it l stands here.stands y q same (omega arith)
            by (inr other) = let m = made_same y.sequence other in let v = was in let w = is in absurd (omega arith)

        before : (b : Bool) → is_ready p order u ≡ b → Among u looks ⊎ Among u (woken p s here.it)
        before true q = let z = g.ready u l q in inl (from z.0 (from_append looks (s ∷ []) z.0 u z.1))
        before false q = inr (awaits (awaited p u (made order u) c.it) refl (sym (ready_at p order u (made order u) c.it refl stands) ∙ q) past)

    pub goes_on : (order_after done_after looks_after : List ℕ) → IsStep p s order done looks order_after done_after looks_after → IsGoing p order_after done_after looks_after
    goes_on order_after done_after looks_after e =
        (let P : List ℕ → Type 0 = λ o. IsGoing p o done_after looks_after in subst P (sym e.order_is)
        (let Q : List ℕ → Type 0 = λ d. IsGoing p (order ++ s ∷ []) d looks_after in subst Q (sym e.done_is)
        (let S : List ℕ → Type 0 = λ k. IsGoing p (order ++ s ∷ []) (slice_set done s (slice_index done s + 1)) k in
        subst S (sym (e.looks_are ∙ ap (λ (w : List ℕ). looks ++ s ∷ [] ++ w) woken_is)) after)))
      where
        count : (u : ℕ) → (u ≡ s) ⊎ (u ≡ s → ⊥) → slice_index (slice_set done s (slice_index done s + 1)) u ≡ made (order ++ s ∷ []) u
        count u (inl q) = ap (slice_index (slice_set done s (slice_index done s + 1))) q ∙ set_same done s (slice_index done s + 1) in_done
            ∙ ap (λ (n : ℕ). n + 1) (g.counts s) ∙ sym made_more ∙ ap (made (order ++ s ∷ [])) (sym q)
        count u (inr q) = set_other done s u (slice_index done s + 1) q ∙ g.counts u ∙ sym (made_same u q)

        looked : (u : ℕ) → u < length p.seqs → is_ready p (order ++ s ∷ []) u ≡ true → (u ≡ s) ⊎ (u ≡ s → ⊥) → Among u (looks ++ s ∷ [] ++ woken p s here.it)
        looked u l h (inl q) = (length looks + 0, get_before (looks ++ s ∷ []) (woken p s here.it) (length looks + 0) u (get_past looks (s ∷ []) 0 ∙ ap (λ (n : ℕ). Some n) (sym q)))
        looked u l h (inr q) = by (looked_at u l q h)
          where
            by : Among u looks ⊎ Among u (woken p s here.it) → Among u (looks ++ s ∷ [] ++ woken p s here.it)
            by (inl z) = (z.0, get_before (looks ++ s ∷ []) (woken p s here.it) z.0 u (get_before looks (s ∷ []) z.0 u z.1))
            by (inr z) = (length (looks ++ s ∷ []) + z.0, get_past (looks ++ s ∷ []) (woken p s here.it) z.0 ∙ z.1)

        after : IsGoing p (order ++ s ∷ []) (slice_set done s (slice_index done s + 1)) (looks ++ s ∷ [] ++ woken p s here.it)
        after = record {
          run = run_more;
          many = length-set done s (slice_index done s + 1) ∙ g.many;
          counts = λ u. count u (cases_eq u s);
          ready = λ u l h. looked u l h (cases_eq u s);
        }

-- A run that has come to its end: it made all, or these are the places at which it stops.
module _ (p : Program) (order done : List ℕ) (e : IsEnded p order done) (left : List Place) (l : left ≡ left_in p done 0 (length p.seqs)) where
  left_here : left ≡ left_from p order 0 (length p.seqs)
  left_here = l ∙ left_is p order done e.counts 0 (length p.seqs)

  pub is_whole : left ≡ [] → IsWhole p order
  is_whole n = record { run = e.run; ends = sym left_here ∙ n }

  pub is_stuck : (x : Place) (xs : List Place) → left ≡ x ∷ xs → stopped (stuck p) ≡ Some (stuck_at left)
  is_stuck x xs n =
      let same : stuck p ≡ left = sym (left_here ∙ stop_alike p order e.run e.stopped) in
      ap stopped (same ∙ n) ∙ ap (λ (ys : List Place). Some (stuck_at ys)) (sym n)

-- as the code finds it, by its counts and the stops that it made
module _ (p : Program) (order done counts : List ℕ) (e : IsEnded p order done) (c : counts ≡ done) (stops seen : List Stop)
    (l : map place_of stops ≡ left_in p counts 0 (length p.seqs)) (s : seen ≡ stops) where
  left_by : map place_of stops ≡ left_in p done 0 (length p.seqs)
  left_by = l ∙ ap (λ (d : List ℕ). left_in p d 0 (length p.seqs)) c

  pub whole_here : nat_eq (length seen) 0 ≡ true → IsWhole p order
  whole_here z = is_whole p order done e (map place_of stops) left_by (none stops (ap (λ (xs : List Stop). length xs) (sym s) ∙ eqb-true (length seen) 0 z))
    where
      none : (xs : List Stop) → length xs ≡ 0 → map place_of xs ≡ []
      none [] n = refl
      none (x ∷ xs) n = absurd (omega arith)

  pub stuck_here : nat_eq (length seen) 0 ≡ false → (told : List Stop) → told ≡ stops → stopped (stuck p) ≡ Some (stuck_at (map place_of told))
  stuck_here z told t = by stops refl ∙ ap (λ (xs : List Stop). Some (stuck_at (map place_of xs))) (sym t)
    where
      by : (xs : List Stop) → stops ≡ xs → stopped (stuck p) ≡ Some (stuck_at (map place_of stops))
      by [] q = absurd (false≢true (sym z ∙ ap (λ (ys : List Stop). nat_eq (length ys) 0) (s ∙ q)))
      by (x ∷ xs) q = is_stuck p order done e (map place_of stops) left_by (place_of x) (map place_of xs) (ap (map place_of) q)

-- how much is left to do: the steps, each with all that it may wake, and the sequences to look at
module _ (p : Program) where
  pub less_by_look : (order looks : List ℕ) (s : ℕ) → to_do p order looks < to_do p order (looks ++ s ∷ [])
  less_by_look order looks s = let n = length-append looks (s ∷ []) in omega arith

  pub less_by_step : (order done looks order_after done_after looks_after : List ℕ) (s : ℕ) → length order
      < sum_below (λ t. length (turn p t)) (length p.seqs) → IsStep p s order done looks order_after done_after looks_after
      → to_do p order_after looks_after < to_do p order (looks ++ s ∷ [])
  less_by_step order done looks order_after done_after looks_after s l e =
      let a = ap (λ (xs : List ℕ). length xs) e.order_is ∙ length-append order (s ∷ []) in
      let b = ap (λ (xs : List ℕ). length xs) e.looks_are ∙ length-append (looks ++ s ∷ []) (woken_at p s (slice_get (turn p s) (slice_index done s))) in
      let c = length-append looks (s ∷ []) in
      let d = few_woken p s (slice_get (turn p s) (slice_index done s)) in
      falls (sum_below (λ t. length (turn p t)) (length p.seqs) - length order)
      (sum_below (λ t. length (turn p t)) (length p.seqs) - length order_after) (length p.seqs + 3) (length (looks ++ s ∷ []))
      (length looks_after) (omega arith) (omega arith)
