-- The search from a vertex.
use Rattle.std.proofs.Common.{
  ◌≡◌,
  ◌≢◌,
  ℕ,
  zero,
  suc,
  ◌+◌,
  ◌<◌,
  ◌≤◌,
  Bool,
  true,
  false,
  not,
  cond,
  List,
  [],
  ◌∷◌,
  ◌++◌,
  length,
  get_or,
  set,
  arith,
  refl,
  sym,
  ap,
  subst,
  ◌∙◌,
  replicate,
  get_or-set_other,
  get_or-set_same,
  length-append,
  ◌⊎◌,
  inl,
  inr,
}
use Rattle.std.specs.Prelude.{Contains}
use Rattle.std.specs.List.{count_by}
use Rattle.std.proofs.Math.Dec.{eqb}
use Rattle.std.proofs.Math.ListN.{length-set}
use Rattle.std.proofs.lemmas.Bool.{eqb-true, eqb-false}
use Rattle.std.proofs.lemmas.List.Elements.{Contains-append_left, Contains-push}
use Rattle.std.proofs.lemmas.List.{get_or_default}
use Rattle.std.proofs.lemmas.List.Folds.{sum_by-replicate}
use Rattle.std.proofs.lemmas.List.Sums.{sum_by-set}
use Rattle.reference_graph.specs.Links.{Links, from, reaches_itself}
use Rattle.reference_graph.specs.Answer.{Refers}
use Rattle.reference_graph.specs.Search.{IsMarked, IsQueue, Grows}
use Rattle.reference_graph.specs.Reached.{IsReached}
use Rattle.reference_graph.proofs.Paths.{arrives, one_more, longer, refers_within}

pub marked_inside : (marks : List Bool) (b : ℕ) → IsMarked marks b → b < length marks
marked_inside [] b h = absurd (cc)
marked_inside (x ∷ xs) zero h = omega arith
marked_inside (x ∷ xs) (suc b) h = omega (arith, marked_inside xs b h)

pub no_more : (refs : List ℕ) (m : List Bool) (q : List ℕ) → IsQueue m q → Grows refs m q m q
no_more refs m q h = record {
  is_queue = h;
  longer = omega arith;
  places = λ k l. refl;
  kept = λ b x. x;
  only = λ b x. inl x;
}

at_old : (q : List ℕ) (b k : ℕ) → k < length q → get_or (q ++ b ∷ []) k 0 ≡ get_or q k 0
at_old [] b k l = absurd (omega arith)
at_old (x ∷ xs) b zero l = refl
at_old (x ∷ xs) b (suc k) l = at_old xs b k (omega arith)

at_new : (q : List ℕ) (b : ℕ) → get_or (q ++ b ∷ []) (length q) 0 ≡ b
at_new [] b = refl
at_new (x ∷ xs) b = at_new xs b

module _ (m : List Bool) (q : List ℕ) (b : ℕ) (inside : b < length m) (open_ : get_or m b false ≡ false) (before : IsQueue m q) where
  m' : List Bool
  m' = set m b true

  q' : List ℕ
  q' = q ++ b ∷ []

  count_more : length (q ++ b ∷ []) + count_by not (set m b true) ≡ length (set m b true)
  count_more =
      let sums : count_by not (set m b true) + cond (not (get_or m b false)) 1 0 ≡ count_by not m + 0 = sum_by-set (λ x. cond (not x) 1 0) m b true false inside in
      let one : ◌≡◌ {A = ℕ} (cond (not (get_or m b false)) 1 0) 1 = ap (λ (t : Bool). cond (not t) 1 0) open_ in
      let len : length (q ++ b ∷ []) ≡ length q + 1 = length-append q (b ∷ []) in
      let same : length (set m b true) ≡ length m = length-set m b true in
      omega (arith, sums, one, len, same, before.count)

  stays : (x : ℕ) → IsMarked m x → IsMarked (set m b true) x
  stays x h =
      let other : x ≢ b = λ e. absurd (let now : get_or m b false ≡ true = subst (λ (y : ℕ). get_or m y false ≡ true) e h in cc) in
      get_or-set_other m b x true false other ∙ h

  marked_at : (t : Bool) (k : ℕ) → eqb k (length q) ≡ t → k < length (q ++ b ∷ []) → IsMarked (set m b true) (get_or (q ++ b ∷ []) k 0)
  marked_at true k e l =
      let at : get_or (q ++ b ∷ []) k 0 ≡ b = ap (λ (j : ℕ). get_or (q ++ b ∷ []) j 0) (eqb-true k (length q) e) ∙ at_new q b in
      subst (λ (y : ℕ). IsMarked (set m b true) y) (sym at) (get_or-set_same m b true false inside)
  marked_at false k e l =
      let len : length (q ++ b ∷ []) ≡ length q + 1 = length-append q (b ∷ []) in
      let ne : k ≢ length q = eqb-false k (length q) e in
      let below : k < length q = omega arith in
      subst (λ (y : ℕ). IsMarked (set m b true) y) (sym (at_old q b k below)) (stays (get_or q k 0) (before.marked k below))

  only_at : (t : Bool) (x : ℕ) → eqb x b ≡ t → IsMarked (set m b true) x → IsMarked m x ⊎ (b ≡ x)
  only_at true x e h = inr (sym (eqb-true x b e))
  only_at false x e h = inl (sym (get_or-set_other m b x true false (eqb-false x b e)) ∙ h)

  queued_at : (x : ℕ) → IsMarked (set m b true) x → Contains (q ++ b ∷ []) x
  queued_at x h =
      elim (only_at (eqb x b) x refl h) [
        | inl old ↦ Contains-append_left q (b ∷ []) x (before.queued x old)
        | inr new ↦ subst (λ (y : ℕ). Contains (q ++ b ∷ []) y) new (Contains-push q b)
      ]

  pub grows_by : Grows (b ∷ []) m q (set m b true) (q ++ b ∷ [])
  grows_by = record {
    is_queue = record { count = count_more; marked = λ k l. marked_at (eqb k (length q)) k refl l; queued = queued_at };
    longer = (let len : length (q ++ b ∷ []) ≡ length q + 1 = length-append q (b ∷ []) in omega arith);
    places = λ k l. at_old q b k l;
    kept = stays;
    only = λ x h.
        elim (only_at (eqb x b) x refl h) [
          | inl old ↦ inl old
          | inr new ↦ inr (0, omega arith, new)
        ];
  }

  pub marked_by : IsMarked (set m b true) b
  marked_by = get_or-set_same m b true false inside

pub grows_on : (refs one : List ℕ) (m0 : List Bool) (q0 : List ℕ) (m1 : List Bool) (q1 : List ℕ) (m2 : List Bool) (q2 : List ℕ)
    → Grows refs m0 q0 m1 q1 → ((b : ℕ) → Contains one b → Contains refs b) → Grows one m1 q1 m2 q2 → Grows refs m0 q0 m2 q2
grows_on refs one m0 q0 m1 q1 m2 q2 g among h = record {
  is_queue = h.is_queue;
  longer = omega (arith, g.longer, h.longer);
  places = λ k l. h.places k (omega (arith, g.longer, l)) ∙ g.places k l;
  kept = λ b x. h.kept b (g.kept b x);
  only = λ b x.
      elim (h.only b x) [
        | inl old ↦ g.only b old
        | inr new ↦ inr (among b new)
      ];
}

-- ---- the search

not_marked : (n b : ℕ) → get_or (replicate n false) b false ≡ false
not_marked zero b = refl
not_marked (suc n) zero = refl
not_marked (suc n) (suc b) = not_marked n b

no_marks_count : (n : ℕ) → count_by not (replicate n false) ≡ n
no_marks_count n = let h = sum_by-replicate (λ (x : Bool). cond (not x) 1 0) n false in omega (arith, h)

len_marks : (n : ℕ) → length (replicate {A = Bool} n false) ≡ n
len_marks zero = refl
len_marks (suc n) = ap suc (len_marks n)

pub empty_queue : (n : ℕ) → IsQueue (replicate n false) []
empty_queue n = record {
  count = omega (arith, no_marks_count n, len_marks n);
  marked = λ k l. absurd (omega arith);
  queued = λ b h. absurd (let no = not_marked n b in cc);
}

pub reached_first : (g : Links) (a n : ℕ) (refs : List ℕ) (m : List Bool) (q : List ℕ) → refs ≡ from g a → Grows refs (replicate n false) [] m q
    → ((b : ℕ) → Contains refs b → IsMarked m b) → IsReached g a m q 0
reached_first g a n refs m q same grows all = record {
  is_queue = grows.is_queue;
  within = λ b h.
      elim (grows.only b h) [
        | inl old ↦ absurd (let no = not_marked n b in cc)
        | inr new ↦ refers_within g a b (subst (λ (xs : List ℕ). Contains xs b) same new)
      ];
  begun = λ b r. all b (subst (λ (xs : List ℕ). Contains xs b) (sym same) r);
  closed = λ k b l below r. absurd (omega arith);
}

pub reached_idle : (g : Links) (a done : ℕ) (m : List Bool) (q : List ℕ) → length q ≤ done → IsReached g a m q done → IsReached g a m q (done + 1)
reached_idle g a done m q end s = record {
  is_queue = s.is_queue;
  within = λ b h. longer g done a b (s.within b h);
  begun = s.begun;
  closed = λ k b l below r. s.closed k b (omega arith) below r;
}

pub reached_more : (g : Links) (a done : ℕ) (refs : List ℕ) (m : List Bool) (q : List ℕ) (m' : List Bool) (q' : List ℕ) → done < length q → refs ≡ from g (get_or q done 0)
    → IsReached g a m q done → Grows refs m q m' q' → ((b : ℕ) → Contains refs b → IsMarked m' b) → IsReached g a m' q' (done + 1)
reached_more g a done refs m q m' q' here same s grows all = record {
  is_queue = grows.is_queue;
  within = λ b h.
      elim (grows.only b h) [
        | inl old ↦ longer g done a b (s.within b old)
        | inr new ↦ one_more g done a (get_or q done 0) b (s.within (get_or q done 0) (s.is_queue.marked done here)) (subst (λ (xs : List ℕ). Contains xs b) same new)
      ];
  begun = λ b r. grows.kept b (s.begun b r);
  closed = λ k b l below r. closed_at (eqb k done) k b refl l r;
}
  where
    closed_at : (t : Bool) (k b : ℕ) → eqb k done ≡ t → k < done + 1 → Refers g (get_or q' k 0) b → IsMarked m' b
    closed_at true k b e l r =
        let at : get_or q' k 0 ≡ get_or q done 0 = ap (λ (j : ℕ). get_or q' j 0) (eqb-true k done e) ∙ grows.places done here in
        all b (subst (λ (xs : List ℕ). Contains xs b) (sym same) (subst (λ (v : ℕ). Refers g v b) at r))
    closed_at false k b e l r =
        let ne = eqb-false k done e in
        let below : k < done = omega arith in
        let at : get_or q' k 0 ≡ get_or q k 0 = grows.places k (omega (arith, here, below)) in
        grows.kept b (s.closed k b below (omega (arith, here, below)) (subst (λ (v : ℕ). Refers g v b) at r))

-- what is marked at the end is all that the vertex leads to
pub reached_all : (g : Links) (a : ℕ) (m : List Bool) (q : List ℕ) → length m ≡ length g → IsReached g a m q (length g) → get_or m a false ≡ reaches_itself g a
reached_all g a m q same s = by (get_or m a false) refl (reaches_itself g a) refl
  where
    end : length q ≤ length g
    end = omega (arith, s.is_queue.count, same)

    falls : (x b : ℕ) → IsMarked m x → Refers g x b → IsMarked m b × (0 ≤ 0)
    falls x b h r =
        let place = s.is_queue.queued x h in
        let below : place.0 < length g = omega (arith, place.1, end) in
        let at : get_or q place.0 0 ≡ x = get_or_default q place.0 0 x place.1 ∙ place.2 in
        (s.closed place.0 b below place.1 (subst (λ (v : ℕ). Refers g v b) (sym at) r), omega arith)

    by : (t : Bool) → get_or m a false ≡ t → (u : Bool) → reaches_itself g a ≡ u → get_or m a false ≡ reaches_itself g a
    by true e u f = e ∙ sym (s.within a e)
    by false e false f = e ∙ sym f
    by false e true f =
        let back = arrives g (λ x. IsMarked m x) (λ x. 0) falls (length g) a a 1 (λ c r. (s.begun c r, omega arith)) f in
        absurd (let now = back.0 in cc)
