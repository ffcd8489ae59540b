-- Cutting a view in two, and joining two views, keep the rule.
use Rattle.std.proofs.Common.{
  ◌≡◌,
  ℕ,
  zero,
  suc,
  ◌<◌,
  ◌⊎◌,
  inl,
  inr,
  ⊎_elim,
  Bool,
  true,
  false,
  not,
  cond,
  List,
  [],
  ◌∷◌,
  ◌++◌,
  length,
  set,
  Option,
  Some,
  None,
  refl,
  sym,
  ap,
  subst,
  ◌∙◌,
  eq-eqb,
  ne_eqb,
  length-set,
}
use Rattle.std.proofs.lemmas.Bool.{cases_eq}
use mathlib.Core.Option.{some, some-injective, some-ne-none}
use lib.ListN.{get_elem?}
use Rattle.atomic_table.specs.Table.{State, Splits, Joins}
use Rattle.atomic_table.proofs.Lists.{at_set, set_here, set_else, at_longer, at_last}
use Rattle.phase_laws.specs.Job.{JobData}
use Rattle.word_rule.specs.declared.view.Count.{Count}
use Rattle.word_rule.specs.declared.view.View.{View}
use Rattle.word_rule.specs.declared.view.View.TheVariants.{Spent, Holds}
use Rattle.word_rule.specs.Views.{count_in, count_by, picked, left_of, right_of, joined, IsFor}
use Rattle.word_rule.specs.Rule.{Drives, IsDriven, TellsAt, Tells}
use Rattle.word_rule.proofs.Keeps.{seat_inside}

no_count : (n : ℕ) → ◌≡◌ {A = Option ℕ} None (Some n) → ⊥
no_count n h = cc

true_false : ◌≡◌ {A = Bool} true false → ⊥
true_false h = cc

-- The sequences that pass a test.
pub picked_back : (test : ℕ → Bool) (xs : List Count) (s n : ℕ) → count_in (picked test xs) s ≡ Some n → (test s ≡ true) × (count_in xs s ≡ Some n)
picked_back test [] s n h = absurd (no_count n h)
picked_back test (x ∷ xs) s n h = by (test x.seq) refl (cases_eq x.seq s) h (picked_back test xs s n)
  where
    by : (b : Bool) → test x.seq ≡ b → (x.seq ≡ s) ⊎ (x.seq ≡ s → ⊥) → count_in (cond b (x ∷ picked test xs) (picked test xs)) s ≡ Some n
        → (count_in (picked test xs) s ≡ Some n → (test s ≡ true) × (count_in xs s ≡ Some n)) → (test s ≡ true) × (count_in (x ∷ xs) s ≡ Some n)
    by true e (inl q) h r = (ap test (sym q) ∙ e, (let a : Some x.made ≡ Some n = rw (eq-eqb x.seq s q) at h in rw (eq-eqb x.seq s q) a))
    by true e (inr q) h r = let a : count_in (picked test xs) s ≡ Some n = rw (ne_eqb x.seq s q) at h in let p = r a in (p.0, rw (ne_eqb x.seq s q) p.1)
    by false e (inl q) h r = let p = r h in absurd (true_false (sym p.0 ∙ ap test (sym q) ∙ e))
    by false e (inr q) h r = let p = r h in (p.0, rw (ne_eqb x.seq s q) p.1)

pub picked_on : (test : ℕ → Bool) (xs : List Count) (s n : ℕ) → test s ≡ true → count_in xs s ≡ Some n → count_in (picked test xs) s ≡ Some n
picked_on test [] s n t h = absurd (no_count n h)
picked_on test (x ∷ xs) s n t h = by (test x.seq) refl (cases_eq x.seq s) (picked_on test xs s n t)
  where
    by : (b : Bool) → test x.seq ≡ b → (x.seq ≡ s) ⊎ (x.seq ≡ s → ⊥) → (count_in xs s ≡ Some n → count_in (picked test xs) s ≡ Some n)
        → count_in (cond b (x ∷ picked test xs) (picked test xs)) s ≡ Some n
    by true e (inl q) r = let a : Some x.made ≡ Some n = rw (eq-eqb x.seq s q) at h in rw (eq-eqb x.seq s q) a
    by true e (inr q) r = let a : count_in xs s ≡ Some n = rw (ne_eqb x.seq s q) at h in rw (ne_eqb x.seq s q) (r a)
    by false e (inl q) r = absurd (true_false (sym t ∙ ap test (sym q) ∙ e))
    by false e (inr q) r = let a : count_in xs s ≡ Some n = rw (ne_eqb x.seq s q) at h in r a

-- two lists of sequences, one after the other
pub both_back : (xs ys : List Count) (s n : ℕ) → count_in (xs ++ ys) s ≡ Some n → (count_in xs s ≡ Some n) ⊎ (count_in ys s ≡ Some n)
both_back [] ys s n h = inr h
both_back (x ∷ xs) ys s n h = by (cases_eq x.seq s) (both_back xs ys s n)
  where
    by : (x.seq ≡ s) ⊎ (x.seq ≡ s → ⊥) → (count_in (xs ++ ys) s ≡ Some n → (count_in xs s ≡ Some n) ⊎ (count_in ys s ≡ Some n)) → (count_in (x ∷ xs) s ≡ Some n) ⊎ (count_in ys s ≡ Some n)
    by (inl q) r = let a : Some x.made ≡ Some n = rw (eq-eqb x.seq s q) at h in inl (rw (eq-eqb x.seq s q) a)
    by (inr q) r = let a : count_in (xs ++ ys) s ≡ Some n = rw (ne_eqb x.seq s q) at h in ⊎_elim (λ p. inl (rw (ne_eqb x.seq s q) p)) (λ p. inr p) (r a)

pub both_left : (xs ys : List Count) (s n : ℕ) → count_in xs s ≡ Some n → count_in (xs ++ ys) s ≡ Some n
both_left [] ys s n h = absurd (no_count n h)
both_left (x ∷ xs) ys s n h = by (cases_eq x.seq s) (both_left xs ys s n)
  where
    by : (x.seq ≡ s) ⊎ (x.seq ≡ s → ⊥) → (count_in xs s ≡ Some n → count_in (xs ++ ys) s ≡ Some n) → count_in (x ∷ xs ++ ys) s ≡ Some n
    by (inl q) r = let a : Some x.made ≡ Some n = rw (eq-eqb x.seq s q) at h in rw (eq-eqb x.seq s q) a
    by (inr q) r = let a : count_in xs s ≡ Some n = rw (ne_eqb x.seq s q) at h in rw (ne_eqb x.seq s q) (r a)

pub both_right : (xs ys : List Count) (s n : ℕ) → count_in ys s ≡ Some n → (m : ℕ) × (count_in (xs ++ ys) s ≡ Some m)
both_right [] ys s n h = (n, h)
both_right (x ∷ xs) ys s n h = by (cases_eq x.seq s) (both_right xs ys s n h)
  where
    by : (x.seq ≡ s) ⊎ (x.seq ≡ s → ⊥) → (m : ℕ) × (count_in (xs ++ ys) s ≡ Some m) → (m : ℕ) × (count_in (x ∷ xs ++ ys) s ≡ Some m)
    by (inl q) r = (x.made, rw (eq-eqb x.seq s q) refl)
    by (inr q) r = (r.0, rw (ne_eqb x.seq s q) r.1)

at_pushed : {A : Type 0} (l : List A) (a b : A) (i : ℕ) → get_elem? (l ++ a ∷ []) i ≡ some b → (get_elem? l i ≡ some b) ⊎ ((i ≡ length l) × (a ≡ b))
at_pushed [] a b zero e = inr (refl, some-injective a b e)
at_pushed [] a b (suc i) e = absurd (some-ne-none b (sym e))
at_pushed (x ∷ xs) a b zero e = inl e
at_pushed (x ∷ xs) a b (suc i) e = ⊎_elim (λ p. inl p) (λ p. inr (ap suc p.0, p.1)) (at_pushed xs a b i e)

-- v is cut into u, which stays, and w
pub record Parts (v u w : View) : Type 0 where
  pub left : (s n : ℕ) → count_by u s ≡ Some n → count_by v s ≡ Some n
  pub right : (s n : ℕ) → count_by w s ≡ Some n → count_by v s ≡ Some n
  pub not_both : (s n m : ℕ) → count_by u s ≡ Some n → count_by w s ≡ Some m → ⊥
  pub one : (s n : ℕ) → count_by v s ≡ Some n → (count_by u s ≡ Some n) ⊎ (count_by w s ≡ Some n)

module _ (j : JobData) (t : State (Unit {0}) View) (counts : List ℕ) (b : TellsAt j t counts) (id : ℕ) (v : View)
    (at : get_elem? t.views id ≡ some v) (u w : View) (parts : Parts v u w) (for_u : IsFor j u) (for_w : IsFor j w) where
  abbrev New : List View
  New = set t.views id u ++ w ∷ []

  -- where a seat comes from
  record From (i s n : ℕ) : Type 0 where
    old : ℕ
    drives : Drives t.views old s n
    how : ((i ≡ old) × (old ≡ id → count_by u s ≡ Some n)) ⊎ ((i ≡ length t.views) × (old ≡ id) × (count_by w s ≡ Some n))

  from : (i s n : ℕ) → Drives New i s n → From i s n
  from i s n d = ⊎_elim
      (λ p. ⊎_elim
      (λ q. let c : count_by u s ≡ Some n = subst (λ (a : View). count_by a s ≡ Some n) (sym q.1) d.count in
      record { old = id; drives = record { view = v; stands = at; count = parts.left s n c }; how = inl (q.0, λ r. c) })
      (λ q. record { old = i; drives = record { view = d.view; stands = q.1; count = d.count }; how = inl (refl, λ r. absurd (q.0 r)) })
      (at_set t.views id i u d.view p))
      (λ p. let c : count_by w s ≡ Some n = subst (λ (a : View). count_by a s ≡ Some n) (sym p.1) d.count in
      record { old = id; drives = record { view = v; stands = at; count = parts.right s n c }; how = inr (p.0 ∙ length-set t.views id u, refl, c) })
      (at_pushed (set t.views id u) w d.view i d.stands)

  apart : (i h s n m : ℕ) → Drives New i s n → Drives New h s m → i ≡ h
  apart i h s n m d e = let f = from i s n d in let g = from h s m e in by f g (b.apart f.old g.old s n m f.drives g.drives) f.how g.how
    where
      by : (f : From i s n) (g : From h s m) → f.old ≡ g.old → ((i ≡ f.old) × (f.old ≡ id → count_by u s ≡ Some n)) ⊎ ((i ≡ length t.views) × (f.old ≡ id) × (count_by w s ≡ Some n))
          → ((h ≡ g.old) × (g.old ≡ id → count_by u s ≡ Some m)) ⊎ ((h ≡ length t.views) × (g.old ≡ id) × (count_by w s ≡ Some m)) → i ≡ h
      by f g q (inl x) (inl y) = x.0 ∙ q ∙ sym y.0
      by f g q (inl x) (inr y) = absurd (parts.not_both s n m (x.1 (q ∙ y.1)) y.2)
      by f g q (inr x) (inl y) = absurd (parts.not_both s m n (y.1 (sym q ∙ x.1)) x.2)
      by f g q (inr x) (inr y) = x.0 ∙ sym y.0

  covered : (s : ℕ) → s < length j.program.seqs → IsDriven New s
  covered s l = let d = b.covered s l in by d (cases_eq d.seat id)
    where
      by : (d : IsDriven t.views s) → (d.seat ≡ id) ⊎ (d.seat ≡ id → ⊥) → IsDriven New s
      by d (inl q) = let o : d.drives.view ≡ v = some-injective d.drives.view v (sym (subst (λ (h : ℕ). get_elem? t.views h ≡ some d.drives.view) q d.drives.stands) ∙ at) in
          ⊎_elim
          (λ c. record {
            seat = id;
            count = d.count;
            drives =
                record { view = u; stands = at_longer (set t.views id u) (w ∷ []) id u (set_here t.views id u (seat_inside t.views id v at)); count = c };
          })
          (λ c. record { seat = length t.views; count = d.count; drives = record { view = w; stands = at_last (set t.views id u) w (length t.views) (length-set t.views id u); count = c } })
          (parts.one s d.count (subst (λ (a : View). count_by a s ≡ Some d.count) o d.drives.count))
      by d (inr q) = record {
        seat = d.seat;
        count = d.count;
        drives =
            record {
              view = d.drives.view;
              stands =
                  at_longer (set t.views id u) (w ∷ []) d.seat d.drives.view (set_else t.views id d.seat u q ∙ d.drives.stands);
              count = d.drives.count;
            };
      }

  pub split_keeps : TellsAt j (record { words = t.words; homes = t.homes; views = New }) counts
  split_keeps = record {
    are_told = b.are_told;
    words = b.words;
    for_job = λ i y g. ⊎_elim (λ p. ⊎_elim (λ q. subst (IsFor j) q.1 for_u) (λ q. b.for_job i y q.1) (at_set t.views id i u y p))
        (λ p. subst (IsFor j) p.1 for_w) (at_pushed (set t.views id u) w y i g);
    agree = λ i s n d. let f = from i s n d in b.agree f.old s n f.drives;
    apart = apart;
    covered = covered;
  }

-- the two parts of a view by a test
parts_by : (test : ℕ → Bool) (v : View) → Parts v (left_of test v) (right_of test v)
parts_by test Spent = record { left = λ s n h. h; right = λ s n h. h; not_both = λ s n m h k. no_count n h; one = λ s n h. inl h }
parts_by test (Holds k) = record {
  left = λ s n h. (picked_back (λ i. not (test i)) k.driven s n h).1;
  right = λ s n h. (picked_back test k.driven s n h).1;
  not_both = λ s n m h l. let a = (picked_back (λ i. not (test i)) k.driven s n h).0 in let c = (picked_back test k.driven s m l).0 in true_false (sym a ∙ ap not c);
  one = λ s n h. by s n h (test s) refl;
}
  where
    by : (s n : ℕ) → count_in k.driven s ≡ Some n → (c : Bool) → test s ≡ c → (count_in (picked (λ i. not (test i)) k.driven) s ≡ Some n) ⊎ (count_in (picked test k.driven) s ≡ Some n)
    by s n h true e = inr (picked_on test k.driven s n e h)
    by s n h false e = inl (picked_on (λ i. not (test i)) k.driven s n (ap not e) h)

for_left : (j : JobData) (test : ℕ → Bool) (v : View) → IsFor j v → IsFor j (left_of test v) × IsFor j (right_of test v)
for_left j test Spent h = (h, h)
for_left j test (Holds k) h = (h, h)

pub split_allowed : (j : JobData) (id : ℕ) (test : ℕ → Bool) (v : View) → Splits (Tells j) id v (left_of test v) (right_of test v)
split_allowed j id test v t b at = let f = for_left j test v (b.1.for_job id v at) in
    (b.0, split_keeps j t b.0 b.1 id v at (left_of test v) (right_of test v) (parts_by test v) f.0 f.1)

-- u has what v and w drove
pub record Whole (v w u : View) : Type 0 where
  pub back : (s n : ℕ) → count_by u s ≡ Some n → (count_by v s ≡ Some n) ⊎ (count_by w s ≡ Some n)
  pub left : (s n : ℕ) → count_by v s ≡ Some n → (m : ℕ) × (count_by u s ≡ Some m)
  pub right : (s n : ℕ) → count_by w s ≡ Some n → (m : ℕ) × (count_by u s ≡ Some m)

module _ (j : JobData) (t : State (Unit {0}) View) (counts : List ℕ) (b : TellsAt j t counts) (id other : ℕ) (v w : View) (at : get_elem? t.views id ≡ some v) (else : other ≡ id → ⊥)
    (there : get_elem? t.views other ≡ some w) (u : View) (whole : Whole v w u) (for_u : IsFor j u) where
  abbrev pub Joined : List View
  Joined = set (set t.views id u) other Spent

  -- where a seat comes from
  record Came (i s n : ℕ) : Type 0 where
    old : ℕ
    drives : Drives t.views old s n
    how : ((i ≡ old) × (i ≡ id → ⊥) × (i ≡ other → ⊥)) ⊎ ((i ≡ id) × ((old ≡ id) ⊎ (old ≡ other)))

  came : (i s n : ℕ) → Drives Joined i s n → Came i s n
  came i s n d = ⊎_elim
      (λ p. absurd (no_count n (subst (λ (a : View). count_by a s ≡ Some n) (sym p.1) d.count)))
      (λ p. ⊎_elim
      (λ q. ⊎_elim
      (λ c. record { old = id; drives = record { view = v; stands = at; count = c }; how = inr (q.0, inl refl) })
      (λ c. record { old = other; drives = record { view = w; stands = there; count = c }; how = inr (q.0, inr refl) })
      (whole.back s n (subst (λ (a : View). count_by a s ≡ Some n) (sym q.1) d.count)))
      (λ q. record { old = i; drives = record { view = d.view; stands = q.1; count = d.count }; how = inl (refl, q.0, p.0) })
      (at_set t.views id i u d.view p.1))
      (at_set (set t.views id u) other i Spent d.view d.stands)

  joined_apart : (i h s n m : ℕ) → Drives Joined i s n → Drives Joined h s m → i ≡ h
  joined_apart i h s n m d e = let f = came i s n d in let g = came h s m e in by f g (b.apart f.old g.old s n m f.drives g.drives) f.how g.how
    where
      by : (f : Came i s n) (g : Came h s m) → f.old ≡ g.old → ((i ≡ f.old) × (i ≡ id → ⊥) × (i ≡ other → ⊥)) ⊎ ((i ≡ id) × ((f.old ≡ id) ⊎ (f.old ≡ other)))
          → ((h ≡ g.old) × (h ≡ id → ⊥) × (h ≡ other → ⊥)) ⊎ ((h ≡ id) × ((g.old ≡ id) ⊎ (g.old ≡ other))) → i ≡ h
      by f g q (inl x) (inl y) = x.0 ∙ q ∙ sym y.0
      by f g q (inl x) (inr y) = ⊎_elim (λ z. absurd (x.1 (x.0 ∙ q ∙ z))) (λ z. absurd (x.2 (x.0 ∙ q ∙ z))) y.1
      by f g q (inr x) (inl y) = ⊎_elim (λ z. absurd (y.1 (y.0 ∙ sym q ∙ z))) (λ z. absurd (y.2 (y.0 ∙ sym q ∙ z))) x.1
      by f g q (inr x) (inr y) = x.0 ∙ sym y.0

  at_id : get_elem? Joined id ≡ some u
  at_id = set_else (set t.views id u) other id Spent (λ q. else (sym q)) ∙ set_here t.views id u (seat_inside t.views id v at)

  joined_covered : (s : ℕ) → s < length j.program.seqs → IsDriven Joined s
  joined_covered s l = let d = b.covered s l in by d (cases_eq d.seat id) (cases_eq d.seat other)
    where
      view_at : (d : IsDriven t.views s) (i : ℕ) (y : View) → d.seat ≡ i → get_elem? t.views i ≡ some y → count_by y s ≡ Some d.count
      view_at d i y q g = subst (λ (a : View). count_by a s ≡ Some d.count)
          (some-injective d.drives.view y (sym (subst (λ (h : ℕ). get_elem? t.views h ≡ some d.drives.view) q d.drives.stands) ∙ g)) d.drives.count

      by : (d : IsDriven t.views s) → (d.seat ≡ id) ⊎ (d.seat ≡ id → ⊥) → (d.seat ≡ other) ⊎ (d.seat ≡ other → ⊥) → IsDriven Joined s
      by d (inl q) r = let c = whole.left s d.count (view_at d id v q at) in record { seat = id; count = c.0; drives = record { view = u; stands = at_id; count = c.1 } }
      by d (inr q) (inl r) = let c = whole.right s d.count (view_at d other w r there) in record { seat = id; count = c.0; drives = record { view = u; stands = at_id; count = c.1 } }
      by d (inr q) (inr r) = record {
        seat = d.seat;
        count = d.count;
        drives =
            record {
              view = d.drives.view;
              stands = set_else (set t.views id u) other d.seat Spent r
                  ∙ (set_else t.views id d.seat u q ∙ d.drives.stands);
              count = d.drives.count;
            };
      }

  pub join_keeps : TellsAt j (record { words = t.words; homes = t.homes; views = Joined }) counts
  join_keeps = record {
    are_told = b.are_told;
    words = b.words;
    for_job = λ i y g. ⊎_elim (λ p. subst (IsFor j) p.1 tt)
        (λ p. ⊎_elim (λ q. subst (IsFor j) q.1 for_u) (λ q. b.for_job i y q.1) (at_set t.views id i u y p.1)) (at_set (set t.views id u) other i Spent y g);
    agree = λ i s n d. let f = came i s n d in b.agree f.old s n f.drives;
    apart = joined_apart;
    covered = joined_covered;
  }

whole_of : (v w : View) → Whole v w (joined v w)
whole_of (Holds k) (Holds l) = record { back = both_back k.driven l.driven; left = λ s n h. (n, both_left k.driven l.driven s n h); right = both_right k.driven l.driven }
whole_of (Holds k) Spent = record { back = λ s n h. inl h; left = λ s n h. (n, h); right = λ s n h. absurd (no_count n h) }
whole_of Spent w = record { back = λ s n h. inr h; left = λ s n h. absurd (no_count n h); right = λ s n h. (n, h) }

for_joined : (j : JobData) (v w : View) → IsFor j v → IsFor j w → IsFor j (joined v w)
for_joined j (Holds k) (Holds l) f g = f
for_joined j (Holds k) Spent f g = f
for_joined j Spent w f g = g

pub join_allowed : (j : JobData) (id other : ℕ) (v w : View) → Joins (Tells j) id v other w (joined v w) Spent
join_allowed j id other v w t b at else there = let g : get_elem? t.views other ≡ some w = sym (set_else t.views id other (joined v w) else) ∙ there in
    (b.0, join_keeps j t b.0 b.1 id other v w at else g (joined v w) (whole_of v w) (for_joined j v w (b.1.for_job id v at) (b.1.for_job other w g)))
