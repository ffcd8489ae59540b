-- Choices, one element more.
use Rattle.std.proofs.Common.{◌≡◌, ℕ, zero, suc, ◌+◌, ◌-◌, ◌<◌, ◌≤◌, Bool, true, false, cond, ◌&&◌, not, nat_eq, List, [], ◌∷◌, length, get_or, Option, Some, None, refl, sym, ap, subst, arith, ◌∙◌}
use Rattle.std.specs.Prelude.{is_some, nat_le, nat_lt, slice_get}
use Rattle.std.specs.List.{filter, list_all, range_with_len}
use Rattle.std.proofs.lemmas.Bool.{and_parts, false_from_ne_true, leb-false, leb-true, lt-ltb, ltb-false, ltb-true}
use Rattle.std.proofs.lemmas.Option.{same_Some}
use Rattle.std.specs.Cmp.Derive.{both_true}
use Rattle.schedule.specs.Acts.{Act}
use Rattle.comm_routing.specs.Task.{Task}
use Rattle.comm_routing.specs.Placing.{decision, halves, is_candidate, is_placed, may_place, may_stand, needs, operator_of}
use Rattle.pressure_heuristic.specs.Choice.{first_least, first_greatest, lower, higher}
use Rattle.pressure_heuristic.specs.Pressure.{candidates, operators, operations, best_operator, pressure, urgency, urgency_on, next, with_some}
use Rattle.pressure_heuristic.specs.Choosing.{IsBest, IsLeastStand, IsChoice, IsGreatestChoice, IsNext, Leads, operator_of_stand, pressure_of, lower_stand, higher_choice, next_of, with_best}
use Rattle.pressure_heuristic.specs.declared.choice.Stand.{Stand}
use Rattle.pressure_heuristic.specs.declared.choice.Choice.{Choice}
use Rattle.pressure_heuristic.specs.declared.choice.Next.{Next}
use Rattle.pressure_heuristic.proofs.Lists.{least_chosen, least_passes, greatest_passes}

range_step : (n i k : ℕ) → k ≡ i + 1 → k ≤ n → range_with_len i (n - i) ≡ i ∷ range_with_len k (n - k)
range_step n i k e l =
    let s : n - i ≡ suc (n - k) = omega arith in
    ap (range_with_len i) s ∙ (λ j. i ∷ range_with_len (sym e j) (n - k))

module _ (t : Task) (before : List Act) (v : ℕ) where
  pub stand_yes : (n i k p : ℕ) (best : Option Stand) → k ≡ i + 1 → k ≤ n → may_stand t before v i ≡ true → p ≡ pressure t before v i
      → IsLeastStand t before v (filter (may_stand t before v) (range_with_len k (n - k))) best
      → IsLeastStand t before v (filter (may_stand t before v) (range_with_len i (n - i))) (Some (lower_stand (record { operator = i; pressure = p }) best))
  stand_yes n i k p best e l may is h =
      subst (λ (xs : List ℕ). IsLeastStand t before v xs (Some (lower_stand (record { operator = i; pressure = p }) best)))
      (sym (ap (filter (may_stand t before v)) (range_step n i k e l)
      ∙ (λ j. cond (may j) (i ∷ filter (may_stand t before v) (range_with_len k (n - k))) (filter (may_stand t before v) (range_with_len k (n - k))))))
      (by best h)
    where
      by : (best : Option Stand) → IsLeastStand t before v (filter (may_stand t before v) (range_with_len k (n - k))) best
          → IsLeastStand t before v (i ∷ filter (may_stand t before v) (range_with_len k (n - k))) (Some (lower_stand (record { operator = i; pressure = p }) best))
      by None h = (ap (λ (o : Option ℕ). Some (lower (pressure t before v) i o)) h, is)
      by (Some s) h = two (nat_lt s.pressure p) refl
        where
          two : (b : Bool) → nat_lt s.pressure p ≡ b
              → (Some (lower (pressure t before v) i
              (first_least (pressure t before v) (filter (may_stand t before v) (range_with_len k (n - k)))))
              ≡ Some (cond b s (record { operator = i; pressure = p })).operator)
              × ((cond b s (record { operator = i; pressure = p })).pressure ≡ pressure t before v (cond b s (record { operator = i; pressure = p })).operator)
          two true q =
              let r : nat_lt (pressure t before v s.operator) (pressure t before v i) ≡ true = (λ j. nat_lt (sym h.1 j) (sym is j)) ∙ q in
              (ap (λ (o : Option ℕ). Some (lower (pressure t before v) i o)) h.0 ∙ ap (λ (b : Bool). Some (cond b s.operator i)) r, h.1)
          two false q =
              let r : nat_lt (pressure t before v s.operator) (pressure t before v i) ≡ false = (λ j. nat_lt (sym h.1 j) (sym is j)) ∙ q in
              (ap (λ (o : Option ℕ). Some (lower (pressure t before v) i o)) h.0 ∙ ap (λ (b : Bool). Some (cond b s.operator i)) r, is)

  pub stand_no : (n i k : ℕ) (best : Option Stand) → k ≡ i + 1 → k ≤ n → may_stand t before v i ≡ false
      → IsLeastStand t before v (filter (may_stand t before v) (range_with_len k (n - k))) best → IsLeastStand t before v (filter (may_stand t before v) (range_with_len i (n - i))) best
  stand_no n i k best e l may h =
      subst (λ (xs : List ℕ). IsLeastStand t before v xs best)
      (sym (ap (filter (may_stand t before v)) (range_step n i k e l)
      ∙ (λ j. cond (may j) (i ∷ filter (may_stand t before v) (range_with_len k (n - k))) (filter (may_stand t before v) (range_with_len k (n - k)))))) h

  pub stand_is : (s : Option Stand) → IsLeastStand t before v (filter (may_stand t before v) (operators t)) s → (operator_of_stand s ≡ best_operator t before v) × (pressure_of s ≡ urgency t before v)
  stand_is None h = (sym h, ap (urgency_on t before v) (sym h))
  stand_is (Some s) h = (sym h.0, h.1 ∙ ap (urgency_on t before v) (sym h.0))

-- Whichever of the first two operations leads.
module _ (f : ℕ → ℕ) (b x : ℕ) where
  pub keeps_lead : (vs : List ℕ) → f x ≤ f b → first_greatest f (b ∷ vs) ≡ first_greatest f (b ∷ x ∷ vs)
  keeps_lead vs l = ap (λ (y : ℕ). Some y) (by (first_greatest f vs))
    where
      low : nat_lt (f b) (f x) ≡ false
      low = false_from_ne_true (nat_lt (f b) (f x)) (λ e. (let h = ltb-true (f b) (f x) e in omega arith))

      below : (y : ℕ) → nat_lt (f x) (f y) ≡ false → nat_lt (f b) (f y) ≡ false
      below y e = false_from_ne_true (nat_lt (f b) (f y)) (λ h. (let m = ltb-true (f b) (f y) h in let n = ltb-false (f x) (f y) e in omega arith))

      by : (o : Option ℕ) → higher f b o ≡ higher f b (Some (higher f x o))
      by None = sym (ap (λ (t : Bool). cond t x b) low)
      by (Some y) = two (nat_lt (f x) (f y)) refl
        where
          two : (t : Bool) → nat_lt (f x) (f y) ≡ t → cond (nat_lt (f b) (f y)) y b ≡ higher f b (Some (cond t y x))
          two true e = refl
          two false e = ap (λ (t : Bool). cond t y b) (below y e) ∙ sym (ap (λ (t : Bool). cond t x b) low)

  pub takes_lead : (vs : List ℕ) → f b < f x → first_greatest f (x ∷ vs) ≡ first_greatest f (b ∷ x ∷ vs)
  takes_lead vs l = ap (λ (y : ℕ). Some y) (by (first_greatest f vs))
    where
      high : nat_lt (f b) (f x) ≡ true
      high = lt-ltb (f b) (f x) l

      by : (o : Option ℕ) → higher f x o ≡ higher f b (Some (higher f x o))
      by None = sym (ap (λ (t : Bool). cond t x b) high)
      by (Some y) = two (nat_lt (f x) (f y)) refl
        where
          two : (t : Bool) → nat_lt (f x) (f y) ≡ t → cond t y x ≡ higher f b (Some (cond t y x))
          two true e = let m = ltb-true (f x) (f y) e in sym (ap (λ (t : Bool). cond t y b) (lt-ltb (f b) (f y) (omega arith)))
          two false e = sym (ap (λ (t : Bool). cond t x b) high)

-- none that passes is below the one that is chosen
module _ (f : ℕ → ℕ) where
  lower_left : (x : ℕ) (o : Option ℕ) → f (lower f x o) ≤ f x
  lower_left x None = omega arith
  lower_left x (Some y) = by (nat_lt (f y) (f x)) refl
    where
      by : (t : Bool) → nat_lt (f y) (f x) ≡ t → f (cond t y x) ≤ f x
      by true e = let h = ltb-true (f y) (f x) e in omega arith
      by false e = omega arith

  lower_right : (x y : ℕ) → f (lower f x (Some y)) ≤ f y
  lower_right x y = by (nat_lt (f y) (f x)) refl
    where
      by : (t : Bool) → nat_lt (f y) (f x) ≡ t → f (cond t y x) ≤ f y
      by true e = omega arith
      by false e = let h = ltb-false (f y) (f x) e in omega arith

  pub least_low : (test : ℕ → Bool) (xs : List ℕ) (i p y : ℕ) → slice_get xs i ≡ Some p → test p ≡ true → first_least f (filter test xs) ≡ Some y → f y ≤ f p
  least_low test [] i p y e h is = absurd cc
  least_low test (x ∷ xs) zero p y e h is =
      let same = same_Some x p e in
      let q : first_least f (filter test (x ∷ xs)) ≡ Some (lower f x (first_least f (filter test xs)))
      = ap (λ (t : Bool). first_least f (cond t (x ∷ filter test xs) (filter test xs))) (ap test same ∙ h) in
      let l = lower_left x (first_least f (filter test xs)) in
      let u = ap f (same_Some (lower f x (first_least f (filter test xs))) y (sym q ∙ is)) in
      let v = ap f same in
      omega arith
  least_low test (x ∷ xs) (suc i) p y e h is = by (test x) refl (least_chosen f test xs i p e h) (λ z r. least_low test xs i p z e h r)
    where
      by : (t : Bool) → test x ≡ t → (z : ℕ) × (first_least f (filter test xs) ≡ Some z) → ((z : ℕ) → first_least f (filter test xs) ≡ Some z → f z ≤ f p) → f y ≤ f p
      by false q z later = later y (sym (ap (λ (t : Bool). first_least f (cond t (x ∷ filter test xs) (filter test xs))) q) ∙ is)
      by true q z later =
          let r : first_least f (filter test (x ∷ xs)) ≡ Some (lower f x (Some z.0))
          = ap (λ (t : Bool). first_least f (cond t (x ∷ filter test xs) (filter test xs))) q ∙ ap (λ (o : Option ℕ). Some (lower f x o)) z.1 in
          let l = lower_right x z.0 in
          let u = ap f (same_Some (lower f x (Some z.0)) y (sym r ∙ is)) in
          let m = later z.0 z.1 in
          omega arith

range_at : (a n i : ℕ) → i < n → slice_get (range_with_len a n) i ≡ Some (a + i)
range_at a zero i l = absurd (omega arith)
range_at a (suc n) zero l = ap (λ (k : ℕ). Some k) (let e : a ≡ a + 0 = omega arith in e)
range_at a (suc n) (suc i) l = range_at (a + 1) n i (omega arith) ∙ ap (λ (k : ℕ). Some k) (let e : a + 1 + i ≡ a + suc i = omega arith in e)

module _ (t : Task) (before : List Act) where
  -- what may be placed is an operation, on an operator where it may stand
  pub may_low : (v p : ℕ) → may_place t before v p ≡ true → (v < length t.graph.vertices) × (p < length t.archi.operators) × (may_stand t before v p ≡ true) × (is_candidate t before v ≡ true)
  may_low v p may =
      let both = and_parts (is_candidate t before v) (may_stand t before v p) may in
      let first = and_parts (nat_lt v (length t.graph.vertices) && not (is_placed before v)) (list_all (is_placed before) (needs t v)) both.0 in
      let stand = and_parts (nat_lt p (length t.archi.operators) && is_some (t.ticks v p)) (list_all (λ u. nat_eq (operator_of before u) p) (halves t v)) both.1 in (
        ltb-true v (length t.graph.vertices) (and_parts (nat_lt v (length t.graph.vertices)) (not (is_placed before v)) first.0).0,
        ltb-true p (length t.archi.operators) (and_parts (nat_lt p (length t.archi.operators)) (is_some (t.ticks v p)) stand.0).0,
        both.1,
        both.0,
      )

  -- the least pressure is not above that on any operator
  pub urgency_low : (v p n : ℕ) → may_place t before v p ≡ true → pressure t before v p ≤ n → urgency t before v ≤ n
  urgency_low v p n may l = by (best_operator t before v) refl
    where
      by : (o : Option ℕ) → best_operator t before v ≡ o → urgency_on t before v o ≤ n
      by None e = omega arith
      by (Some q) e =
          let m = may_low v p may in
          let z : 0 + p ≡ p = omega arith in
          let low = least_low (pressure t before v) (may_stand t before v) (operators t) p p q (range_at 0 (length t.archi.operators) p m.1 ∙ ap (λ (k : ℕ). Some k) z) m.2 e in
          omega arith

  leads_on : (b : Choice) (v n : ℕ) → IsChoice t before b → n ≡ b.pressure → urgency t before v ≤ n → Leads t before (Some b) v (Some b)
  leads_on b v n is e l = λ vs. (let p = is.pressure in keeps_lead (urgency t before) b.op v vs (omega arith))

  pub leads_by : (best : Option Choice) (b : Choice) (v n : ℕ) → best ≡ Some b → IsBest t before best → n ≡ b.pressure → urgency t before v ≤ n → Leads t before best v best
  leads_by best b v n same is e l = subst (λ (o : Option Choice). Leads t before o v o) (sym same) (leads_on b v n (subst (IsBest t before) same is) e l)

  pub leads_more : (best : Option Choice) (v : ℕ) (c : Choice) → IsBest t before best → IsChoice t before c → c.op ≡ v → Leads t before best v (Some (higher_choice best c))
  leads_more None v c was is e = λ vs. ap (λ (k : ℕ). first_greatest (urgency t before) (k ∷ vs)) e
  leads_more (Some b) v c was is e = λ vs. by vs (nat_le c.pressure b.pressure) refl
    where
      by : (vs : List ℕ) (s : Bool) → nat_le c.pressure b.pressure ≡ s → first_greatest (urgency t before) ((cond s b c).op ∷ vs) ≡ first_greatest (urgency t before) (b.op ∷ v ∷ vs)
      by vs true h =
          let l = leb-true c.pressure b.pressure h in
          let p = was.pressure in
          let q = is.pressure in
          let r = ap (urgency t before) e in
          keeps_lead (urgency t before) b.op v vs (omega arith)
      by vs false h =
          let l = leb-false c.pressure b.pressure h in
          let p = was.pressure in
          let q = is.pressure in
          let r = ap (urgency t before) e in
          ap (λ (k : ℕ). first_greatest (urgency t before) (k ∷ vs)) e ∙ takes_lead (urgency t before) b.op v vs (omega arith)

  pub best_more : (best : Option Choice) (c : Choice) → IsBest t before best → IsChoice t before c → IsChoice t before (higher_choice best c)
  best_more None c was is = is
  best_more (Some b) c was is = by (nat_le c.pressure b.pressure)
    where
      by : (s : Bool) → IsChoice t before (cond s b c)
      by true = was
      by false = is

  -- the first of greatest least pressure, once all had their turn
  pub leads_last : (vs : List ℕ) (best : Option Choice) → IsBest t before best → first_greatest (urgency t before) (with_best best [])
      ≡ first_greatest (urgency t before) vs → IsGreatestChoice t before vs best
  leads_last vs None is e = sym e
  leads_last vs (Some c) is e = (sym e, is)

  pub next_is : (c : Choice) (r : Option Next) → IsGreatestChoice t before (candidates t before) (Some c) → r ≡ next_of c.op c.stand → IsNext t before r
  next_is c r h e = subst (IsNext t before) (sym e) (by c.stand h.1.operator)
    where
      is : next t before ≡ with_some (best_operator t before c.op) None (λ p. Some (decision t before c.op p))
      is = ap (λ (o : Option ℕ). with_some o None (λ v. with_some (best_operator t before v) None (λ p. Some (decision t before v p)))) h.0

      by : (s : Option Stand) → operator_of_stand s ≡ best_operator t before c.op → IsNext t before (next_of c.op s)
      by None o = is ∙ ap (λ (q : Option ℕ). with_some q None (λ p. Some (decision t before c.op p))) (sym o)
      by (Some s) o = (
        is ∙ ap (λ (q : Option ℕ). with_some q None (λ p. Some (decision t before c.op p))) (sym o),
        both_true (greatest_passes (urgency t before) (is_candidate t before) (operations t) c.op h.0)
            (least_passes (pressure t before c.op) (may_stand t before c.op) (operators t) s.operator (sym o)),
      )

-- what stands among those that pass passes
pub passes_at : (test : ℕ → Bool) (xs ys : List ℕ) (i d : ℕ) → ys ≡ filter test xs → i < length ys → test (get_or ys i d) ≡ true
passes_at test xs ys i d e l = ap (λ (l : List ℕ). test (get_or l i d)) e ∙ by xs i (let n = ap length e in omega arith)
  where
    by : (xs : List ℕ) (i : ℕ) → i < length (filter test xs) → test (get_or (filter test xs) i d) ≡ true
    by [] i l = absurd (omega arith)
    by (x ∷ xs) i l = one (test x) refl i l (λ j m. by xs j m)
      where
        one : (b : Bool) → test x ≡ b → (i : ℕ) → i < length (cond b (x ∷ filter test xs) (filter test xs)) → ((j : ℕ) → j < length (filter test xs) → test (get_or (filter test xs) j d) ≡ true)
            → test (get_or (cond b (x ∷ filter test xs) (filter test xs)) i d) ≡ true
        one true e zero l later = e
        one true e (suc i) l later = later i (omega arith)
        one false e i l later = later i l
