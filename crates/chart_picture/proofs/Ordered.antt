-- The bars of a lane stand in order, and do not overlap.
use Rattle.std.proofs.Common.{◌≡◌, ℕ, ◌+◌, ◌*◌, ◌≤◌, Bool, true, false, ◌&&◌, ◌||◌, cond, nat_eq, List, [], ◌∷◌, ◌++◌, length, map, Some, None, Option, refl, sym, ap, subst, arith, ◌∙◌, inl, inr}
use Rattle.std.specs.Prelude.{slice_get, nat_le, nat_lt, not, All}
use Rattle.std.specs.List.{filter, list_all, list_any}
use Rattle.std.proofs.lemmas.Bool.{false≢true, and_parts, or_cases, leb-true, eqb-true}
use Rattle.std.proofs.lemmas.List.{append_assoc}
use Rattle.std.proofs.lemmas.List.Elements.{All-nil, All-cons}
use Rattle.self_timed.specs.declared.Medium.{Medium}
use Rattle.self_timed.specs.Archi.{Architecture, stands_at}
use Rattle.self_timed.specs.declared.Vertex.{Vertex}
use Rattle.self_timed.specs.Graph.{Graph, len_of, with_vertex}
use Rattle.self_timed.specs.declared.Transfer.{Transfer}
use Rattle.self_timed.specs.declared.Decision.{Decision}
use Rattle.self_timed.specs.Acts.{Act, carry, run, acts, start_of, end_of, is_on, is_over, copy, runs, read_by}
use Rattle.self_timed.specs.ScheduleValid.{have_ended, lasts, is_carried, is_there, is_held, is_transfer, follows_get, is_placement, is_act, is_right, are_right, are_placed, is_valid}
use Rattle.svg_text.specs.declared.scale.Scale.{Scale}
use Rattle.svg_text.specs.Scale.{place}
use Rattle.chart_picture.specs.Bars.{Bar, bar_of, bars_of}
use Rattle.chart_picture.specs.Truth.{AreApart, LanesAreInOrder}
use Rattle.chart_picture.proofs.Places.{place_monotone}

-- what lasts as stated does not end before it starts
lasting : (o : Option ℕ) (s e : ℕ) → lasts o s e ≡ true → s ≤ e
lasting None s e h = absurd (false≢true h)
lasting (Some n) s e h = let z = eqb-true e (s + n) h in omega arith

carried : (o : Option Medium) (n : ℕ) (t : Transfer) → is_carried o n t ≡ true → t.start ≤ t.end
carried None n t h = absurd (false≢true h)
carried (Some m) n t h =
    let p = and_parts (stands_at m t.from && stands_at m t.to) (nat_eq t.end (t.start + (m.fixed + n * m.per))) h in
    let z = eqb-true t.end (t.start + (m.fixed + n * m.per)) p.1 in omega arith

module _ (g : Graph) (a : Architecture) (ticks : ℕ → ℕ → Option ℕ) where
  -- what a transfer that is right has
  record Carried (before : List Act) (t : Transfer) : Type 0 where
    there : is_carried (slice_get a.media t.medium) (len_of g.vertices t.source) t ≡ true
    free : have_ended (is_over t.medium) before t.start ≡ true

  right_carry : (before : List Act) (t : Transfer) → is_right g a ticks before (carry t) ≡ true → Carried before t
  right_carry before t h =
      let act = and_parts (is_transfer g a ticks before t) (list_all (is_held g a ticks before t.start) (read_by g.vertices (carry t))) h in
      let there = is_carried (slice_get a.media t.medium) (len_of g.vertices t.source) t in
      let free = have_ended (is_over t.medium) before t.start in
      let both = and_parts (there && free) (not (is_there g a ticks before (copy t.to t.source))) act.0 in
      let each = and_parts there free both.0 in
      record { there = each.0; free = each.1 }

  -- what an operation that is placed right has
  record Placed (before : List Act) (d : Decision) : Type 0 where
    low : nat_lt d.operator (length a.operators) ≡ true
    time : lasts (ticks d.op d.operator) d.start d.end ≡ true
    free : have_ended (is_on d.operator) before d.start ≡ true

  right_run : (before : List Act) (d : Decision) → is_right g a ticks before (run d) ≡ true → Placed before d
  right_run before d h =
      let act = and_parts (is_placement g a ticks before d) (list_all (is_held g a ticks before d.start) (read_by g.vertices (run d))) h in
      let follows = with_vertex (slice_get g.vertices d.op) false (λ x. follows_get before d.operator x.kind x.twin) in
      let low = nat_lt d.operator (length a.operators) in
      let time = lasts (ticks d.op d.operator) d.start d.end in
      let once = not (list_any (runs d.op) before) in
      let free = have_ended (is_on d.operator) before d.start in
      let p = and_parts (follows && low && time && once) free act.0 in
      let q = and_parts (follows && low && time) once p.0 in
      let r = and_parts (follows && low) time q.0 in
      record { low = (and_parts follows low r.0).1; time = r.1; free = p.1 }

  pub lasts_act : (before : List Act) (x : Act) → is_right g a ticks before x ≡ true → start_of x ≤ end_of x
  lasts_act before (carry t) h = carried (slice_get a.media t.medium) (len_of g.vertices t.source) t (right_carry before t h).there
  lasts_act before (run d) h = lasting (ticks d.op d.operator) d.start d.end (right_run before d h).time

  -- where an act is: an operator or a medium that is there
  pub operator_there : (before : List Act) (d : Decision) → is_right g a ticks before (run d) ≡ true → nat_lt d.operator (length a.operators) ≡ true
  operator_there before d h = (right_run before d h).low

  pub medium_there : (before : List Act) (t : Transfer) → is_right g a ticks before (carry t) ≡ true → is_carried (slice_get a.media t.medium) (len_of g.vertices t.source) t ≡ true
  medium_there before t h = (right_carry before t h).there

  on_free : (n : ℕ) (before : List Act) (x : Act) → is_right g a ticks before x ≡ true → is_on n x ≡ true → have_ended (is_on n) before (start_of x) ≡ true
  on_free n before (carry t) r e = absurd (false≢true e)
  on_free n before (run d) r e = subst (λ (o : ℕ). have_ended (is_on o) before d.start ≡ true) (eqb-true d.operator n e) (right_run before d r).free

  over_free : (n : ℕ) (before : List Act) (x : Act) → is_right g a ticks before x ≡ true → is_over n x ≡ true → have_ended (is_over n) before (start_of x) ≡ true
  over_free n before (carry t) r e = subst (λ (m : ℕ). have_ended (is_over m) before t.start ≡ true) (eqb-true t.medium n e) (right_carry before t r).free
  over_free n before (run d) r e = absurd (false≢true e)

  -- a lane whose acts start when those before them in it have ended
  module _ (scale : Scale) (test : Act → Bool) (free : (before : List Act) (x : Act) → is_right g a ticks before x ≡ true → test x ≡ true → have_ended test before (start_of x) ≡ true) where
    ended : (pre post : List Act) (y : Act) (date : ℕ) → test y ≡ true → have_ended test (pre ++ y ∷ post) date ≡ true → end_of y ≤ date
    ended [] post y date t h =
        let p = and_parts (not (test y) || nat_le (end_of y) date) (have_ended test post date) h in
        leb-true (end_of y) date (elim (or_cases (not (test y)) (nat_le (end_of y) date) p.0) [
          | inl e ↦ absurd (false≢true (sym (ap not t) ∙ e))
          | inr e ↦ e
        ])
    ended (x ∷ pre) post y date t h = ended pre post y date t (and_parts (not (test x) || nat_le (end_of x) date) (have_ended test (pre ++ y ∷ post) date) h).1

    abbrev Begins : ℕ → Bar → Type 0
    Begins end c = place scale end ≤ c.left

    one_after : (y x : Act) (pre post xs : List Act) → test y ≡ true → is_right g a ticks (pre ++ y ∷ post) x ≡ true → (b : Bool) → test x ≡ b
        → All (Begins (end_of y)) (map (bar_of g a scale) (filter test xs))
        → All (Begins (end_of y)) (map (bar_of g a scale) (cond b (x ∷ filter test xs) (filter test xs)))
    one_after y x pre post xs t r true e rest =
        All-cons (Begins (end_of y)) (bar_of g a scale x) (map (bar_of g a scale) (filter test xs))
        (place_monotone scale (end_of y) (start_of x) (ended pre post y (start_of x) t (free (pre ++ y ∷ post) x r e))) rest
    one_after y x pre post xs t r false e rest = rest

    after : (y : Act) (pre post xs : List Act) → test y ≡ true → are_right g a ticks (pre ++ y ∷ post) xs ≡ true
        → All (Begins (end_of y)) (map (bar_of g a scale) (filter test xs))
    after y pre post [] t h = All-nil (Begins (end_of y))
    after y pre post (x ∷ xs) t h =
        let p = and_parts (is_right g a ticks (pre ++ y ∷ post) x) (are_right g a ticks ((pre ++ y ∷ post) ++ x ∷ []) xs) h in
        let next : are_right g a ticks (pre ++ y ∷ (post ++ x ∷ [])) xs ≡ true = ap (λ (l : List Act). are_right g a ticks l xs) (sym (append_assoc pre (y ∷ post) (x ∷ []))) ∙ p.1 in
        one_after y x pre post xs t p.0 (test x) refl (after y pre (post ++ x ∷ []) xs t next)

    one_more : (pre : List Act) (x : Act) (xs : List Act) → is_right g a ticks pre x ≡ true → are_right g a ticks (pre ++ x ∷ []) xs ≡ true → (b : Bool) → test x ≡ b
        → AreApart (map (bar_of g a scale) (filter test xs)) → AreApart (map (bar_of g a scale) (cond b (x ∷ filter test xs) (filter test xs)))
    one_more pre x xs r h true e rest = (place_monotone scale (start_of x) (end_of x) (lasts_act pre x r), after x pre [] xs e h, rest)
    one_more pre x xs r h false e rest = rest

    apart : (pre xs : List Act) → are_right g a ticks pre xs ≡ true → AreApart (bars_of g a scale test xs)
    apart pre [] h = tt
    apart pre (x ∷ xs) h =
        let p = and_parts (is_right g a ticks pre x) (are_right g a ticks (pre ++ x ∷ []) xs) h in
        one_more pre x xs p.0 p.1 (test x) refl (apart (pre ++ x ∷ []) xs p.1)

pub lanes_are_in_order : LanesAreInOrder
lanes_are_in_order g a ticks s scale n valid =
    let right = (and_parts (are_right g a ticks [] (acts s)) (are_placed g a ticks (acts s)) valid).0 in
    (apart g a ticks scale (is_on n) (on_free g a ticks n) [] (acts s) right, apart g a ticks scale (is_over n) (over_free g a ticks n) [] (acts s) right)
