-- No act of a valid schedule ends before the longest chain with transfers to what it gives.
use Rattle.std.proofs.Common.{
  ◌≡◌,
  ℕ,
  zero,
  suc,
  ◌+◌,
  ◌*◌,
  ◌<◌,
  ◌≤◌,
  Bool,
  true,
  false,
  cond,
  ◌&&◌,
  not,
  ◌==◌,
  nat_eq,
  List,
  [],
  ◌∷◌,
  ◌++◌,
  map,
  max,
  min,
  length,
  Option,
  Some,
  None,
  refl,
  sym,
  ap,
  arith,
  inl,
  inr,
  ◌∙◌,
}
use Rattle.std.specs.Prelude.{is_some, nat_le, slice_get, unwrap_or}
use Rattle.std.specs.List.{list_all, list_any, range_with_len}
use Rattle.std.proofs.lemmas.Bool.{false≢true, and_parts, or_cases, leb-true, eqb-true}
use Rattle.std.proofs.lemmas.Option.{same_Some}
use Rattle.self_timed.specs.declared.Kind.{Kind}
use Rattle.self_timed.specs.declared.Kind.TheVariants.{Set}
use Rattle.self_timed.specs.declared.Source.{Source}
use Rattle.self_timed.specs.declared.Vertex.{Vertex}
use Rattle.self_timed.specs.Graph.{Graph, len_of, with_vertex}
use Rattle.self_timed.specs.FlatOrder.{get_half}
use Rattle.self_timed.specs.declared.Medium.{Medium}
use Rattle.self_timed.specs.Archi.{Architecture, stands_at}
use Rattle.self_timed.specs.Table.{least_of}
use Rattle.self_timed.specs.declared.Decision.{Decision}
use Rattle.self_timed.specs.declared.Transfer.{Transfer}
use Rattle.self_timed.specs.declared.Schedule.{Schedule}
use Rattle.self_timed.specs.Acts.{Act, carry, run, acts, end_of, is_on, is_over, runs, Copy, copy, same_copy, outputs_from, outputs_of, sources_of, made_by, latest, length_of}
use Rattle.self_timed.specs.ScheduleValid.{have_ended, is_carried, follows_get, is_held, is_there, is_transfer, is_right, are_right, are_placed}
use Rattle.self_timed.proofs.Copies.{copy_is, made_by_run}
use Rattle.lower_bound.specs.Bound.{arrival, brought_in, carried_within, end_on, later_by, least_transfer, start_on}
use Rattle.lower_bound.proofs.Parts.{Each, one_of, both_of, all_more, ended, RightRun, right_run, right_carry, least_low}
use Rattle.syn_base.specs.Numbers.{greatest, lesser}

-- no transfer to an operator takes less time than the least
transfer_low : (media : List Medium) (k o n : ℕ) (m : Medium) → slice_get media k ≡ Some m → stands_at m o ≡ true → least_transfer media o n ≤ m.fixed + n * m.per
transfer_low media k o n m is stands = let r = least media k is in (let i = ap (λ x. unwrap_or x 0) r.1 in let l = r.2 in omega arith)
  where
    time : ℕ
    time = m.fixed + n * m.per

    here : (x : Option ℕ) → (t : ℕ) × (lesser (Some time) x ≡ Some t) × (t ≤ time)
    here None = (time, refl, (omega arith))
    here (Some t) = (min time t, refl, (omega arith))

    later : (x y : Option ℕ) (t : ℕ) → y ≡ Some t → t ≤ time → (u : ℕ) × (lesser x y ≡ Some u) × (u ≤ time)
    later None y t i l = (t, i, l)
    later (Some x) y t i l = (min x t, ap (lesser (Some x)) i, (omega arith))

    least : (ms : List Medium) (k : ℕ) → slice_get ms k ≡ Some m → (t : ℕ) × (least_of (map (brought_in o n) ms) ≡ Some t) × (t ≤ time)
    least [] k e = absurd cc
    least (x ∷ ms) zero e =
        let same = ap (λ (b : Bool). cond b (Some time) None) stands in
        let first : brought_in o n x ≡ Some time = ap (brought_in o n) (same_Some x m e) ∙ same in
        let r = here (least_of (map (brought_in o n) ms)) in
        (r.0, ap (λ (y : Option ℕ). lesser y (least_of (map (brought_in o n) ms))) first ∙ r.1, r.2)
    least (x ∷ ms) (suc k) e = let r = least ms k e in later (brought_in o n x) (least_of (map (brought_in o n) ms)) r.0 r.1 r.2

-- a copy that a run makes is on its operator
made_on : (c : Copy) (p v port : ℕ) (ns : List ℕ) → list_any (same_copy c) (map (copy p) (outputs_from v port ns)) ≡ true → c.operator ≡ p
made_on c p v port [] h = absurd (false≢true h)
made_on c p v port (n ∷ ns) h = elim (or_cases (same_copy c (copy p (record { vertex = v; port = port }))) (list_any (same_copy c) (map (copy p) (outputs_from v (port + 1) ns))) h) [
  | inl e ↦ ap (λ (d : Copy). d.operator) (copy_is c (copy p (record { vertex = v; port = port })) e)
  | inr e ↦ made_on c p v (port + 1) ns e
]

module _ (g : Graph) (a : Architecture) (ticks : ℕ → ℕ → Option ℕ) where
  abbrev by : ℕ → ℕ → ℕ
  by n v = carried_within (length a.operators) ticks g.vertices a.media n v

  abbrev arrives : ℕ → ℕ → Source → ℕ
  arrives n o s = arrival (length a.operators) ticks g.vertices a.media (by n) o s

  -- the transfer's medium
  record Hop (t : Transfer) : Type 0 where
    pub medium : Medium
    pub is : slice_get a.media t.medium ≡ Some medium
    pub stands : stands_at medium t.to ≡ true
    pub long : t.end ≡ t.start + (medium.fixed + len_of g.vertices t.source * medium.per)

  hop : (before : List Act) (t : Transfer) → is_right g a ticks before (carry t) ≡ true → Hop t
  hop before t h =
      let carried = is_carried (slice_get a.media t.medium) (len_of g.vertices t.source) t in
      let free = have_ended (is_over t.medium) before t.start in
      let new = not (is_there g a ticks before (copy t.to t.source)) in
      let p = and_parts (is_transfer g a ticks before t) (list_all (is_held g a ticks before t.start) (copy t.from t.source ∷ [])) h in
      let q = and_parts (carried && free) new p.0 in
      let r = and_parts carried free q.0 in
      over (slice_get a.media t.medium) refl r.0
    where
      over : (o : Option Medium) → slice_get a.media t.medium ≡ o → is_carried o (len_of g.vertices t.source) t ≡ true → Hop t
      over None is k = absurd (false≢true k)
      over (Some m) is k =
          let both = and_parts (stands_at m t.from && stands_at m t.to) (t.end == t.start + (m.fixed + len_of g.vertices t.source * m.per)) k in
          record {
            medium = m;
            is = is;
            stands = (and_parts (stands_at m t.from) (stands_at m t.to) both.0).1;
            long = eqb-true t.end (t.start + (m.fixed + len_of g.vertices t.source * m.per)) both.1;
          }

  -- an act ends no earlier than the values that it makes can be there, and the operation that it runs can end
  pub record IsLate (y : Act) : Type 0 where
    pub made : (n : ℕ) (c : Copy) → list_any (same_copy c) (made_by g.vertices y) ≡ true → arrives n c.operator c.source ≤ end_of y
    pub ran : (n u : ℕ) → runs u y ≡ true → by n u ≤ end_of y

  held_late : (before : List Act) → Each IsLate before → (n date : ℕ) (c : Copy) → is_held g a ticks before date c ≡ true → arrives n c.operator c.source ≤ date
  held_late before late n date c h =
      let r = one_of IsLate (λ y. nat_le (end_of y) date && list_any (same_copy c) (made_by g.vertices y)) before late h in
      let both = and_parts (nat_le (end_of r.0) date) (list_any (same_copy c) (made_by g.vertices r.0)) r.2 in
      let l = leb-true (end_of r.0) date both.0 in
      let m = r.1.made n c both.1 in
      omega arith

  sources_late : (before : List Act) → Each IsLate before → (n date o : ℕ) (xs : List Source)
      → list_all (is_held g a ticks before date) (map (copy o) xs) ≡ true → greatest (map (arrives n o) xs) ≤ date
  sources_late before late n date o [] h = omega arith
  sources_late before late n date o (x ∷ xs) h =
      let both = and_parts (is_held g a ticks before date (copy o x)) (list_all (is_held g a ticks before date) (map (copy o) xs)) h in
      let l = held_late before late n date (copy o x) both.0 in
      let r = sources_late before late n date o xs both.1 in
      omega arith

  -- a set half starts no earlier than its get half ends
  half_late : (before : List Act) → Each IsLate before → (n date o : ℕ) → Each (λ y. is_on o y ≡ true → end_of y ≤ date) before → (k : Kind) (twin : Option ℕ) → follows_get before o k twin ≡ true
      → greatest (map (by n) (get_half k twin)) ≤ date
  half_late before late n date o free Set (Some u) h =
      let r = one_of (λ y. IsLate y × (is_on o y ≡ true → end_of y ≤ date)) (λ y. runs u y && is_on o y) before (both_of IsLate (λ y. is_on o y ≡ true → end_of y ≤ date) before late free) h in
      let both = and_parts (runs u r.0) (is_on o r.0) r.2 in
      let l = r.1.1 both.1 in
      let m = r.1.0.ran n u both.0 in
      omega arith
  half_late before late n date o free _ _ h = omega arith

  run_ends : (before : List Act) → Each IsLate before → (d : Decision) → RightRun g a ticks before d → (n : ℕ) → by n d.op ≤ d.end
  run_ends before late d r zero = omega arith
  run_ends before late d r (suc n) =
      let x = r.it in
      let start = start_on (length a.operators) ticks g.vertices a.media (by n) d.operator x in
      let sources = sources_late before late n d.start d.operator (sources_of (Some x)) r.held in
      let half = half_late before late n d.start d.operator (ended (is_on d.operator) before d.start r.free) x.kind x.twin r.follows in
      let here : end_on (length a.operators) ticks g.vertices a.media (by n) d.op d.operator ≡ Some (r.time + start)
      = λ i. later_by (r.entry i) (with_vertex (r.is i) 0 (start_on (length a.operators) ticks g.vertices a.media (by n) d.operator)) in
      let z : 0 ≤ d.operator = omega arith in
      let l = least_low (end_on (length a.operators) ticks g.vertices a.media (by n) d.op) 0 (length a.operators) d.operator (r.time + start) z (let b = r.below in omega arith) here in
      let long = r.long in
      omega arith

  run_late : (before : List Act) → Each IsLate before → (d : Decision) → RightRun g a ticks before d → IsLate (run d)
  run_late before late d r = record {
    made = λ n c h. made n c (slice_get g.vertices d.op) h;
    ran = λ n u h. (let e = ap (by n) (eqb-true d.op u h) in let l = run_ends before late d r n in omega arith);
  }
    where
      there : (n o v len : ℕ) → o ≡ d.operator → v ≡ d.op → by n v + cond (is_some (ticks v o)) 0 (least_transfer a.media o len) ≤ d.end
      there n o v len e f =
          let s : is_some (ticks v o) ≡ true = (λ i. is_some (ticks (f i) (e i))) ∙ ap (λ (y : Option ℕ). is_some y) r.entry in
          let q = ap (λ (b : Bool). cond b 0 (least_transfer a.media o len)) s in
          let w = ap (by n) f in
          let l = run_ends before late d r n in
          omega arith

      made : (n : ℕ) (c : Copy) (o : Option Vertex) → list_any (same_copy c) (map (copy d.operator) (outputs_of d.op o)) ≡ true → arrives n c.operator c.source ≤ d.end
      made n c None h = absurd (false≢true h)
      made n c (Some x) h = there n c.operator c.source.vertex (len_of g.vertices c.source) (made_on c d.operator d.op 0 x.outs h) (made_by_run c.operator c.source d.operator d.op 0 x.outs h).0

  carry_late : (before : List Act) → Each IsLate before → (t : Transfer) → is_right g a ticks before (carry t) ≡ true → IsLate (carry t)
  carry_late before late t h = record {
    made = λ n c k. (elim (or_cases (same_copy c (copy t.to t.source)) false k) [
      | inl e ↦ (let same = ap (λ (d : Copy). arrives n d.operator d.source) (copy_is c (copy t.to t.source) e) in let l = there n (is_some (ticks t.source.vertex t.to)) in omega arith)
      | inr e ↦ absurd (false≢true e)
    ]);
    ran = λ n u k. absurd (false≢true k);
  }
    where
      there : (n : ℕ) (b : Bool) → by n t.source.vertex + cond b 0 (least_transfer a.media t.to (len_of g.vertices t.source)) ≤ t.end
      there n b =
          let r = hop before t h in
          let l = held_late before late n t.start (copy t.from t.source) (right_carry g a ticks before t h).held in
          let m = transfer_low a.media t.medium t.to (len_of g.vertices t.source) r.medium r.is r.stands in
          let long = r.long in
          within b l m long
        where
          within : (b : Bool) → arrives n t.from t.source ≤ t.start → least_transfer a.media t.to (len_of g.vertices t.source)
              ≤ (hop before t h).medium.fixed + len_of g.vertices t.source * (hop before t h).medium.per
              → t.end ≡ t.start + ((hop before t h).medium.fixed + len_of g.vertices t.source * (hop before t h).medium.per)
              → by n t.source.vertex + cond b 0 (least_transfer a.media t.to (len_of g.vertices t.source)) ≤ t.end
          within true l m long = omega arith
          within false l m long = omega arith

  act_late : (before : List Act) → Each IsLate before → (x : Act) → is_right g a ticks before x ≡ true → IsLate x
  act_late before late (carry t) h = carry_late before late t h
  act_late before late (run d) h = run_late before late d (right_run g a ticks before d h)

  pub all_late : (before xs : List Act) → Each IsLate before → are_right g a ticks before xs ≡ true → Each IsLate xs
  all_late before [] late h = tt
  all_late before (x ∷ xs) late h =
      let both = and_parts (is_right g a ticks before x) (are_right g a ticks (before ++ x ∷ []) xs) h in
      let here = act_late before late x both.0 in
      (here, all_late (before ++ x ∷ []) xs (all_more IsLate before x late here) both.1)
