-- What an accepted text gives is no longer than stated, entry by entry.
use Rattle.std.proofs.Common.{
  ◌≡◌,
  ℕ,
  zero,
  suc,
  ◌+◌,
  ◌-◌,
  ◌*◌,
  ◌<◌,
  ◌≤◌,
  Bool,
  true,
  false,
  ◌&&◌,
  ◌||◌,
  not,
  cond,
  List,
  [],
  ◌∷◌,
  ◌++◌,
  map,
  take,
  length,
  replicate,
  Option,
  Some,
  None,
  Result,
  Ok,
  Err,
  refl,
  sym,
  ap,
  arith,
  ◌∙◌,
  length-append,
}
use Rattle.std.specs.Prelude.{slice_get, option_map, unwrap_or, nat_lt, ◌==◌, if◌then◌else◌}
use Rattle.std.specs.List.{find, range_with_len, count_by, list_any}
use Rattle.std.specs.Str.{bytes_eq}
use Rattle.std.specs.Cmp.Lexicographic.{pointwise}
use Rattle.std.proofs.lemmas.Bool.{false≢true, and_parts, ltb-false, eqb-true, eq-eqb}
use Rattle.std.proofs.lemmas.List.{length-map}
use Rattle.std.proofs.lemmas.List.FromFn.{length-map-range_with_len}
use Rattle.std.proofs.lemmas.Option.{same_Some, slice_get_within}
use Rattle.std.proofs.Math.Nat.{mul-le-mul_left}
use Rattle.syn_base.specs.Bytes.{Bytes}
use Rattle.self_timed.specs.declared.Vertex.{Vertex}
use Rattle.self_timed.specs.Graph.{Graph, len_of}
use Rattle.self_timed.specs.declared.Medium.{Medium}
use Rattle.self_timed.specs.Archi.{Architecture, stands_at}
use Rattle.self_timed.specs.declared.DurationLine.{DurationLine}
use Rattle.self_timed.specs.Refusals.{ArchiRefusal}
use Rattle.self_timed.specs.Text.{Described, description_of}
use Rattle.self_timed.specs.Table.{Table, entry, entry_in}
use Rattle.self_timed.specs.declared.Transfer.{Transfer}
use Rattle.self_timed.specs.declared.Decision.{Decision}
use Rattle.self_timed.specs.declared.Schedule.{Schedule}
use Rattle.self_timed.specs.Acts.{Act, carry, run, acts, acts_of, runs, is_on, is_over, transfers_of}
use Rattle.self_timed.specs.ScheduleValid.{is_valid, lasts, is_carried, have_ended}
use Rattle.self_timed.proofs.Works.{right_at, of_run, one_run}
use Rattle.self_timed.specs.Instructions.{number_or}
use Rattle.self_timed.specs.Dates.{with_act}
use Rattle.self_timed.specs.Entries.{entry_at, entry_of, is_transfer, stated, AreWithin}
use Rattle.self_timed.specs.Told.{HaveEntries, entries_of}
use Rattle.actual_defs.specs.declared.fault.ActualFault.{ActualFault}
use Rattle.actual_defs.specs.declared.fault.ActualFault.TheVariants.{Differs, Longer}
use Rattle.actual_defs.specs.declared.fault.ActualError.TheVariants.{Refused}
use Rattle.actual_durations.specs.Actual.{
  same_medium,
  same_architecture,
  is_slower,
  slower_medium,
  slower_operation,
  duration_fault,
  operation_fault,
  or_else,
  operator_of,
  operators_of,
  first_fault,
  operation_ticks,
  operations_ticks,
  carrying_ticks,
  transfer_ticks,
  entries_ticks,
  unless_fault,
  actual_by,
  actual_of,
  if_described,
}
use Rattle.dates_text.specs.Within.{ActualAreWithin}
use Rattle.dates_text.proofs.Counting.{count_carry, count_run, counted}

at_front : {A : Type 0} (xs ys : List A) (k : ℕ) (x : A) → slice_get xs k ≡ Some x → slice_get (xs ++ ys) k ≡ Some x
at_front [] ys k x e = cc
at_front (z ∷ xs) ys zero x e = e
at_front (z ∷ xs) ys (suc k) x e = at_front xs ys k x e

at_back : {A : Type 0} (xs ys : List A) (k : ℕ) → slice_get (xs ++ ys) (length xs + k) ≡ slice_get ys k
at_back [] ys k = let same : 0 + k ≡ k = omega arith in ap (λ (n : ℕ). slice_get ys n) same
at_back (z ∷ xs) ys k = let same : suc (length xs) + k ≡ suc (length xs + k) = omega arith in ap (λ (n : ℕ). slice_get (z ∷ (xs ++ ys)) n) same ∙ at_back xs ys k

mapped : {A B : Type 0} (f : A → B) (xs : List A) (k : ℕ) (x : A) → slice_get xs k ≡ Some x → slice_get (map f xs) k ≡ Some (f x)
mapped f [] k x e = cc
mapped f (z ∷ xs) zero x e = ap (λ y. Some (f y)) (same_Some z x e)
mapped f (z ∷ xs) (suc k) x e = mapped f xs k x e

ranged : {B : Type 0} (f : ℕ → B) (a n k : ℕ) → k < n → slice_get (map f (range_with_len a n)) k ≡ Some (f (a + k))
ranged f a zero k l = absurd (omega arith)
ranged f a (suc n) zero l = let same : a ≡ a + 0 = omega arith in ap (λ (m : ℕ). Some (f m)) same
ranged f a (suc n) (suc k) l = let same : a + 1 + k ≡ a + suc k = omega arith in ranged f (a + 1) n k (omega arith) ∙ ap (λ (m : ℕ). Some (f m)) same

-- the medium at a place is no slower than the stated one there
pub record IsNoSlower (x : Medium) (ns : List Medium) (m : ℕ) : Type 0 where
  pub medium : Medium
  pub there : slice_get ns m ≡ Some medium
  pub fixed : medium.fixed ≤ x.fixed
  pub per : medium.per ≤ x.per

faultless : (b : Bool) (f : ActualFault) (rest : Option ActualFault) → (if b then Some f else rest) ≡ None → (b ≡ false) × (rest ≡ None)
faultless true f rest h = cc
faultless false f rest h = (refl, h)

neither : (b c : Bool) → (b || c) ≡ false → (b ≡ false) × (c ≡ false)
neither true c h = absurd (false≢true (sym h))
neither false c h = (refl, h)

no_slower : (ms ns : List Medium) → pointwise same_medium ms ns ≡ true → slower_medium ms ns ≡ None → (m : ℕ) (x : Medium) → slice_get ms m ≡ Some x → IsNoSlower x ns m
no_slower [] ns e h m x is = cc
no_slower (u ∷ ms) [] e h m x is = absurd (false≢true e)
no_slower (u ∷ ms) (v ∷ ns) e h zero x is =
    let same = same_Some u x is in
    let parts = neither (nat_lt u.fixed v.fixed) (nat_lt u.per v.per) (faultless (is_slower u v) (Longer v.name) (slower_medium ms ns) h).0 in
    let fixed = ltb-false u.fixed v.fixed parts.0 in
    let per = ltb-false u.per v.per parts.1 in
    let f = ap (λ (y : Medium). y.fixed) same in
    let p = ap (λ (y : Medium). y.per) same in
    record { medium = v; there = refl; fixed = omega arith; per = omega arith }
no_slower (u ∷ ms) (v ∷ ns) e h (suc m) x is =
    let r = no_slower ms ns (and_parts (same_medium u v) (pointwise same_medium ms ns) e).1 (faultless (is_slower u v) (Longer v.name) (slower_medium ms ns) h).1 m x is in
    record { medium = r.medium; there = r.there; fixed = r.fixed; per = r.per }

first_none : (o p : Option ActualFault) → or_else o p ≡ None → (o ≡ None) × (p ≡ None)
first_none None p h = (refl, h)
first_none (Some f) p h = cc

no_fault : (t : Table) (lines : List DurationLine) (v : ℕ) (xs : List Vertex) (os : List (Option ℕ)) → slower_operation t lines v xs os ≡ None
    → (k : ℕ) (x : Vertex) (o : Option ℕ) → slice_get xs k ≡ Some x → slice_get os k ≡ Some o → operation_fault t lines (v + k) x o ≡ None
no_fault t lines v [] os h k x o is was = cc
no_fault t lines v (y ∷ xs) [] h k x o is was = cc
no_fault t lines v (y ∷ xs) (p ∷ os) h zero x o is was =
    let same : v ≡ v + 0 = omega arith in
    let e = same_Some y x is in
    let f = same_Some p o was in
    sym (λ i. operation_fault t lines (same i) (e i) (f i)) ∙ (first_none (operation_fault t lines v y p) (slower_operation t lines (suc v) xs os) h).0
no_fault t lines v (y ∷ xs) (p ∷ os) h (suc k) x o is was =
    let same : v + suc k ≡ suc v + k = omega arith in
    ap (λ (n : ℕ). operation_fault t lines n x o) same ∙ no_fault t lines (suc v) xs os (first_none (operation_fault t lines v y p) (slower_operation t lines (suc v) xs os) h).1 k x o is was

ticks_at : (lines : List DurationLine) (xs : List Vertex) (os : List (Option ℕ)) (k : ℕ) (x : Vertex) (o : Option ℕ) → slice_get xs k ≡ Some x → slice_get os k ≡ Some o
    → slice_get (operations_ticks lines xs os) k ≡ Some (operation_ticks lines x o)
ticks_at lines [] os k x o is was = cc
ticks_at lines (y ∷ xs) [] k x o is was = cc
ticks_at lines (y ∷ xs) (p ∷ os) zero x o is was = let e = same_Some y x is in let f = same_Some p o was in λ i. Some (operation_ticks lines (e i) (f i))
ticks_at lines (y ∷ xs) (p ∷ os) (suc k) x o is was = ticks_at lines xs os k x o is was

ticks_long : (lines : List DurationLine) (xs : List Vertex) (os : List (Option ℕ)) → length xs ≤ length os → length (operations_ticks lines xs os) ≡ length xs
ticks_long lines [] os h = refl
ticks_long lines (x ∷ xs) [] h = absurd (omega arith)
ticks_long lines (x ∷ xs) (o ∷ os) h = let z = ticks_long lines xs os (omega arith) in omega arith

-- a duration without a fault is no longer than what is stated lasts
in_time : (def : Bytes) (n tk : Option ℕ) → duration_fault def n tk ≡ None → (start end : ℕ) → lasts n start end ≡ true → unwrap_or tk 0 ≤ end - start
in_time def None tk h start end l = absurd (false≢true l)
in_time def (Some n) None h start end l = cc
in_time def (Some n) (Some u) h start end l =
    let low = ltb-false n u (faultless (nat_lt n u) (Longer def) None h).0 in
    let is = eqb-true end (start + n) l in
    omega arith

past_transfers : (ts : List Transfer) (rest : List Act) (i : ℕ) (d : Decision) → slice_get (map carry ts ++ rest) i ≡ Some (run d) → (k : ℕ) × (slice_get rest k ≡ Some (run d))
past_transfers [] rest i d e = (i, e)
past_transfers (t ∷ ts) rest zero d e = cc
past_transfers (t ∷ ts) rest (suc i) d e = past_transfers ts rest i d e

ahead : (ts : List Transfer) (rest : List Act) (k : ℕ) → slice_get (map carry ts ++ rest) (length ts + k) ≡ slice_get rest k
ahead [] rest k = let same : 0 + k ≡ k = omega arith in ap (λ (n : ℕ). slice_get rest n) same
ahead (t ∷ ts) rest k =
    let same : suc (length ts) + k ≡ suc (length ts + k) = omega arith in
    ap (λ (n : ℕ). slice_get (carry t ∷ (map carry ts ++ rest)) n) same ∙ ahead ts rest k

-- the decision that is found for an operation, where one stands there
pub record Found (v : ℕ) (ds : List Decision) : Type 0 where
  pub decision : Decision
  pub number : ℕ
  pub stands : slice_get (acts_of ds) number ≡ Some (run decision)
  pub same : decision.op ≡ v
  pub is : find (λ q. q.op == v) ds ≡ Some decision

found_from : (v : ℕ) (c : Decision) (ds : List Decision) (b : Bool) → (c.op == v) ≡ b → (b ≡ false → Found v ds) → Found v (c ∷ ds)
found_from v c ds true e rest = record {
  decision = c;
  number = length c.transfers + 0;
  stands = ahead c.transfers (run c ∷ acts_of ds) 0;
  same = eqb-true c.op v e;
  is = ap (λ (b : Bool). cond b (Some c) (find (λ (q : Decision). q.op == v) ds)) e;
}
found_from v c ds false e rest =
    let f = rest refl in
    record {
      decision = f.decision;
      number = length c.transfers + suc f.number;
      stands = ahead c.transfers (run c ∷ acts_of ds) (suc f.number) ∙ f.stands;
      same = f.same;
      is = ap (λ (b : Bool). cond b (Some c) (find (λ (q : Decision). q.op == v) ds)) e ∙ f.is;
    }

-- the operation and the operator of a run
abbrev op_in : Act → ℕ
op_in (run d) = d.op
op_in (carry t) = 0

abbrev operator_in : Act → ℕ
operator_in (run d) = d.operator
operator_in (carry t) = 0

later : (v : ℕ) (c : Decision) (ds : List Decision) (d : Decision) → d.op ≡ v → (k : ℕ) → slice_get (run c ∷ acts_of ds) k ≡ Some (run d)
    → ((j : ℕ) → slice_get (acts_of ds) j ≡ Some (run d) → Found v ds) → (c.op == v) ≡ false → Found v ds
later v c ds d same zero h go other = absurd (false≢true (sym other ∙ eq-eqb c.op v (ap op_in (same_Some (run c) (run d) h) ∙ same)))
later v c ds d same (suc k) h go other = go k h

found : (v : ℕ) (ds : List Decision) (i : ℕ) (d : Decision) → slice_get (acts_of ds) i ≡ Some (run d) → d.op ≡ v → Found v ds
found v [] i d e same = cc
found v (c ∷ ds) i d e same =
    let k = past_transfers c.transfers (run c ∷ acts_of ds) i d e in
    found_from v c ds (c.op == v) refl (later v c ds d same k.0 k.1 (λ j h. found v ds j d h same))

-- the transfer at a place is the one of as many transfers before it
at_transfer : (ts : List Transfer) (rest : List Act) (us : List Transfer) (u : Transfer) → ((j : ℕ) → slice_get rest j ≡ Some (carry u) → slice_get us (count_by is_transfer (take j rest)) ≡ Some u)
    → (i : ℕ) → slice_get (map carry ts ++ rest) i ≡ Some (carry u) → slice_get (ts ++ us) (count_by is_transfer (take i (map carry ts ++ rest))) ≡ Some u
at_transfer [] rest us u h i e = h i e
at_transfer (v ∷ ts) rest us u h zero e = cc
at_transfer (v ∷ ts) rest us u h (suc i) e =
    ap (λ (n : ℕ). slice_get (v ∷ (ts ++ us)) n) (count_carry v (take i (map carry ts ++ rest))) ∙ at_transfer ts rest us u h i e

behind_run : (d : Decision) (rest : List Act) (us : List Transfer) (u : Transfer) → ((j : ℕ) → slice_get rest j ≡ Some (carry u) → slice_get us (count_by is_transfer (take j rest)) ≡ Some u)
    → (j : ℕ) → slice_get (run d ∷ rest) j ≡ Some (carry u) → slice_get us (count_by is_transfer (take j (run d ∷ rest))) ≡ Some u
behind_run d rest us u h zero e = cc
behind_run d rest us u h (suc j) e =
    ap (λ (n : ℕ). slice_get us n) (count_run d (take j rest)) ∙ h j e

carried_at : (ds : List Decision) (u : Transfer) (i : ℕ) → slice_get (acts_of ds) i ≡ Some (carry u) → slice_get (transfers_of ds) (count_by is_transfer (take i (acts_of ds))) ≡ Some u
carried_at [] u i e = cc
carried_at (d ∷ ds) u i e = at_transfer d.transfers (run d ∷ acts_of ds) (transfers_of ds) u (behind_run d (acts_of ds) (transfers_of ds) u (λ j h. carried_at ds u j h)) i e

transfers_count : (ds : List Decision) → count_by is_transfer (acts_of ds) ≡ length (transfers_of ds)
transfers_count [] = refl
transfers_count (d ∷ ds) =
    let z = counted d.transfers (run d ∷ acts_of ds) in
    let l = length-append d.transfers (transfers_of ds) in
    let r = transfers_count ds in
    let c = count_run d (acts_of ds) in
    omega arith

-- what an accepted text says
pub record IsAccepted (g : Graph) (a : Architecture) (t : Table) (s : Schedule) (ticks : List ℕ) : Type 0 where
  pub d : Described
  pub same : same_architecture a d.archi ≡ true
  pub none : first_fault g a t s d ≡ None
  pub is : entries_ticks g s d ≡ ticks

accepted : (g : Graph) (a : Architecture) (t : Table) (s : Schedule) (text : Bytes) (ticks : List ℕ) → actual_of g a t s text ≡ Ok ticks → IsAccepted g a t s ticks
accepted g a t s text ticks h = by (description_of text) h
  where
    by_fault : (d : Described) → same_architecture a d.archi ≡ true → (f : Option ActualFault) → first_fault g a t s d ≡ f → unless_fault f (entries_ticks g s d) ≡ Ok ticks → IsAccepted g a t s ticks
    by_fault d same (Some f) e h = cc
    by_fault d same None e h = record { d = d; same = same; none = e; is = cc }

    by_same : (d : Described) (b : Bool) → same_architecture a d.archi ≡ b
        → (if b then unless_fault (first_fault g a t s d) (entries_ticks g s d) else Err (Refused Differs)) ≡ Ok ticks → IsAccepted g a t s ticks
    by_same d false e h = cc
    by_same d true e h = by_fault d e (first_fault g a t s d) refl h

    by : (r : Result Described ArchiRefusal) → if_described r (actual_by g a t s) ≡ Ok ticks → IsAccepted g a t s ticks
    by (Err e) h = cc
    by (Ok d) h = by_same d (same_architecture a d.archi) refl h

module _ (g : Graph) (a : Architecture) (t : Table) (s : Schedule) (valid : is_valid g a (entry_in t) s ≡ true) (ticks : List ℕ) (x : IsAccepted g a t s ticks) where
  media_are : slower_medium a.media x.d.archi.media ≡ None
  media_are = (first_none (slower_medium a.media x.d.archi.media) (slower_operation t x.d.durations 0 g.vertices (operators_of s.decisions (length g.vertices))) x.none).0

  operations_are : slower_operation t x.d.durations 0 g.vertices (operators_of s.decisions (length g.vertices)) ≡ None
  operations_are = (first_none (slower_medium a.media x.d.archi.media) (slower_operation t x.d.durations 0 g.vertices (operators_of s.decisions (length g.vertices))) x.none).1

  shape : pointwise same_medium a.media x.d.archi.media ≡ true
  shape = (and_parts (pointwise bytes_eq a.operators x.d.archi.operators) _ (and_parts _ (a.depth == x.d.archi.depth) x.same).0).1

  operator_is : (i : ℕ) (d : Decision) → slice_get (acts s) i ≡ Some (run d) → operator_of s.decisions d.op ≡ Some d.operator
  operator_is i d e =
      let f = found d.op s.decisions i d e refl in
      let at : i ≡ f.number = one_run g a (entry_in t) s valid i f.number d f.decision e f.stands (sym f.same) in
      let same : Some (run d) ≡ Some (run f.decision) = sym e ∙ ap (λ (n : ℕ). slice_get (acts s) n) at ∙ f.stands in
      ap (λ (o : Option Decision). option_map (λ (q : Decision). q.operator) o) f.is ∙ ap (λ (n : ℕ). Some n) (sym (ap operator_in (same_Some (run d) (run f.decision) same)))

  many : length (operations_ticks x.d.durations g.vertices (operators_of s.decisions (length g.vertices))) ≡ length g.vertices
  many = ticks_long x.d.durations g.vertices (operators_of s.decisions (length g.vertices)) (let l = length-map-range_with_len (operator_of s.decisions) 0 (length g.vertices) in omega arith)

  run_within : (i : ℕ) (d : Decision) → slice_get (acts s) i ≡ Some (run d) → number_or 0 (slice_get ticks d.op) ≤ d.end - d.start
  run_within i d e =
      let r = of_run g a (entry_in t) s valid i d e in
      let low = slice_get_within g.vertices d.op r.vertex r.there in
      let zero_more : 0 + d.op ≡ d.op = omega arith in
      let os = operators_of s.decisions (length g.vertices) in
      let on : slice_get (operators_of s.decisions (length g.vertices)) d.op ≡ Some (Some d.operator)
      = ranged (operator_of s.decisions) 0 (length g.vertices) d.op low ∙ ap (λ (n : ℕ). Some (operator_of s.decisions n)) zero_more ∙ ap (λ (o : Option ℕ). Some o) (operator_is i d e) in
      let none : operation_fault t x.d.durations d.op r.vertex (Some d.operator) ≡ None
      = sym (ap (λ (n : ℕ). operation_fault t x.d.durations n r.vertex (Some d.operator)) zero_more)
      ∙ no_fault t x.d.durations 0 g.vertices os operations_are d.op r.vertex (Some d.operator) r.there on in
      let act = (right_at g a (entry_in t) s valid i (run d) e).act in
      let free = and_parts _ (have_ended (is_on d.operator) (take i (acts s)) d.start) act in
      let new = and_parts _ (not (list_any (runs d.op) (take i (acts s)))) free.0 in
      let long = and_parts _ (lasts (entry_in t d.op d.operator) d.start d.end) new.0 in
      let at = ticks_at x.d.durations g.vertices os d.op r.vertex (Some d.operator) r.there on in
      let here : slice_get ticks d.op ≡ Some (unwrap_or (entry x.d.durations r.vertex d.operator) 0)
      = ap (λ (l : List ℕ). slice_get l d.op) (sym x.is)
      ∙ at_front (operations_ticks x.d.durations g.vertices os) (map (transfer_ticks g.vertices x.d.archi.media) (transfers_of s.decisions)) d.op _ at in
      let is : number_or 0 (slice_get ticks d.op) ≡ unwrap_or (entry x.d.durations r.vertex d.operator) 0 = ap (number_or 0) here in
      let within = in_time r.vertex.def (entry_in t d.op d.operator) (entry x.d.durations r.vertex d.operator) none d.start d.end long.1 in
      omega arith

  over : (u : Transfer) (o p : Option Medium) (n : ℕ) → slice_get a.media u.medium ≡ o → slice_get x.d.archi.media u.medium ≡ p → is_carried o n u ≡ true → carrying_ticks n p ≤ u.end - u.start
  over u None p n e f h = absurd (false≢true h)
  over u (Some m) p n e f h =
      let r = no_slower a.media x.d.archi.media shape media_are u.medium m e in
      let is = eqb-true u.end (u.start + (m.fixed + n * m.per)) (and_parts (stands_at m u.from && stands_at m u.to) _ h).1 in
      let fixed = r.fixed in
      let each = mul-le-mul_left n r.per in
      let same : carrying_ticks n p ≡ r.medium.fixed + n * r.medium.per = ap (carrying_ticks n) (sym f ∙ r.there) in
      omega arith

  carry_within : (i : ℕ) (u : Transfer) → slice_get (acts s) i ≡ Some (carry u) → number_or 0 (slice_get ticks (length g.vertices + count_by is_transfer (take i (acts s)))) ≤ u.end - u.start
  carry_within i u e =
      let ops = operations_ticks x.d.durations g.vertices (operators_of s.decisions (length g.vertices)) in
      let f = transfer_ticks g.vertices x.d.archi.media in
      let c = count_by is_transfer (take i (acts s)) in
      let at = mapped f (transfers_of s.decisions) c u (carried_at s.decisions u i e) in
      let here : slice_get ticks (length g.vertices + c) ≡ Some (f u)
      = ap (λ (l : List ℕ). slice_get l (length g.vertices + c)) (sym x.is)
      ∙ ap (λ (n : ℕ). slice_get (ops ++ map f (transfers_of s.decisions)) (n + c)) (sym many) ∙ at_back ops (map f (transfers_of s.decisions)) c ∙ at in
      let is : number_or 0 (slice_get ticks (length g.vertices + c)) ≡ f u = ap (number_or 0) here in
      let act = (right_at g a (entry_in t) s valid i (carry u) e).act in
      let parts = and_parts (is_carried (slice_get a.media u.medium) (len_of g.vertices u.source) u && have_ended (is_over u.medium) (take i (acts s)) u.start) _ act in
      let first = and_parts (is_carried (slice_get a.media u.medium) (len_of g.vertices u.source) u) (have_ended (is_over u.medium) (take i (acts s)) u.start) parts.0 in
      let within = over u (slice_get a.media u.medium) (slice_get x.d.archi.media u.medium) (len_of g.vertices u.source) refl refl first.0 in
      omega arith

  within : (i : ℕ) (y : Act) → slice_get (acts s) i ≡ Some y → number_or 0 (slice_get ticks (entry_of g.vertices (acts s) i)) ≤ stated y
  within i (run d) e =
      let at : entry_of g.vertices (acts s) i ≡ d.op = ap (λ (o : Option Act). with_act o (entry_at (length g.vertices) (count_by is_transfer (take i (acts s))))) e in
      let same = ap (λ (n : ℕ). number_or 0 (slice_get ticks n)) at in
      let w = run_within i d e in
      omega arith
  within i (carry u) e =
      let at : entry_of g.vertices (acts s) i
      ≡ length g.vertices + count_by is_transfer (take i (acts s)) =
      ap (λ (o : Option Act). with_act o (entry_at (length g.vertices) (count_by is_transfer (take i (acts s))))) e in
      let same = ap (λ (n : ℕ). number_or 0 (slice_get ticks n)) at in
      let w = carry_within i u e in
      omega arith

  each : length ticks ≡ entries_of g s
  each =
      let ops = operations_ticks x.d.durations g.vertices (operators_of s.decisions (length g.vertices)) in
      let carries = map (transfer_ticks g.vertices x.d.archi.media) (transfers_of s.decisions) in
      let l = length-append ops carries in
      let m : length carries ≡ length (transfers_of s.decisions) = length-map (transfers_of s.decisions) (transfer_ticks g.vertices x.d.archi.media) in
      let n = transfers_count s.decisions in
      let k = many in
      let is = ap length x.is in
      omega arith

  each_row : (n k : ℕ) (row : List ℕ) → slice_get (replicate n ticks) k ≡ Some row → row ≡ ticks
  each_row zero k row e = cc
  each_row (suc n) zero row e = sym (same_Some ticks row e)
  each_row (suc n) (suc k) row e = each_row n k row e

  rows : (n : ℕ) → HaveEntries (entries_of g s) (replicate n ticks)
  rows zero k row l = absurd (omega arith)
  rows (suc n) zero row l = each
  rows (suc n) (suc k) row l = rows n k row (omega arith)

  pub both_within : (n : ℕ) → HaveEntries (entries_of g s) (replicate n ticks) × AreWithin g.vertices (acts s) (replicate n ticks)
  both_within n = (rows n, λ k row e i y h. let w = within i y h in let same = ap (λ (r : List ℕ). number_or 0 (slice_get r (entry_of g.vertices (acts s) i))) (each_row n k row e) in omega arith)

pub actual_are_within : ActualAreWithin
actual_are_within g a t s text ticks n valid h = both_within g a t s valid ticks (accepted g a t s text ticks h) n
