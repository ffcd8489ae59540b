-- Candidates and their arrivals after a decision.
use Rattle.std.proofs.Common.{◌≡◌, ◌≢◌, ℕ, ◌<◌, ◌≤◌, Bool, Option, Some, None, true, false, ◌&&◌, ◌||◌, not, List, [], ◌∷◌, ◌++◌, map, length, take, refl, sym, ap, subst, arith, ◌∙◌, inl, inr, ◌⊎◌}
use Rattle.std.specs.Prelude.{slice_index_or, nat_eq, nat_lt}
use Rattle.std.specs.List.{list_all, list_any}
use Rattle.std.proofs.lemmas.Bool.{true≢false, and_parts, or_left, or_right, or_parts, eq-eqb, ne_eqb, not-true}
use Rattle.std.proofs.lemmas.List.Folds.{list_any-append}
use Rattle.schedule.specs.declared.Source.{Source}
use Rattle.schedule.specs.declared.Vertex.{Vertex}
use Rattle.schedule.specs.Acts.{Act, acts_of, carry, run, runs}
use Rattle.schedule.proofs.Behind.{acts-append}
use Rattle.comm_routing.specs.Board.{Board}
use Rattle.comm_routing.specs.Placing.{is_placed, needs, is_candidate, may_place, arrival, decision}
use Rattle.comm_routing.specs.Draft.{Drafted, Keeps, IsTold, task_of, after_placing}
use Rattle.std.specs.Global.{Vec}
use Rattle.comm_routing.specs.Dependents.{AreDependents}
use Rattle.comm_routing.specs.Candidates.{AreUnknown, HasOneMore, IsBehind, IsUpdated, flag_at, kept_at, places_from, row_at}
use Rattle.comm_routing.specs.declared.candidates.Ready.{Ready}
use Rattle.comm_routing.specs.declared.candidates.Candidates.{Candidates}
use Rattle.comm_routing.proofs.Arrivals.{arrivals_are_kept}
use Rattle.comm_routing.proofs.Done.{none_carried}
use Rattle.comm_routing.proofs.Finding.{chosen}
use Rattle.comm_routing.proofs.Walks.{any_same, or_both}
use Rattle.comm_routing.proofs.Steps.{candidate_same}

none_kept : (o : Option ℕ) (n : ℕ) → o ≡ None → o ≡ Some n → ⊥
none_kept o n e f = cc

module _ (d : Drafted) (b : Board) (reads : List (List Source)) (told : IsTold d b reads) (vs : List Vertex) (same : vs ≡ d.graph.vertices) where
  -- what was updated is kept, where the arrivals that stayed are still those of their candidates
  pub kept_after : (keeps : Bool) (c after : Candidates) → AreDependents vs c.dependents.items → IsUpdated vs b keeps c after
      → ((v p n : ℕ) → v < length d.graph.vertices → is_candidate (task_of d) (acts_of d.decisions) v ≡ true → (flag_at c v && keeps) ≡ true → p < length d.archi.operators
      → kept_at c v p ≡ Some n → n ≡ arrival (task_of d) (acts_of d.decisions) v p)
      → Keeps d b reads after
  kept_after keeps c after depend updated stay =
      let u : IsUpdated d.graph.vertices b keeps c after = subst (λ (xs : List Vertex). IsUpdated xs b keeps c after) same updated in
      let flags : (v : ℕ) → v < length d.graph.vertices → flag_at after v ≡ is_candidate (task_of d) (acts_of d.decisions) v
      = λ v l. u.flags v l ∙ candidate_same d b reads told v l in
      record {
        told = told;
        size = u.size;
        flags = flags;
        ready = u.ready;
        dependents = subst (λ (xs : List (Vec ℕ)). AreDependents d.graph.vertices xs) (sym u.dependents) (subst (λ (xs : List Vertex). AreDependents xs c.dependents.items) same depend);
        arrivals = λ v p n l f on e. by v p n l on (sym (flags v l) ∙ f) e (u.arrivals v l f);
      }
    where
      by : (v p n : ℕ) → v < length d.graph.vertices → p < length d.archi.operators → is_candidate (task_of d) (acts_of d.decisions) v ≡ true → kept_at after v p ≡ Some n
          → AreUnknown (row_at after.arrivals.items v) ⊎ (((flag_at c v && keeps) ≡ true) × (row_at after.arrivals.items v ≡ row_at c.arrivals.items v))
          → n ≡ arrival (task_of d) (acts_of d.decisions) v p
      by v p n l on can e (inl unknown) = absurd (none_kept (kept_at after v p) n (unknown p) e)
      by v p n l on can e (inr kept) = stay v p n l can kept.0 on (ap (λ (r : List (Option ℕ)). slice_index_or r p None) (sym kept.1) ∙ e)

-- one arrival more is kept, which is that of its candidate
pub kept_more : (d : Drafted) (b : Board) (reads : List (List Source)) (c after : Candidates) (v p date : ℕ) → Keeps d b reads c → after.ready ≡ c.ready → after.dependents ≡ c.dependents
    → length after.arrivals.items ≡ length c.arrivals.items → HasOneMore c.arrivals.items after.arrivals.items v p date → date ≡ arrival (task_of d) (acts_of d.decisions) v p → Keeps d b reads after
kept_more d b reads c after v p date k ready depend size more same = record {
  told = k.told;
  size = record {
    flags = ap (λ (r : Ready). length r.flags.items) ready ∙ k.size.flags;
    list = ap (λ (r : Ready). length r.list.items) ready ∙ k.size.list;
    count = subst (λ (r : Ready). r.count ≤ length d.graph.vertices) (sym ready) k.size.count;
    arrivals = size ∙ k.size.arrivals;
    dependents = ap (λ (xs : Vec (Vec ℕ)). length xs.items) depend ∙ k.size.dependents;
  };
  flags = λ w l. ap (λ (r : Ready). slice_index_or r.flags.items w false) ready ∙ k.flags w l;
  ready = ap (λ (r : Ready). take r.count r.list.items) ready ∙ k.ready ∙ ap (λ (r : Ready). places_from 0 r.flags.items) (sym ready);
  dependents = subst (λ (xs : Vec (Vec ℕ)). AreDependents d.graph.vertices xs.items) (sym depend) k.dependents;
  arrivals = λ w q n l f on e. by w q n l (ap (λ (r : Ready). slice_index_or r.flags.items w false) (sym ready) ∙ f) on (more w q n e);
}
  where
    by : (w q n : ℕ) → w < length d.graph.vertices → flag_at c w ≡ true → q < length d.archi.operators → (kept_at c w q ≡ Some n)
        ⊎ ((w ≡ v) × (q ≡ p) × (n ≡ date)) → n ≡ arrival (task_of d) (acts_of d.decisions) w q
    by w q n l f on (inl was) = k.arrivals w q n l f on was
    by w q n l f on (inr now) = now.2 ∙ same ∙ (λ i. arrival (task_of d) (acts_of d.decisions) (sym now.0 i) (sym now.1 i))

-- of an operation and an operator on which it may be placed: there is room for the arrival, and one that is kept is right
module _ (d : Drafted) (b : Board) (reads : List (List Source)) (c : Candidates) (k : Keeps d b reads c) (v p : ℕ) (may : may_place (task_of d) (acts_of d.decisions) v p ≡ true) where
  pub kept_room : (v < length c.arrivals.items) × (p < 16)
  kept_room =
      let ch = chosen d b reads c k v p may in
      let there = ch.there in
      let on = ch.on in
      let few = k.told.site.operators in
      let size = k.size.arrivals in
      (omega arith, omega arith)

  pub kept_right : (n : ℕ) → Some n ≡ kept_at c v p → n ≡ arrival (task_of d) (acts_of d.decisions) v p
  kept_right n e = let ch = chosen d b reads c k v p may in k.arrivals v p n ch.there ch.flag ch.on (sym e)

module _ (d : Drafted) (u o : ℕ) where
  -- the acts of the decision that places it
  added : List Act
  added = map carry (decision (task_of d) (acts_of d.decisions) u o).transfers ++ run (decision (task_of d) (acts_of d.decisions) u o) ∷ []

  now_placed : is_placed (acts_of (after_placing d u o).decisions) u ≡ true
  unfolding added
  now_placed =
      ap (λ (xs : List Act). is_placed xs u) (acts-append d.decisions (decision (task_of d) (acts_of d.decisions) u o ∷ []))
      ∙ list_any-append (runs u) (acts_of d.decisions) added
      ∙ or_right (is_placed (acts_of d.decisions) u) (list_any (runs u) added)
      (list_any-append (runs u) (map carry (decision (task_of d) (acts_of d.decisions) u o).transfers) (run (decision (task_of d) (acts_of d.decisions) u o) ∷ [])
      ∙ or_right (list_any (runs u) (map carry (decision (task_of d) (acts_of d.decisions) u o).transfers)) (nat_eq u u || false) (or_left (nat_eq u u) false (eq-eqb u u refl)))

  still_placed : (v : ℕ) → v ≢ u → is_placed (acts_of d.decisions) v ≡ is_placed (acts_of (after_placing d u o).decisions) v
  unfolding added
  still_placed v n =
      sym (ap (λ (xs : List Act). is_placed xs v) (acts-append d.decisions (decision (task_of d) (acts_of d.decisions) u o ∷ []))
      ∙ any_same (runs v) (acts_of d.decisions) added
      (list_any-append (runs v) (map carry (decision (task_of d) (acts_of d.decisions) u o).transfers) (run (decision (task_of d) (acts_of d.decisions) u o) ∷ [])
      ∙ or_both (list_any (runs v) (map carry (decision (task_of d) (acts_of d.decisions) u o).transfers)) (nat_eq u v || false)
      (none_carried (runs v) (λ c. refl) (decision (task_of d) (acts_of d.decisions) u o).transfers) (or_both (nat_eq u v) false (ne_eqb u v (λ e. n (sym e))) refl)))

  all_still : (vs : List ℕ) → list_any (nat_eq u) vs ≡ false → list_all (is_placed (acts_of d.decisions)) vs ≡ list_all (is_placed (acts_of (after_placing d u o).decisions)) vs
  all_still [] h = refl
  all_still (v ∷ vs) h =
      let parts = or_parts (nat_eq u v) (list_any (nat_eq u) vs) h in
      let apart : v ≢ u = λ e. true≢false (sym (eq-eqb u v (sym e)) ∙ parts.0) in
      λ i. still_placed v apart i && all_still vs parts.1 i

  -- no other operation becomes a candidate, or stops to be one, if it does not depend on it
  still_candidate : (v : ℕ) → v ≢ u → list_any (nat_eq u) (needs (task_of d) v) ≡ false → is_candidate (task_of d) (acts_of d.decisions) v
      ≡ is_candidate (task_of d) (acts_of (after_placing d u o).decisions) v
  still_candidate v n h = λ i. (nat_lt v (length d.graph.vertices) && not (still_placed v n i)) && all_still (needs (task_of d) v) h i

  no_candidate : is_candidate (task_of d) (acts_of (after_placing d u o).decisions) u ≡ false
  no_candidate = ap (λ (b : Bool). (nat_lt u (length d.graph.vertices) && not b)
      && list_all (is_placed (acts_of (after_placing d u o).decisions)) (needs (task_of d) u)) now_placed ∙ by (nat_lt u (length d.graph.vertices))
    where
      by : (b : Bool) → ((b && false) && list_all (is_placed (acts_of (after_placing d u o).decisions)) (needs (task_of d) u)) ≡ false
      by true = refl
      by false = refl

-- the flags were right before the decision
pub behind : (d : Drafted) (b new : Board) (reads : List (List Source)) (c : Candidates) (u o : ℕ) → Keeps d b reads c
    → may_place (task_of d) (acts_of d.decisions) u o ≡ true → IsTold (after_placing d u o) new reads
    → (vs : List Vertex) → vs ≡ d.graph.vertices → IsBehind vs new u c
behind d b new reads c u o k may told vs same =
    let there = (chosen d b reads c k u o may).there in
    subst (λ (xs : List Vertex). IsBehind xs new u c) (sym same) (record {
      operation = there;
      ready = k.ready;
      dependents = k.dependents;
      no_candidate = candidate_same (after_placing d u o) new reads told u there ∙ no_candidate d u o;
      others = λ v l n h. k.flags v l ∙ still_candidate d u o v n h ∙ sym (candidate_same (after_placing d u o) new reads told v l);
    })

-- a decision without transfers leaves the arrivals of the other candidates
pub stay_after : (d : Drafted) (b : Board) (reads : List (List Source)) (c : Candidates) (u o : ℕ) → Keeps d b reads c → may_place (task_of d) (acts_of d.decisions) u o ≡ true
    → (decision (task_of d) (acts_of d.decisions) u o).transfers ≡ []
    → (v p n : ℕ) → v < length d.graph.vertices → is_candidate (task_of d) (acts_of (after_placing d u o).decisions) v ≡ true → flag_at c v ≡ true → p < length d.archi.operators
    → kept_at c v p ≡ Some n → n ≡ arrival (task_of d) (acts_of (after_placing d u o).decisions) v p
stay_after d b reads c u o k may none v p n l can was on e =
    k.arrivals v p n l was on e
    ∙ sym (arrivals_are_kept (task_of d) k.told.site.given d.decisions u o v p k.told.right may none (sym (k.flags v l) ∙ was) other on)
  where
    other : v ≢ u
    other e =
        let parts = and_parts (nat_lt v (length d.graph.vertices) && not (is_placed (acts_of (after_placing d u o).decisions) v))
        (list_all (is_placed (acts_of (after_placing d u o).decisions)) (needs (task_of d) v)) can in
        let fresh = not-true (is_placed (acts_of (after_placing d u o).decisions) v)
        (and_parts (nat_lt v (length d.graph.vertices)) (not (is_placed (acts_of (after_placing d u o).decisions) v)) parts.0).1 in
        true≢false (sym (now_placed d u o) ∙ ap (is_placed (acts_of (after_placing d u o).decisions)) (sym e) ∙ fresh)
