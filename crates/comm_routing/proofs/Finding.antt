-- What a draft's tables tell of a candidate: whether it may be placed, its arrival and its start.
use Rattle.std.proofs.Common.{◌≡◌, ℕ, suc, ◌+◌, ◌<◌, ◌^◌, Bool, true, false, ◌&&◌, cond, nat_eq, List, [], ◌∷◌, map, length, Option, Some, None, refl, sym, ap, arith, ◌∙◌}
use Rattle.std.specs.Prelude.{is_some, max, not, nat_lt, slice_get, slice_index_or}
use Rattle.std.specs.List.{list_all, filter, range_with_len}
use Rattle.std.proofs.lemmas.Bool.{false≢true, and_parts, ltb-true}
use Rattle.schedule.specs.declared.Vertex.{Vertex}
use Rattle.schedule.specs.declared.Source.{Source}
use Rattle.schedule.specs.Graph.{with_vertex}
use Rattle.schedule.specs.FlatOrder.{get_half}
use Rattle.schedule.specs.Table.{entry_in}
use Rattle.schedule.specs.Acts.{acts_of, runs}
use Rattle.comm_routing.specs.Placing.{last_end, is_placed, operator_of, halves, needs, is_candidate, may_stand, may_place, arrival, start, ticks_in}
use Rattle.comm_routing.specs.Board.{Board, on_in}
use Rattle.comm_routing.specs.Draft.{Drafted, Keeps, task_of}
use Rattle.comm_routing.specs.Candidates.{flag_at, places_from, ready_in}
use Rattle.comm_routing.specs.Progress.{may_stand_in, may_place_in}
use Rattle.comm_routing.specs.declared.candidates.Candidates.{Candidates}
use Rattle.comm_routing.proofs.Right.{candidate_given, stands}
use Rattle.schedule.specs.declared.decision.Decision.{Decision}
use Rattle.comm_routing.proofs.Steps.{on, decided, end_low, low_enough}
use Rattle.syn_base.specs.Numbers.{greatest}

module _ (d : Drafted) (b : Board) (reads : List (List Source)) (c : Candidates) (k : Keeps d b reads c) where
  halves_on : (p : ℕ) (us : List ℕ) → list_all (is_placed (acts_of d.decisions)) us ≡ true → list_all (λ u. nat_eq (on_in b u) p) us ≡ list_all (λ u. nat_eq (operator_of (acts_of d.decisions) u) p) us
  halves_on p [] h = refl
  halves_on p (u ∷ us) h =
      let both = and_parts (is_placed (acts_of d.decisions) u) (list_all (is_placed (acts_of d.decisions)) us) h in
      let there = (stands (task_of d) (acts_of d.decisions) u k.told.right both.0).there in
      let same : on_in b u ≡ operator_of (acts_of d.decisions) u
      = ap ticks_in (k.told.tells.places u there ∙ ap (λ (x : Bool). cond x (Some (operator_of (acts_of d.decisions) u)) None) both.0) in
      λ i. nat_eq (same i) p && halves_on p us both.1 i

  -- an operation may be placed where the tables say so
  pub may_same : (v p : ℕ) → may_place_in d b c v p ≡ may_place (task_of d) (acts_of d.decisions) v p
  may_same v p = by (nat_lt v (length d.graph.vertices)) refl
    where
      able : (can : Bool) → is_candidate (task_of d) (acts_of d.decisions) v ≡ can → (can && may_stand_in d b c v p) ≡ (can && may_stand (task_of d) (acts_of d.decisions) v p)
      able false e = refl
      able true e =
          let g = candidate_given (task_of d) k.told.site.given.flat (acts_of d.decisions) v e in
          ap (λ (x : Bool). nat_lt p (length d.archi.operators) && is_some (entry_in d.durations v p) && x) (halves_on p (halves (task_of d) v) g.half)

      by : (low : Bool) → nat_lt v (length d.graph.vertices) ≡ low → (low && (flag_at c v && may_stand_in d b c v p)) ≡ may_place (task_of d) (acts_of d.decisions) v p
      by true e =
          let f = k.flags v (ltb-true v (length d.graph.vertices) e) in
          (λ i. f i && may_stand_in d b c v p) ∙ able (is_candidate (task_of d) (acts_of d.decisions) v) refl
      by false e = none (is_candidate (task_of d) (acts_of d.decisions) v) refl
        where
          none : (can : Bool) → is_candidate (task_of d) (acts_of d.decisions) v ≡ can → false ≡ (can && may_stand (task_of d) (acts_of d.decisions) v p)
          none false h = refl
          none true h =
              absurd (false≢true (sym e ∙ (and_parts (nat_lt v (length d.graph.vertices)) (not (is_placed (acts_of d.decisions) v))
              (and_parts (nat_lt v (length d.graph.vertices) && not (is_placed (acts_of d.decisions) v)) (list_all (is_placed (acts_of d.decisions)) (needs (task_of d) v)) h).0).0))

  -- what is asked of a placement
  pub record Chosen (v p : ℕ) : Type 0 where
    pub there : v < length d.graph.vertices
    pub on : p < length d.archi.operators
    pub flag : flag_at c v ≡ true
    pub can : is_candidate (task_of d) (acts_of d.decisions) v ≡ true

  pub chosen : (v p : ℕ) → may_place (task_of d) (acts_of d.decisions) v p ≡ true → Chosen v p
  chosen v p may =
      let can = (and_parts (is_candidate (task_of d) (acts_of d.decisions) v) (may_stand (task_of d) (acts_of d.decisions) v p) may).0 in
      let first = and_parts (nat_lt v (length d.graph.vertices) && not (is_placed (acts_of d.decisions) v)) (list_all (is_placed (acts_of d.decisions)) (needs (task_of d) v)) can in
      let there = ltb-true v (length d.graph.vertices) (and_parts (nat_lt v (length d.graph.vertices)) (not (is_placed (acts_of d.decisions) v)) first.0).0 in
      record { there = there; on = on d b reads k.told v p may; flag = k.flags v there ∙ can; can = can }

  -- the start of a candidate by the tables
  pub start_same : (v p : ℕ) (x : Vertex) (n : ℕ) → may_place (task_of d) (acts_of d.decisions) v p ≡ true → slice_get d.graph.vertices v ≡ Some x → n ≡ arrival (task_of d) (acts_of d.decisions) v p
      → start (task_of d) (acts_of d.decisions) v p ≡ max n (max (slice_index_or b.busy p 0) (greatest (map (λ u. slice_index_or b.ended u 0) (get_half x.kind x.twin))))
  start_same v p x n may is same =
      let ch = chosen v p may in
      let busy = k.told.tells.busy p ch.on in
      let g = candidate_given (task_of d) k.told.site.given.flat (acts_of d.decisions) v ch.can in
      let halves_are : halves (task_of d) v ≡ get_half x.kind x.twin = ap (λ (o : Option Vertex). with_vertex o [] (λ y. get_half y.kind y.twin)) is in
      let shown = ap (λ (us : List ℕ). greatest (map (λ u. slice_index_or b.ended u 0) us)) halves_are in
      let half = ended_in (halves (task_of d) v) g.half in
      omega arith
    where
      ended_in : (us : List ℕ) → list_all (is_placed (acts_of d.decisions)) us ≡ true
          → greatest (map (λ u. last_end (runs u) (acts_of d.decisions)) us) ≡ greatest (map (λ u. slice_index_or b.ended u 0) us)
      ended_in [] h = refl
      ended_in (u ∷ us) h =
          let both = and_parts (is_placed (acts_of d.decisions) u) (list_all (is_placed (acts_of d.decisions)) us) h in
          let end = k.told.tells.ended u (stands (task_of d) (acts_of d.decisions) u k.told.right both.0).there in
          let rest = ended_in us both.1 in
          omega arith

  -- those that are ready are the candidates
  pub ready_are : ready_in c ≡ filter (is_candidate (task_of d) (acts_of d.decisions)) (range_with_len 0 (length d.graph.vertices))
  ready_are = k.ready ∙ from 0 c.ready.flags.items (λ i l. (let s = k.size.flags in flags_at i (omega arith)))
      ∙ ap (λ (n : ℕ). filter (is_candidate (task_of d) (acts_of d.decisions)) (range_with_len 0 n)) k.size.flags
    where
      flags_at : (i : ℕ) → i < length d.graph.vertices → slice_index_or c.ready.flags.items i false ≡ is_candidate (task_of d) (acts_of d.decisions) (0 + i)
      flags_at i l = k.flags i l ∙ (let e : i ≡ 0 + i = omega arith in ap (is_candidate (task_of d) (acts_of d.decisions)) e)

      from : (a : ℕ) (fs : List Bool) → ((i : ℕ) → i < length fs → slice_index_or fs i false ≡ is_candidate (task_of d) (acts_of d.decisions) (a + i))
          → places_from a fs ≡ filter (is_candidate (task_of d) (acts_of d.decisions)) (range_with_len a (length fs))
      from a [] h = refl
      from a (f ∷ fs) h =
          let e : a + 0 ≡ a = omega arith in
          let first : f ≡ is_candidate (task_of d) (acts_of d.decisions) a = h 0 (omega arith) ∙ ap (is_candidate (task_of d) (acts_of d.decisions)) e in
          let rest = from (a + 1) fs (λ i l. h (suc i) (omega arith) ∙ (let e : a + suc i ≡ a + 1 + i = omega arith in ap (is_candidate (task_of d) (acts_of d.decisions)) e)) in
          λ i. cond (first i) (a ∷ rest i) (rest i)

  -- no start is too great
  pub start_fits : (v p : ℕ) → may_place (task_of d) (acts_of d.decisions) v p ≡ true → start (task_of d) (acts_of d.decisions) v p < 2 ^ 62
  start_fits v p may =
      let ch = chosen v p may in
      let e = end_low d b reads k.told v ch.can p ch.on in
      let s = ap (λ (x : Decision). x.start) (decided d b reads k.told v p may) in
      let l = low_enough d b reads k.told v ch.can p ch.on in
      omega arith
