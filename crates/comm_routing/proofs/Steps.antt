-- One placement in a draft: what it asks for, and what is kept after it.
use Rattle.std.proofs.Common.{
  ◌≡◌,
  ℕ,
  zero,
  suc,
  ◌+◌,
  ◌*◌,
  ◌<◌,
  ◌≤◌,
  ◌^◌,
  Bool,
  true,
  false,
  cond,
  ◌&&◌,
  not,
  List,
  [],
  ◌∷◌,
  ◌++◌,
  map,
  length,
  Option,
  Some,
  None,
  refl,
  sym,
  ap,
  subst,
  arith,
  ◌∙◌,
  inl,
  inr,
  length-append,
  mul-le-mul_right,
}
use Rattle.std.specs.Prelude.{All, is_some, nat_eq, nat_lt, nat_le, slice_get, slice_index_or, slice_set}
use Rattle.std.specs.List.{list_all}
use Rattle.std.proofs.lemmas.Bool.{and_parts, cases_lt, lt-ltb, ltb-true, leb-true}
use Rattle.std.proofs.lemmas.Option.{same_Some}
use Rattle.route_table.specs.Table.{RouteTable, route_in}
use Rattle.route_table.proofs.Joined.{facts, all_joined}
use Rattle.route_table.proofs.Order.{not_less_is_no_shorter}
use Rattle.schedule.specs.Table.{entry_in}
use Rattle.schedule.specs.declared.Source.{Source}
use Rattle.schedule.specs.declared.Vertex.{Vertex}
use Rattle.schedule.specs.Graph.{with_vertex, len_of}
use Rattle.schedule.specs.FlatOrder.{depends_on}
use Rattle.schedule.specs.declared.Hop.{Hop}
use Rattle.schedule.specs.declared.Medium.{Medium}
use Rattle.schedule.specs.declared.decision.Decision.{Decision}
use Rattle.schedule.specs.Acts.{acts_of, copy, sources_of}
use Rattle.comm_routing.specs.Task.{Task, routing}
use Rattle.comm_routing.specs.Placing.{ticks_in, sources, needs, halves, operator_of, is_placed, is_candidate, may_stand, may_place, arrival, decision}
use Rattle.comm_routing.specs.Walk.{distinct, walk, fetch_all}
use Rattle.comm_routing.specs.Board.{Board, HasPlace, HasWay, FitsAll, held_in, on_in, time_in, len_in, place_in}
use Rattle.comm_routing.specs.Tables.{Tells, after_transfers, after_operation, decision_in, transfers_in, start_in, outs_of}
use Rattle.comm_routing.specs.Start.{reads_of}
use Rattle.comm_routing.specs.Draft.{Drafted, IsTold, IsSite, task_of, nones, rise, after_placing}
use Rattle.comm_routing.specs.Candidates.{CanWalk, reads_in, is_placed_in, is_free_in, is_candidate_in}
use Rattle.comm_routing.specs.declared.reach.Walks.{Walks}
use Rattle.comm_routing.proofs.Right.{candidate_given, is_given, stands}
use Rattle.comm_routing.proofs.Arrivals.{from_distinct, all_there, placed_rightly_behind}
use Rattle.comm_routing.proofs.Tables.{arrivals_are_in_tables}
use Rattle.comm_routing.proofs.Placed.{placements_are_in_tables}
use Rattle.comm_routing.proofs.Given.{lens_there}
use Rattle.comm_routing.proofs.Lands.{placements_land, len_low, time_low}
use Rattle.comm_routing.proofs.Dates.{Stays, stays_low, EndBy, end_by_more}
use Rattle.comm_routing.proofs.Low.{low_transfers, low_operation, low_more, one_none_less, same_places}
use Rattle.comm_routing.proofs.Sizes.{same_sizes}
use Rattle.syn_base.specs.Numbers.{greatest}

entry_there : (xs : List (List Hop)) (i : ℕ) → length xs ≤ i → slice_index_or xs i [] ≡ []
entry_there [] i l = refl
entry_there (x ∷ xs) zero l = absurd (omega arith)
entry_there (x ∷ xs) (suc i) l = entry_there xs i (omega arith)

vertex_of : (xs : List Vertex) (v : ℕ) → v < length xs → (x : Vertex) × (slice_get xs v ≡ Some x)
vertex_of [] v l = absurd (omega arith)
vertex_of (x ∷ xs) zero l = (x, refl)
vertex_of (x ∷ xs) (suc v) l = vertex_of xs v (omega arith)

read_at : (xs : List Vertex) (v : ℕ) (x : Vertex) → slice_get xs v ≡ Some x → slice_index_or (map reads_of xs) v [] ≡ reads_of x
read_at [] v x e = absurd cc
read_at (y ∷ xs) zero x e = ap reads_of (same_Some y x e)
read_at (y ∷ xs) (suc v) x e = read_at xs v x e

short_at : (rs : List (List Source)) (v bound : ℕ) → All (λ r. length r ≤ bound) rs → length (slice_index_or rs v []) ≤ bound
short_at rs v bound all = elim (cases_lt v (length rs)) [ inl l ↦ all v [] l | inr m ↦ (let e = past rs v m in let z = ap length e in omega arith) ]
  where
    past : (rs : List (List Source)) (v : ℕ) → length rs ≤ v → slice_index_or rs v [] ≡ []
    past [] v l = refl
    past (r ∷ rs) zero l = absurd (omega arith)
    past (r ∷ rs) (suc v) l = past rs v (omega arith)

module _ (d : Drafted) (site : IsSite d) where
  -- routes are short
  pub short : (p : ℕ) → p < length d.archi.operators → (from : ℕ) → length (route_in d.routes from p) ≤ 32
  short p on from = elim (cases_lt from (length d.archi.operators)) [
    | inl low ↦
        let f = facts d.archi site.given.archi in
        let few = site.operators in
        let r = all_joined (length d.archi.operators) d.archi.media f.joined from p low on in
        let least = (site.given.routes from p low on).least r.0 r.1 in
        let no_longer = not_less_is_no_shorter r.0 (route_in d.routes from p) least in
        let within = r.2 in
        omega arith
    | inr far ↦
        let there = site.routes.there in
        let same = site.routes.operators in
        let m : length d.archi.operators * d.routes.operators ≤ from * d.routes.operators = mul-le-mul_right d.routes.operators far in
        let n : length d.archi.operators * d.routes.operators ≡ d.routes.operators * d.routes.operators = ap (λ (k : ℕ). k * d.routes.operators) (sym same) in
        let e = ap length (entry_there d.routes.routes (from * d.routes.operators + p) (omega arith)) in
        omega arith
  ]

module _ (d : Drafted) (b : Board) (reads : List (List Source)) (told : IsTold d b reads) where
  pub read_sources : (v : ℕ) → v < length d.graph.vertices → slice_index_or reads v [] ≡ distinct (sources (task_of d) v)
  read_sources v l =
      let x = vertex_of d.graph.vertices v l in
      ap (λ (rs : List (List Source)). slice_index_or rs v []) told.reads_are ∙ read_at d.graph.vertices v x.0 x.1 ∙ ap (λ (o : Option Vertex). distinct (sources_of o)) (sym x.1)

  pub placed_same : (u : ℕ) → is_placed_in b u ≡ is_placed (acts_of d.decisions) u
  placed_same u = elim (cases_lt u (length d.graph.vertices)) [
    | inl low ↦ ap is_some (told.tells.places u low) ∙ some_if (is_placed (acts_of d.decisions) u) (operator_of (acts_of d.decisions) u)
    | inr far ↦ ap is_some (entry_past b.places u (let e = told.tells.operations in omega arith)) ∙ sym (never (is_placed (acts_of d.decisions) u) refl far)
  ]
    where
      some_if : (c : Bool) (o : ℕ) → is_some (cond c (Some o) None) ≡ c
      some_if true o = refl
      some_if false o = refl

      entry_past : (os : List (Option ℕ)) (i : ℕ) → length os ≤ i → slice_index_or os i None ≡ None
      entry_past [] i l = refl
      entry_past (o ∷ os) zero l = absurd (omega arith)
      entry_past (o ∷ os) (suc i) l = entry_past os i (omega arith)

      never : (c : Bool) → is_placed (acts_of d.decisions) u ≡ c → length d.graph.vertices ≤ u → is_placed (acts_of d.decisions) u ≡ false
      never true e far = absurd (let l = (stands (task_of d) (acts_of d.decisions) u told.right e).there in omega arith)
      never false e far = e

  all_same : (f g : ℕ → Bool) → ((u : ℕ) → f u ≡ g u) → (us : List ℕ) → list_all f us ≡ list_all g us
  all_same f g h [] = refl
  all_same f g h (u ∷ us) = λ i. h u i && all_same f g h us i

  pub candidate_same : (v : ℕ) → v < length d.graph.vertices → is_candidate_in d.graph.vertices b v ≡ is_candidate (task_of d) (acts_of d.decisions) v
  candidate_same v l =
      let x = vertex_of d.graph.vertices v l in
      (λ i. with_vertex (x.1 i) false (is_free_in b v))
      ∙ (λ i. not (placed_same v i) && all_same (is_placed_in b) (is_placed (acts_of d.decisions)) placed_same (depends_on x.0) i)
      ∙ (λ i. (sym (lt-ltb v (length d.graph.vertices) l) i && not (is_placed (acts_of d.decisions) v)) && list_all (is_placed (acts_of d.decisions)) (with_vertex (sym x.1 i) [] depends_on))

  few : length d.decisions ≤ 2048
  few = let c = told.counted in let n = told.site.operations in omega arith

  module _ (v : ℕ) (can : is_candidate (task_of d) (acts_of d.decisions) v ≡ true) where
    pub there : v < length d.graph.vertices
    there = ltb-true v (length d.graph.vertices) (and_parts (nat_lt v (length d.graph.vertices)) (not (is_placed (acts_of d.decisions) v))
        (and_parts (nat_lt v (length d.graph.vertices) && not (is_placed (acts_of d.decisions) v)) (list_all (is_placed (acts_of d.decisions)) (needs (task_of d) v)) can).0).0

    quick : (i : ℕ) (x : Source) → slice_get (distinct (sources (task_of d) v)) i ≡ Some x → (m : ℕ) → time_in d.archi.media b m x ≤ 65000000
    quick i x e m =
        let c = candidate_given (task_of d) told.site.given.flat (acts_of d.decisions) v can in
        let at = from_distinct [] (sources (task_of d) v) i x e in
        let parts = and_parts (is_placed (acts_of d.decisions) x.vertex) (nat_le 1 (len_of d.graph.vertices x))
        (all_there (is_given (task_of d) (acts_of d.decisions)) (sources (task_of d) v) c.given at.0 x at.1) in
        let same = (told.tells.outputs x (leb-true 1 (len_of d.graph.vertices x) parts.1)).len in
        let l = len_low (task_of d) told.site.given x in
        time_low (task_of d) told.site.given m (len_in b x) (omega arith)

    count : length (distinct (sources (task_of d) v)) ≤ 131072
    count = let s = short_at reads v 131072 told.few_reads in let e = ap length (read_sources v there) in omega arith

    module _ (p : ℕ) (on : p < length d.archi.operators) where
      stays : Stays d.archi.media b (rise * length d.decisions) (λ c. told.low.held (place_in b c)) (route_in d.routes) p
          (short d told.site p on) (distinct (sources (task_of d) v)) (walk b.ends 0) (rise * length d.decisions)
      stays =
          let l = few in
          let n = count in
          stays_low d.archi.media b (rise * length d.decisions) (λ c. told.low.held (place_in b c)) (route_in d.routes) p
          (short d told.site p on) (distinct (sources (task_of d) v)) quick (walk b.ends 0) (rise * length d.decisions)
          (omega arith) (record { ends = told.low.ends; date = omega arith }) (omega arith)

      ways : All (HasWay d.archi.media b (route_in d.routes) d.routes.operators p) (distinct (sources (task_of d) v))
      ways = subst (λ (n : ℕ). All (HasWay d.archi.media b (route_in d.routes) n p) (distinct (sources (task_of d) v))) (sym told.site.routes.operators)
          (arrivals_are_in_tables (task_of d) told.site.given d.decisions b v p told.right told.tells can on).1

      -- the walks of a candidate are there, and their dates fit
      pub can_walk : (w : Walks) → w.board.now ≡ b → w.media.now ≡ d.archi.media → w.routes.now ≡ d.routes → w.reads.now ≡ reads → CanWalk w v p
      can_walk w board media routes rs =
          let same : reads_in w v ≡ distinct (sources (task_of d) v) = ap (λ (l : List (List Source)). slice_index_or l v []) rs ∙ read_sources v there in
          record {
            ways = subst (λ (x : Board). All (HasWay w.media.now x (route_in w.routes.now) w.routes.now.operators p) (reads_in w v)) (sym board)
                (subst (λ (x : List Medium). All (HasWay x b (route_in w.routes.now) w.routes.now.operators p) (reads_in w v)) (sym media)
                (subst (λ (x : RouteTable). All (HasWay d.archi.media b (route_in x) x.operators p) (reads_in w v)) (sym routes)
                (subst (λ (x : List Source). All (HasWay d.archi.media b (route_in d.routes) d.routes.operators p) x) (sym same) ways)));
            fits = subst (λ (x : Board). FitsAll w.media.now x (route_in w.routes.now) p (reads_in w v) (walk x.ends 0)) (sym board)
                (subst (λ (x : List Medium). FitsAll x b (route_in w.routes.now) p (reads_in w v) (walk b.ends 0)) (sym media)
                (subst (λ (x : RouteTable). FitsAll d.archi.media b (route_in x) p (reads_in w v) (walk b.ends 0)) (sym routes)
                (subst (λ (x : List Source). FitsAll d.archi.media b (route_in d.routes) p x (walk b.ends 0)) (sym same) stays.fits)));
          }

      -- the walk over the tables finds the arrival
      pub arrival_same : (media : List Medium) → media ≡ d.archi.media
          → (fetch_all (time_in media b) (held_in b) (on_in b) (route_in d.routes) p (slice_index_or reads v []) (walk b.ends 0)).date ≡ arrival (task_of d) (acts_of d.decisions) v p
      arrival_same media same =
          (λ i. (fetch_all (time_in (same i) b) (held_in b) (on_in b) (route_in d.routes) p (read_sources v there i) (walk b.ends 0)).date)
          ∙ sym (arrivals_are_in_tables (task_of d) told.site.given d.decisions b v p told.right told.tells can on).0

      greatest_low : (us : List ℕ) → greatest (map (λ u. slice_index_or b.ended u 0) us) ≤ rise * length d.decisions
      greatest_low [] = omega arith
      greatest_low (u ∷ us) = let e = told.low.ended u in let r = greatest_low us in omega arith

      start_low : start_in (task_of d) b v p ≤ rise * length d.decisions + 2080000000 * length (distinct (sources (task_of d) v))
      start_low = let a = stays.below.date in let o = told.low.busy p in let h = greatest_low (halves (task_of d) v) in omega arith

      -- no sum of a placement is too great
      pub end_low : start_in (task_of d) b v p + 1000000000 ≤ rise * length d.decisions + rise
      end_low = let s = start_low in let n = count in omega arith

      pub low_enough : rise * length d.decisions + rise < 2 ^ 62
      low_enough = let l = few in omega arith

      transfers_low : EndBy (rise * length d.decisions + rise) (transfers_in (task_of d) b v p)
      transfers_low = let n = count in
          end_by_more (rise * length d.decisions + 2080000000 * length (distinct (sources (task_of d) v)))
          (rise * length d.decisions + rise) (omega arith) (transfers_in (task_of d) b v p) stays.ends

-- What a placement asks for.
module _ (d : Drafted) (b : Board) (reads : List (List Source)) (told : IsTold d b reads) (v p : ℕ) (may : may_place (task_of d) (acts_of d.decisions) v p ≡ true) where
  can : is_candidate (task_of d) (acts_of d.decisions) v ≡ true
  can = (and_parts (is_candidate (task_of d) (acts_of d.decisions) v) (may_stand (task_of d) (acts_of d.decisions) v p) may).0

  pub on : p < length d.archi.operators
  on =
      let m = (and_parts (is_candidate (task_of d) (acts_of d.decisions) v) (may_stand (task_of d) (acts_of d.decisions) v p) may).1 in
      let q = and_parts (nat_lt p (length d.archi.operators) && is_some (entry_in d.durations v p)) (list_all (λ u. nat_eq (operator_of (acts_of d.decisions) u) p) (halves (task_of d) v)) m in
      ltb-true p (length d.archi.operators) (and_parts (nat_lt p (length d.archi.operators)) (is_some (entry_in d.durations v p)) q.0).0

  abbrev pub lasting : ℕ
  lasting = ticks_in (entry_in d.durations v p)

  abbrev pub map_of : Task
  map_of = routing d.graph d.archi d.routes

  abbrev pub chosen : Decision
  chosen = decision_in (routing d.graph d.archi d.routes) b v p (ticks_in (entry_in d.durations v p))

  pub record Asks : Type 0 where
    pub media : length d.archi.media ≤ 16
    pub operator : p < d.routes.operators
    pub few : p < 16
    pub operation : v < length d.graph.vertices
    pub first : v < length b.first
    pub place : v < length b.places
    pub ended : v < length b.ended
    pub reads_same : slice_index_or reads v [] ≡ distinct (sources (routing d.graph d.archi d.routes) v)
    pub ways : All (HasWay d.archi.media b (route_in d.routes) d.routes.operators p) (slice_index_or reads v [])
    pub fits : FitsAll d.archi.media b (route_in d.routes) p (slice_index_or reads v []) (walk b.ends 0)
    pub ends : start_in (routing d.graph d.archi d.routes) b v p + ticks_in (entry_in d.durations v p) < 2 ^ 64
    pub lands : All (λ c. HasPlace b (copy c.to c.source) × (c.medium < 16)) (transfers_in (routing d.graph d.archi d.routes) b v p)
    pub outputs : (j : ℕ) → j < length (outs_of (routing d.graph d.archi d.routes) v) → (slice_index_or b.first v 0 + j) * b.operators + p < length b.held

  pub asks : Asks
  asks =
      let l = there d b reads told v can in
      let same = read_sources d b reads told v l in
      let o = told.site.routes.operators in
      let few' = told.site.operators in
      let at = on in
      let f = told.firsts in
      let ps = told.tells.operations in
      let es = told.tells.all_ended in
      let end = end_low d b reads told v can p on in
      let room = low_enough d b reads told v can p on in
      let long = told.site.bounded v p in
      record {
        media = told.site.media;
        operator = omega arith;
        few = omega arith;
        operation = l;
        first = omega arith;
        place = omega arith;
        ended = omega arith;
        reads_same = same;
        ways = subst (λ (x : List Source). All (HasWay d.archi.media b (route_in d.routes) d.routes.operators p) x) (sym same) (ways d b reads told v can p on);
        fits = subst (λ (x : List Source). FitsAll d.archi.media b (route_in d.routes) p x (walk b.ends 0)) (sym same) (stays d b reads told v can p on).fits;
        ends = omega arith;
        lands = (placements_land (task_of d) told.site.given d.decisions b v p told.right told.tells may).0;
        outputs = λ j k. places j k (vertex_of d.graph.vertices v l);
      }
    where
      places : (j : ℕ) → j < length (outs_of (routing d.graph d.archi d.routes) v) → (x : Vertex) × (slice_get d.graph.vertices v ≡ Some x)
          → (slice_index_or b.first v 0 + j) * b.operators + p < length b.held
      places j k x =
          let outs : outs_of (routing d.graph d.archi d.routes) v ≡ x.0.outs = ap (λ (o : Option Vertex). with_vertex o [] (λ y. y.outs)) x.1 in
          let e = ap length outs in
          let len : len_of d.graph.vertices (record { vertex = v; port = j }) ≡ slice_index_or x.0.outs j 0 = ap (λ (o : Option Vertex). with_vertex o 0 (λ y. slice_index_or y.outs j 0)) x.1 in
          let low = lens_there (task_of d) told.site.given.flat v x.0 x.1 j (omega arith) in
          (told.tells.outputs (record { vertex = v; port = j }) (omega arith)).place p on

  -- the decision is the one that the tables tell
  pub decided : decision (task_of d) (acts_of d.decisions) v p ≡ decision_in (routing d.graph d.archi d.routes) b v p (ticks_in (entry_in d.durations v p))
  decided =
      let r = placements_are_in_tables (task_of d) told.site.given d.decisions b v p told.right told.tells may in
      λ i. record { op = v; operator = p; start = r.1 i; end = r.1 i + ticks_in (entry_in d.durations v p); transfers = r.0 i }

  -- after it the tables tell of the decisions with it
  pub told_after : (nb : Board) → nb
      ≡ after_operation (after_transfers b (transfers_in (routing d.graph d.archi d.routes) b v p))
      (outs_of (routing d.graph d.archi d.routes) v) (decision_in (routing d.graph d.archi d.routes) b v p (ticks_in (entry_in d.durations v p)))
      → IsTold (after_placing d v p) nb reads
  told_after nb is =
      let r = placements_are_in_tables (task_of d) told.site.given d.decisions b v p told.right told.tells may in
      let nb' = after_operation (after_transfers b (transfers_in (task_of d) b v p)) (outs_of (task_of d) v)
      (decision_in (routing d.graph d.archi d.routes) b v p (ticks_in (entry_in d.durations v p))) in
      let size : length (d.decisions ++ decision (task_of d) (acts_of d.decisions) v p ∷ [])
      ≡ length d.decisions + 1 = length-append d.decisions (decision (task_of d) (acts_of d.decisions) v p ∷ []) in
      let sizes = same_sizes b (transfers_in (task_of d) b v p) in
      let end = end_low d b reads told v can p on in
      let long = told.site.bounded v p in
      let low = low_operation (rise * length d.decisions + rise) (after_transfers b (transfers_in (task_of d) b v p))
      (outs_of (task_of d) v) (decision_in (routing d.graph d.archi d.routes) b v p (ticks_in (entry_in d.durations v p)))
      (low_transfers (rise * length d.decisions + rise) b (transfers_in (task_of d) b v p)
      (low_more (rise * length d.decisions) (rise * length d.decisions + rise) b (omega arith) told.low)
      (transfers_low d b reads told v can p on)) (omega arith) in
      let c = candidate_given (task_of d) told.site.given.flat (acts_of d.decisions) v can in
      let l = there d b reads told v can in
      let free : slice_index_or b.places v None ≡ None = told.tells.places v l ∙ ap (λ (x : Bool). cond x (Some (operator_of (acts_of d.decisions) v)) None) c.fresh in
      let left = one_none_less b.places v p (asks).place free in
      let counted = told.counted in
      let places = ap (λ (os : List (Option ℕ)). nones (slice_set os v (Some p))) (same_places b (transfers_in (task_of d) b v p)) in
      subst (λ (x : Board). IsTold (after_placing d v p) x reads) (sym is) (record {
        site = record {
          given = told.site.given;
          routes = told.site.routes;
          rows = told.site.rows;
          columns = told.site.columns;
          bounded =
              told.site.bounded;
          operations = told.site.operations;
          operators = told.site.operators;
          media = told.site.media;
        };
        right = placed_rightly_behind (task_of d) told.site.given d.decisions v p told.right may;
        tells = subst (λ (x : Decision). Tells (task_of d) (acts_of (d.decisions ++ decision (task_of d) (acts_of d.decisions) v p ∷ []))
            (after_operation (after_transfers b (transfers_in (task_of d) b v p)) (outs_of (task_of d) v) x)) decided r.2;
        reads_are = told.reads_are;
        few_reads = told.few_reads;
        low = low_more (rise * length d.decisions + rise) (rise * length (d.decisions ++ decision (task_of d) (acts_of d.decisions) v p ∷ [])) nb' (omega arith) low;
        firsts = ap length sizes.first ∙ told.firsts;
        counted = omega arith;
      })
