-- Transfers lead to places of the table; media are quick.
use Rattle.std.proofs.Common.{◌≡◌, ℕ, zero, suc, ◌*◌, ◌<◌, ◌≤◌, true, ◌&&◌, List, [], ◌∷◌, ◌++◌, map, length, Option, Some, None, refl, sym, ap, subst, arith, ◌∙◌, mul-le-mul}
use Rattle.std.specs.Prelude.{slice_get, slice_index_or, nat_lt, nat_le, All}
use Rattle.std.specs.List.{list_all}
use Rattle.std.proofs.lemmas.Bool.{and_parts, leb-true}
use Rattle.std.proofs.lemmas.List.{append_assoc}
use Rattle.std.proofs.lemmas.List.Elements.{All-nil, All-cons}
use Rattle.schedule.specs.declared.Source.{Source}
use Rattle.schedule.specs.declared.Vertex.{Vertex}
use Rattle.schedule.specs.Graph.{with_vertex, len_of, lens_of}
use Rattle.schedule.specs.FlatValid.{is_len, is_path, is_guard, fits, has_twin}
use Rattle.schedule.proofs.Facts.{vertex_valid}
use Rattle.schedule.specs.declared.Medium.{Medium}
use Rattle.schedule.specs.Archi.{is_medium, are_bounded, are_distinct, are_joined, names_of, may_stand as may_stand_there, ascends_from}
use Rattle.schedule.specs.declared.decision.Transfer.{Transfer}
use Rattle.schedule.specs.Acts.{Act, carry, run, acts_of, copy}
use Rattle.schedule.specs.Valid.{are_right}
use Rattle.schedule.proofs.Behind.{right-append}
use Rattle.route_table.proofs.Joined.{facts}
use Rattle.comm_routing.specs.Task.{Task}
use Rattle.comm_routing.specs.Given.{IsTask}
use Rattle.comm_routing.specs.Placing.{is_placed, time_over, sources, transfers, decision, is_candidate, may_stand}
use Rattle.comm_routing.specs.Walk.{distinct}
use Rattle.comm_routing.specs.Board.{HasPlace, time_in, len_in}
use Rattle.comm_routing.specs.Tables.{PlacementsLand}
use Rattle.comm_routing.proofs.Right.{good, right, is_given, candidate_given, placed_rightly}
use Rattle.comm_routing.proofs.Arrivals.{from_distinct, all_there}
use Rattle.comm_routing.proofs.Tables.{all_from}
use Rattle.comm_routing.proofs.Given.{sound}
use Rattle.comm_routing.proofs.Placed.{placements_are_in_tables}

-- where a transfer leads
record Leads (t : Task) (c : Transfer) : Type 0 where
  medium : c.medium < length t.archi.media
  to : c.to < length t.archi.operators
  source : 1 ≤ len_of t.graph.vertices c.source

all_lead : (t : Task) → IsTask t → (acts : List Act) (cs : List Transfer) → good t (acts ++ map carry cs) ≡ true → All (Leads t) cs
all_lead t given acts [] g = All-nil (Leads t)
all_lead t given acts (c ∷ cs) g =
    let joined = append_assoc acts (carry c ∷ []) (map carry cs) in
    let all : good t ((acts ++ carry c ∷ []) ++ map carry cs) ≡ true = ap (λ (l : List Act). good t l) joined ∙ g in
    let parts = and_parts (good t (acts ++ carry c ∷ [])) (are_right t.graph t.archi t.ticks (acts ++ carry c ∷ []) (map carry cs))
    (sym (right-append t.graph t.archi t.ticks [] (acts ++ carry c ∷ []) (map carry cs)) ∙ all) in
    let first = and_parts (good t acts) (right t acts (carry c) && true) (sym (right-append t.graph t.archi t.ticks [] acts (carry c ∷ [])) ∙ parts.0) in
    let s = sound t given acts c first.0 (and_parts (right t acts (carry c)) true first.1).0 in
    All-cons (Leads t) c cs (record { medium = s.medium; to = s.to; source = s.source }) (all_lead t given (acts ++ carry c ∷ []) cs all)

all_map : {A : Type 0} (P Q : A → Type 0) → ((x : A) → P x → Q x) → (xs : List A) → All P xs → All Q xs
all_map P Q f xs h i d l = f (slice_index_or xs i d) (h i d l)

-- lengths are at most 64
pub len_low : (t : Task) → IsTask t → (x : Source) → len_of t.graph.vertices x ≤ 64
len_low t given x = by (slice_get t.graph.vertices x.vertex) refl
  where
    among : (ns : List ℕ) (k : ℕ) → list_all is_len ns ≡ true → slice_index_or ns k 0 ≤ 64
    among [] k h = omega arith
    among (n ∷ ns) zero h = leb-true n 64 (and_parts (nat_le 1 n) (nat_le n 64) (and_parts (is_len n) (list_all is_len ns) h).0).1
    among (n ∷ ns) (suc k) h = among ns k (and_parts (is_len n) (list_all is_len ns) h).1

    by : (o : Option Vertex) → slice_get t.graph.vertices x.vertex ≡ o → with_vertex o 0 (λ y. slice_index_or y.outs x.port 0) ≤ 64
    by None is = omega arith
    by (Some y) is =
        let valid = vertex_valid t.graph given.flat x.vertex y is in
        let named = is_path y.name in
        let outs = nat_le (length y.outs) 64 && list_all is_len y.outs in
        let guards = list_all (is_guard t.graph.vertices) y.guards in
        let ins = list_all (nat_le 1) (lens_of t.graph.vertices y.ins) in
        let fit = fits t.graph.bodies y.kind (lens_of t.graph.vertices y.ins) y.outs in
        let a = and_parts (named && outs && guards && ins) fit (and_parts (named && outs && guards && ins && fit) (has_twin t.graph.vertices x.vertex y.kind y.twin) valid).0 in
        let b = and_parts (named && outs && guards) ins a.0 in
        let c = and_parts (named && outs) guards b.0 in
        let d = and_parts named outs c.0 in
        among y.outs x.port (and_parts (nat_le (length y.outs) 64) (list_all is_len y.outs) d.1).1

-- a medium takes at most 1,000,000 ticks, and as many for each element
pub time_low : (t : Task) → IsTask t → (m n : ℕ) → n ≤ 64 → time_over (slice_get t.archi.media m) n ≤ 65000000
time_low t given m n l = by t.archi.media m valid
  where
    valid : list_all (is_medium (length t.archi.operators)) t.archi.media ≡ true
    valid =
        let k = length t.archi.operators in
        let bounds = are_bounded t.archi.operators t.archi.media in
        let each = list_all (is_medium k) t.archi.media in
        let names = are_distinct (names_of t.archi.operators t.archi.media) in
        (and_parts bounds each (and_parts (bounds && each) names (and_parts (bounds && each && names) (are_joined k t.archi.media) given.archi).0).0).1

    by : (ms : List Medium) (m : ℕ) → list_all (is_medium (length t.archi.operators)) ms ≡ true → time_over (slice_get ms m) n ≤ 65000000
    by [] m h = omega arith
    by (x ∷ ms) zero h =
        let own = (and_parts (is_medium (length t.archi.operators) x) (list_all (is_medium (length t.archi.operators)) ms) h).0 in
        let stand = may_stand_there x.kind (length x.stands) && ascends_from 0 x.stands && list_all (λ o. nat_lt o (length t.archi.operators)) x.stands in
        let a = and_parts (stand && nat_le x.fixed 1000000) (nat_le x.per 1000000) own in
        let b = and_parts stand (nat_le x.fixed 1000000) a.0 in
        let per = leb-true x.per 1000000 a.1 in
        let fixed = leb-true x.fixed 1000000 b.1 in
        let product : n * x.per ≤ 64 * 1000000 = mul-le-mul l per in
        omega arith
    by (x ∷ ms) (suc m) h = by ms m (and_parts (is_medium (length t.archi.operators) x) (list_all (is_medium (length t.archi.operators)) ms) h).1

pub placements_land : PlacementsLand
placements_land t given ds b v p g tells may =
    let acts = acts_of ds in
    let both = and_parts (is_candidate t acts v) (may_stand t acts v p) may in
    let c = candidate_given t given.flat acts v both.0 in
    let cs = transfers t acts v p in
    let after = placed_rightly t given.flat (λ from to f o. (given.routes from to f o).route) acts v p g both.0 both.1 in
    let mid = (and_parts (good t (acts ++ map carry cs)) (right t (acts ++ map carry cs) (run (decision t acts v p)) && true)
    (sym (right-append t.graph t.archi t.ticks [] (acts ++ map carry cs) (run (decision t acts v p) ∷ [])) ∙ after)).0 in
    let few = (facts t.archi given.archi).few_media in
    let lead = all_map (Leads t) (λ c. HasPlace b (copy c.to c.source) × (c.medium < 16))
    (λ c l. (
      record { source = (tells.outputs c.source l.source).output; place = (tells.outputs c.source l.source).place c.to l.to },
      (let k = l.medium in omega arith),
    )) cs (all_lead t given acts cs mid) in (
      subst (λ (xs : List Transfer). All (λ c. HasPlace b (copy c.to c.source) × (c.medium < 16)) xs) (placements_are_in_tables t given ds b v p g tells may).0 lead,
      all_from (λ x. (m : ℕ) → time_in t.archi.media b m x ≤ 65000000) (distinct (sources t v))
          (λ i x e m.
          let at = from_distinct [] (sources t v) i x e in
          let parts = and_parts (is_placed acts x.vertex) (nat_le 1 (len_of t.graph.vertices x)) (all_there (is_given t acts) (sources t v) c.given at.0 x at.1) in
          let same = (tells.outputs x (leb-true 1 (len_of t.graph.vertices x) parts.1)).len in
          let low = len_low t given x in
          time_low t given m (len_in b x) (omega arith)),
    )
