-- The first state of a draft, and facts of its parts.
use Rattle.std.proofs.Common.{◌≡◌, ℕ, zero, suc, ◌+◌, ◌<◌, ◌≤◌, Bool, true, ◌&&◌, List, [], ◌∷◌, map, length, Option, Some, None, refl, sym, ap, subst, arith, ◌∙◌, inl, inr}
use Rattle.std.specs.Prelude.{All, IfSome, is_some, nat_eq, nat_le, slice_get, slice_index_or}
use Rattle.std.specs.List.{list_all, list_any}
use Rattle.std.proofs.lemmas.Bool.{false≢true, and_parts, or_cases, lt-ltb}
use Rattle.route_table.specs.Table.{RouteTable, IsTableOf}
use Rattle.schedule.specs.declared.Source.{Source}
use Rattle.schedule.specs.declared.Vertex.{Vertex}
use Rattle.schedule.specs.Graph.{Graph, with_vertex, len_of}
use Rattle.schedule.specs.FlatOrder.{get_half}
use Rattle.schedule.specs.FlatValid.{is_flat, HasFewOutputs}
use Rattle.schedule.specs.Archi.{Architecture, is_archi}
use Rattle.schedule.specs.Table.{Table, entry_in, IsRow, StandBeside}
use Rattle.schedule.specs.Fitting.{IsOf}
use Rattle.schedule.proofs.SetHalves.{half_of_graph}
use Rattle.schedule.specs.Acts.{sources_of}
use Rattle.schedule.proofs.Copies.{few_outputs, sources_have_len, output_there}
use Rattle.schedule.proofs.Decided.{few_operations}
use Rattle.schedule.proofs.Archis.{few_operators, few_media}
use Rattle.comm_routing.specs.Board.{Board, on_in}
use Rattle.comm_routing.specs.Placing.{ticks_in}
use Rattle.comm_routing.specs.Start.{firsts_from, IsStart, IsThere, AreThere, reads_of}
use Rattle.comm_routing.specs.Draft.{Drafted, IsSite, IsTold, task_of}
use Rattle.comm_routing.specs.Candidates.{flag_at}
use Rattle.comm_routing.specs.Progress.{may_stand_in, may_place_in}
use Rattle.comm_routing.specs.declared.candidates.Candidates.{Candidates}
use Rattle.comm_routing.proofs.Starting.{told_at_start}
use Rattle.comm_routing.proofs.Low.{all_none}

pub at_default : {A : Type 0} (xs : List A) (v : ℕ) (d e : A) → v < length xs → slice_index_or xs v d ≡ slice_index_or xs v e
at_default [] v d e l = absurd (omega arith)
at_default (x ∷ xs) zero d e l = refl
at_default (x ∷ xs) (suc v) d e l = at_default xs v d e (omega arith)

pub vertex_at : (xs : List Vertex) (v : ℕ) (x : Vertex) → v < length xs → x ≡ slice_index_or xs v x → slice_get xs v ≡ Some x
vertex_at [] v x l e = absurd (omega arith)
vertex_at (y ∷ xs) zero x l e = ap (λ (z : Vertex). Some z) (sym e)
vertex_at (y ∷ xs) (suc v) x l e = vertex_at xs v x (omega arith) e

get_at : (xs : List Vertex) (k : ℕ) (d : Vertex) → k < length xs → slice_get xs k ≡ Some (slice_index_or xs k d)
get_at [] k d l = absurd (omega arith)
get_at (x ∷ xs) zero d l = refl
get_at (x ∷ xs) (suc k) d l = get_at xs k d (omega arith)

module _ (g : Graph) (flat : is_flat g ≡ true) (vs : List Vertex) (same : vs ≡ g.vertices) where
  at_graph : (k : ℕ) (d : Vertex) → k < length vs → slice_get g.vertices k ≡ Some (slice_index_or vs k d)
  at_graph k d l = ap (λ (xs : List Vertex). slice_get xs k) (sym same) ∙ get_at vs k d l

  pub all_few : All HasFewOutputs vs
  all_few k d l = few_outputs g flat k (slice_index_or vs k d) (at_graph k d l)

  pub all_there : All (AreThere (length vs)) vs
  all_there k d l = each (sources_of (Some (slice_index_or vs k d))) (sources_have_len g flat k (slice_index_or vs k d) (at_graph k d l))
    where
      each : (xs : List Source) → list_all (λ s. nat_le 1 (len_of g.vertices s)) xs ≡ true → All (IsThere (length vs)) xs
      each [] h j e l = absurd (omega arith)
      each (x ∷ xs) h zero e l =
          let o = output_there g.vertices x (and_parts (nat_le 1 (len_of g.vertices x)) (list_all (λ s. nat_le 1 (len_of g.vertices s)) xs) h).0 in
          let few = few_outputs g flat x.vertex o.it o.is in
          let n = ap length same in
          let v = o.vertex in
          let p = o.port in
          record { vertex = omega arith; port = omega arith }
      each (x ∷ xs) h (suc j) e l = each xs (and_parts (nat_le 1 (len_of g.vertices x)) (list_all (λ s. nat_le 1 (len_of g.vertices s)) xs) h).1 j e (omega arith)

length-firsts : (a : ℕ) (xs : List Vertex) → length (firsts_from a xs) ≡ length xs
length-firsts a [] = refl
length-firsts a (x ∷ xs) = ap suc (length-firsts (a + length x.outs) xs)

-- an entry for each operation, on some operator
row_some : (os : List (Option ℕ)) → list_any is_some os ≡ true → (o : ℕ) × (o < length os) × (is_some (slice_index_or os o None) ≡ true)
row_some [] h = absurd (false≢true h)
row_some (x ∷ os) h = elim (or_cases (is_some x) (list_any is_some os) h) [
  | inl e ↦ (0, (omega arith), e)
  | inr e ↦ (let r = row_some os e in (suc r.0, (let l = r.1 in omega arith), r.2))
]

-- the parts make a site
pub site_of : (g : Graph) (a : Architecture) (r : RouteTable) (table : Table) → is_flat g ≡ true → is_archi a.operators a.media ≡ true
    → IsTableOf a r → IsOf g a table → All (IsRow table.operators) table.rows
    → StandBeside table → IsSite (record { graph = g; archi = a; routes = r; durations = table; decisions = [] })
site_of g a r table flat archi routes fits rows beside = record {
  given = record {
    flat = flat;
    archi = archi;
    routes = λ from to f o. (let same = routes.operators in routes.least from to (omega arith) (omega arith));
    somewhere = λ v l.
        let n = fits.operations in
        let row = rows v [] (omega arith) in
        let s = row_some (slice_index_or table.rows v []) row.some in
        let e = row.each in
        let c = fits.operators in
        let low = s.1 in
        (s.0, (omega arith), s.2);
    beside = λ v u o h l may. (let c = fits.operators in beside v u o (half_of_graph g a table fits v u h) (omega arith) may);
  };
  routes = routes;
  rows = fits.operations;
  columns = fits.operators;
  bounded = bound;
  operations = few_operations g flat;
  operators = few_operators a archi;
  media = few_media a archi;
}
  where
    bound_in : (os : List (Option ℕ)) → All (λ e. IfSome e (λ t. t ≤ 1000000000)) os → (o : ℕ) → ticks_in (slice_index_or os o None) ≤ 1000000000
    bound_in [] h o = omega arith
    bound_in (x ∷ os) h zero = by x (h 0 x (omega arith))
      where
        by : (x : Option ℕ) → IfSome x (λ t. t ≤ 1000000000) → ticks_in x ≤ 1000000000
        by None h = omega arith
        by (Some n) h = h
    bound_in (x ∷ os) h (suc o) = bound_in os (λ k d l. h (suc k) d (omega arith)) o

    bound_rows : (rs : List (List (Option ℕ))) → All (IsRow table.operators) rs → (v o : ℕ) → ticks_in (slice_index_or (slice_index_or rs v []) o None) ≤ 1000000000
    bound_rows [] h v o = omega arith
    bound_rows (x ∷ rs) h zero o = bound_in x (h 0 x (omega arith)).bounded o
    bound_rows (x ∷ rs) h (suc v) o = bound_rows rs (λ k d l. h (suc k) d (omega arith)) v o

    bound : (v o : ℕ) → ticks_in (entry_in table v o) ≤ 1000000000
    bound v o = bound_rows table.rows rows v o

-- before the first decision
pub told_begin : (g : Graph) (a : Architecture) (r : RouteTable) (table : Table)
    → IsSite (record { graph = g; archi = a; routes = r; durations = table; decisions = [] }) → (b : Board) (reads : List (List Source)) (ops : ℕ)
    → (vs : List Vertex) → vs ≡ g.vertices → IsStart vs ops b → ops ≡ length a.operators → reads ≡ map reads_of g.vertices → All (λ x. length x ≤ 131072) reads
    → IsTold (record { graph = g; archi = a; routes = r; durations = table; decisions = [] }) b reads
told_begin g a r table site b reads ops vs vs_are start_vs same are short =
    let start : IsStart g.vertices ops b = subst (λ (xs : List Vertex). IsStart xs ops b) vs_are start_vs in
    record {
      site = site;
      right = refl;
      tells = told_at_start (task_of (record { graph = g; archi = a; routes = r; durations = table; decisions = [] })) b ops start same site.operators site.media;
      reads_are = are;
      few_reads = short;
      low = record {
        held = λ i. (let e = ap ticks_in (start.none_held i) in omega arith);
        ends = λ m. (let e = start.no_ends m in omega arith);
        busy = λ o. (let e = start.no_busy o in omega arith);
        ended = λ v. (let e = start.no_ended v in omega arith);
      };
      firsts = ap length start.first ∙ length-firsts 0 g.vertices;
      counted = (let n = all_none b.places start.none_placed in let p = start.places in omega arith);
    }

pub stands_in : (d : Drafted) (b : Board) (c : Candidates) (v p : ℕ) (x : Vertex) (r : Bool) → p < length d.archi.operators
    → is_some (entry_in d.durations v p) ≡ true → slice_get d.graph.vertices v ≡ Some x
    → r ≡ list_all (λ u. nat_eq (on_in b u) p) (get_half x.kind x.twin) → r ≡ may_stand_in d b c v p
stands_in d b c v p x r on has is e =
    e ∙ (λ i. (sym (lt-ltb p (length d.archi.operators) on) i && sym has i) && list_all (λ u. nat_eq (on_in b u) p) (with_vertex (sym is i) [] (λ y. get_half y.kind y.twin)))

pub places_in : (d : Drafted) (b : Board) (c : Candidates) (v p : ℕ) (r : Bool) → v < length d.graph.vertices → flag_at c v ≡ true → r ≡ may_stand_in d b c v p → r ≡ may_place_in d b c v p
places_in d b c v p r l f e = e ∙ (λ i. sym (lt-ltb v (length d.graph.vertices) l) i && (sym f i && may_stand_in d b c v p))

pub length-reads : (xs : List Vertex) → length (map reads_of xs) ≡ length xs
length-reads [] = refl
length-reads (x ∷ xs) = ap suc (length-reads xs)
