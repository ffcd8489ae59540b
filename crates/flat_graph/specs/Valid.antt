-- Which flat graphs are valid.
use Rattle.std.specs.Prelude.{
  ℕ,
  ◌+◌,
  Bool,
  true,
  false,
  ◌&&◌,
  ◌||◌,
  not,
  ◌==◌,
  nat_le,
  nat_lt,
  List,
  [],
  ◌∷◌,
  map,
  length,
  sum,
  Option,
  None,
  Some,
  is_none,
  slice_get,
  ◌≤◌,
}
use Rattle.std.specs.List.{list_all, list_any}
use Rattle.std.specs.Str.{bytes_eq}
use Rattle.syn_base.specs.Name.{is_name_byte}
use Rattle.body_lang.specs.Expr.{Expr, literal, index, element, sum_over, negation, apply, select}
use Rattle.flat_graph.specs.declared.vertex.Guard.{Guard}
use Rattle.flat_graph.specs.declared.vertex.Kind.{Kind}
use Rattle.flat_graph.specs.declared.vertex.Kind.TheVariants.{
  Sensor,
  Actuator,
  Function,
  Constant,
  Get,
  Set,
  Explode,
  Implode,
  Merge,
}
use Rattle.flat_graph.specs.declared.vertex.Vertex.{Vertex}
use Rattle.flat_graph.specs.Graph.{Graph, with_vertex, len_of, lens_of}
use Rattle.flat_graph.specs.Order.{is_acyclic}

-- A letter, a digit, `_`, `.`, `/` or `:`.
abbrev pub is_path_byte : ℕ → Bool
is_path_byte b = is_name_byte b || (b == 46) || (b == 47) || (b == 58)

-- The text may be the name of an operation: one or more letters, digits, `_`, `.`, `/` and `:`.
abbrev pub is_path : List ℕ → Bool
is_path name = nat_le 1 (length name) && list_all is_path_byte name

-- Each name is that of one operation.
abbrev pub are_named_apart : List Vertex → Bool
are_named_apart [] = true
are_named_apart (x ∷ xs) = not (list_any (λ y. bytes_eq x.name y.name) xs) && are_named_apart xs

-- The number is the length of a vector: 1 to 64.
abbrev pub is_len : ℕ → Bool
is_len n = nat_le 1 n && nat_le n 64

-- The operation has at most 64 outputs.
abbrev pub HasFewOutputs : Vertex → Type 0
HasFewOutputs x = length x.outs ≤ 64

-- The guard's source has one element, and its case is there.
abbrev pub is_guard : List Vertex → Guard → Bool
is_guard vertices g = (len_of vertices g.source == 1) && nat_le g.case (length g.values)

-- Each port that the expression names is below n.
abbrev pub ports_below : ℕ → Expr → Bool
ports_below n (literal v) = true
ports_below n index = true
ports_below n (element k e) = nat_lt k n && ports_below n e
ports_below n (sum_over k) = nat_lt k n
ports_below n (negation e) = ports_below n e
ports_below n (apply op a b) = ports_below n a && ports_below n b
ports_below n (select c a b) = ports_below n c && (ports_below n a && ports_below n b)

-- An expression for each output, of which there is one at least, over this many inputs.
abbrev pub is_body : ℕ → ℕ → Option (List Expr) → Bool
is_body ins outs None = false
is_body ins outs (Some es) = nat_le 1 outs && ((length es == outs) && list_all (ports_below ins) es)

-- This length alone.
abbrev pub is_only : ℕ → List ℕ → Bool
is_only n [] = false
is_only n (x ∷ []) = x == n
is_only n (x ∷ y ∷ ys) = false

-- A conditioning input, and for each case an input as long as the output.
abbrev pub is_merge : ℕ → List ℕ → List ℕ → Bool
is_merge values [] outs = false
is_merge values (c ∷ lens) outs = (c == 1) && (length lens == values + 1) && list_all (λ n. is_only n outs) lens

-- All of these lengths are the same.
abbrev pub are_equal : List ℕ → Bool
are_equal [] = true
are_equal (n ∷ ns) = list_all (λ m. m == n) ns

-- The one whole of this length is in parts of these lengths, which are equally long.
abbrev pub is_in_equal_parts : List ℕ → List ℕ → Bool
is_in_equal_parts whole parts = is_only (sum parts) whole && are_equal parts

-- Inputs of these lengths and outputs of those fit the kind.
abbrev pub fits : List (List Expr) → Kind → List ℕ → List ℕ → Bool
fits bodies (Sensor i) lens outs = (length lens == 0) && (length outs == 1)
fits bodies (Actuator i) lens outs = (length lens == 1) && (length outs == 0)
fits bodies (Function b) lens outs = is_body (length lens) (length outs) (slice_get bodies b)
fits bodies (Constant z) lens outs = (length lens == 0) && is_only (length z) outs
fits bodies (Get z) lens outs = (length lens == 0) && is_only (length z) outs
fits bodies Set lens outs = (length lens == 1) && (length outs == 0)
fits bodies Explode lens outs = is_in_equal_parts lens outs
fits bodies Implode lens outs = is_in_equal_parts outs lens
fits bodies (Merge values) lens outs = is_merge (length values) lens outs

-- A number is given, and it is v.
abbrev pub is_number : Option ℕ → ℕ → Bool
is_number None v = false
is_number (Some u) v = u == v

-- The operation y, of this kind, is the set half of a delay of this length, whose get
-- half is operation v.
abbrev pub is_set_half_by : List Vertex → ℕ → ℕ → Vertex → Kind → Bool
is_set_half_by vertices v len y Set = is_number y.twin v && is_only len (lens_of vertices y.ins)
is_set_half_by vertices v len y _ = false

-- It is the set half of a delay of this length, whose get half is operation v.
abbrev pub is_set_half_of : List Vertex → ℕ → ℕ → Vertex → Bool
is_set_half_of vertices v len y = is_set_half_by vertices v len y y.kind

-- The operation y, of this kind, is the get half of a delay whose set half is operation v.
abbrev pub is_get_half_by : ℕ → Vertex → Kind → Bool
is_get_half_by v y (Get z) = is_number y.twin v
is_get_half_by v y _ = false

-- It is the get half of a delay whose set half is operation v.
abbrev pub is_get_half_of : ℕ → Vertex → Bool
is_get_half_of v y = is_get_half_by v y y.kind

-- The twin of the get half v of a delay of this length is its set half, a later operation.
abbrev pub has_set_half : List Vertex → ℕ → ℕ → Option ℕ → Bool
has_set_half vertices v len None = false
has_set_half vertices v len (Some t) =
    nat_lt v t && with_vertex (slice_get vertices t) false (is_set_half_of vertices v len)

-- The twin of the set half v is its get half, an earlier operation.
abbrev pub has_get_half : List Vertex → ℕ → Option ℕ → Bool
has_get_half vertices v None = false
has_get_half vertices v (Some u) = nat_lt u v && with_vertex (slice_get vertices u) false (is_get_half_of v)

-- The halves of a delay are each other's twins, and the set half stands later; no other operation has a twin.
abbrev pub has_twin : List Vertex → ℕ → Kind → Option ℕ → Bool
has_twin vertices v (Get z) twin = has_set_half vertices v (length z) twin
has_twin vertices v Set twin = has_get_half vertices v twin
has_twin vertices v _ twin = is_none twin

-- Operation v is valid.
abbrev pub is_vertex : Graph → ℕ → Vertex → Bool
is_vertex g v x =
    is_path x.name &&
    (nat_le (length x.outs) 64 && list_all is_len x.outs) &&
    list_all (is_guard g.vertices) x.guards &&
    list_all (nat_le 1) (lens_of g.vertices x.ins) &&
    fits g.bodies x.kind (lens_of g.vertices x.ins) x.outs &&
    has_twin g.vertices v x.kind x.twin

-- Each of these operations, numbered from v on, passes the test together with its number.
abbrev pub all_from : (ℕ → Vertex → Bool) → ℕ → List Vertex → Bool
all_from test v [] = true
all_from test v (x ∷ xs) = test v x && all_from test (v + 1) xs

-- The sensors are numbered from this number on, in order.
abbrev pub sensors_from : ℕ → List Kind → Bool
sensors_from n [] = true
sensors_from n (Sensor i ∷ kinds) = (i == n) && sensors_from (n + 1) kinds
sensors_from n (_ ∷ kinds) = sensors_from n kinds

-- The actuators are numbered from this number on, in order.
abbrev pub actuators_from : ℕ → List Kind → Bool
actuators_from n [] = true
actuators_from n (Actuator i ∷ kinds) = (i == n) && actuators_from (n + 1) kinds
actuators_from n (_ ∷ kinds) = actuators_from n kinds

-- The kinds of the operations, in order.
abbrev pub kinds_of : List Vertex → List Kind
kinds_of vertices = map (λ x. x.kind) vertices

-- The flat graph is valid: it has at most 2,048 operations, each of them valid and with a name of
-- its own, its sensors and its actuators are each numbered from 0 in order, and no operation
-- depends on itself within a reaction.
abbrev pub is_flat : Graph → Bool
is_flat g =
    nat_le (length g.vertices) 2048 &&
    are_named_apart g.vertices &&
    all_from (is_vertex g) 0 g.vertices &&
    sensors_from 0 (kinds_of g.vertices) &&
    actuators_from 0 (kinds_of g.vertices) &&
    is_acyclic g.vertices
