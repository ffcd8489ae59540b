-- How long it takes from a sensor to an actuator that depends on it in the same reaction.
use Rattle.std.specs.Prelude.{
  ℕ,
  zero,
  suc,
  ◌-◌,
  Bool,
  true,
  false,
  ◌&&◌,
  ◌||◌,
  nat_eq,
  if◌then◌else◌,
  List,
  [],
  ◌++◌,
  map,
  length,
  slice_get,
  filter,
  flat_map,
}
use Rattle.std.specs.List.{list_any, range_with_len}
use Rattle.sequence_build_laws.specs.declared.Vertex.{Vertex}
use Rattle.sequence_build_laws.specs.declared.Kind.{Kind}
use Rattle.sequence_build_laws.specs.declared.Kind.TheVariants.{Sensor, Actuator}
use Rattle.sequence_build_laws.specs.Graph.{with_vertex}
use Rattle.self_timed.specs.declared.dates.Span.{Span}
use Rattle.self_timed.specs.Running.{span_in}
use Rattle.self_timed.specs.declared.latency.Latency.{Latency}
use Rattle.syn_base.specs.Numbers.{greatest}

-- the operations whose outputs an operation reads, its guards' first
abbrev pub reads_of : Vertex → List ℕ
reads_of x = map (λ g. g.source.vertex) x.guards ++ map (λ s. s.vertex) x.ins

-- The kind is that of a sensor.
abbrev pub senses : Kind → Bool
senses (Sensor n) = true
senses _ = false

-- The kind is that of an actuator.
abbrev pub drives : Kind → Bool
drives (Actuator n) = true
drives _ = false

module _ (vertices : List Vertex) where
  -- The operations whose outputs operation w reads, those of its guards first, each as often as it
  -- is read, and none if there is no operation w.
  abbrev pub reads : ℕ → List ℕ
  reads w = with_vertex (slice_get vertices w) [] reads_of

  -- operation w reads what v gives, or what one of these gives
  abbrev pub is_after : ℕ → (ℕ → Bool) → ℕ → Bool
  is_after v these w = list_any (λ u. nat_eq u v || these u) (reads w)

  -- Operation w reads what v gives, or what one gives that does, and so on, over at most so many operations. A delay
  -- gives what it kept before, so its halves are no way on.
  abbrev pub leads_within : ℕ → ℕ → ℕ → Bool
  leads_within zero v w = false
  leads_within (suc n) v w = is_after v (leads_within n v) w

  -- Operation w depends on operation v in the same reaction: it reads what v gives, or what another
  -- operation gives that depends on v in this way. What a delay has kept comes from a reaction
  -- before.
  abbrev pub leads_to : ℕ → ℕ → Bool
  leads_to v w = leads_within (length vertices) v w

  -- Operation v is there, and it is a sensor.
  abbrev pub is_sensor : ℕ → Bool
  is_sensor v = with_vertex (slice_get vertices v) false (λ x. senses x.kind)

  -- Operation v is there, and it is an actuator.
  abbrev pub is_actuator : ℕ → Bool
  is_actuator v = with_vertex (slice_get vertices v) false (λ x. drives x.kind)

  -- actuators that depend on operation v
  abbrev pub is_reached : ℕ → ℕ → Bool
  is_reached v w = is_actuator w && leads_to v w

-- from the start of operation v to the end of w in a reaction with these spans
abbrev pub ticks_in : ℕ → ℕ → List Span → ℕ
ticks_in v w row = (span_in row w).end - (span_in row v).start

-- the greatest of all reactions
abbrev pub latency : List (List Span) → ℕ → ℕ → Latency
latency rows v w = record { sensor = v; actuator = w; ticks = greatest (map (ticks_in v w) rows) }

module _ (vertices : List Vertex) (rows : List (List Span)) where
  -- All operations of the graph, by their numbers from 0.
  abbrev pub all_operations : List ℕ
  all_operations = range_with_len 0 (length vertices)

  -- from a sensor to each actuator that depends on it
  abbrev pub latencies_from : ℕ → List Latency
  latencies_from v =
      if is_sensor vertices v then map (latency rows v) (filter (is_reached vertices v) all_operations) else []

  -- The latency over these reactions from each sensor to each actuator that depends on it in the
  -- same reaction, by sensor and then by actuator.
  abbrev pub latencies : List Latency
  latencies = flat_map latencies_from all_operations
