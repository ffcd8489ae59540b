-- How many transfers a schedule has, and what they carry.
use Rattle.std.specs.Prelude.{ℕ, Bool, true, false, List, length, slice_get}
use Rattle.std.specs.List.{count_by}
use Rattle.self_timed.specs.declared.Kind.{Kind}
use Rattle.self_timed.specs.declared.Kind.TheVariants.{Constant, Get}
use Rattle.self_timed.specs.declared.Vertex.{Vertex}
use Rattle.self_timed.specs.Graph.{Graph, with_vertex}
use Rattle.self_timed.specs.declared.Transfer.{Transfer}
use Rattle.self_timed.specs.declared.Schedule.{Schedule}
use Rattle.self_timed.specs.Acts.{transfers_of}
use Rattle.lower_bound.specs.declared.transfers.Transfers.{Transfers}
use Rattle.lower_bound.specs.declared.transfers.Sort.{Sort}
use Rattle.lower_bound.specs.declared.transfers.Sort.TheVariants.{OfConstant, OfDelay}

-- what constants give, and what the get halves of delays give
abbrev pub is_sort : Sort → Kind → Bool
is_sort OfConstant (Constant values) = true
is_sort OfDelay (Get values) = true
is_sort _ _ = false

-- the transfer carries what an operation of such a kind gives
abbrev pub carries : (Kind → Bool) → List Vertex → Transfer → Bool
carries test vertices t = with_vertex (slice_get vertices t.source.vertex) false (λ x. test x.kind)

-- more than any valid schedule has
abbrev pub most_transfers : ℕ
most_transfers = 2099200

-- all, and those of constants and of get halves
abbrev pub transfers : Graph → Schedule → Transfers
transfers g s = record {
  all = length (transfers_of s.decisions);
  constants = count_by (carries (is_sort OfConstant) g.vertices) (transfers_of s.decisions);
  delays = count_by (carries (is_sort OfDelay) g.vertices) (transfers_of s.decisions);
}
