-- The arrows of a chart, from each transfer to whoever reads what it brings.
use Rattle.std.specs.Prelude.{ℕ, ◌+◌, ◌*◌, Bool, if◌then◌else◌, nat_lt, List, [], ◌++◌, map, slice_get, codes}
use Rattle.std.specs.List.{filter, flat_map, list_any}
use Rattle.syn_base.specs.Bytes.{Bytes}
use Rattle.self_timed.specs.declared.Vertex.{Vertex}
use Rattle.self_timed.specs.declared.Transfer.{Transfer}
use Rattle.self_timed.specs.Acts.{Act, carry, run, start_of, end_of, Copy, copy, same_copy, sources_of}
use Rattle.svg_text.specs.declared.scale.Scale.{Scale}
use Rattle.svg_text.specs.declared.style.TheConstants.{END_GROUP}
use Rattle.svg_text.specs.Scale.{place}
use Rattle.svg_text.specs.Shapes.{arrow_text, group_text, point}

-- the lane of an act: first stand the operators, of which there are this many, and then the media
abbrev pub lane_of : ℕ → Act → ℕ
lane_of operators (run d) = d.operator
lane_of operators (carry t) = operators + t.medium

-- An arrow from a lane to one above it leaves a bar at its upper edge and reaches the other at its lower one; one to a
-- lane below, the other way round.
abbrev pub edge_from : ℕ → ℕ → ℕ
edge_from from to = if nat_lt to from then 36 * from + 6 else 36 * from + 30

-- The height at which an arrow between two lanes arrives, in units below the top of all lanes: the
-- lower edge of a bar if it comes from a lane below, and the upper edge otherwise.
abbrev pub edge_to : ℕ → ℕ → ℕ
edge_to from to = if nat_lt to from then 36 * to + 30 else 36 * to + 6

-- from a lane at a date to a lane at a date
unfoldable pub link_text : Scale → ℕ → ℕ → ℕ → ℕ → Bytes
link_text scale from end to start =
    arrow_text (point (place scale end) (edge_from from to)) (point (place scale start) (edge_to from to))

-- the copy is the one that the transfer brings
abbrev pub brings : Transfer → Copy → Bool
brings t c = same_copy c (copy t.to t.source)

-- the act takes the copy that the transfer brings
abbrev pub takes : List Vertex → Transfer → Act → Bool
takes vertices t (carry r) = brings t (copy r.from r.source)
takes vertices t (run d) = list_any (brings t) (map (copy d.operator) (sources_of (slice_get vertices d.op)))

module _ (vertices : List Vertex) (operators : ℕ) (scale : Scale) where
  -- from where one act ends to where another starts
  abbrev pub act_link : Act → Act → Bytes
  act_link y x = link_text scale (lane_of operators y) (end_of y) (lane_of operators x) (start_of x)

  -- from a transfer to those of these that take what it brings
  abbrev pub links_to : Transfer → List Act → Bytes
  links_to t xs = flat_map (act_link (carry t)) (filter (takes vertices t) xs)

  -- from each transfer
  abbrev pub links_from : List Act → Act → Bytes
  links_from xs (run d) = []
  links_from xs (carry t) = links_to t xs

  -- The group of all arrows among these acts, one from each transfer to each act that takes the
  -- copy that it brings.
  unfoldable pub arrows_text : List Act → Bytes
  arrows_text xs = group_text (codes "arrows") [] (point 0 0) ++ (flat_map (links_from xs) xs ++ END_GROUP.now)
