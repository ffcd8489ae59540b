-- What was made so far: a buffer for each copy, and its place in a table.
use Rattle.std.specs.Prelude.{◌≡◌, List, ◌++◌, map, length}
use Rattle.sequence_build_laws.specs.declared.Vertex.{Vertex}
use Rattle.sequence_build_laws.specs.Graph.{len_of}
use Rattle.sequence_build_laws.specs.Acts.{Copy}
use Rattle.sequence_build_laws.specs.declared.Buffer.{Buffer}
use Rattle.sequence_build.specs.declared.made.Made.{Made}
use Rattle.sequence_build.specs.Numbers.{place}

abbrev pub buffer_of : List Vertex → Copy → Buffer
buffer_of vertices c = record { operator = c.operator; len = len_of vertices c.source; depth = 1 }

-- these copies were made besides
pub record Makes (vertices : List Vertex) (old new : Made) (copies : List Copy) : Type 0 where
  pub buffers : new.buffers.items ≡ old.buffers.items ++ map (buffer_of vertices) copies
  pub places : new.places.items ≡ old.places.items ++ map (place (length vertices)) copies
