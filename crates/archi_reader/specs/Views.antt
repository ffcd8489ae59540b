-- What contracts see of a word and of the reader, and what the reader keeps.
use Rattle.std.specs.Prelude.{◌≡◌, ℕ, ◌≤◌, true, ◌&&◌, nat_lt, nat_le, Bool, length}
use Rattle.std.specs.List.{list_all}
use Rattle.archi_defs.specs.declared.Medium.{Medium}
use Rattle.archi_defs.specs.Archi.{ascends_from, are_distinct, is_depth, names_of, connections_in}
use Rattle.archi_defs.specs.Text.{Reading, depth_or_one}
use Rattle.archi_reader.specs.declared.reader.Reader.{Reader}

-- what the reader has read
abbrev pub reading : Reader → Reading
reading r = record {
  version = r.version;
  depth = r.depth;
  operators = r.operators.items;
  media = r.media.items;
  lines = r.lines.items;
  connections = r.connections;
  durations = r.durations;
}

-- a medium whose operators may still be too few, where there are this many operators
abbrev pub is_begun : ℕ → Medium → Bool
is_begun operators m =
    ascends_from 0 m.stands && list_all (λ o. nat_lt o operators) m.stands && nat_le m.fixed 1000000 &&
    nat_le m.per 1000000

-- what holds after each line: all that a valid architecture asks for, but enough operators and routes between them
pub record IsSound (r : Reading) : Type 0 where
  pub operators : length r.operators ≤ 16
  pub media : length r.media ≤ 16
  pub lines : length r.lines ≡ length r.media
  pub stands : connections_in r.media ≡ r.connections
  pub connections : r.connections ≤ 64
  pub begun : list_all (is_begun (length r.operators)) r.media ≡ true
  pub depth : is_depth (depth_or_one r.depth) ≡ true
  pub distinct : are_distinct (names_of r.operators r.media) ≡ true
