-- What a command writes of an algorithm by itself: a text of its flat graph.
use Rattle.syn_base.specs.Bytes.{Bytes}
use Rattle.flat_text.specs.Listing.{listing}
use Rattle.self_timed.specs.Graph.{Graph}
use Rattle.command_words.specs.declared.table.AlgorithmText.{AlgorithmText}
use Rattle.command_words.specs.declared.table.AlgorithmText.TheVariants as texts

-- What is written of a flat graph.
abbrev pub graph_text : AlgorithmText → Graph → Bytes
graph_text texts.Listing g = listing g
