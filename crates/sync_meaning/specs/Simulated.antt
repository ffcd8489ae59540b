-- What a simulation returns.
use Rattle.std.specs.Prelude.{length, map}
use Rattle.syn_base.specs.Rows.{Reactions}
use Rattle.algo_tree.specs.Tree.{Vertex}
use Rattle.algo_tree.specs.Meaning.{act_row}
use Rattle.algo_tree.specs.Ends.{actuator_lengths}
use Rattle.syn_base.specs.Numbers.{numbers_below}

-- The actuators' row of each reaction.
abbrev pub simulated : Vertex → Reactions → Reactions
simulated main rows = record {
  lens = actuator_lengths main;
  reactions = map (act_row main rows.reactions) (numbers_below (length rows.reactions));
}
