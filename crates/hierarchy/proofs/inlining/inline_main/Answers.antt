use Rattle.std.proofs.Common.{[], length, ap, sym, subst}
use Rattle.algo_tree.specs.Named.{HasNames}
use Rattle.algo_tree.proofs.Views.{view_out}
use Rattle.flat_laws.specs.Inlined.{operations}
use Rattle.flat_laws.specs.Stands.{Stands}
use Rattle.hierarchy.specs.Built.{graph_of}
use Rattle.hierarchy.proofs.Adding.{main_well, main_linked}
use Rattle.hierarchy.proofs.Building.{none_built}
use Rattle.hierarchy.proofs.Texting.{prefixes_main}
use Rattle.hierarchy.proofs.inlining.inline_main.Goals as goal

pub add_level-requires-clause-acyclic : goal.add_level-requires-clause-acyclic
add_level-requires-clause-acyclic c = (main_well c.args.main.now c.requires.tree).1

pub add_level-requires-clause-well : goal.add_level-requires-clause-well
add_level-requires-clause-well c = (main_well c.args.main.now c.requires.tree).0

pub add_level-requires-clause-names : goal.add_level-requires-clause-names
add_level-requires-clause-names c = subst HasNames (view_out c.args.main.now) c.requires.tree.named

pub add_level-requires-clause-linked : goal.add_level-requires-clause-linked
add_level-requires-clause-linked c = main_linked c.args.main.now c.requires.tree c.requires.plain (length c.in_ok-vertices.vertices.items) (ap length c.in_ok-vertices.ensures.items)

pub returns-clause-stands : goal.returns-clause-stands
returns-clause-stands c =
    let none = graph_of record { vertices = c.in_ok-vertices.vertices; bodies = c.new.result } in
    let built = c.in_ok-add_level.ensures.added (λ q. q) prefixes_main [] (none_built none c.in_ok-vertices.ensures.items c.new.ensures.items) in
    subst (λ u. Stands (graph_of c.add_level.new.all) (operations u)) (sym (view_out c.args.main.now)) built.stands

pub returns-clause-order : goal.returns-clause-order
returns-clause-order c =
    let none = graph_of record { vertices = c.in_ok-vertices.vertices; bodies = c.new.result } in
    (c.in_ok-add_level.ensures.added (λ q. q) prefixes_main [] (none_built none c.in_ok-vertices.ensures.items c.new.ensures.items)).order
