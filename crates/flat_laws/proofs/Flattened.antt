-- The flat graph of any tree: repetitions are unrolled, cases are put under guards, and graphs are inlined.
use Rattle.std.proofs.Common.{◌≡◌, true, [], length, sym, ◌∙◌, ap}
use Rattle.algo_tree.specs.Tree.{Vertex}
use Rattle.algo_tree.specs.Valid.{IsTree}
use Rattle.algo_tree.specs.Counted.{operations as count}
use Rattle.flat_graph.specs.Graph.{Graph}
use Rattle.flat_graph.specs.Valid.{is_flat}
use Rattle.algo_tree.specs.SameMeaning.{KeepsMeaning}
use Rattle.algo_tree.proofs.Passes.{keeps_by_steps}
use Rattle.flat_laws.specs.Unrolled.{unroll}
use Rattle.flat_laws.proofs.Unroll.{unroll_main-keeps}
use Rattle.flat_laws.proofs.Unrepeated.{no-unroll}
use Rattle.flat_laws.proofs.UnrolledCounting.{counted-unroll}
use Rattle.flat_laws.proofs.UnrolledTrees.{tree-unroll}
use Rattle.flat_laws.specs.Guarded.{guard}
use Rattle.flat_laws.proofs.Guard.{guard_main-keeps}
use Rattle.flat_laws.proofs.Uncased.{no_case, no_repeat}
use Rattle.flat_laws.proofs.GuardedCounting.{counted-guarded}
use Rattle.flat_laws.proofs.GuardedTrees.{tree-guard}
use Rattle.flat_laws.specs.Inlined.{operations}
use Rattle.flat_laws.specs.Plain.{IsPlain}
use Rattle.flat_laws.proofs.Flatten.{flatten-count}
use Rattle.flat_laws.specs.Stands.{Stands, KeepsGraph}
use Rattle.flat_laws.specs.EndLengths.{HasEndLengths}
use Rattle.flat_laws.proofs.Stands.{stands-keeps}
use Rattle.flat_laws.proofs.EndLengths.{stands-lengths}
use Rattle.flat_laws.proofs.KeptLengths.{lengths-unroll, lengths-guard}
use Rattle.flat_laws.proofs.Acyclic.{same_length}
use Rattle.flat_laws.proofs.Plain.{plain}
use Rattle.flat_laws.proofs.Valid.{stands-flat}
use Rattle.syn_base.specs.Vectors.{vector_at}

module _ (main : Vertex) (h : IsTree main) where
  abbrev flat : Vertex
  flat = guard (unroll main)

  tree : IsTree flat
  tree = tree-guard (unroll main) (tree-unroll main h) (no-unroll main)

  pub flattened-plain : IsPlain flat
  flattened-plain = plain flat (no_repeat [] 0 (unroll main) (no-unroll main)) (no_case [] 0 (unroll main))

  meaning : KeepsMeaning main flat
  meaning = keeps_by_steps main (unroll main) flat (unroll_main-keeps main h) (guard_main-keeps (unroll main) (tree-unroll main h) (no-unroll main))

  module _ (g : Graph) (stands : Stands g (operations flat)) where
    pub flattened-keeps : KeepsGraph main g (operations flat)
    flattened-keeps =
        let keeps = stands-keeps flat g tree flattened-plain stands in
        record {
          taken = λ rows k. keeps.taken rows k ∙ meaning.taken rows k;
          kept = λ rows k v op is get. ap (λ vs. vector_at vs op.stage) (sym (meaning.kept rows k op.path)) ∙ keeps.kept rows k v op is get;
        }

    pub flattened-lengths : HasEndLengths main g
    flattened-lengths =
        let one = unroll main in
        let last = stands-lengths flat g tree flattened-plain stands in
        let second = lengths-guard one (tree-unroll main h) in
        let first = lengths-unroll main h in
        record { sensors = last.sensors ∙ second.0 ∙ first.0; actuators = last.actuators ∙ second.1 ∙ first.1 }

    pub flattened-count : length g.vertices ≡ count main
    flattened-count =
        same_length g.bodies 0 g.vertices (operations flat) stands ∙ flatten-count flat tree flattened-plain ∙ counted-guarded [] 0 (unroll main) (no-unroll main) ∙ counted-unroll main h.well

    pub flattened-flat : is_flat g ≡ true
    flattened-flat = stands-flat flat g tree flattened-plain stands
