-- Definitions that are not refused make a tree.
use Rattle.std.specs.Prelude.{◌≡◌, List, None}
use Rattle.algo_rules.specs.declared.Def.{Def}
use Rattle.algo_rules.specs.Counted as counted
use Rattle.algo_rules.specs.Valid.{IsTree}
use Rattle.algo_rules.specs.Resolved.{refusal, tree_of, operations}
use Rattle.algo_rules.specs.WellRead.{AreWellRead}

-- The definitions of a text that have no refusal resolve to a valid tree.
abbrev pub AcceptedMakeATree : Type 0
AcceptedMakeATree = (ds : List Def) → AreWellRead ds → refusal ds ≡ None → IsTree (tree_of ds)

-- Their tree stands for as many flat operations as are counted without making it.
abbrev pub OperationsAreCounted : Type 0
OperationsAreCounted =
    (ds : List Def) → AreWellRead ds → refusal ds ≡ None → counted.operations (tree_of ds) ≡ operations ds
