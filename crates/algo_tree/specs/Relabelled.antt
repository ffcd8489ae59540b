-- Labels of vertices of which the kind alone is changed.
use Rattle.algo_tree.specs.Tree.{Label, Kind}

-- A label with another kind, and all else as it is.
abbrev pub with_kind : Label → Kind → Label
with_kind l k = record {
  part = l.part;
  definition = l.definition;
  ins = l.ins;
  guards = l.guards;
  outs = l.outs;
  names = l.names;
  kind = k;
}
