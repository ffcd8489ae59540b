use Rattle.std.proofs.Common.{◌≡◌, ◌++◌, drop}
use Rattle.std.specs.List.{flat_map}
use Rattle.text_lint.specs.Algorithm.{unread_at}
use Rattle.text_lint.proofs.unread.append_of_graph.Given as goal

-- what is there, with the findings of the references that are left, is the whole
abbrev pub invariant-loop-reference : goal.invariant-loop-reference
invariant-loop-reference l = l.found.items ++ flat_map (unread_at l.known l.edges) (drop l.reference-index l.references)
    ≡ l.fn.found.items ++ flat_map (unread_at l.known l.edges) l.references
