use Rattle.std.proofs.Common.{◌≡◌, drop, map}
use Rattle.algo_text.specs.Among.{is_among}
use Rattle.algo_reader.proofs.graph.has_reference.Given as goal

abbrev pub invariant-loop-reference : goal.invariant-loop-reference
invariant-loop-reference l = is_among l.name (map (λ r. r.name) l.references) ≡ is_among l.name (map (λ r. r.name) (drop l.reference-index l.references))
