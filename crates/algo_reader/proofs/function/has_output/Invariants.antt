use Rattle.std.proofs.Common.{◌≡◌, drop, map}
use Rattle.algo_text.specs.Among.{is_among}
use Rattle.algo_reader.proofs.function.has_output.Given as goal

abbrev pub invariant-loop-output : goal.invariant-loop-output
invariant-loop-output l = is_among l.name (map (λ o. o.port.name) l.outputs) ≡ is_among l.name (map (λ o. o.port.name) (drop l.output-index l.outputs))
