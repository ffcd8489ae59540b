use Rattle.std.proofs.Common.{◌≡◌, drop}
use Rattle.algo_text.specs.Among.{is_among}
use Rattle.algo_text.specs.Outer.{all_outer}
use Rattle.algo_reader.proofs.repetition.has_outer.Given as goal

abbrev pub invariant-loop-line : goal.invariant-loop-line
invariant-loop-line l = is_among l.name (all_outer l.lines) ≡ is_among l.name (all_outer (drop l.line-index l.lines))
