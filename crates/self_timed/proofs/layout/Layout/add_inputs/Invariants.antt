use Rattle.std.proofs.Common.{◌≡◌, ◌++◌, take, map}
use Rattle.sequence_build_laws.specs.declared.Source.{Source}
use Rattle.sequence_build_laws.specs.Acts.{copy}
use Rattle.self_timed.specs.Laid.{maker_in}
use Rattle.self_timed.proofs.layout.Layout.add_inputs.Given as goal

-- the inputs so far are added
abbrev pub invariant-loop-input : goal.invariant-loop-input
invariant-loop-input l = l.sources.items ≡ l.fn.sources.items ++ map (λ (x : Source). maker_in l.self.makers (copy l.operator x)) (take l.input-index l.inputs)
