use Rattle.std.proofs.Common.{◌≡◌, ◌++◌}
use Rattle.std.specs.Prelude.{replicate}
use Rattle.sequence_build_laws.specs.declared.Instr.TheVariants.{Pre0}
use Rattle.sequence_build.proofs.around.push_signals.Given as goal

-- this many were added
abbrev pub invariant-loop : goal.invariant-loop
invariant-loop l = l.out.items ≡ l.initial.out.items ++ replicate l.counter (Pre0 l.pair)
