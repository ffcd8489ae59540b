use Rattle.std.proofs.Common.{ℕ, get_or, sym}
use Rattle.std.specs.Prelude.{slice_get}
use Rattle.std.proofs.lemmas.Option.{slice_get-get_or}
use Rattle.sequence_build_laws.specs.declared.Source.{Source}
use Rattle.order_check.specs.Calls.{carries}
use Rattle.program_walks.proofs.ListTests.{fails_at}
use Rattle.macro_check.proofs.fitting.carry_inputs.Goals as goal

pub returns-then-not-carries : goal.returns-then-not-carries
returns-then-not-carries c =
    let k = c.loop-place.place in
    let none : Source = record { vertex = 0; port = 0 } in
    sym (fails_at (λ (k : ℕ) (x : Source). carries c.args.program.now c.args.vertices.now x (slice_get c.args.ins.now k)) c.args.inputs.now k (get_or c.args.inputs.now k none)
    (slice_get-get_or c.args.inputs.now k none c.loop-place-test.true) (sym c.if-not-carries.ensures))
