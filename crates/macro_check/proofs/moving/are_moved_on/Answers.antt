use Rattle.std.proofs.Common.{◌≡◌, true, sym, arith, ◌∙◌, below_more}
use Rattle.std.proofs.lemmas.Option.{slice_get-get_or}
use Rattle.sequence_build_laws.specs.MicroSteps.{transfers}
use Rattle.program_tables.proofs.Below.{one_fails, all_pass}
use Rattle.check_laws.specs.Tests.{is_moved}
use Rattle.macro_check.proofs.MovedBy.{crossing_here, many_here}
use Rattle.macro_check.proofs.moving.are_moved_on.Goals as goal

pub is_moved-requires-clause-here : goal.is_moved-requires-clause-here
is_moved-requires-clause-here c =
    crossing_here c.args.program.now c.args.medium c.loop-number.number c.args.found.now _ c.requires.here
    (slice_get-get_or c.args.found.now c.loop-number.number _ c.loop-number-test.true)

pub returns-then-not-is_moved : goal.returns-then-not-is_moved
returns-then-not-is_moved c =
    one_fails (λ t. is_moved c.args.program.now c.args.medium t) (transfers c.args.program.now c.args.medium) c.loop-number.number
    (let n = many_here c.args.program.now c.args.medium c.args.found.now c.requires.here in let l = c.loop-number-test.true in omega arith) (sym c.is_moved.ensures ∙ c.if-not-is_moved.true)

pub loop-number-preserved : goal.loop-number-preserved
loop-number-preserved c = below_more (λ t. is_moved c.args.program.now c.args.medium t ≡ true) c.loop-number.number c.loop-number.invariant (sym c.is_moved.ensures ∙ c.if-not-is_moved.false)

pub returns : goal.returns
returns c = all_pass (λ t. is_moved c.args.program.now c.args.medium t) (transfers c.args.program.now c.args.medium)
    (λ t l. c.loop-number.invariant t (let n = many_here c.args.program.now c.args.medium c.args.found.now c.requires.here in let m = c.loop-number-test.false in omega arith))
