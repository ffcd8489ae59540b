use Rattle.std.proofs.Common.{◌≡◌, true, length, refl, sym, arith, ◌∙◌, below_more}
use Rattle.std.proofs.lemmas.Option.{slice_get_read}
use Rattle.sequence_build_laws.specs.MicroSteps.{transfers}
use Rattle.program_walks.specs.Walks.{all_below}
use Rattle.program_tables.proofs.Below.{one_fails, all_pass}
use Rattle.check_laws.specs.Tests.{is_moved}
use Rattle.macro_check.proofs.MovedBy.{many_rows, row_here}
use Rattle.macro_check.proofs.moving.are_moved.Goals as goal

pub are_moved_on-requires-clause-all : goal.are_moved_on-requires-clause-all
are_moved_on-requires-clause-all c =
    let n = many_rows c.args.program.now c.args.media c.args.found.now c.requires.here in
    let l = c.loop-medium-test.true in
    c.of.ensures ∙ c.requires.all c.loop-medium.medium (omega arith)

pub are_moved_on-requires-clause-here : goal.are_moved_on-requires-clause-here
are_moved_on-requires-clause-here c =
    let there = slice_get_read c.args.found.now (length c.args.found.now) c.loop-medium.medium c.index-found-medium.result refl c.loop-medium-test.true c.index-found-medium.is in
    c.as_slice.ensures ∙ row_here c.args.program.now c.args.media c.loop-medium.medium c.args.found.now c.index-found-medium.result c.requires.here there

pub returns-then-not-are_moved_on : goal.returns-then-not-are_moved_on
returns-then-not-are_moved_on c =
    one_fails (λ m. all_below (λ t. is_moved c.args.program.now m t) (transfers c.args.program.now m)) c.args.media c.loop-medium.medium
    (let n = many_rows c.args.program.now c.args.media c.args.found.now c.requires.here in let l = c.loop-medium-test.true in omega arith) (sym c.are_moved_on.ensures ∙ c.if-not-are_moved_on.true)

pub loop-medium-preserved : goal.loop-medium-preserved
loop-medium-preserved c = below_more
    (λ m. all_below (λ t. is_moved c.args.program.now m t) (transfers c.args.program.now m)
    ≡ true) c.loop-medium.medium c.loop-medium.invariant (sym c.are_moved_on.ensures ∙ c.if-not-are_moved_on.false)

pub returns : goal.returns
returns c = all_pass (λ m. all_below (λ t. is_moved c.args.program.now m t) (transfers c.args.program.now m)) c.args.media
    (λ m l. c.loop-medium.invariant m (let n = many_rows c.args.program.now c.args.media c.args.found.now c.requires.here in let k = c.loop-medium-test.false in omega arith))
