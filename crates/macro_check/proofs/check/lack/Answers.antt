use Rattle.std.proofs.Common.{sym, ◌∙◌}
use Rattle.macro_check.proofs.Lacks.{lack_none, lack_prologue, not_opened_is, opened_is, transferred_of}
use Rattle.macro_check.proofs.Sourced.{are_low}
use Rattle.macro_check.proofs.check.lack.Goals as goal

pub are_written-requires-clause-transferred : goal.are_written-requires-clause-transferred
are_written-requires-clause-transferred c = transferred_of c.args.program.now c.args.tables.now.media (sym c.are_transferred.ensures ∙ c.if-not-are_transferred.false)

pub are_written-requires-clause-named : goal.are_written-requires-clause-named
are_written-requires-clause-named c =
    are_low c.args.program.now c.args.tables.now.media c.requires.named
    (transferred_of c.args.program.now c.args.tables.now.media (sym c.are_transferred.ensures ∙ c.if-not-are_transferred.false))

pub returns-then-not-branch-2 : goal.returns-then-not-branch-2
returns-then-not-branch-2 c =
    lack_prologue c.args.program.now c.args.vertices.now c.args.tables.now.media (sym c.are_called.ensures ∙ c.if-not-are_called.false) (sym c.are_transferred.ensures ∙ c.if-not-are_transferred.false)
    (sym c.in_ok-are_written.ensures ∙ c.if-not-branch.false) (sym c.are_guarded.ensures ∙ c.if-not-are_guarded.false)
    (not_opened_is c.args.program.now (c.in_ok-are_opened.ensures.closed c.if-not-branch-2.true))

pub returns : goal.returns
returns c =
    let u = sym c.are_guarded.ensures ∙ c.if-not-are_guarded.false in
    lack_none c.args.program.now c.args.vertices.now c.args.tables.now.media (sym c.are_called.ensures ∙ c.if-not-are_called.false) (sym c.are_transferred.ensures ∙ c.if-not-are_transferred.false)
    (sym c.in_ok-are_written.ensures ∙ c.if-not-branch.false) u (opened_is c.args.program.now u (c.in_ok-are_opened.ensures.opened c.if-not-branch-2.false))
