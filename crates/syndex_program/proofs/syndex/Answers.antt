use Rattle.std.proofs.Common.{◌∙◌, map, subst, sym}
use Rattle.std.specs.String.{string_bytes}
use Rattle.command_words.specs.Command.{command_of}
use Rattle.top_plans.specs.Lines.{line_of, Said}
use Rattle.top_plans.specs.Status.{ending_of}
use Rattle.top_plans.specs.declared.Status.{Status}
use Rattle.top_plans.specs.Replies.{Replies}
use Rattle.syndex_program.proofs.syndex.Goals as goal

pub ending-status-requires : goal.ending-status-requires
ending-status-requires g c = (c.type_bounds.sync-R, record { shared = c.type_bounds.sync-G.shared })

pub returns-clause-replies : goal.returns-clause-replies
returns-clause-replies g c =
    let H = g.S.Shelf.held in
    let K = g.K.Sink.sunk in
    subst (λ (s : Status). Replies (command_of (map string_bytes c.args.words.now)) (H c.args.shelf.now) (H c.ending-status.new.shelf)
    (K c.args.out.now) (K c.ending-status.new.out) c.args.driven.now c.ending-status.new.driven (ending_of s))
    (sym c.report.ensures.same) c.ending-status.ensures.replies

pub returns-clause-line : goal.returns-clause-line
returns-clause-line g c =
    let E = g.E.Sink.sunk in
    subst (λ (s : Status). Said (line_of s) (E c.args.err.now) (E c.report.new.err)) (sym c.report.ensures.same) c.report.ensures.line

pub returns-clause-values : goal.returns-clause-values
returns-clause-values g c done =
    let H = g.S.Shelf.held in
    let K = g.K.Sink.sunk in
    c.values_are_written.ensures (map string_bytes c.args.words.now) (H c.args.shelf.now) (H c.ending-status.new.shelf) (K c.args.out.now)
    (K c.ending-status.new.out) c.args.driven.now c.ending-status.new.driven
    (subst (λ (s : Status). Replies (command_of (map string_bytes c.args.words.now)) (H c.args.shelf.now) (H c.ending-status.new.shelf)
    (K c.args.out.now) (K c.ending-status.new.out) c.args.driven.now c.ending-status.new.driven (ending_of s))
    (sym c.report.ensures.same ∙ done) c.ending-status.ensures.replies)
