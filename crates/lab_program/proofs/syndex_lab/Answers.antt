use Rattle.std.proofs.Common.{map, subst, sym}
use Rattle.std.specs.String.{string_bytes}
use Rattle.top_plans.specs.Lines.{line_of, Said}
use Rattle.top_plans.specs.Status.{ending_of}
use Rattle.top_plans.specs.declared.Status.{Status}
use Rattle.lab_words.specs.Command.{command_of}
use Rattle.lab_plans.specs.Replies.{Replies}
use Rattle.lab_program.proofs.syndex_lab.Goals as goal

pub returns-clause-replies : goal.returns-clause-replies
returns-clause-replies g c =
    let H = g.S.Shelf.held in
    let K = g.K.Sink.sunk in
    subst (λ (s : Status). Replies (command_of (map string_bytes c.args.words.now)) (H c.args.shelf.now) (H c.ending-status.new.shelf) (K c.args.out.now) (K c.ending-status.new.out) (ending_of s))
    (sym c.report.ensures.same) c.ending-status.ensures.replies

pub returns-clause-line : goal.returns-clause-line
returns-clause-line g c =
    let E = g.E.Sink.sunk in
    subst (λ (s : Status). Said (line_of s) (E c.args.err.now) (E c.report.new.err)) (sym c.report.ensures.same) c.report.ensures.line
