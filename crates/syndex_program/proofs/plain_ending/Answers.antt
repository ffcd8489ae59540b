use Rattle.std.proofs.Common.{map, Option, subst, sym}
use Rattle.std.specs.Prelude.{Some}
use Rattle.std.specs.String.{string_bytes}
use Rattle.command_words.specs.Command.{Command, command_of}
use Rattle.command_words.specs.View.{view_of}
use Rattle.top_plans.specs.Sink.{Sunk}
use Rattle.top_plans.specs.Ending.{refused}
use Rattle.top_plans.specs.Status.{usage}
use Rattle.top_plans.specs.Replies.{PlainReplies}
use Rattle.syndex_program.specs.Plainly.{RepliesOrLeaves}
use Rattle.syndex_program.proofs.Counts.{counted_words, AreCounted}
use Rattle.syndex_program.proofs.Replying.{answered, none_answered, wanted}
use Rattle.syndex_program.proofs.plain_ending.Goals as goal

pub carry_out_plain-requires : goal.carry_out_plain-requires
carry_out_plain-requires g c = subst AreCounted (sym (rw c.in-Ok-Some.field-0-is at c.in-Ok-Some.ensures)) (counted_words (map string_bytes c.args.words.now))

pub returns-in-Ok-Some-clause-replies : goal.returns-in-Ok-Some-clause-replies
returns-in-Ok-Some-clause-replies g c =
    let H = g.S.Shelf.held in
    let K = g.K.Sink.sunk in
    subst (λ (o : Option Command). RepliesOrLeaves o (H c.args.shelf.now) (H c.carry_out_plain.new.shelf) (K c.args.out.now)
    (K c.carry_out_plain.new.out) c.carry_out_plain.result) (rw c.in-Ok-Some.field-0-is at c.in-Ok-Some.ensures)
    (λ (err : Sunk). answered c.plain_commands_reply.ensures (H c.args.shelf.now) (H c.carry_out_plain.new.shelf) (K c.args.out.now)
    (K c.carry_out_plain.new.out) err (view_of c.in-Ok-Some.command) c.carry_out_plain.result c.carry_out_plain.ensures.ran)

pub returns-in-Ok-None-clause-replies : goal.returns-in-Ok-None-clause-replies
returns-in-Ok-None-clause-replies g c =
    let held = g.S.Shelf.held c.args.shelf.now in
    let sunk = g.K.Sink.sunk c.args.out.now in
    λ err. subst (λ (o : Option Command). PlainReplies o held held sunk sunk err err (Some (refused usage)))
    (rw c.in-Ok-None.field-0-is at c.in-Ok-None.ensures) (none_answered c.plain_commands_reply.ensures held sunk err)

pub returns-in-Err-clause-replies : goal.returns-in-Err-clause-replies
returns-in-Err-clause-replies g c =
    λ err. wanted c.plain_commands_reply.ensures (g.S.Shelf.held c.args.shelf.now) (g.K.Sink.sunk c.args.out.now) err (command_of (map string_bytes c.args.words.now))
