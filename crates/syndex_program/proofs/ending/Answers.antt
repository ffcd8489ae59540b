use Rattle.std.proofs.Common.{map, Option, subst, sym}
use Rattle.std.specs.Prelude.{Some}
use Rattle.std.specs.String.{string_bytes}
use Rattle.command_words.specs.Command.{Command, command_of}
use Rattle.command_words.specs.View.{view_of}
use Rattle.top_plans.specs.Ending.{refused}
use Rattle.top_plans.specs.Status.{ending_of, usage}
use Rattle.top_plans.specs.Replies.{Replies}
use Rattle.syndex_program.proofs.Counts.{counted_words, AreCounted}
use Rattle.syndex_program.proofs.Replying.{unknown, wants}
use Rattle.syndex_program.proofs.ending.Goals as goal

pub carry_out-requires : goal.carry_out-requires
carry_out-requires g c = (c.type_bounds.sync-R, (c.type_bounds.sync-G, subst AreCounted (sym (rw c.in-Ok-Some.field-0-is at c.in-Ok-Some.ensures)) (counted_words (map string_bytes c.args.words.now))))

pub returns-in-Ok-Some-clause-replies : goal.returns-in-Ok-Some-clause-replies
returns-in-Ok-Some-clause-replies g c =
    let H = g.S.Shelf.held in
    let K = g.K.Sink.sunk in
    subst (λ (o : Option Command). Replies o (H c.args.shelf.now) (H c.carry_out.new.shelf) (K c.args.out.now)
    (K c.carry_out.new.out) c.args.driven.now c.carry_out.new.driven (ending_of c.carry_out.result))
    (rw c.in-Ok-Some.field-0-is at c.in-Ok-Some.ensures)
    (c.commands_reply.ensures (Some (view_of c.in-Ok-Some.command)) (H c.args.shelf.now) (H c.carry_out.new.shelf) (K c.args.out.now)
    (K c.carry_out.new.out) c.args.driven.now c.carry_out.new.driven (ending_of c.carry_out.result) c.carry_out.ensures.ran)

pub returns-in-Ok-None-clause-replies : goal.returns-in-Ok-None-clause-replies
returns-in-Ok-None-clause-replies g c =
    let held = g.S.Shelf.held c.args.shelf.now in
    let sunk = g.K.Sink.sunk c.args.out.now in
    let driven = c.args.driven.now in
    subst (λ (o : Option Command). Replies o held held sunk sunk driven driven (refused usage)) (rw c.in-Ok-None.field-0-is at c.in-Ok-None.ensures) (unknown c.commands_reply.ensures held sunk driven)

pub returns-in-Err-clause-replies : goal.returns-in-Err-clause-replies
returns-in-Err-clause-replies g c = wants c.commands_reply.ensures (command_of (map string_bytes c.args.words.now)) (g.S.Shelf.held c.args.shelf.now) (g.K.Sink.sunk c.args.out.now) c.args.driven.now
