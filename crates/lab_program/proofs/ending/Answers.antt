use Rattle.std.proofs.Common.{map, Err, Option, inl, refl, subst, sym}
use Rattle.std.specs.Prelude.{None, Some}
use Rattle.std.specs.String.{string_bytes}
use Rattle.top_plans.specs.Ending.{no_memory, refused}
use Rattle.top_plans.specs.Run.{refuses}
use Rattle.top_plans.proofs.Makes.{memory}
use Rattle.top_plans.specs.Status.{ending_of, usage}
use Rattle.lab_words.specs.Command.{Command, command_of}
use Rattle.lab_words.specs.View.{view_of}
use Rattle.lab_plans.specs.Plans.{plan_of}
use Rattle.lab_plans.specs.Replies.{Replies}
use Rattle.lab_program.proofs.Carried.{unread_so}
use Rattle.lab_program.proofs.Counts.{counted_words, AreCounted}
use Rattle.lab_program.proofs.ending.Goals as goal

pub carry_out-requires : goal.carry_out-requires
carry_out-requires g c = subst AreCounted (sym (rw c.in-Ok-Some.field-0-is at c.in-Ok-Some.ensures)) (counted_words (map string_bytes c.args.words.now))

pub returns-in-Ok-Some-clause-replies : goal.returns-in-Ok-Some-clause-replies
returns-in-Ok-Some-clause-replies g c =
    let H = g.S.Shelf.held in
    let K = g.K.Sink.sunk in
    subst (λ (o : Option Command). Replies o (H c.args.shelf.now) (H c.carry_out.new.shelf) (K c.args.out.now) (K c.carry_out.new.out) (ending_of c.carry_out.result))
    (rw c.in-Ok-Some.field-0-is at c.in-Ok-Some.ensures)
    (c.commands_reply.ensures (Some (view_of c.in-Ok-Some.command)) (H c.args.shelf.now) (H c.carry_out.new.shelf) (K c.args.out.now)
    (K c.carry_out.new.out) (ending_of c.carry_out.result) c.carry_out.ensures.ran)

pub returns-in-Ok-None-clause-replies : goal.returns-in-Ok-None-clause-replies
returns-in-Ok-None-clause-replies g c =
    let held = g.S.Shelf.held c.args.shelf.now in
    let sunk = g.K.Sink.sunk c.args.out.now in
    subst (λ (o : Option Command). Replies o held held sunk sunk (refused usage)) (rw c.in-Ok-None.field-0-is at c.in-Ok-None.ensures)
    (c.commands_reply.ensures None held held sunk sunk (refused usage) (Err (refused usage), refuses (inl refl, λ file name. refl), (refl, refl, refl)))

pub returns-in-Err-clause-replies : goal.returns-in-Err-clause-replies
returns-in-Err-clause-replies g c =
    let held = g.S.Shelf.held c.args.shelf.now in
    let sunk = g.K.Sink.sunk c.args.out.now in
    let o = command_of (map string_bytes c.args.words.now) in
    c.commands_reply.ensures o held held sunk sunk no_memory (Err no_memory, memory held (plan_of o), (refl, refl, refl))

pub returns-in-Err-clause-unread : goal.returns-in-Err-clause-unread
returns-in-Err-clause-unread g c = unread_so (command_of (map string_bytes c.args.words.now)) (g.S.Shelf.held c.args.shelf.now)
