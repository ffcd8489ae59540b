use Rattle.std.proofs.Common.{◌≡◌, ◌∙◌, List, ap, inl, inr, map, subst, sym}
use Rattle.std.specs.Prelude.{Some}
use Rattle.std.specs.String.{string_bytes}
use Rattle.syn_base.specs.Bytes.{Bytes}
use Rattle.command_words.specs.Command.{command_of}
use Rattle.word_rule.specs.Driven.{new_driven}
use Rattle.top_plans.specs.Shelf.{Held}
use Rattle.top_plans.specs.Sink.{Sunk}
use Rattle.top_plans.specs.Lines.{line_of, Said}
use Rattle.top_plans.specs.Status.{ending_of}
use Rattle.top_plans.specs.declared.Status.{Status}
use Rattle.top_plans.specs.declared.Status.TheVariants.{Done}
use Rattle.top_plans.specs.Replies.{PlainReplies, Replies, ValuesAreWritten}
use Rattle.top_plans.specs.Values.{WritesValues}
use Rattle.syndex_program.proofs.plain_command.Goals as goal

pub returns-in-Some-clause-replies : goal.returns-in-Some-clause-replies
returns-in-Some-clause-replies g c =
    let H = g.S.Shelf.held in
    let K = g.K.Sink.sunk in
    let E = g.E.Sink.sunk in
    subst (λ (s : Status). PlainReplies (command_of (map string_bytes c.args.words.now)) (H c.args.shelf.now) (H c.plain_ending.new.shelf)
    (K c.args.out.now) (K c.plain_ending.new.out) (E c.args.err.now) (E c.report.new.err) (Some (ending_of s)))
    (sym c.report.ensures.same) (c.in-Some.ensures.replies (E c.args.err.now))

pub returns-in-Some-clause-line : goal.returns-in-Some-clause-line
returns-in-Some-clause-line g c =
    let E = g.E.Sink.sunk in
    subst (λ (s : Status). Said (line_of s) (E c.args.err.now) (E c.report.new.err)) (sym c.report.ensures.same) c.report.ensures.line

pub returns-in-None-clause-replies : goal.returns-in-None-clause-replies
returns-in-None-clause-replies g c = c.in-None.ensures.replies (g.E.Sink.sunk c.args.err.now)

same_status : (s t : Status) → Some s ≡ Some t → s ≡ t
same_status s t e = cc

-- a command without jobs that is done
done_writes : ValuesAreWritten → (words : List Bytes) (held held' : Held) (sunk sunk' err err' : Sunk) (status : Status)
    → PlainReplies (command_of words) held held' sunk sunk' err err' (Some (ending_of status)) → status ≡ Done → WritesValues held.told sunk.told sunk'.told words
done_writes law words held held' sunk sunk' err err' status (inl (plain, replies)) is =
    law words held held' sunk sunk' new_driven new_driven
    (subst (λ (s : Status). Replies (command_of words) held held' sunk sunk' new_driven new_driven (ending_of s)) is (replies.replies new_driven))
done_writes law words held held' sunk sunk' err err' status (inr (wants, left)) is = absurd (let q = sym (ap ending_of is) ∙ wants in cc)

pub returns-in-Some-clause-values : goal.returns-in-Some-clause-values
returns-in-Some-clause-values g c done =
    let H = g.S.Shelf.held in
    let K = g.K.Sink.sunk in
    let E = g.E.Sink.sunk in
    done_writes c.values_are_written.ensures (map string_bytes c.args.words.now) (H c.args.shelf.now) (H c.plain_ending.new.shelf)
    (K c.args.out.now) (K c.plain_ending.new.out) (E c.args.err.now) (E c.args.err.now) c.in-Some.status
    (c.in-Some.ensures.replies (E c.args.err.now)) (sym c.report.ensures.same ∙ same_status c.report.result Done done)
