-- What the two calls answer, from what was carried out.
use Rattle.std.proofs.Common.{Option, Some, None, Err, inl, inr, refl}
use Rattle.command_words.specs.Command.{Command, plain, job}
use Rattle.word_rule.specs.Driven.{Driven}
use Rattle.top_plans.specs.Shelf.{Held}
use Rattle.top_plans.specs.Sink.{Sunk}
use Rattle.top_plans.specs.Ending.{no_memory, refused}
use Rattle.top_plans.specs.Run.{refuses}
use Rattle.top_plans.proofs.Makes.{memory}
use Rattle.top_plans.specs.Status.{ending_of, usage}
use Rattle.top_plans.specs.declared.Status.{Status}
use Rattle.top_plans.specs.Names.{IsPlain}
use Rattle.top_plans.specs.Plans.{plan_of}
use Rattle.top_plans.specs.Replies.{CommandsReply, PlainCommandsReply, PlainReplies, Replies}
use Rattle.syndex_program.specs.Plainly.{IsRunOrPlain, ending_in}

module _ (law : PlainCommandsReply) (held held' : Held) (sunk sunk' err : Sunk) where
  -- a command was carried out, or left
  pub answered : (command : Command) (answer : Option Status) → IsRunOrPlain command held held' sunk sunk' answer → PlainReplies (Some command) held held' sunk sunk' err err (ending_in answer)
  answered command None h = (h, refl)
  answered command (Some status) h = inl (h.0, law (Some command) h.0 held held' sunk sunk' (ending_of status) h.1)

module _ (law : PlainCommandsReply) (held : Held) (sunk err : Sunk) where
  -- words that are no command
  pub none_answered : PlainReplies None held held sunk sunk err err (Some (refused usage))
  none_answered = inl (tt, law None tt held held sunk sunk (refused usage) (λ driven. (Err (refused usage), refuses (inl refl, λ file name. refl), (refl, refl, refl))))

  plainly : (o : Option Command) → IsPlain o → PlainReplies o held held sunk sunk err err (Some no_memory)
  plainly o is = inl (is, law o is held held sunk sunk no_memory (λ driven. (Err no_memory, memory held (plan_of o), (refl, refl, refl))))

  -- the words take memory
  pub wanted : (o : Option Command) → PlainReplies o held held sunk sunk err err (Some no_memory)
  wanted None = plainly None tt
  wanted (Some (plain command)) = plainly (Some (plain command)) (λ x. x)
  wanted (Some (job command)) = inr (refl, (tt, refl, refl))

-- nothing was read, written or driven: memory ran out
pub wants : CommandsReply → (o : Option Command) (held : Held) (sunk : Sunk) (driven : Driven) → Replies o held held sunk sunk driven driven no_memory
wants law o held sunk driven = law o held held sunk sunk driven driven no_memory (Err no_memory, memory held (plan_of o), (refl, refl, refl))

-- words that are no command: nothing was read, written or driven
pub unknown : CommandsReply → (held : Held) (sunk : Sunk) (driven : Driven) → Replies None held held sunk sunk driven driven (refused usage)
unknown law held sunk driven = law None held held sunk sunk driven driven (refused usage) (Err (refused usage), refuses (inl refl, λ file name. refl), (refl, refl, refl))
