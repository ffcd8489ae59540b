-- What was carried out of the plan of the words replies; no command ends with Usage.
use Rattle.std.proofs.Common.{◌≡◌, append-nil, [], Option, Some, None, Result, Ok, Err, inl, inr, refl, sym, ap, subst, ◌∙◌}
use Rattle.std.specs.Prelude.{◌⊎◌, IsOkAnd}
use Rattle.syn_base.specs.Bytes.{Bytes}
use Rattle.command_status.specs.Shelf.{Held}
use Rattle.command_status.specs.Sink.{Sunk, Appends, AppendsPrefix}
use Rattle.command_status.specs.Answer.{Answer}
use Rattle.command_status.specs.Plan.{Plan, give, refuse, read, outcome, RefusesOnly}
use Rattle.command_status.specs.Stage.{text_of, jobs_of, after_jobs, RunsSome}
use Rattle.command_status.specs.Ending.{Ending, done, refused, unread, unwritten, no_memory}
use Rattle.command_status.specs.Run.{FailsToRead, Makes, gives, refuses, not_read, was_read, Ends, Ran}
use Rattle.command_status.proofs.Meaning.{answers_of, exactly_one, idle_of, once_of}
use Rattle.command_status.proofs.Stages.{not_refused}
use Rattle.command_status.specs.Status.{Refusal, usage}
use Rattle.command_words.specs.Command.{Command}
use Rattle.word_rule.specs.Driven.{Driven, new_driven, driven_by}
use Rattle.word_rule.specs.Job.{JobData}
use Rattle.top_plans.specs.Names.{names_of}
use Rattle.top_plans.specs.Given.{Given, written, printed, executed, summed, stages, performed}
use Rattle.top_plans.specs.Plans.{plan_for, plan_of}
use Rattle.top_plans.specs.Meaning.{MakesTrue, AcceptedRunTrue}
use Rattle.top_plans.specs.Replies.{CommandsReply, PlainCommandsReply, LoadsKeep, IsMade, DoneRuns}
use Rattle.top_plans.proofs.Written.{windows_write, windows_run}
use Rattle.top_plans.proofs.Walk.{walk}
use Rattle.top_plans.proofs.Commands.{Any, gives_once, reads_only, load_gives_once}

same_refused : {R : Type 0} (a b : R) → refused a ≡ refused b → a ≡ b
same_refused a b e = cc

module _ {R A : Type 0} where
  abbrev stop : Ending R → Result A (Ending R)
  stop e = Err e

  same_stop : (a b : Ending R) → stop a ≡ stop b → a ≡ b
  same_stop a b e = cc

  no_stop : (a : A) (b : Ending R) → Ok a ≡ stop b → ⊥
  no_stop a b e = cc

  pub never_made : (u : R) (old new : Held) (plan : Plan R A) (made : Result A (Ending R)) → RefusesOnly (λ r. ¬ (r ≡ u)) plan → Makes old new plan made → made ≡ Err (refused u) → ⊥
  never_made u old new (give a) made n (gives (inl g, stay)) e = no_stop a (refused u) (sym g ∙ e)
  never_made u old new (give a) made n (gives (inr g, stay)) e = let q = same_stop no_memory (refused u) (sym g ∙ e) in cc
  never_made u old new (refuse r) made n (refuses (inl g, stay)) e = n (same_refused r u (same_stop (refused r) (refused u) (sym g ∙ e)))
  never_made u old new (refuse r) made n (refuses (inr g, stay)) e = let q = same_stop no_memory (refused u) (sym g ∙ e) in cc
  never_made u old new (read file name long next) _ n (not_read {ending = s} f) e = by s f (same_stop s (refused u) e)
    where
      by : (s : Ending R) → FailsToRead file name long old new s → s ≡ refused u → ⊥
      by (refused r) f q = n.0 (sym f.0 ∙ same_refused r u q)
      by (unread x) f q = cc
      by done f q = f
      by unwritten f q = f
      by no_memory f q = cc
  never_made u old new (read file name long next) made n (was_read between bytes is m) e = never_made u between new (next bytes) made (n.1 bytes) m e

never : (command : Command) → RefusesOnly (λ r. ¬ (r ≡ usage)) (plan_for command)
never command = walk Any (RefusesOnly (λ r. ¬ (r ≡ usage))) (λ r n. n.no_usage) command (λ file name next e h. ((λ q. cc), λ bytes. h bytes tt)) (λ a l. tt)

not_usage : (command : Command) (held held' : Held) (sunk sunk' : Sunk) (d d' : Driven) (ending : Ending Refusal)
    → Ran driven_by performed (plan_for command) held held' sunk sunk' d d' ending → ending ≡ refused usage → ⊥
not_usage command held held' sunk sunk' d d' ending (Ok a, m, w) e = by ending e w
  where
    by : (ending : Ending Refusal) → ending ≡ refused usage → Ends driven_by performed (Ok a) sunk sunk' d d' ending → ⊥
    by (refused r) e w = not_refused driven_by Refusal (stages a) sunk sunk' d d' r w
    by done e w = cc
    by (unread f) e w = cc
    by unwritten e w = cc
    by no_memory e w = cc
not_usage command held held' sunk sunk' d d' ending (Err s, m, w) e = never_made usage held held' (plan_for command) (Err s) (never command) m (λ i. Err ((sym w.0 ∙ e) i))

usage_of : (command : Option Command) (held held' : Held) (sunk sunk' : Sunk) (d d' : Driven) (ending : Ending Refusal)
    → Ran driven_by performed (plan_of command) held held' sunk sunk' d d' ending → ending ≡ refused usage → command ≡ None
usage_of None held held' sunk sunk' d d' ending r e = refl
usage_of (Some command) held held' sunk sunk' d d' ending r e = absurd (not_usage command held held' sunk sunk' d d' ending r e)

true_of : AcceptedRunTrue → (command : Option Command) (told : Bytes → Option Bytes) (a : Given) → outcome told (plan_of command) ≡ Some (Ok a) → MakesTrue told command a
true_of true_runs None told a e = absurd (let q = e in cc)
true_of true_runs (Some command) told a e = true_runs command told a e

-- what is given is answered by stages, so that each refusal is one of the plan
abbrev staged : Given → Answer Refusal JobData
staged a = Ok (stages a)

not_answered : (a : Given) (r : Refusal) → staged a ≡ Err r → ⊥
not_answered a r e = cc

first_so : (o : Result Given Refusal) (r : Refusal) → (o ≡ Err r) ⊎ IsOkAnd o (λ a. staged a ≡ Err r) → o ≡ Err r
first_so o r (inl e) = e
first_so (Ok a) r (inr h) = absurd (not_answered a r h)
first_so (Err q) r (inr h) = absurd h

pub commands_reply : AcceptedRunTrue → CommandsReply
commands_reply true_runs command held held' sunk sunk' d d' ending r =
    let answers = answers_of driven_by performed (plan_of command) (names_of command) held held' sunk sunk' d d' (exactly_one staged) ending (reads_only command) r in record {
      answers = answers;
      first = λ q e o p. first_so o q (answers.refused_means q e o p);
      once = once_of driven_by sunk sunk' d d' stages (plan_of command) held held' ending r;
      idle = idle_of driven_by sunk sunk' d d' stages (plan_of command) held held' ending r;
      usage = usage_of command held held' sunk sunk' d d' ending r;
      true_runs = true_of true_runs command held.told;
    }

first : {A B : Type 0} (o : Result A B) (P Q : A → Type 0) → IsOkAnd o (λ a. P a × Q a) → IsOkAnd o P
first (Ok a) P Q h = h.0
first (Err r) P Q h = h

pub plain_commands_reply : AcceptedRunTrue → PlainCommandsReply
plain_commands_reply true_runs command plain held held' sunk sunk' ending ran =
    let replies = commands_reply true_runs command held held' sunk sunk' new_driven new_driven ending (ran new_driven) in
    let answers = replies.answers in
    record {
      replies = λ d. commands_reply true_runs command held held' sunk sunk' d d ending (ran d);
      done_means = λ e o p. first o (λ a. Appends sunk sunk' (text_of (stages a))) (λ a. new_driven ≡ after_jobs driven_by (jobs_of (stages a)) new_driven) (answers.done_means e o p);
      unwritten_means = λ e. (
        (answers.unwritten_means e).0,
        λ o p. first o (λ a. AppendsPrefix sunk sunk' (text_of (stages a))) (λ a. RunsSome driven_by (jobs_of (stages a)) new_driven new_driven) ((answers.unwritten_means e).1 o p),
      );
      nothing = replies.once (gives_once command plain);
    }

pub loads_keep : LoadsKeep
loads_keep n held held' sunk sunk' d d' ending replies = replies.once (load_gives_once n)

-- by the text and the jobs of all stages
made_by : (given : Given) (sunk sunk' : Sunk) (d d' : Driven) → Appends sunk sunk' (text_of (stages given)) × (d' ≡ after_jobs driven_by (jobs_of (stages given)) d) → IsMade given sunk sunk' d d'
made_by (written text) sunk sunk' d d' all = (subst (λ t. Appends sunk sunk' t) (append-nil text) all.0, all.1)
made_by (printed text e) sunk sunk' d d' all = record {
  output = subst (λ t. Appends sunk sunk' t) (windows_write text e).0 all.0;
  ran = all.1 ∙ ap (λ js. after_jobs driven_by js d) (windows_run text e).0;
}
made_by (executed e) sunk sunk' d d' all = record {
  output = subst (λ t. Appends sunk sunk' t) (windows_write [] e).1 all.0;
  ran = all.1 ∙ ap (λ js. after_jobs driven_by js d) (windows_run [] e).1;
}
made_by (summed e text) sunk sunk' d d' all = record {
  output = subst (λ t. Appends sunk sunk' t) (windows_write text e).2 all.0;
  ran = all.1 ∙ ap (λ js. after_jobs driven_by js d) (windows_run text e).2;
}

pub done_runs : DoneRuns
done_runs command held held' sunk sunk' d d' given replies o = made_by given sunk sunk' d d' (replies.answers.done_means refl (Ok given) o)
