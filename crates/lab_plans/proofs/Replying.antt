-- What was carried out of the plan of the words replies.
use Rattle.std.proofs.Common.{◌≡◌, ◌∙◌, append-nil, Option, Some, None, Result, Ok, Err, inl, inr, refl, sym, subst, arith}
use Rattle.std.specs.Prelude.{◌⊎◌, IsOkAnd}
use Rattle.syn_base.specs.Bytes.{Bytes}
use Rattle.self_timed.specs.declared.Schedule.{Schedule}
use Rattle.top_plans.specs.Answer.{one_text, text_answer}
use Rattle.top_plans.specs.Shelf.{Held}
use Rattle.top_plans.specs.Sink.{Sunk, Appends, AppendsPrefix}
use Rattle.top_plans.specs.Ending.{Ending, done, refused, unread, unwritten, no_memory}
use Rattle.top_plans.specs.Stage.{jobs_of, after_jobs, text_of, RunsSome}
use Rattle.top_plans.specs.Run.{Follows, Ran}
use Rattle.top_plans.proofs.Meaning.{answers_of, once_performed, one_for_some}
use Rattle.top_plans.proofs.Stages.{not_refused}
use Rattle.top_plans.specs.Status.{Refusal, usage}
use Rattle.top_plans.proofs.Usage.{never_made}
use Rattle.lab_words.specs.Command.{Command}
use Rattle.lab_plans.specs.Names.{names_of}
use Rattle.lab_plans.specs.Asked.{Asked, IsFoundFor}
use Rattle.lab_plans.specs.Answers.{answer}
use Rattle.lab_plans.specs.Plans.{plan_for, plan_of}
use Rattle.lab_plans.specs.Replies.{CommandsReply, TextsAreWritten, answered, found, leaves}
use Rattle.lab_plans.proofs.Walk.{answer_told, never_usage, reads_only}

same_refused : (a b : Refusal) → refused a ≡ refused b → a ≡ b
same_refused a b e = cc

module _ (command : Command) (held held' : Held) (sunk sunk' : Sunk) where
  -- no answer is Usage
  answer_not_usage : (asked : Asked) (s : Schedule) (r : Result Bytes Refusal) → answer asked s ≡ r → (ending : Ending Refusal)
      → Follows {J = ⊥} leaves (text_answer r) sunk sunk' tt tt ending → ending ≡ refused usage → ⊥
  answer_not_usage asked s (Ok text) is (refused q) w e = not_refused leaves Refusal (one_text text) sunk sunk' tt tt q w
  answer_not_usage asked s (Ok text) is done w e = cc
  answer_not_usage asked s (Ok text) is (unread f) w e = cc
  answer_not_usage asked s (Ok text) is unwritten w e = cc
  answer_not_usage asked s (Ok text) is no_memory w e = cc
  answer_not_usage asked s (Err r) is ending w e = (answer_told asked s r is).no_usage (same_refused r usage (sym w.0 ∙ e))

  -- nor does the plan stop so
  not_usage : (ending : Ending Refusal) → Ran leaves found (plan_for command) held held' sunk sunk' tt tt ending → ending ≡ refused usage → ⊥
  not_usage ending (Ok asked, m, (s, is, w)) e = answer_not_usage asked s (answer asked s) refl ending w e
  not_usage ending (Err stop, m, w) e = never_made usage held held' (plan_for command) (Err stop) (never_usage command) m (λ i. Err ((sym w.0 ∙ e) i))

usage_of : (command : Option Command) (held held' : Held) (sunk sunk' : Sunk) (ending : Ending Refusal)
    → Ran leaves found (plan_of command) held held' sunk sunk' tt tt ending → ending ≡ refused usage → command ≡ None
usage_of None held held' sunk sunk' ending ran e = refl
usage_of (Some command) held held' sunk sunk' ending ran e = absurd (not_usage command held held' sunk sunk' ending ran e)

-- what is answered is written by one call
module _ (sunk sunk' : Sunk) where
  once_answered : (r : Result Bytes Refusal) (ending : Ending Refusal) → Follows {J = ⊥} leaves (text_answer r) sunk sunk' tt tt ending → (ending ≡ done) ⊎ (ending ≡ unwritten) ⊎ (sunk' ≡ sunk)
  once_answered (Ok text) ending w = once_performed leaves sunk sunk' tt tt (one_text text) (omega arith) ending w
  once_answered (Err r) ending w = inr (inr w.1)

  once_ran : (command : Option Command) (held held' : Held) (ending : Ending Refusal)
      → Ran leaves found (plan_of command) held held' sunk sunk' tt tt ending → (ending ≡ done) ⊎ (ending ≡ unwritten) ⊎ (sunk' ≡ sunk)
  once_ran command held held' ending (Ok asked, m, (s, is, w)) = once_answered (answer asked s) ending w
  once_ran command held held' ending (Err stop, m, w) = inr (inr w.1)

pub commands_reply : CommandsReply
commands_reply command held held' sunk sunk' ending ran = record {
  answers = answers_of leaves found (plan_of command) (names_of command) held held' sunk sunk' tt tt (one_for_some IsFoundFor answered) ending (reads_only command) ran;
  usage = usage_of command held held' sunk sunk' ending ran;
  once = once_ran sunk sunk' command held held' ending ran;
}

pub texts_are_written : TextsAreWritten
texts_are_written command held held' sunk sunk' ending replies asked told = (
  λ e. let h = replies.answers.done_means e (Ok asked) told in
      (h.0, h.1, first (λ text. Appends sunk sunk' text) (answer asked h.0) h.2),
  λ e. let h = (replies.answers.unwritten_means e).1 (Ok asked) told in
      (h.0, h.1, part (λ text. AppendsPrefix sunk sunk' text) (answer asked h.0) h.2),
)
  where
    first : (P : Bytes → Type 0) (r : Result Bytes Refusal) → IsOkAnd (text_answer {J = ⊥} r) (λ stages. P (text_of stages) × (tt ≡ after_jobs leaves (jobs_of stages) tt)) → IsOkAnd r P
    first P (Ok text) h = subst P (append-nil text) h.0
    first P (Err r) h = h

    part : (P : Bytes → Type 0) (r : Result Bytes Refusal) → IsOkAnd (text_answer {J = ⊥} r) (λ stages. P (text_of stages) × RunsSome leaves (jobs_of stages) tt tt) → IsOkAnd r P
    part P (Ok text) h = subst P (append-nil text) h.0
    part P (Err r) h = h
