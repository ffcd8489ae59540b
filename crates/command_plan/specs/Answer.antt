-- What is answered of what a plan gives: stages that are performed, or a refusal; and which answers are allowed.
use Rattle.std.specs.Prelude.{List, [], ◌∷◌, Result, Ok, Err}
use Rattle.syn_base.specs.Bytes.{Bytes}
use Rattle.command_plan.specs.Ending.{Ending, done, refused}
use Rattle.command_plan.specs.Stage.{Stage}

-- stages, which are performed one after another; or a refusal
abbrev pub Answer : Type 0 → Type 0 → Type 0
Answer R J = Result (List (Stage J)) R

-- A text that is written by one call: one stage without a job.
abbrev pub one_text : {J : Type 0} → Bytes → List (Stage J)
one_text text = record { jobs = []; text = text } ∷ []

-- A text as an answer, or its refusal.
abbrev pub text_answer : {R J : Type 0} → Result Bytes R → Answer R J
text_answer (Ok text) = Ok (one_text text)
text_answer (Err refusal) = Err refusal

-- the ending that an answer leads to, where nothing fails
abbrev pub ending_for : {R J : Type 0} → Answer R J → Ending R
ending_for (Ok stages) = done
ending_for (Err refusal) = refused refusal

-- The notions of "some answer that is allowed has P" for what is given.
module _ {R A J : Type 0} where
  -- Exactly this answer is allowed.
  abbrev pub exactly : (A → Answer R J) → A → (Answer R J → Type 0) → Type 0
  exactly answer a P = P (answer a)

  -- The answers for all choices that are allowed.
  abbrev pub for_some : {C : Type 0} → (A → C → Type 0) → (A → C → Answer R J) → A → (Answer R J → Type 0) → Type 0
  for_some {C} allowed answer a P = (choice : C) × allowed a choice × P (answer a choice)
