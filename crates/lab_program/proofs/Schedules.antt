-- What is made of a problem: programs and dates of a schedule that was found.
use Rattle.std.proofs.Common.{◌≡◌, ℕ, List, Option, None, Result, Ok, Err, inl, inr, refl, sym, ap, replicate, subst}
use Rattle.std.specs.Prelude.{Vec}
use Rattle.syn_base.specs.Bytes.{Bytes}
use Rattle.syn_base.specs.declared.limits.LimitFault.{LimitFault}
use Rattle.self_timed.specs.declared.Schedule.{Schedule}
use Rattle.top_plans.specs.declared.ActualError.{ActualError}
use Rattle.top_plans.specs.declared.ActualError.TheVariants as error
use Rattle.top_plans.specs.ActualAnswers as durations
use Rattle.top_plans.specs.Status.{status_of_build, status_of_durations}
use Rattle.top_plans.specs.declared.Status.{Status}
use Rattle.lab_words.specs.Command.{Form}
use Rattle.lab_plans.specs.Asked.{Asked, IsFoundFor, Request}
use Rattle.lab_plans.specs.Answers.{answer, dates_by, form_text, limit, within}
use Rattle.compiler.specs.Builds.{BuildsProgram}
use Rattle.top_plans.specs.declared.BuildError.{BuildError}
use Rattle.top_plans.specs.declared.BuildError.TheVariants as build
use Rattle.lab_program.specs.Texts.{Gives, GivesOfFound, Is}

module _ (A : Type 0) where
  -- the program of a schedule was refused, or memory ran out
  pub not_built : (p : Request) (s : Schedule) (text : Bytes) (e : BuildError) → BuildsProgram p.graph p.archi s (Err e) → Gives {A = A} (within (limit p s) text) (Err (status_of_build e))
  not_built p s text (build.Limit fault) over =
      inr (subst (λ (o : Option LimitFault). Is {A = A} (within o text) (Err (status_of_build (build.Limit fault)))) (sym over) refl)
  not_built p s text build.OutOfMemory over = inl refl

  -- so there are no dates
  pub undated : (form : Form) (p : Request) (n : ℕ) (s : Schedule) (r : Result (List ℕ) ActualError) (ticks : List ℕ) (e : BuildError) → r ≡ Ok ticks → BuildsProgram p.graph p.archi s (Err e)
      → Gives {A = A} (dates_by form p n s r) (Err (status_of_build e))
  undated form p n s r ticks e is failed =
      subst (λ (x : Result (List ℕ) ActualError). Gives {A = A} (dates_by form p n s x) (Err (status_of_build e))) (sym is)
      (not_built p s (form_text form p.graph p.archi s (replicate n ticks)) e failed)

  -- a text of actual durations was refused, or memory ran out
  pub durations_refused : (form : Form) (p : Request) (n : ℕ) (s : Schedule) (ticks : Result (List ℕ) ActualError) (e : ActualError) → durations.Gives {A = A} (Err e) ticks
      → Gives {A = A} (dates_by form p n s ticks) (Err (status_of_durations e))
  durations_refused form p n s ticks (error.Refused fault) h =
      inr (subst (λ (x : Result (List ℕ) ActualError). Is {A = A} (dates_by form p n s x) (Err (status_of_durations (error.Refused fault)))) (sym h) refl)
  durations_refused form p n s ticks (error.Limit fault) h =
      inr (subst (λ (x : Result (List ℕ) ActualError). Is {A = A} (dates_by form p n s x) (Err (status_of_durations (error.Limit fault)))) (sym h) refl)
  durations_refused form p n s ticks error.OutOfMemory h = inl refl

module _ {A : Type 0} where
  -- its text stands within the limits
  pub built : (p : Request) (s : Schedule) (bytes : Bytes) (text : Vec ℕ A) → limit p s ≡ None → text.items ≡ bytes → Gives (within (limit p s) bytes) (Ok text)
  built p s bytes text is same = inr (subst (λ (o : Option LimitFault). Is (within o bytes) (Ok text)) (sym is) same)

  -- and so do its dates, in each form
  pub dated : (form : Form) (p : Request) (n : ℕ) (s : Schedule) (r : Result (List ℕ) ActualError) (ticks : List ℕ) (text : Vec ℕ A) → r ≡ Ok ticks → limit p s ≡ None
      → text.items ≡ form_text form p.graph p.archi s (replicate n ticks) → Gives (dates_by form p n s r) (Ok text)
  dated form p n s r ticks text is low same =
      subst (λ (x : Result (List ℕ) ActualError). Gives (dates_by form p n s x) (Ok text)) (sym is)
      (built p s (form_text form p.graph p.archi s (replicate n ticks)) text low same)

  -- what is answered of a schedule that was found
  pub of_found : (asked : Asked) (s : Schedule) (result : Result (Vec ℕ A) Status) → IsFoundFor asked s → Gives (answer asked s) result → GivesOfFound asked result
  of_found asked s result found (inl is) = inl is
  of_found asked s result found (inr h) = inr (s, found, h)
