-- Refusals that code returned, beside what is defined.
use Rattle.std.proofs.Common.{◌≡◌, ◌∙◌, Result, Err, ap}
use Rattle.text_lines.specs.declared.fault.TextError.{TextError}
use Rattle.text_lines.specs.declared.fault.TextError.TheVariants as error
use Rattle.text_lines.specs.Refusals.{Refusal, Fails, IsStop, and_then}

-- A refusal of a part is that of the whole.
pub fails_through : {A B C : Type 0} (e : TextError C) (read : Result A (Refusal C)) (go : A → Result B (Refusal C)) → Fails e read → Fails e (and_then read go)
fails_through {A} {B} {C} (error.Refused f) read go h = ap (λ (r : Result A (Refusal C)). and_then r go) h
fails_through {A} {B} {C} (error.Limit f) read go h = ap (λ (r : Result A (Refusal C)). and_then r go) h
fails_through error.OutOfMemory read go h = tt

-- A refusal that was asked for is the one that is defined.
pub stopped : {A C : Type 0} (e : TextError C) (asked : Refusal C) (read : Result A (Refusal C)) → IsStop e asked → read ≡ Err asked → Fails e read
stopped {A} {C} (error.Refused f) asked read is h = h ∙ ap (λ (x : Refusal C). Err x) is
stopped {A} {C} (error.Limit f) asked read is h = h ∙ ap (λ (x : Refusal C). Err x) is
stopped error.OutOfMemory asked read is h = tt
