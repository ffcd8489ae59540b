-- Carrying out a plan, step by step.
use Rattle.std.proofs.Common.{◌≡◌, Result, Ok, Err, inl, inr, refl, sym, subst}
use Rattle.syn_base.specs.Bytes.{Bytes}
use Rattle.outside.specs.Shelf.{Held, OthersStay}
use Rattle.outside.specs.declared.file.File.{File}
use Rattle.command_plan.specs.Plan.{Plan, give, refuse, read, after}
use Rattle.command_plan.specs.Ending.{Ending, done, refused, unread, unwritten, no_memory}
use Rattle.command_plan.specs.Run.{FailsToRead, Makes, gives, refuses, not_read, was_read}

-- memory may run out anywhere: first of all
pub memory : {R A : Type 0} (held : Held) (plan : Plan R A) → Makes held held plan (Err no_memory)
memory held (give a) = gives (inr refl, λ file name. refl)
memory held (refuse refusal) = refuses (inr refl, λ file name. refl)
memory held (read file name too_long next) = not_read (λ other name other_is. refl)

-- only this file's counts changed where it was not read
pub only_asked : {R : Type 0} (file : File) (name : Bytes) (too_long : R) (old new : Held) (ending : Ending R) → FailsToRead file name too_long old new ending → OthersStay file old new
only_asked file name too_long old new (unread named) h = h.2
only_asked file name too_long old new (refused refusal) h = h.2
only_asked file name too_long old new no_memory h = h
only_asked file name too_long old new done h = absurd h
only_asked file name too_long old new unwritten h = absurd h

-- nor later: memory may run out where something was made
pub wanting : {R A : Type 0} (old new : Held) (plan : Plan R A) (made : Result A (Ending R)) → Makes old new plan made → Makes old new plan (Err no_memory)
wanting old new (give a) made (gives g) = gives (inr refl, g.1)
wanting old new (refuse refusal) made (refuses g) = refuses (inr refl, g.1)
wanting old new (read file name too_long next) _ (not_read {ending = s} f) = not_read (only_asked file name too_long old new s f)
wanting old new (read file name too_long next) made (was_read between bytes is m) = was_read between bytes is (wanting between new (next bytes) made m)

-- what is to be made is given
pub gave : {R A : Type 0} (held : Held) (a : A) (made : Result A (Ending R)) → made ≡ Ok a → Makes held held (give a) made
gave held a made e = gives (inl e, λ file name. refl)

-- a part gave its answer
pub after_ok : {R A X E : Type 0} (old new : Held) (refusal : E → R) (answer : Result X E) (next : X → Plan R A) (made : Result A (Ending R)) (x : X)
    → answer ≡ Ok x → Makes old new (next x) made → Makes old new (after refusal answer next) made
after_ok old new refusal answer next made x e m = subst (λ a. Makes old new (after refusal a next) made) (sym e) m

-- a part refused
pub after_err : {R A X E : Type 0} (held : Held) (refusal : E → R) (answer : Result X E) (next : X → Plan R A) (e : E)
    → answer ≡ Err e → Makes held held (after refusal answer next) (Err (refused (refusal e)))
after_err held refusal answer next e h = subst (λ a. Makes held held (after refusal a next) (Err (refused (refusal e)))) (sym h) (refuses (inl refl, λ file name. refl))
