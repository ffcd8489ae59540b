-- A plan that gives what f makes of what another plan gives is carried out as that one.
use Rattle.std.proofs.Common.{◌≡◌, Result, Ok, Err, inl, inr, ap}
use Rattle.syn_base.specs.Bytes.{Bytes}
use Rattle.outside.specs.Shelf.{Held}
use Rattle.outside.specs.declared.file.File.{File}
use Rattle.command_plan.specs.Plan.{Plan, give, refuse, read, after}
use Rattle.command_plan.specs.Ending.{Ending}
use Rattle.command_plan.specs.Run.{Makes, gives, refuses, not_read, was_read}

module _ {R X A : Type 0} (f : X → A) where
  abbrev pub mapped : Result X (Ending R) → Result A (Ending R)
  mapped (Ok x) = Ok (f x)
  mapped (Err stop) = Err stop

  -- whatever the one plan makes, the other makes f of it
  abbrev pub Follows : Plan R X → Plan R A → Type 0
  Follows p q = (old new : Held) (made : Result X (Ending R)) → Makes old new p made → Makes old new q (mapped made)

  pub give_follows : (x : X) → Follows (give x) (give (f x))
  give_follows x old new made (gives (inl e, same)) = gives (inl (ap mapped e), same)
  give_follows x old new made (gives (inr e, same)) = gives (inr (ap mapped e), same)

  pub refuse_follows : (r : R) → Follows (refuse r) (refuse r)
  refuse_follows r old new made (refuses (inl e, same)) = refuses (inl (ap mapped e), same)
  refuse_follows r old new made (refuses (inr e, same)) = refuses (inr (ap mapped e), same)

  pub after_follows : {Y E : Type 0} (refusal : E → R) (answer : Result Y E) (next : Y → Plan R X) (next' : Y → Plan R A) → ((y : Y) → Follows (next y) (next' y))
      → Follows (after refusal answer next) (after refusal answer next')
  after_follows refusal (Ok y) next next' h = h y
  after_follows refusal (Err e) next next' h = refuse_follows (refusal e)

  pub read_follows : (file : File) (name : Bytes) (too_long : R) (next : Bytes → Plan R X) (next' : Bytes → Plan R A) → ((bytes : Bytes) → Follows (next bytes) (next' bytes))
      → Follows (read file name too_long next) (read file name too_long next')
  read_follows file name too_long next next' h old new _ (not_read {ending = s} failed) = not_read failed
  read_follows file name too_long next next' h old new made (was_read between bytes is m) = was_read between bytes is (h bytes between new made m)
