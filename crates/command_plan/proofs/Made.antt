-- From what a plan may make to what it makes where the files are told.
use Rattle.std.proofs.lemmas.Bool.Decides.{nat_tests}
use Rattle.std.specs.Prelude.{if◌then◌else◌, nat_lt, option_and_then}
use Rattle.std.proofs.Common.{◌≡◌, ℕ, ◌≤◌, ◌<◌, ◌∙◌, length, Result, Ok, Err, Option, Some, None, IfSome, inl, inr, refl, sym, true, false, subst, ap, arith}
use Rattle.syn_base.specs.Bytes.{Bytes}
use Rattle.outside.specs.Faults.{Rose}
use Rattle.outside.specs.Shelf.{Held, Stays, file_bound}
use Rattle.outside.specs.declared.file.File.{File}
use Rattle.command_plan.specs.Plan.{Plan, give, refuse, read, outcome, ReadsOnly, GivesOnly}
use Rattle.command_plan.specs.Ending.{Ending, done, refused, unread, unwritten, no_memory}
use Rattle.command_plan.specs.Run.{Gives, FailsToRead, Makes, gives, refuses, not_read, was_read}
use Rattle.command_plan.proofs.Makes.{only_asked}

-- what was made is what is defined, or a file's count rose, or memory ran out
pub data Made {R A : Type 0} (names : File → Option Bytes) (old new : Held) (plan : Plan R A) : Result A (Ending R) → Type 0 where
  thing_made : (a : A) → ((o : Result A R) → outcome old.told plan ≡ Some o → o ≡ Ok a) → Made names old new plan (Ok a)
  refusal_made : (r : R) → ((o : Result A R) → outcome old.told plan ≡ Some o → o ≡ Err r) → Made names old new plan (Err (refused r))
  fault_found : (file : File) (name : Bytes) → names file ≡ Some name → Rose (old.faults file name) (new.faults file name) → Made names old new plan (Err (unread file))
  wanting : Made names old new plan (Err no_memory)

same_some : {X : Type 0} (x y : X) → Some x ≡ Some y → y ≡ x
same_some x y e = cc

not_above : {X : Type 0} (n : ℕ) (x y : X) → n ≤ file_bound → (if nat_lt file_bound n then x else y) ≡ y
not_above n x y h = let t : nat_lt file_bound n ≡ false = grind (arith, nat_tests) in rw t refl

is_above : {X : Type 0} (n : ℕ) (x y : X) → file_bound < n → (if nat_lt file_bound n then x else y) ≡ x
is_above n x y h = let t : nat_lt file_bound n ≡ true = grind (arith, nat_tests) in rw t refl

module _ {R A : Type 0} where
  -- the same, of a plan that goes on from one whose told outcome is its own
  made_on : (names : File → Option Bytes) (old new : Held) (plan plan' : Plan R A) (made : Result A (Ending R))
      → ((o : Result A R) → outcome old.told plan' ≡ Some o → outcome old.told plan ≡ Some o) → Made names old new plan made → Made names old new plan' made
  made_on names old new plan plan' _ h (thing_made a e) = thing_made a (λ o p. e o (h o p))
  made_on names old new plan plan' _ h (refusal_made r e) = refusal_made r (λ o p. e o (h o p))
  made_on names old new plan plan' _ h (fault_found file name e rose) = fault_found file name e rose
  made_on names old new plan plan' _ h wanting = wanting

  given_thing : (names : File → Option Bytes) (old new : Held) (a : A) (made : Result A (Ending R)) → Gives old new (Ok a) made → Made names old new (give a) made
  given_thing names old new a made (inl e, same) = subst (λ r. Made names old new (give a) r) (sym e) (thing_made a (λ o p. same_some _ _ p))
  given_thing names old new a made (inr e, same) = subst (λ r. Made names old new (give a) r) (sym e) wanting

  given_refusal : (names : File → Option Bytes) (old new : Held) (r : R) (made : Result A (Ending R)) → Gives old new (Err (refused r)) made → Made names old new (refuse r) made
  given_refusal names old new r made (inl e, same) = subst (λ x. Made names old new (refuse r) x) (sym e) (refusal_made r (λ o p. same_some _ _ p))
  given_refusal names old new r made (inr e, same) = subst (λ x. Made names old new (refuse r) x) (sym e) wanting

  -- a file that is told and read is short
  read_on : (next : Bytes → Option (Result A R)) (refusal : R) (told : Option Bytes) (bytes : Bytes) (o : Result A R) → length bytes ≤ file_bound → IfSome told (λ b. bytes ≡ b)
      → option_and_then (λ b. if nat_lt file_bound (length b) then Some (Err refusal) else next b) told ≡ Some o → next bytes ≡ Some o
  read_on next refusal None bytes o short h e = cc
  read_on next refusal (Some b) bytes o short h e =
      let l : length b ≤ file_bound = subst (λ (x : Bytes). length x ≤ file_bound) h short in
      subst (λ (x : Bytes). next x ≡ Some o) (sym h) (sym (not_above (length b) (Some (Err refusal)) (next b) l) ∙ e)

  above_bound : (next : Bytes → Option (Result A R)) (refusal : R) (told : Option Bytes) (o : Result A R) → IfSome told (λ b. file_bound < length b)
      → option_and_then (λ b. if nat_lt file_bound (length b) then Some (Err refusal) else next b) told ≡ Some o → o ≡ Err refusal
  above_bound next refusal None o h e = cc
  above_bound next refusal (Some b) o h e = same_some _ _ (sym (is_above (length b) (Some (Err refusal)) (next b) h) ∙ e)

  unread_made : (names : File → Option Bytes) (old new : Held) (file : File) (name : Bytes) (long : R) (next : Bytes → Plan R A) (ending : Ending R) → names file ≡ Some name
      → FailsToRead file name long old new ending → Made names old new (read file name long next) (Err ending)
  unread_made names old new file name long next (unread f) e h = subst (λ x. Made names old new (read file name long next) (Err (unread x))) (sym h.0) (fault_found file name e h.1)
  unread_made names old new file name long next (refused r) e h = subst (λ x. Made names old new (read file name long next) (Err (refused x))) (sym h.0)
      (refusal_made long (λ o p. above_bound (λ b. outcome old.told (next b)) long (old.told name) o h.1 p))
  unread_made names old new file name long next no_memory e h = wanting
  unread_made names old new file name long next done e h = absurd h
  unread_made names old new file name long next unwritten e h = absurd h

  alike : (f g : Bytes → Option (Result A R)) → ((b : Bytes) → f b ≡ g b) → (o : Option Bytes) → option_and_then f o ≡ option_and_then g o
  alike f g h None = refl
  alike f g h (Some b) = h b

  abbrev answered : R → (Bytes → Option (Result A R)) → Bytes → Option (Result A R)
  answered long next b = if nat_lt file_bound (length b) then Some (Err long) else next b

  -- where the same is told, a plan has the same outcome
  same_outcome : (told told' : Bytes → Option Bytes) → ((name : Bytes) → told' name ≡ told name) → (plan : Plan R A) → outcome told' plan ≡ outcome told plan
  same_outcome told told' same (give a) = refl
  same_outcome told told' same (refuse r) = refl
  same_outcome told told' same (read file name long next) =
      ap (λ (o : Option Bytes). option_and_then (answered long (λ b. outcome told' (next b))) o) (same name)
      ∙ alike (answered long (λ b. outcome told' (next b))) (answered long (λ b. outcome told (next b)))
      (λ b. ap (λ (o : Option (Result A R)). if nat_lt file_bound (length b) then Some (Err long) else o) (same_outcome told told' same (next b))) (told name)

  -- what was made later was made from before
  made_before : (names : File → Option Bytes) (old between new : Held) (plan : Plan R A) (made : Result A (Ending R)) → Stays old between
      → Made names between new plan made → Made names old new plan made
  made_before names old between new plan _ s (thing_made a e) = thing_made a (λ o p. e o (same_outcome old.told between.told s.told plan ∙ p))
  made_before names old between new plan _ s (refusal_made r e) = refusal_made r (λ o p. e o (same_outcome old.told between.told s.told plan ∙ p))
  made_before names old between new plan _ s (fault_found file name e rose) =
      let up : old.faults file name ≤ between.faults file name = s.faults file name in
      fault_found file name e (omega arith)
  made_before names old between new plan _ s wanting = wanting

  pub made_of : (names : File → Option Bytes) (old new : Held) (plan : Plan R A) (made : Result A (Ending R)) → ReadsOnly names plan → Makes old new plan made → Made names old new plan made
  made_of names old new (give a) made only (gives g) = given_thing names old new a made g
  made_of names old new (refuse r) made only (refuses g) = given_refusal names old new r made g
  made_of names old new (read file name long next) _ only (not_read {ending = s} f) = unread_made names old new file name long next s only.0 f
  made_of names old new (read file name long next) made only (was_read between bytes is m) =
      made_on names old new (next bytes) (read file name long next) made (λ o e. read_on (λ b. outcome old.told (next b)) long (old.told name) bytes o is.0.0 is.0.1 e)
      (made_before names old between new (next bytes) made is.1 (made_of names between new (next bytes) made (only.1 bytes) m))

-- a file that is named is none that is not
apart : {A : Type 0} (o : Option A) (a : A) → o ≡ Some a → o ≡ None → ⊥
apart o a e n = cc

-- The counts of files that are not named stay.
pub unnamed_so : {R A : Type 0} (names : File → Option Bytes) (old new : Held) (plan : Plan R A) (made : Result A (Ending R)) → ReadsOnly names plan → Makes old new plan made
    → (file : File) (name : Bytes) → names file ≡ None → new.faults file name ≡ old.faults file name
unnamed_so names old new (give a) made only (gives g) file name e = g.1 file name
unnamed_so names old new (refuse r) made only (refuses g) file name e = g.1 file name
unnamed_so names old new (read asked given long next) _ only (not_read {ending = s} f) file name e =
    only_asked asked given long old new s f file name (λ same. apart (names asked) given only.0 (ap names (sym same) ∙ e))
unnamed_so names old new (read asked given long next) made only (was_read between bytes is m) file name e =
    unnamed_so names between new (next bytes) made (only.1 bytes) m file name e ∙ is.2 file name (λ same. apart (names asked) given only.0 (ap names (sym same) ∙ e))

-- what was given is something that the plan may give
pub only_made : {R A : Type 0} (old new : Held) (P : A → Type 0) (plan : Plan R A) (made : Result A (Ending R)) (a : A) → made ≡ Ok a → GivesOnly P plan → Makes old new plan made → P a
only_made old new P (give b) made a e h (gives (inl g, stay)) = let same : b ≡ a = let q : Ok b ≡ Ok a = sym g ∙ e in cc in subst P same h
only_made old new P (give b) made a e h (gives (inr g, stay)) = let q : Err no_memory ≡ Ok a = sym g ∙ e in cc
only_made old new P (refuse r) made a e h (refuses (inl g, stay)) = let q : Err (refused r) ≡ Ok a = sym g ∙ e in cc
only_made old new P (refuse r) made a e h (refuses (inr g, stay)) = let q : Err no_memory ≡ Ok a = sym g ∙ e in cc
only_made old new P (read file name long next) _ a e h (not_read {ending = s} f) = let q : Err s ≡ Ok a = e in cc
only_made old new P (read file name long next) made a e h (was_read between bytes is m) = only_made between new P (next bytes) made a e (h bytes) m
