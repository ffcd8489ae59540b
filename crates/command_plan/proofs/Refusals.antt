-- What a plan refuses where files are told is one of its refusals.
use Rattle.std.proofs.Common.{◌≡◌, Bool, true, false, length, Option, Some, None, Result, Ok, Err, subst}
use Rattle.std.specs.Prelude.{if◌then◌else◌, nat_lt, option_and_then}
use Rattle.syn_base.specs.Bytes.{Bytes}
use Rattle.outside.specs.Shelf.{file_bound}
use Rattle.command_plan.specs.Plan.{Plan, give, refuse, read, outcome, RefusesOnly}

module _ {R A : Type 0} (P : R → Type 0) (told : Bytes → Option Bytes) where
  abbrev as_given : A → Option (Result A R)
  as_given a = Some (Ok a)

  abbrev as_refused : R → Option (Result A R)
  as_refused r = Some (Err r)

  same_refusal : (r s : R) → as_refused r ≡ as_refused s → r ≡ s
  same_refusal r s e = cc

  not_refused : (a : A) (s : R) → as_given a ≡ as_refused s → ⊥
  not_refused a s e = cc

  none_refused : (s : R) → None ≡ as_refused s → ⊥
  none_refused s e = cc

  pub refused_so : (plan : Plan R A) → RefusesOnly P plan → (s : R) → outcome told plan ≡ as_refused s → P s
  refused_so (give a) h s e = absurd (not_refused a s e)
  refused_so (refuse r) h s e = subst P (same_refusal r s e) h
  refused_so (read file name long next) h s e = by (λ b. refused_so (next b) (h.1 b) s) (told name) e
    where
      deeper : (b : Bytes) (t : Bool) → (outcome told (next b) ≡ as_refused s → P s) → (if t then as_refused long else outcome told (next b)) ≡ as_refused s → P s
      deeper b true after q = subst P (same_refusal long s q) h.0
      deeper b false after q = after q

      by : ((b : Bytes) → outcome told (next b) ≡ as_refused s → P s) → (o : Option Bytes)
          → option_and_then (λ bytes. if nat_lt file_bound (length bytes) then as_refused long else outcome told (next bytes)) o ≡ as_refused s → P s
      by after None q = absurd (none_refused s q)
      by after (Some b) q = deeper b (nat_lt file_bound (length b)) (after b) q
