-- How texts are refused, for the definitions of all texts of lines. A definition says what a text gives, or its first
-- refusal, which is never want of memory: that is what code alone returns, in place of any result.
use Rattle.std.specs.Prelude.{
  ◌≡◌,
  ℕ,
  Bool,
  nat_lt,
  List,
  [],
  ◌∷◌,
  ◌++◌,
  Option,
  Some,
  None,
  Result,
  Ok,
  Err,
  if◌then◌else◌,
}
use Rattle.std.specs.Global.{Vec}
use Rattle.syn_base.specs.Limits.{bound_of}
use Rattle.syn_base.specs.declared.limits.LimitFault.{LimitFault}
use Rattle.syn_base.specs.declared.limits.LimitKind.{LimitKind}
use Rattle.text_lines.specs.declared.fault.TextFault.{TextFault}
use Rattle.text_lines.specs.declared.fault.TextError.{TextError}
use Rattle.text_lines.specs.declared.fault.TextError.TheVariants as error

-- A text is refused at a line for one of its causes, or because a quantity is above its bound.
pub data Refusal (C : Type 0) : Type 0 where
  Refused : TextFault C → Refusal C
  Limit : LimitFault → Refusal C

-- The error with which code returns a refusal.
abbrev pub error_of : {C : Type 0} → Refusal C → TextError C
error_of (Refused f) = error.Refused f
error_of (Limit f) = error.Limit f

-- The refusal of a text at this line for this cause. Line 0 is for what concerns the whole text.
abbrev pub refusal : {C : Type 0} → ℕ → C → Refusal C
refusal line cause = Refused (record { line = line; cause = cause })

-- The same in place of what a text gives.
abbrev pub refused : {A C : Type 0} → ℕ → C → Result A (Refusal C)
refused line cause = Err (refusal line cause)

-- Whether a quantity is above its bound.
abbrev pub is_above : LimitKind → ℕ → Bool
is_above which count = nat_lt (bound_of which) count

-- The refusal of this count, which is above the bound of its quantity.
abbrev pub above : {A C : Type 0} → LimitKind → ℕ → Result A (Refusal C)
above which count = Err (Limit (record { which = which; count = count; bound = bound_of which }))

-- What follows, with what there is; or the refusal where there is nothing.
abbrev pub with_some : {A B E : Type 0} → Option A → Result B E → (A → Result B E) → Result B E
with_some (Some x) missing go = go x
with_some None missing go = missing

-- What follows, with what was read; a refusal stays.
abbrev pub and_then : {A B E : Type 0} → Result A E → (A → Result B E) → Result B E
and_then (Ok x) go = go x
and_then (Err e) go = Err e

-- What follows if all of these pass the test; or the refusal of the first that does not.
abbrev pub if_all_pass : {X A E : Type 0} → (X → Bool) → (X → Result A E) → List X → Result A E → Result A E
if_all_pass test refuse [] go = go
if_all_pass test refuse (x ∷ xs) go = if test x then if_all_pass test refuse xs go else refuse x

-- What code returns beside what is defined.
-- The error is the refusal that is defined, or want of memory.
abbrev pub Fails : {A C : Type 0} → TextError C → Result A (Refusal C) → Type 0
Fails (error.Refused f) read = read ≡ Err (Refused f)
Fails (error.Limit f) read = read ≡ Err (Limit f)
Fails error.OutOfMemory read = Unit {0}

-- What was returned is what is defined, or want of memory.
abbrev pub Gives : {A C : Type 0} → Result A (TextError C) → Result A (Refusal C) → Type 0
Gives (Ok x) read = read ≡ Ok x
Gives (Err e) read = Fails e read

-- The same of a list, which code holds in a vector.
abbrev pub GivesList : {A C : Type 0} → Result (Vec A) (TextError C) → Result (List A) (Refusal C) → Type 0
GivesList (Ok v) read = read ≡ Ok v.items
GivesList (Err e) read = Fails e read

-- A call that changes a value left there what is defined, or returned the refusal that is.
abbrev pub Steps : {S T C : Type 0} → Result T (TextError C) → S → Result S (Refusal C) → Type 0
Steps (Ok _) new read = read ≡ Ok new
Steps (Err e) new read = Fails e read

-- This is the error by which code refuses a text at a line for a cause.
abbrev pub stop : {C : Type 0} → ℕ → C → TextError C
stop line cause = error.Refused (record { line = line; cause = cause })

-- An error that was made is for the refusal that was asked for, or want of memory.
abbrev pub IsStop : {C : Type 0} → TextError C → Refusal C → Type 0
IsStop (error.Refused f) asked = asked ≡ Refused f
IsStop (error.Limit f) asked = asked ≡ Limit f
IsStop error.OutOfMemory asked = Unit {0}

-- This value was returned, unless memory ran out.
abbrev pub Has : {A C : Type 0} → Result A (TextError C) → A → Type 0
Has (Ok x) wanted = x ≡ wanted
Has (Err error.OutOfMemory) wanted = Unit {0}
Has (Err (error.Refused f)) wanted = ⊥
Has (Err (error.Limit f)) wanted = ⊥

-- A call added an element at the end, or changed nothing where memory ran out.
abbrev pub Adds : {A B C : Type 0} → Result B (TextError C) → List A → A → List A → Type 0
Adds (Ok _) old x new = new ≡ old ++ x ∷ []
Adds (Err error.OutOfMemory) old x new = new ≡ old
Adds (Err (error.Refused f)) old x new = ⊥
Adds (Err (error.Limit f)) old x new = ⊥
