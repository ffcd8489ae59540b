-- What each command reads and gives.
use Rattle.std.proofs.Common.{◌≡◌, ℕ, Bool, true, false, length, Option, Some, None, Result, Ok, Err, refl, subst, arith}
use Rattle.std.specs.Prelude.{if◌then◌else◌, nat_lt, option_and_then}
use Rattle.syn_base.specs.Bytes.{Bytes}
use Rattle.command_status.specs.Shelf.{file_bound}
use Rattle.command_status.specs.declared.File.{File}
use Rattle.command_status.specs.Plan.{Plan, read, outcome, ReadsOnly, GivesOnly}
use Rattle.command_status.specs.PlanAnswers.{IsOnce, RunsNone}
use Rattle.command_status.specs.Status.{Refusal}
use Rattle.command_words.specs.Command.{Command, plain, job, load}
use Rattle.top_plans.specs.Names.{names_for, names_of, RunsJobs, IsPlain}
use Rattle.top_plans.specs.Given.{Given, written, printed, executed, summed, stages}
use Rattle.top_plans.specs.Plans.{plan_for, plan_of}
use Rattle.top_plans.proofs.Walk.{Leaf, walk}

-- whatever the texts are
abbrev pub Any : Bytes → Bytes → Type 0
Any name bytes = Unit {0}

-- each file is read under the name that the words give it
pub reads_only : (command : Option Command) → ReadsOnly (names_of command) (plan_of command)
reads_only None = tt
reads_only (Some command) = walk Any (ReadsOnly (names_for command)) (λ r n. tt) command (λ file name next e h. (e, λ bytes. h bytes tt)) (λ a l. tt)

-- all that a command may give is a leaf of it
pub gives_leaves : (P : Given → Type 0) (command : Command) → ((a : Given) → Leaf Any command a → P a) → GivesOnly P (plan_for command)
gives_leaves P command h = walk Any (GivesOnly P) (λ r n. tt) command (λ file name next e k. λ bytes. k bytes tt) h

once_leaf : (command : Command) (a : Given) → ¬ RunsJobs command → Leaf Any command a → IsOnce stages a × RunsNone stages a
once_leaf (plain command) (written t) p l = (omega arith, refl)
once_leaf (plain command) (printed t e) p l = absurd l
once_leaf (plain command) (executed e) p l = absurd l
once_leaf (plain command) (summed e t) p l = absurd l
once_leaf (job command) a p l = absurd (p tt)

-- all is written by one call, and no job is run
pub gives_once : (command : Option Command) → IsPlain command → GivesOnly (IsOnce stages) (plan_of command)
gives_once None p = tt
gives_once (Some command) p = gives_leaves (IsOnce stages) command (λ a l. (once_leaf command a p l).0)

-- a load is written by one call too
load_leaf : (n : ℕ) (a : Given) → Leaf Any (job (load n)) a → IsOnce stages a
load_leaf n (written t) l = absurd l
load_leaf n (printed t e) l = absurd l
load_leaf n (executed e) l = absurd l
load_leaf n (summed e t) l = omega arith

pub load_gives_once : (n : ℕ) → GivesOnly (IsOnce stages) (plan_of (Some (job (load n))))
load_gives_once n = gives_leaves (IsOnce stages) (job (load n)) (load_leaf n)

module _ {R A : Type 0} where
  abbrev made : A → Option (Result A R)
  made a = Some (Ok a)

  abbrev stopped : R → Option (Result A R)
  stopped r = Some (Err r)

  same_given : (b a : A) → made b ≡ made a → b ≡ a
  same_given b a e = cc

  not_given : (r : R) (a : A) → stopped r ≡ made a → ⊥
  not_given r a e = cc

  none_given : (a : A) → None ≡ made a → ⊥
  none_given a e = cc

-- the text under a name is told
abbrev pub IsTold : (Bytes → Option Bytes) → Bytes → Bytes → Type 0
IsTold told name bytes = told name ≡ Some bytes

-- what a plan gives, where the files are told, has this
abbrev Tells : (Given → Type 0) → (Bytes → Option Bytes) → Plan Refusal Given → Type 0
Tells P told plan = (a : Given) → outcome told plan ≡ Some (Ok a) → P a

-- a plan that reads a file goes on with the text that is told
read_told : (P : Given → Type 0) (told : Bytes → Option Bytes) (file : File) (name : Bytes) (long : Refusal)
    (next : Bytes → Plan Refusal Given) → ((bytes : Bytes) → IsTold told name bytes → Tells P told (next bytes))
    → Tells P told (read file name long next)
read_told P told file name long next h a e = by (told name) refl e
  where
    deeper : (b : Bytes) (t : Bool) → told name ≡ Some b → (if t then Some (Err long) else outcome told (next b)) ≡ Some (Ok a) → P a
    deeper b true s q = absurd (not_given long a q)
    deeper b false s q = h b s a q

    by : (o : Option Bytes) → told name ≡ o
        → option_and_then (λ bytes. if nat_lt file_bound (length bytes) then Some (Err long) else outcome told (next bytes)) o ≡ Some (Ok a) → P a
    by None s q = absurd (none_given a q)
    by (Some b) s q = deeper b (nat_lt file_bound (length b)) s q

-- what a command gives where the files are told is a leaf over the texts that are told
pub told_gives : (P : Given → Type 0) (told : Bytes → Option Bytes) (command : Command)
    → ((g : Given) → Leaf (IsTold told) command g → P g) → Tells P told (plan_for command)
told_gives P told command leaf =
    walk (IsTold told) (Tells P told) (λ r n a e. absurd (not_given r a e)) command
    (λ file name next is h. read_told P told file name _ next h)
    (λ g l a e. subst P (same_given g a e) (leaf g l))
