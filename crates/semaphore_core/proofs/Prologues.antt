-- A prologue that signals alone has signals alone as its micro-steps.
use Rattle.std.proofs.Common.{◌≡◌, ℕ, zero, suc, List, [], ◌∷◌, ◌++◌, length, Option, Some, None, refl, subst}
use Rattle.std.specs.Prelude.{slice_get, take as take_list}
use Rattle.std.specs.List.{count_by}
use Rattle.executive_program.specs.declared.program.Instr.{Instr}
use Rattle.executive_program.specs.declared.program.Instr.TheVariants.{Suc0, Suc1, Pre0, Pre1, Call, Send, Recv, Sync}
use Rattle.executive_program.specs.declared.program.Program.{Program}
use Rattle.executive_program.specs.declared.steps.MicroStep.{MicroStep}
use Rattle.executive_program.specs.declared.steps.MicroStep.TheVariants.{Take, See, Lower, Signal, Await, Advance, Load, Store}
use Rattle.executive_program.specs.Blocks.{blocks, repeated}
use Rattle.executive_program.specs.Instructions.{is_communication, readers}
use Rattle.executive_program.specs.Steps.{steps_in, steps_at, steps_in_list}
use Rattle.executive_program.specs.Places.{opening_signals, signals_of, opening_of}
use Rattle.semaphore_core.specs.Held.{NeedsReaction}

-- the property holds for each of the list
abbrev Each : {A : Type 0} → (A → Type 0) → List A → Type 0
Each P [] = Unit {0}
Each P (x ∷ xs) = P x × Each P xs

each_at : {A : Type 0} (P : A → Type 0) (xs : List A) (k : ℕ) (x : A) → Each P xs → slice_get xs k ≡ Some x → P x
each_at P [] k x h e = absurd (cc)
each_at P (y ∷ ys) zero x h e = let same : y ≡ x = cc in subst P same h.0
each_at P (y ∷ ys) (suc k) x h e = each_at P ys k x h.1 e

each_append : {A : Type 0} (P : A → Type 0) (xs ys : List A) → Each P xs → Each P ys → Each P (xs ++ ys)
each_append P [] ys h k = k
each_append P (x ∷ xs) ys h k = (h.0, each_append P xs ys h.1 k)

each_block : {A : Type 0} (P : A → Type 0) (f : ℕ → List A) (n : ℕ) → ((i : ℕ) → Each P (f i)) → Each P (blocks f n)
each_block P f zero h = tt
each_block P f (suc n) h = each_append P (blocks f n) (f n) (each_block P f n h) (h n)

each_repeated : {A : Type 0} (P : A → Type 0) (x : A) (n : ℕ) → P x → Each P (repeated x n)
each_repeated P x zero h = tt
each_repeated P x (suc n) h = (h, each_repeated P x n h)

abbrev IsOpening : Instr → Type 0
IsOpening (Pre0 q) = Unit {0}
IsOpening _ = ⊥

abbrev IsSignal : MicroStep → Type 0
IsSignal (Signal x) = Unit {0}
IsSignal _ = ⊥

opening_signals_alone : (p : Program) (s : ℕ) → Each IsOpening (opening_of p s)
opening_signals_alone p s = each_block IsOpening (signals_of p s) (length (readers p)) (λ q. each_repeated IsOpening (Pre0 q) (opening_signals p s q) tt)

steps_signal : (p : Program) (m n t : ℕ) (x : Instr) → IsOpening x → Each IsSignal (steps_in p m n t (Some x))
steps_signal p m n t (Pre0 q) h = (tt, tt)
steps_signal p m n t (Suc0 q) h = absurd h
steps_signal p m n t (Suc1 q) h = absurd h
steps_signal p m n t (Pre1 q) h = absurd h
steps_signal p m n t (Call v ins outs) h = absurd h
steps_signal p m n t (Send b q) h = absurd h
steps_signal p m n t (Recv b q) h = absurd h
steps_signal p m n t (Sync q r) h = absurd h

steps_signal_in : (p : Program) (m : ℕ) (xs : List Instr) → Each IsOpening xs → (a : ℕ) → Each IsSignal (steps_at p m xs a)
steps_signal_in p m xs h a = by (slice_get xs a) refl
  where
    N : ℕ
    N = count_by is_communication xs

    T : ℕ
    T = count_by is_communication (take_list a xs)

    by : (o : Option Instr) → slice_get xs a ≡ o → Each IsSignal (steps_in p m N T o)
    by None e = tt
    by (Some x) e = steps_signal p m N T x (each_at IsOpening xs a x h e)

needs_none : (m : MicroStep) → IsSignal m → NeedsReaction m 0 0
needs_none (Signal x) h = tt
needs_none (Take x) h = absurd h
needs_none (See x) h = absurd h
needs_none (Lower x) h = absurd h
needs_none (Await m i n exact) h = absurd h
needs_none (Advance m) h = absurd h
needs_none (Load x then) h = absurd h
needs_none (Store x what) h = absurd h

-- the micro-steps of the prologue of s need no reaction
pub opening_bare : (p : Program) (s m l : ℕ) (x : MicroStep) → slice_get (steps_in_list p m (opening_of p s)) l ≡ Some x → NeedsReaction x 0 0
opening_bare p s m l x e = needs_none x
    (each_at IsSignal (steps_in_list p m (opening_of p s)) l x
    (each_block IsSignal (steps_at p m (opening_of p s)) (length (opening_of p s)) (steps_signal_in p m (opening_of p s) (opening_signals_alone p s))) e)
