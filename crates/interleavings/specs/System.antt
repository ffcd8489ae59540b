-- Sequences of micro-steps on shared words, with private state that
-- no other sequence sees: step, run, and what counts tell.
use Rattle.std.specs.Prelude.{
  ℕ,
  zero,
  suc,
  ◌+◌,
  ◌-◌,
  ◌*◌,
  ◌%◌,
  Bool,
  true,
  false,
  cond,
  nat_eq,
  nat_lt,
  nat_le,
  List,
  [],
  ◌∷◌,
  length,
  Option,
  Some,
  None,
  ℤ,
  pos,
}
use Rattle.interleavings.specs.Sites.{Code, step_at, reaction_at, passes}
use Rattle.interleavings.specs.Precedence.{one_more}

-- A micro-step. Semaphore x: `take` at depth 1, `see` and then `sub` at a
-- greater depth. Medium m: i is a half of a transfer of one reaction.
-- Element y: i is the number of the access in one reaction, among the stores of y in the serial order.
pub data Micro : Type 0 where
  take see sub signal : ℕ → Micro
  await : (m i : ℕ) → (exact : Bool) → Micro
  advance : (m i : ℕ) → Micro
  load store : (y i : ℕ) → Micro

-- A micro-step takes semaphore x if it is a take of x, or the sub that lowers x after
-- a see; a see takes nothing.
abbrev pub is_take : ℕ → Micro → Bool
is_take x (take y) = nat_eq y x
is_take x (sub y) = nat_eq y x
is_take x _ = false

-- A micro-step signals semaphore x if it adds 1 to it.
abbrev pub is_signal : ℕ → Micro → Bool
is_signal x (signal y) = nat_eq y x
is_signal x _ = false

-- A micro-step advances medium m if it adds 1 to the turn of m, for any half.
abbrev pub advances : ℕ → Micro → Bool
advances m (advance n i) = nat_eq n m
advances m _ = false

-- A micro-step stores element y if it is a store of y, with any number in the reaction.
abbrev pub stores : ℕ → Micro → Bool
stores y (store z i) = nat_eq z y
stores y _ = false

-- P is private state. `absorb s n p v` is it after step n of sequence s loaded v,
-- `emit s n p` what that step stores, `after s n p` what is left then.
pub record System (P : Type 0) : Type 0 where
  pub sequences : ℕ
  pub reactions : ℕ
  pub codes : ℕ → Code Micro
  -- halves of transfers of a medium in one reaction, stores of an element in one reaction, and places of an element
  pub halves : ℕ → ℕ
  pub period : ℕ → ℕ
  pub depth : ℕ → ℕ
  pub start : ℕ → P
  pub absorb : ℕ → ℕ → P → ℤ → P
  pub emit : ℕ → ℕ → P → ℤ
  pub after : ℕ → ℕ → P → P

-- The state of a run has the count of each sequence, the semaphores, the turns of media, the
-- values in the places of elements, and the private state of each sequence.
pub record State (P : Type 0) : Type 0 where
  pub counts : ℕ → ℕ
  pub semaphores : ℕ → ℕ
  pub turns : ℕ → ℕ
  pub elements : ℕ → ℕ → ℤ
  pub own : ℕ → P

-- The function f is changed to the value a at i, and is as before everywhere else.
abbrev pub put : {A : Type 0} → (ℕ → A) → ℕ → A → ℕ → A
put f i a j = cond (nat_eq j i) a (f j)

-- A turn lets a wait for half a go on if it is a, or, if the wait is not exact, also
-- if it is above a.
abbrev pub turn_reached : Bool → ℕ → ℕ → Bool
turn_reached true turn a = nat_eq turn a
turn_reached false turn a = nat_le a turn

module _ {P : Type 0} (w : System P) where
  -- Sequence s makes this many micro-steps in all, its prologue once and its turn in each reaction.
  abbrev pub full : ℕ → ℕ
  full s = length (w.codes s).prologue + w.reactions * length (w.codes s).turn

  -- This is the micro-step that sequence s makes next after the counts c, and none if
  -- s is at its end or is no sequence of the system.
  abbrev pub next : (ℕ → ℕ) → ℕ → Option Micro
  next c s = cond (nat_lt s w.sequences) (cond (nat_lt (c s) (full s)) (step_at (w.codes s) (c s)) None) None

  -- In the state before the first step all counts, semaphores, turns and elements are
  -- 0, and each sequence has its start as its private state.
  abbrev pub opening : State P
  opening = record { counts = λ _. 0; semaphores = λ _. 0; turns = λ _. 0; elements = λ _ _. pos 0; own = w.start }

  -- the number over all reactions of the half i, or of the access i, in the reaction of step n of s
  abbrev pub half_number : ℕ → ℕ → ℕ → ℕ → ℕ
  half_number s n m i = reaction_at (w.codes s) n * w.halves m + i

  -- Access i of element y at step n of s belongs to this round, which is counted from
  -- 0 over all reactions, with `period y` rounds in each.
  abbrev pub round_number : ℕ → ℕ → ℕ → ℕ → ℕ
  round_number s n y i = reaction_at (w.codes s) n * w.period y + i

  -- Access i of element y at step n of s uses this place of y, since successive rounds
  -- use its `depth y` places in turn.
  abbrev pub place_number : ℕ → ℕ → ℕ → ℕ → ℕ
  place_number s n y i = round_number s n y i % w.depth y

  -- only a take, a see and a wait can be not enabled
  abbrev pub enabled_by : State P → ℕ → Option Micro → Bool
  enabled_by z s None = false
  enabled_by z s (Some (take x)) = nat_eq (z.semaphores x) 1
  enabled_by z s (Some (see x)) = nat_le 1 (z.semaphores x)
  enabled_by z s (Some (sub x)) = true
  enabled_by z s (Some (signal x)) = true
  enabled_by z s (Some (await m i e)) = turn_reached e (z.turns m) (half_number s (z.counts s) m i)
  enabled_by z s (Some (advance m i)) = true
  enabled_by z s (Some (load y i)) = true
  enabled_by z s (Some (store y i)) = true

  -- Sequence s is enabled in state z if it has a next micro-step that can be made
  -- there; at its end it is not enabled.
  abbrev pub enabled : State P → ℕ → Bool
  enabled z s = enabled_by z s (next z.counts s)

  -- This is the state after sequence s made this micro-step in state z, enabled or
  -- not; with no micro-step it is z.
  abbrev pub done_by : State P → ℕ → Option Micro → State P
  done_by z s None = z
  done_by z s (Some (take x)) = record z { counts = one_more z.counts s; semaphores = put z.semaphores x 0 }
  done_by z s (Some (see x)) = record z { counts = one_more z.counts s }
  done_by z s (Some (sub x)) = record z {
    counts = one_more z.counts s;
    semaphores = put z.semaphores x (z.semaphores x - 1);
  }
  done_by z s (Some (signal x)) = record z {
    counts = one_more z.counts s;
    semaphores = put z.semaphores x (z.semaphores x + 1);
  }
  done_by z s (Some (await m i e)) = record z { counts = one_more z.counts s }
  done_by z s (Some (advance m i)) = record z { counts = one_more z.counts s; turns = put z.turns m (z.turns m + 1) }
  done_by z s (Some (load y i)) = record z {
    counts = one_more z.counts s;
    own = put z.own s (w.absorb s (z.counts s) (z.own s) (z.elements y (place_number s (z.counts s) y i)));
  }
  done_by z s (Some (store y i)) = record z {
    counts = one_more z.counts s;
    elements = put z.elements y (put (z.elements y) (place_number s (z.counts s) y i)
        (w.emit s (z.counts s) (z.own s)));
    own = put z.own s (w.after s (z.counts s) (z.own s));
  }

  -- A step of s leads to the state after its next micro-step if s is enabled, and
  -- changes nothing if it is not.
  abbrev pub step : State P → ℕ → State P
  step z s = cond (enabled z s) (done_by z s (next z.counts s)) z

  -- From state z, steps of the listed sequences in order lead to this state; a number
  -- whose sequence is not enabled at that time changes nothing.
  abbrev pub run_from : State P → List ℕ → State P
  run_from z [] = z
  run_from z (s ∷ ss) = run_from (step z s) ss

  -- This is the state to which a list of sequence numbers, one interleaving, leads
  -- from the opening state.
  abbrev pub run : List ℕ → State P
  run list = run_from opening list

  -- how often all sequences together passed the test p
  abbrev pub total_to : (Micro → Bool) → (ℕ → ℕ) → ℕ → ℕ
  total_to p c zero = 0
  total_to p c (suc n) = total_to p c n + passes p (w.codes n) (c n)

  -- All sequences together have passed the test p this often when their counts are c.
  abbrev pub total : (Micro → Bool) → (ℕ → ℕ) → ℕ
  total p c = total_to p c w.sequences

  -- the value of the last of the first t rounds that used place p
  abbrev pub latest : (ℕ → ℤ) → ℕ → ℕ → ℕ → ℤ
  latest f d zero p = pos 0
  latest f d (suc t) p = cond (nat_eq p (t % d)) (f t) (latest f d t p)

  -- What counts tell, where `stored y t` is the value of element y in
  -- round t, and `owned s n` the private state of s after n steps.
  abbrev pub told : (ℕ → ℕ → ℤ) → (ℕ → ℕ → P) → (ℕ → ℕ) → State P
  told stored owned c = record {
    counts = c;
    semaphores = λ x. total (is_signal x) c - total (is_take x) c;
    turns = λ m. total (advances m) c;
    elements = λ y p. latest (stored y) (w.depth y) (total (stores y) c) p;
    own = λ s. owned s (c s);
  }
