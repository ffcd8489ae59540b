-- Where a sequence stands that has made n micro-steps: the next one of those that were laid out for it, and what that needs.
use Rattle.std.proofs.Common.{
  ◌≡◌,
  ℕ,
  zero,
  suc,
  ◌+◌,
  ◌-◌,
  ◌*◌,
  ◌<◌,
  ◌≤◌,
  ◌⊎◌,
  inl,
  inr,
  ⊎_elim,
  Bool,
  true,
  false,
  cond,
  ltb,
  List,
  [],
  ◌∷◌,
  length,
  get_or,
  Option,
  Some,
  None,
  refl,
  sym,
  ap,
  subst,
  arith,
  ◌∙◌,
}
use Rattle.std.specs.Prelude.{slice_get}
use Rattle.std.specs.Option.{option_map}
use Rattle.std.proofs.lemmas.Bool.{cases_lt, lt-ltb, le-ltb}
use Rattle.std.proofs.lemmas.List.{length-map}
use Rattle.std.proofs.lemmas.Option.{slice_get_read, slice_get-map, same_Some, none-some}
use Rattle.std.proofs.lemmas.Nat.{mod_below, div_below}
use Rattle.executive_program.specs.Sites.{Code, step_at, place_at, reaction_at}
use Rattle.executive_program.specs.Graph.{Graph}
use Rattle.executive_program.specs.declared.program.SeqCode.{SeqCode}
use Rattle.executive_program.specs.declared.steps.MicroStep.{MicroStep}
use Rattle.executive_program.specs.declared.steps.MicroStep.TheVariants.{Take, See, Lower, Signal, Await, Advance, Load, Store}
use Rattle.executive_program.specs.declared.expand.SeqSteps.{SeqSteps}
use Rattle.executive_program.specs.Expanded.{expanded, AreSteps, code_of, next_in}
use Rattle.executive_program.specs.Steps.{steps, steps_by}
use Rattle.semaphore_core.specs.Job.{JobData, reactions}
use Rattle.semaphore_core.specs.Core.{full}
use Rattle.operation_desks.specs.Rooms.{Fits}
use Rattle.semaphore_core.specs.Held.{NeedsReaction}

-- the micro-steps that were laid out for s are those of the program
pub code_at : (j : JobData) (list : List SeqSteps) → AreSteps j.program list → (s : ℕ) → s < length j.program.seqs → (x : SeqSteps) → x ≡ get_or list s x → steps j.program s ≡ code_of x
code_at j list are s there x e = by (slice_get j.program.seqs s) refl
  where
    len : length list ≡ length j.program.seqs
    len = ap (λ (l : List SeqSteps). length l) are ∙ length-map j.program.seqs (expanded j.program)

    found : slice_get list s ≡ Some x
    found = slice_get_read list (length list) s x refl (omega (arith, len)) e

    mapped : option_map (expanded j.program) (slice_get j.program.seqs s) ≡ Some x
    mapped = sym (slice_get-map (expanded j.program) j.program.seqs s) ∙ ap (λ (l : List SeqSteps). slice_get l s) (sym are) ∙ found

    by : (q : Option SeqCode) → slice_get j.program.seqs s ≡ q → steps j.program s ≡ code_of x
    by None q = let z : option_map (expanded j.program) None ≡ Some x = ap (option_map (expanded j.program)) (sym q) ∙ mapped in absurd cc
    by (Some c) q = ap (steps_by j.program) q ∙ ap code_of (same_Some (expanded j.program c) x (ap (option_map (expanded j.program)) (sym q) ∙ mapped))

module _ (j : JobData) (s n : ℕ) where
  abbrev C : Code MicroStep
  C = steps j.program s

  -- the next micro-step of s
  abbrev pub next_at : Option MicroStep
  next_at = cond (ltb n (full j s)) (step_at (steps j.program s) n) None

  pub laid_out : (list : List SeqSteps) → AreSteps j.program list → s < length j.program.seqs → (x : SeqSteps) → x ≡ get_or list s x → next_in (reactions j) x n ≡ next_at
  laid_out list are there x e = ap (λ (q : Code MicroStep). cond (ltb n (length q.prologue + reactions j * length q.turn)) (step_at q n) None) (sym (code_at j list are s there x e))

  module _ (m : MicroStep) (is_next : next_at ≡ Some m) where
    pub not_past : n < full j s
    not_past = by (cases_lt n (full j s))
      where
        by : (n < full j s) ⊎ (full j s ≤ n) → n < full j s
        by (inl l) = l
        by (inr l) = let e = is_next in let z : None ≡ Some m = rw (le-ltb n (full j s) l) at e in absurd cc

    pub stands_at : step_at (steps j.program s) n ≡ Some m
    stands_at = let e = is_next in rw (lt-ltb n (full j s) not_past) at e

    -- this many registers are enough where they are enough for each micro-step of the sequence
    pub fits_at : (g : Graph) (room : ℕ) → ((l : ℕ) → Fits g room (slice_get (steps j.program s).prologue l)) → ((l : ℕ) → Fits g room (slice_get (steps j.program s).turn l)) → Fits g room (Some m)
    fits_at g room before within = subst (Fits g room) stands_at (by (ltb n (length (steps j.program s).prologue)))
      where
        by : (b : Bool) → Fits g room (cond b (slice_get (steps j.program s).prologue n) (slice_get (steps j.program s).turn (place_at (steps j.program s) n)))
        by true = before n
        by false = within (place_at (steps j.program s) n)

    -- a load or a store is made within the reactions
    pub needs_at : ((l : ℕ) (x : MicroStep) → slice_get (steps j.program s).prologue l ≡ Some x → NeedsReaction x 0 0) → NeedsReaction m (reaction_at (steps j.program s) n) (reactions j)
    needs_at bare = by (cases_lt n (length C.prologue))
      where
        never : (m : MicroStep) (k n : ℕ) → NeedsReaction m 0 0 → NeedsReaction m k n
        never (Take x) k n q = tt
        never (See x) k n q = tt
        never (Lower x) k n q = tt
        never (Signal x) k n q = tt
        never (Await a i l e) k n q = tt
        never (Advance a) k n q = tt
        never (Load x then) k n q = absurd (omega (arith, q))
        never (Store x what) k n q = absurd (omega (arith, q))

        within : (m : MicroStep) (k n : ℕ) → k < n → NeedsReaction m k n
        within (Take x) k n q = tt
        within (See x) k n q = tt
        within (Lower x) k n q = tt
        within (Signal x) k n q = tt
        within (Await a i l e) k n q = tt
        within (Advance a) k n q = tt
        within (Load x then) k n q = q
        within (Store x what) k n q = q

        by : (n < length C.prologue) ⊎ (length C.prologue ≤ n) → NeedsReaction m (reaction_at (steps j.program s) n) (reactions j)
        by (inl f) = never m (reaction_at (steps j.program s) n) (reactions j) (bare n m (let q = stands_at in rw (lt-ltb n (length C.prologue) f) at q))
        by (inr f) = within m (reaction_at (steps j.program s) n) (reactions j) (div_below (n - length C.prologue) (length C.turn) (reactions j) some (let e = not_past in omega arith))
          where
            some : 0 < length C.turn
            some = ⊎_elim (λ d. d) (λ d. let z : length C.turn ≡ 0 = omega arith in
                let y : reactions j * length C.turn ≡ reactions j * 0 = ap (λ (n : ℕ). reactions j * n) z in let e = not_past in
                absurd (omega arith)) (cases_lt 0 (length C.turn))

  -- without a next micro-step all are made
  there_is : (xs : List MicroStep) (i : ℕ) → i < length xs → slice_get xs i ≡ None → ⊥
  there_is [] i l e = absurd (omega arith)
  there_is (x ∷ xs) zero l e = absurd (none-some x (sym e))
  there_is (x ∷ xs) (suc i) l e = there_is xs i (omega arith) e

  steps_on : n < full j s → step_at C n ≡ None → ⊥
  steps_on l e = by (cases_lt n (length C.prologue))
    where
      by : (n < length C.prologue) ⊎ (length C.prologue ≤ n) → ⊥
      by (inl f) = there_is C.prologue n f (let q = e in rw (lt-ltb n (length C.prologue) f) at q)
      by (inr f) = there_is C.turn (place_at C n) (mod_below (n - length C.prologue) (length C.turn) some) (let q = e in rw (le-ltb n (length C.prologue) f) at q)
        where
          some : 0 < length C.turn
          some = ⊎_elim (λ d. d) (λ d. let z : length C.turn ≡ 0 = omega arith in
              let y : reactions j * length C.turn ≡ reactions j * 0 = ap (λ (n : ℕ). reactions j * n) z in absurd (omega arith)) (cases_lt 0 (length C.turn))

  pub none_left : next_at ≡ None → full j s ≤ n
  none_left e = by (cases_lt n (full j s))
    where
      by : (n < full j s) ⊎ (full j s ≤ n) → full j s ≤ n
      by (inl l) = absurd (steps_on l (let q = e in rw (lt-ltb n (full j s) l) at q))
      by (inr l) = l
