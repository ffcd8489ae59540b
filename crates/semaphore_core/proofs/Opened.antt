-- A state that was opened for a job stays one with each micro-step that is made.
use Rattle.std.proofs.Common.{◌≡◌, ◌≢◌, ℕ, zero, suc, ◌+◌, ◌-◌, ◌*◌, ◌^◌, ◌<◌, ◌≤◌, ◌⊎◌, inl, inr, ⊎_elim, List, length, get_or, Some, None, refl, sym, ap, subst, arith, ◌∙◌}
use Rattle.std.specs.Prelude.{slice_set}
use Rattle.std.proofs.lemmas.Bool.{cases_eq, cases_lt, lt-ltb, le-ltb}
use Rattle.std.proofs.lemmas.List.{length-set, get_or-set_same, get_or-set_other, get_or_past}
use Rattle.std.proofs.Math.Nat.{mul-add}
use Rattle.executive_program.specs.Owners.{sum_below}
use Rattle.executive_program.proofs.InterleavingSums.{le_below, member_below, more_below}
use Rattle.executive_program.specs.declared.steps.MicroStep.{MicroStep}
use Rattle.executive_program.specs.declared.steps.MicroStep.TheVariants.{Take, See, Lower, Signal, Await, Advance, Load, Store}
use Rattle.executive_program.specs.declared.expand.SeqSteps.{SeqSteps}
use Rattle.executive_program.specs.Expanded.{next_in}
use Rattle.executive_program.specs.Steps.{steps}
use Rattle.semaphore_core.specs.Job.{JobData, reactions, total_steps}
use Rattle.semaphore_core.specs.Core.{Core, count, counted, full, next, reaction, done_in, own, element_of, IsReached}
use Rattle.semaphore_core.specs.Held.{Held, IsOpened, AreReady, FitsWord, NeedsReaction, made, answer, kept_of}
use Rattle.operation_desks.specs.Rooms.{Fits}
use Rattle.semaphore_core.specs.declared.answer.StepAnswer.TheVariants.{Finished}
use Rattle.semaphore_core.proofs.Ready.{absorb_ready, after_ready}
use Rattle.semaphore_core.proofs.Standing.{next_at, laid_out, not_past, fits_at, needs_at, none_left}

sum_full : (a b : ℕ → ℕ) (n m : ℕ) → sum_below (λ s. a s + n * b s) m ≡ sum_below a m + n * sum_below b m
sum_full a b n zero = omega arith
sum_full a b n (suc m) = let e = sum_full a b n m in let d = mul-add n (sum_below b m) (b m) in omega arith

module _ (j : JobData) where
  -- the full counts add up to the micro-steps in all
  pub full_total : sum_below (full j) (length j.program.seqs) ≡ total_steps j.program (reactions j)
  full_total = sum_full (λ s. length (steps j.program s).prologue) (λ s. length (steps j.program s).turn) (reactions j) (length j.program.seqs)

  -- the counts add up to no more than the limit on micro-steps
  pub made_few : (h : Held) → IsOpened j h → made h.core ≤ 20000000
  made_few h o = let a = le_below (count h.core) (full j) (length h.core.counts) (λ i l. o.within i) in
      let b = ap (λ (n : ℕ). sum_below (full j) n) o.counts_there in
      let c = full_total in
      let t = o.total in omega arith

  module _ (h : Held) (o : IsOpened j h) (s : ℕ) (there : s < length j.program.seqs) where
    pub in_counts : s < length h.core.counts
    in_counts = let c = o.counts_there in omega arith

    abbrev N : ℕ
    N = count h.core s

    next_same : next j h.core s ≡ next_at j s N
    next_same = rw (lt-ltb s (length j.program.seqs) there) refl

    -- the next micro-step of s
    pub next_is : (x : SeqSteps) (n : ℕ) → x ≡ get_or h.steps s x → n ≡ count h.core s → next_in (reactions j) x n ≡ next j h.core s
    next_is x n e c = (λ i. next_in (reactions j) x (c i)) ∙ laid_out j s N h.steps o.steps_are there x e ∙ sym next_same

    module _ (m : MicroStep) (is_next : next j h.core s ≡ Some m) where
      here : next_at j s N ≡ Some m
      here = sym next_same ∙ is_next

      pub pending : count h.core s < full j s
      pending = not_past j s N m here

      pub room : Fits j.graph (get_or h.rooms s 0) (Some m)
      room = fits_at j s N m here j.graph (get_or h.rooms s 0) (o.in_prologue s) (o.in_turn s)

      -- a load or a store is made within the reactions
      pub needs : NeedsReaction m (reaction j h.core s) (reactions j)
      needs = needs_at j s N m here (o.bare s)

      pub word : FitsWord h.core m
      word = by m
        where
          by : (m : MicroStep) → FitsWord h.core m
          by (Take x) = tt
          by (See x) = tt
          by (Lower x) = tt
          by (Signal x) = let a = o.semaphores_few x in let b = made_few h o in omega arith
          by (Await n i l e) = tt
          by (Advance n) = let a = o.turns_few n in let b = made_few h o in omega arith
          by (Load x then) = tt
          by (Store x what) = tt

      pub count_fits : count h.core s + 1 < 2 ^ 64
      count_fits = let a = made_few h o in let b = member_below (count h.core) (length h.core.counts) s in_counts in omega arith

      -- one more micro-step of s, which raises no word by more than one
      module _ (z : Core) (counts_are : z.counts ≡ counted h.core s) where
        at_s : count z s ≡ count h.core s + 1
        at_s = ap (λ (l : List ℕ). get_or l s 0) counts_are ∙ get_or-set_same h.core.counts s (count h.core s + 1) 0 in_counts

        at_other : (t : ℕ) → t ≢ s → count z t ≡ count h.core t
        at_other t q = ap (λ (l : List ℕ). get_or l t 0) counts_are ∙ get_or-set_other h.core.counts s t (count h.core s + 1) 0 q

        same_length : length z.counts ≡ length h.core.counts
        same_length = ap (λ (l : List ℕ). length l) counts_are ∙ length-set h.core.counts s (count h.core s + 1)

        pub made_more : made z ≡ made h.core + 1
        made_more = ap (λ (n : ℕ). sum_below (count z) n) same_length ∙ more_below (count h.core) (count z) (length h.core.counts) s in_counts at_s at_other

        kept_by : length z.registers ≡ length h.core.registers → ((x : ℕ) → get_or z.semaphores x 0 ≤ made h.core + 1) → ((x : ℕ) → get_or z.turns x 0 ≤ made h.core + 1)
            → AreReady j (record { cells = z.cells; rows = z.rows; lens = h.lens; desks = h.desks })
            → IsReached j z → IsOpened j (record { core = z; steps = h.steps; rooms = h.rooms; lens = h.lens; desks = h.desks })
        kept_by r a b ready reached = record {
          reached = reached;
          places = o.places;
          laid = o.laid;
          ready = ready;
          steps_are = o.steps_are;
          counts_there = same_length ∙ o.counts_there;
          rooms_there = o.rooms_there;
          registers_there = r ∙ o.registers_there;
          within = within;
          semaphores_few = λ x. let d = a x in let e = made_more in omega arith;
          turns_few = λ x. let d = b x in let e = made_more in omega arith;
          total = o.total;
          in_prologue = o.in_prologue;
          bare = o.bare;
          in_turn = o.in_turn;
        }
          where
            within : (t : ℕ) → count z t ≤ full j t
            within t = ⊎_elim (λ q. subst (λ (u : ℕ). count z u ≤ full j u) (sym q) (let e = at_s in let d = pending in omega arith))
                (λ q. let e = at_other t q in let d = o.within t in omega arith) (cases_eq t s)

      semaphores_kept : (x : ℕ) → get_or h.core.semaphores x 0 ≤ made h.core + 1
      semaphores_kept x = let d = o.semaphores_few x in omega arith

      turns_kept : (x : ℕ) → get_or h.core.turns x 0 ≤ made h.core + 1
      turns_kept x = let d = o.turns_few x in omega arith

      -- words of which one has another value
      set_le : (words : List ℕ) (y w n : ℕ) → ((x : ℕ) → get_or words x 0 ≤ n) → w ≤ n → (x : ℕ) → get_or (slice_set words y w) x 0 ≤ n
      set_le words y w n a b x = ⊎_elim (λ q. inside q (cases_lt x (length words))) (λ q. let e = get_or-set_other words y x w 0 q in let d = a x in omega arith) (cases_eq x y)
        where
          inside : x ≡ y → (x < length words) ⊎ (length words ≤ x) → get_or (slice_set words y w) x 0 ≤ n
          inside q (inl l) = subst (λ (u : ℕ). get_or (slice_set words u w) x 0 ≤ n) q (let e = get_or-set_same words x w 0 l in omega arith)
          inside q (inr l) = let e = get_or_past (slice_set words y w) x 0 (let g = length-set words y w in omega arith) in omega arith

      pub opened_more : (k : ℕ) → IsReached j (done_in j h.core s k m) → IsOpened j (record { core = done_in j h.core s k m; steps = h.steps; rooms = h.rooms; lens = h.lens; desks = h.desks })
      opened_more k = by m
        where
          by : (m : MicroStep) → IsReached j (done_in j h.core s k m) → IsOpened j (record { core = done_in j h.core s k m; steps = h.steps; rooms = h.rooms; lens = h.lens; desks = h.desks })
          by (Take x) r = kept_by (done_in j h.core s k (Take x)) refl refl (set_le h.core.semaphores x 0 (made h.core + 1) semaphores_kept (omega arith)) turns_kept o.ready r
          by (See x) r = kept_by (done_in j h.core s k (See x)) refl refl semaphores_kept turns_kept o.ready r
          by (Lower x) r = kept_by (done_in j h.core s k (Lower x)) refl refl
              (set_le h.core.semaphores x (get_or h.core.semaphores x 0 - 1) (made h.core + 1) semaphores_kept
              (let d = o.semaphores_few x in omega arith)) turns_kept o.ready r
          by (Signal x) r = kept_by (done_in j h.core s k (Signal x)) refl refl
              (set_le h.core.semaphores x (get_or h.core.semaphores x 0 + 1) (made h.core + 1) semaphores_kept
              (let d = o.semaphores_few x in omega arith)) turns_kept o.ready r
          by (Await n i l e) r = kept_by (done_in j h.core s k (Await n i l e)) refl refl semaphores_kept turns_kept o.ready r
          by (Advance n) r = kept_by (done_in j h.core s k (Advance n)) refl refl semaphores_kept
              (set_le h.core.turns n (get_or h.core.turns n 0 + 1) (made h.core + 1) turns_kept (let d = o.turns_few n in omega arith)) o.ready r
          by (Load x then) r = kept_by (done_in j h.core s k (Load x then)) refl
              (length-set h.core.registers s _) semaphores_kept turns_kept
              (absorb_ready j (kept_of h) then k (own j h.core s) (element_of j h.core x k) o.ready) r
          by (Store x what) r = kept_by (done_in j h.core s k (Store x what)) refl
              (length-set h.core.registers s _) semaphores_kept turns_kept (after_ready j (kept_of h) what k (own j h.core s) o.ready) r

    -- a sequence that has no next micro-step has made all
    module _ (none : next j h.core s ≡ None) where
      pub all_made : full j s ≤ count h.core s
      all_made = none_left j s N (sym next_same ∙ none)

      pub is_finished : answer j h.core s ≡ Finished
      is_finished = rw (le-ltb (count h.core s) (full j s) all_made) refl
