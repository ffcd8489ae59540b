-- Each kind of atomic step keeps the rule, and tells what it is to tell.
use Rattle.std.proofs.Common.{◌≡◌, ℕ, suc, ◌+◌, ◌-◌, ◌*◌, ◌%◌, ◌<◌, ◌^◌, ◌≢◌, Bool, true, false, cond, eqb, List, [], length, get_or, set, Some, refl, sym, ap, subst, arith, ◌∙◌, ℤ, eq-eqb, ne_eqb}
use Rattle.std.specs.Prelude.{nat_le}
use Rattle.std.proofs.lemmas.List.{set-get_or}
use mathlib.Core.Option.{some, none}
use lib.ListN.{get_elem?}
use prog.Atomic.{either}
use Rattle.atomic_table.specs.Table.{State, Act, Valid, Allows, stepped as moved, step, keeps, carried_after}
use Rattle.atomic_table.proofs.Lists.{exchanged}
use Rattle.executive_program.specs.Sites.{step_at, reaction_at}
use Rattle.executive_program.specs.System.{turn_reached}
use Rattle.executive_program.specs.declared.steps.Place.{Place}
use Rattle.executive_program.specs.declared.steps.MicroStep.{MicroStep}
use Rattle.executive_program.specs.declared.steps.MicroStep.TheVariants.{Take, See, Lower, Signal, Await, Advance, Load, Store}
use Rattle.executive_program.specs.Steps.{steps}
use Rattle.phase_laws.specs.Job.{JobData}
use Rattle.phase_laws.specs.Core.{Core, opening, enabled_in, done_in, full, home_of, slot_of}
use Rattle.phase_laws.specs.Told.{told}
use Rattle.phase_laws.specs.Laws.{one_more}
use Rattle.word_rule.specs.declared.view.Knowledge.{Knowledge}
use Rattle.word_rule.specs.declared.view.View.{View}
use Rattle.word_rule.specs.declared.view.View.TheVariants.{Holds}
use Rattle.word_rule.specs.Words.{word_of, table_of, table_len, word_at, element_word, AreExact}
use Rattle.word_rule.specs.Views.{count_in, raised, stepped}
use Rattle.word_rule.specs.Rule.{TellsAt, Tells, Agree, Finds, Raises, Loads, Looks, look_of}
use Rattle.word_rule.specs.Given.{IsShaped, IsThere, IsHere, RunsOnWords, StandsAt, enables, IsTake, Waits}
use Rattle.word_rule.proofs.Keeps.{looked_keeps}
use Rattle.word_rule.proofs.Joined.{joined_inside}
use Rattle.word_rule.proofs.Shapes.{lens_there, len_of_home, semaphore_set, semaphore_get, turn_get}
use Rattle.word_rule.proofs.Further.{shaped, stepped_keeps}

-- A seat that holds k, and drives s, which stands before the micro-step m.
module _ (k : Knowledge) (g : RunsOnWords k.job) (s n r : ℕ) (m : MicroStep) (mine : count_in k.driven s ≡ Some n) (here : s < length k.job.program.seqs)
    (more : n < full k.job s) (next_step : step_at (steps k.job.program s) n ≡ Some m) (in_reaction : reaction_at (steps k.job.program s) n ≡ r) (slots id : ℕ) where
  abbrev J : JobData
  J = k.job

  abbrev I : ℕ
  I = word_at J r m

  there : IsThere J m
  there = g.there s n m next_step

  module _ (t : State (Unit {0}) View) (counts : List ℕ) (b : TellsAt J t counts) (at : get_elem? t.views id ≡ some (Holds k)) where
    abbrev Then : Core
    Then = told J counts

    abbrev Found : ℕ
    Found = get_or t.words I 0

    counted : get_or counts s 0 ≡ n
    counted = b.agree id s n record { view = Holds k; stands = at; count = mine }

    pub found_is : Found ≡ get_or (table_of Then) I 0
    found_is = ap (λ (ws : List ℕ). get_or ws I 0) b.words

    pub agrees : Agree k counts
    agrees = record { are_told = b.are_told; agree = λ h n c. b.agree id h n record { view = Holds k; stands = at; count = c } }

    pub finds : Finds k I Found
    finds = record { counts = counts; agree = agrees; is = found_is }

    abbrev After : List ℕ → Knowledge → State (Unit {0}) View
    After words l = record { words = words; homes = t.homes; views = set t.views id (Holds l) }

    -- nothing but the look is recorded
    missed : (l : Knowledge) → l.job ≡ J → l.driven ≡ k.driven → (words : List ℕ) → words ≡ t.words → Tells J (After words l)
    missed l e d words w = subst (λ ws. Tells J (After ws l)) (sym w) (counts, looked_keeps J t counts b id k l at e d)

    -- the micro-step is made
    hit : (l : Knowledge) → l.job ≡ J → l.driven ≡ raised k.driven s → enabled_in Then r m ≡ true → (words : List ℕ) → words ≡ table_of (done_in J Then s r m)
        → AreExact (done_in J Then s r m).elements → Tells J (After words l)
    hit l e d on words w exact = (one_more J counts s, stepped_keeps J g counts b.are_told s n r m counted here more next_step in_reaction on t b id k l at e mine d words w exact)

    same_words : set t.words I Found ≡ t.words
    same_words = set-get_or t.words I 0

-- a look at a word, where that enables s and where it does not
pub look_job : (k : Knowledge) (s : ℕ) (f : ℕ → Bool) (w found : ℕ) → (look_of s f w found k).job ≡ k.job
look_job k s f w found = by (f found)
  where
    by : (c : Bool) → (cond c (stepped k s) k).job ≡ k.job
    by true = refl
    by false = refl

pub look_on : (k : Knowledge) (s : ℕ) (f : ℕ → Bool) (w found : ℕ) → f found ≡ true → (look_of s f w found k).driven ≡ raised k.driven s
look_on k s f w found e = ap (λ (c : Bool). (cond c (stepped k s) k).driven) e

pub look_off : (k : Knowledge) (s : ℕ) (f : ℕ → Bool) (w found : ℕ) → f found ≡ false → (look_of s f w found k).driven ≡ k.driven
look_off k s f w found e = ap (λ (c : Bool). (cond c (stepped k s) k).driven) e

-- a take
module _ (k : Knowledge) (g : RunsOnWords k.job) (s n r x : ℕ) (mine : count_in k.driven s ≡ Some n) (here : s < length k.job.program.seqs)
    (more : n < full k.job s) (next_step : step_at (steps k.job.program s) n ≡ Some (Take x)) (in_reaction : reaction_at (steps k.job.program s) n ≡ r) (slots id : ℕ) where
  pub take_kept : Allows (Tells k.job) slots id (Holds k, []) (suc x) (λ found. either (eqb found 1) 0 found) (Looks s (enables r (Take x)) (step slots (suc x) 1 0 none) (Holds k, []))
  take_kept t b homes at fits =
      exchanged Fd 1 0 (λ word. (w : View) × (a : Act (Unit {0})) × Valid t.homes [] a × Tells k.job (moved t (suc x) word id [] w a)
      × Looks s (enables r (Take x)) (step slots (suc x) 1 0 none) (Holds k, []) Fd (w, carried_after [] a))
      taken not_taken
    where
      z : Core
      z = told k.job b.0

      Fd : ℕ
      Fd = get_or t.words (suc x) 0

      l : Knowledge
      l = look_of s (enables r (Take x)) (suc x) Fd k

      shape : IsShaped k.job z
      shape = shaped k.job g b.0 b.1.are_told

      inside : x < 2 * length k.job.program.pairs
      inside = g.there s n (Take x) next_step

      semaphore_is : Fd ≡ get_or z.semaphores x 0
      semaphore_is = found_is k g s n r (Take x) mine here more next_step in_reaction slots id t b.0 b.1 at ∙ semaphore_get k.job z shape x inside

      finds_here : Finds k (suc x) Fd
      finds_here = finds k g s n r (Take x) mine here more next_step in_reaction slots id t b.0 b.1 at

      taken : Fd ≡ 1 → (w : View) × (a : Act (Unit {0})) × Valid t.homes [] a × Tells k.job (moved t (suc x) 0 id [] w a)
          × Looks s (enables r (Take x)) (step slots (suc x) 1 0 none) (Holds k, []) Fd (w, carried_after [] a)
      taken e = (
        Holds l,
        keeps,
        tt,
        hit k g s n r (Take x) mine here more next_step in_reaction slots id t b.0 b.1 at l (look_job k s (enables r (Take x)) (suc x) Fd)
            (look_on k s (enables r (Take x)) (suc x) Fd (eq-eqb Fd 1 e)) (eq-eqb (get_or z.semaphores x 0) 1 (sym semaphore_is ∙ e)) (set t.words (suc x) 0)
            (ap (λ (ws : List ℕ). set ws (suc x) 0) b.1.words ∙ semaphore_set k.job z shape x 0 inside) b.1.are_told.exact,
        (refl, finds_here),
      )

      not_taken : Fd ≢ 1 → (w : View) × (a : Act (Unit {0})) × Valid t.homes [] a × Tells k.job (moved t (suc x) Fd id [] w a)
          × Looks s (enables r (Take x)) (step slots (suc x) 1 0 none) (Holds k, []) Fd (w, carried_after [] a)
      not_taken e = (
        Holds l,
        keeps,
        tt,
        missed k g s n r (Take x) mine here more next_step in_reaction slots id t b.0 b.1 at l (look_job k s (enables r (Take x)) (suc x) Fd)
            (look_off k s (enables r (Take x)) (suc x) Fd (ne_eqb Fd 1 e)) (set t.words (suc x) Fd) (set-get_or t.words (suc x) 0),
        (refl, finds_here),
      )

-- A see or a wait: a load of the word that changes nothing.
module _ (k : Knowledge) (g : RunsOnWords k.job) (s n r : ℕ) (m : MicroStep) (mine : count_in k.driven s ≡ Some n) (here : s < length k.job.program.seqs)
    (more : n < full k.job s) (next_step : step_at (steps k.job.program s) n ≡ Some m) (in_reaction : reaction_at (steps k.job.program s) n ≡ r) (slots id : ℕ)
    (same_table : (z : Core) → table_of (done_in k.job z s r m) ≡ table_of z) (same_elements : (z : Core) → (done_in k.job z s r m).elements ≡ z.elements)
    (tests : (z : Core) → IsShaped k.job z → enables r m (get_or (table_of z) (word_at k.job r m) 0) ≡ enabled_in z r m) where
  pub wait_kept : Allows (Tells k.job) slots id (Holds k, []) (word_at k.job r m) (λ found. found) (Looks s (enables r m) (step slots (word_at k.job r m) 0 0 none) (Holds k, []))
  wait_kept t b homes at fits = (Holds l, keeps, tt, by (enables r m Fd) refl, (refl, finds k g s n r m mine here more next_step in_reaction slots id t b.0 b.1 at))
    where
      z : Core
      z = told k.job b.0

      Fd : ℕ
      Fd = get_or t.words (word_at k.job r m) 0

      l : Knowledge
      l = look_of s (enables r m) (word_at k.job r m) Fd k

      same_words : set t.words (word_at k.job r m) Fd ≡ t.words
      same_words = set-get_or t.words (word_at k.job r m) 0

      test_is : enables r m Fd ≡ enabled_in z r m
      test_is = ap (enables r m) (found_is k g s n r m mine here more next_step in_reaction slots id t b.0 b.1 at) ∙ tests z (shaped k.job g b.0 b.1.are_told)

      by : (c : Bool) → enables r m Fd ≡ c → Tells k.job (moved t (word_at k.job r m) Fd id [] (Holds l) keeps)
      by true e = hit k g s n r m mine here more next_step in_reaction slots id t b.0 b.1 at l (look_job k s (enables r m) (word_at k.job r m) Fd)
          (look_on k s (enables r m) (word_at k.job r m) Fd e) (sym test_is ∙ e) (set t.words (word_at k.job r m) Fd)
          (same_words ∙ b.1.words ∙ sym (same_table z)) (subst AreExact (sym (same_elements z)) b.1.are_told.exact)
      by false e = missed k g s n r m mine here more next_step in_reaction slots id t b.0 b.1 at l (look_job k s (enables r m) (word_at k.job r m) Fd)
          (look_off k s (enables r m) (word_at k.job r m) Fd e) (set t.words (word_at k.job r m) Fd) same_words

-- A micro-step that is always enabled, and changes the one word by f.
module _ (k : Knowledge) (g : RunsOnWords k.job) (s n r : ℕ) (m : MicroStep) (mine : count_in k.driven s ≡ Some n) (here : s < length k.job.program.seqs)
    (more : n < full k.job s) (next_step : step_at (steps k.job.program s) n ≡ Some m) (in_reaction : reaction_at (steps k.job.program s) n ≡ r) (slots id : ℕ)
    (f : ℕ → ℕ) (on : (z : Core) → enabled_in z r m ≡ true)
    (changed : (counts : List ℕ) → Agree k counts
    → set (table_of (told k.job counts)) (word_at k.job r m) (f (get_or (table_of (told k.job counts)) (word_at k.job r m) 0))
    ≡ table_of (done_in k.job (told k.job counts) s r m))
    (exact : (counts : List ℕ) → Agree k counts → AreExact (done_in k.job (told k.job counts) s r m).elements) where
  pub move_kept : (t : State (Unit {0}) View) (b : Tells k.job t) → get_elem? t.views id ≡ some (Holds k)
      → Tells k.job (moved t (word_at k.job r m) (f (get_or t.words (word_at k.job r m) 0)) id [] (Holds (stepped k s)) keeps)
  move_kept t b at = hit k g s n r m mine here more next_step in_reaction slots id t b.0 b.1 at (stepped k s) refl refl (on z)
      (set t.words (word_at k.job r m) (f Fd))
      (ap (λ (ws : List ℕ). set ws (word_at k.job r m) (f (get_or ws (word_at k.job r m) 0))) b.1.words ∙ changed b.0 agree) (exact b.0 agree)
    where
      z : Core
      z = told k.job b.0

      Fd : ℕ
      Fd = get_or t.words (word_at k.job r m) 0

      agree : Agree k b.0
      agree = agrees k g s n r m mine here more next_step in_reaction slots id t b.0 b.1 at

-- the word that a micro-step touches is one of the table
pub element_inside : (j : JobData) → RunsOnWords j → (x : Place) (r : ℕ) → IsHere j x → element_word j x r < table_len j
element_inside j g x r here = let h = g.shaped [] in
    let l = lens_there j (opening j) h x r here in let p = (here r).0 in let q = (here r).1 in let o = len_of_home j (opening j) h x r here in
    let i = joined_inside (opening j).elements (home_of j.program x) (slot_of j.program x r) (omega (arith, l, p)) (omega (arith, q, o)) in omega (arith, i)

pub word_inside : (j : JobData) → RunsOnWords j → (r : ℕ) (m : MicroStep) → IsThere j m → word_at j r m < table_len j
word_inside j g r (Take x) h = omega (arith, h)
word_inside j g r (See x) h = omega (arith, h)
word_inside j g r (Lower x) h = omega (arith, h)
word_inside j g r (Signal x) h = omega (arith, h)
word_inside j g r (Await m i n exact) h = omega (arith, h)
word_inside j g r (Advance m) h = omega (arith, h)
word_inside j g r (Load x then) h = element_inside j g x r h
word_inside j g r (Store x what) h = element_inside j g x r h

pub word_there : (j : JobData) (v : View) (s r : ℕ) (m : MicroStep) (word words : ℕ) → RunsOnWords j → StandsAt j v s r m → word ≡ word_at j r m → words ≡ table_len j → word < words
word_there j v s r m word words g a e w = let n : step_at (steps j.program s) a.count ≡ Some m = subst (λ (i : JobData). step_at (steps i.program s) a.count ≡ Some m) a.job a.next in
    let i = word_inside j g r m (g.there s a.count m n) in omega (arith, i, e, w)

-- the own job of a view is the one that is asked for
pub own_job : {j : JobData} {v : View} {s r : ℕ} {m : MicroStep} (a : StandsAt j v s r m) → RunsOnWords j → RunsOnWords a.knowledge.job
own_job a g = subst RunsOnWords (sym a.job) g

-- What a step asks, of a seat that holds no slot.
module _ (slots id s r : ℕ) where
  abbrev pub Taken : JobData → View → MicroStep → ℕ → Type 0
  Taken j v m word = Allows (Tells j) slots id (v, []) word (λ found. either (eqb found 1) 0 found) (Looks s (enables r m) (step slots word 1 0 none) (v, []))

  abbrev pub Waited : JobData → View → MicroStep → ℕ → Type 0
  Waited j v m word = Allows (Tells j) slots id (v, []) word (λ found. found) (Looks s (enables r m) (step slots word 0 0 none) (v, []))

  abbrev pub Added : JobData → View → MicroStep → ℕ → Type 0
  Added j v m word = Allows (Tells j) slots id (v, []) word (λ n. (n + 1) % 2 ^ 64) (Raises s (step slots word 1 0 none) (v, []))

  abbrev pub Lowered : JobData → View → MicroStep → ℕ → Type 0
  Lowered j v m word = Allows (Tells j) slots id (v, []) word (λ n. (n + (2 ^ 64 - 1)) % 2 ^ 64) (Raises s (step slots word 1 0 none) (v, []))

  abbrev pub Loaded : JobData → View → MicroStep → ℕ → Type 0
  Loaded j v m word = Allows (Tells j) slots id (v, []) word (λ found. found) (Loads s (step slots word 0 0 none) (v, []))

  abbrev pub Stored : ℤ → JobData → View → MicroStep → ℕ → Type 0
  Stored value j v m word = Allows (Tells j) slots id (v, []) word (λ _. word_of value) (λ _. Raises s (step slots word (word_of value) 0 none) (v, []) (word_of value))

-- from what the view holds to the job and the word that are named
module _ (P : JobData → View → MicroStep → ℕ → Type 0) (s r : ℕ) where
  pub at_own : (j : JobData) (v : View) (m : MicroStep) (word : ℕ) (a : StandsAt j v s r m) → word ≡ word_at j r m
      → P a.knowledge.job (Holds a.knowledge) m (word_at a.knowledge.job r m) → P j v m word
  at_own j v m word a e p = subst (P j v m) (sym e) (subst (λ u. P j u m (word_at j r m)) (sym a.holds) (subst (λ i. P i (Holds a.knowledge) m (word_at i r m)) a.job p))

pub take_allowed : (j : JobData) (v : View) (s r : ℕ) (m : MicroStep) (slots id word : ℕ) → RunsOnWords j → StandsAt j v s r m → IsTake m → word ≡ word_at j r m → Taken slots id s r j v m word
take_allowed j v s r m slots id word g a kind e = subst (λ i. StandsAt j v s r i → word ≡ word_at j r i → Taken slots id s r j v i word) (sym kind.1)
    (λ b q. at_own (Taken slots id s r) s r j v (Take kind.0) word b q (take_kept b.knowledge (own_job b g) s b.count r kind.0 b.drives b.here b.more b.next b.reaction slots id)) a e

pub wait_allowed : (j : JobData) (v : View) (s r : ℕ) (m : MicroStep) (slots id word : ℕ) → RunsOnWords j → StandsAt j v s r m → Waits m → word ≡ word_at j r m → Waited slots id s r j v m word
wait_allowed j v s r (See x) slots id word g a kind e = at_own (Waited slots id s r) s r j v (See x) word a e
    (wait_kept a.knowledge (own_job a g) s a.count r (See x) a.drives a.here a.more a.next a.reaction slots id (λ z. refl) (λ z. refl)
    (λ z h. ap (λ (n : ℕ). nat_le 1 n) (semaphore_get a.knowledge.job z h x ((own_job a g).there s a.count (See x) a.next))))
wait_allowed j v s r (Await m i n exact) slots id word g a kind e = at_own (Waited slots id s r) s r j v (Await m i n exact) word a e
    (wait_kept a.knowledge (own_job a g) s a.count r (Await m i n exact) a.drives a.here a.more a.next a.reaction slots id (λ z. refl) (λ z. refl)
    (λ z h. ap (λ (t : ℕ). turn_reached exact t (r * n + i)) (turn_get a.knowledge.job z h m ((own_job a g).there s a.count (Await m i n exact) a.next))))
wait_allowed j v s r (Take x) slots id word g a kind e = absurd kind
wait_allowed j v s r (Lower x) slots id word g a kind e = absurd kind
wait_allowed j v s r (Signal x) slots id word g a kind e = absurd kind
wait_allowed j v s r (Advance m) slots id word g a kind e = absurd kind
wait_allowed j v s r (Load x then) slots id word g a kind e = absurd kind
wait_allowed j v s r (Store x what) slots id word g a kind e = absurd kind
