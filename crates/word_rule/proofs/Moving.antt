-- Steps that are always enabled: a signal, an advance of a turn, a load and a store.
use Rattle.std.proofs.Common.{◌≡◌, ℕ, zero, suc, ◌+◌, ◌-◌, ◌*◌, ◌%◌, ◌<◌, ◌≤◌, ◌^◌, true, List, [], ◌∷◌, length, get_or, set, refl, sym, ap, subst, ◌∙◌, ℤ, pos, mod-eq_of_lt, arith}
use Rattle.std.proofs.lemmas.List.{set-get_or}
use Rattle.atomic_table.specs.Table.{keeps}
use Rattle.executive_program.specs.declared.steps.MicroStep.{MicroStep}
use Rattle.executive_program.specs.declared.steps.MicroStep.TheVariants.{Take, See, Lower, Signal, Await, Advance, Load, Store}
use Rattle.phase_laws.specs.Job.{JobData}
use Rattle.phase_laws.specs.Core.{Core, enabled_in, done_in, home_of, slot_of, own}
use Rattle.phase_laws.specs.Registers.{emit_by}
use Rattle.phase_laws.specs.Told.{told}
use Rattle.word_rule.specs.declared.view.Knowledge.{Knowledge}
use Rattle.word_rule.specs.declared.view.View.{View}
use Rattle.word_rule.specs.declared.view.View.TheVariants.{Holds}
use Rattle.word_rule.specs.Words.{word_of, table_of, word_at, turn_word, element_word, IsExact, AreExact}
use Rattle.word_rule.specs.Views.{stepped}
use Rattle.word_rule.specs.Rule.{Agree}
use Rattle.word_rule.specs.Given.{IsShaped, IsHere, IsThere, RunsOnWords, StandsAt, AddsOne, IsLower, IsLoad, Stores}
use Rattle.word_rule.proofs.Shapes.{semaphore_set, semaphore_get, turn_set, turn_get, element_set}
use Rattle.word_rule.proofs.Further.{shaped, room, finds_signal}
use Rattle.word_rule.proofs.Allowed.{finds, agrees, move_kept, own_job, at_own, Added, Lowered, Loaded, Stored}

-- what held at each place holds still where one place is set to what it holds of
pub set_all : {A : Type 0} (P : A → Type 0) (l : List A) (j i : ℕ) (a d : A) → P (get_or l i d) → P a → P (get_or (set l j a) i d)
set_all P [] j i a d p q = p
set_all P (x ∷ xs) zero zero a d p q = q
set_all P (x ∷ xs) zero (suc i) a d p q = p
set_all P (x ∷ xs) (suc j) zero a d p q = p
set_all P (x ∷ xs) (suc j) (suc i) a d p q = set_all P xs j i a d p q

pub exact_set : (xss : List (List ℤ)) (h q : ℕ) (v : ℤ) → AreExact xss → IsExact v → AreExact (set xss h (set (get_or xss h []) q v))
exact_set xss h q v e f g p = set_all (λ row. IsExact (get_or row p (pos 0))) xss h g (set (get_or xss h []) q v) [] (e g p) (set_all IsExact (get_or xss h []) q p v (pos 0) (e h p) f)

-- what the counter's step adds
one_more_fits : (n m : ℕ) → n ≡ m → m + 1 < 2 ^ 64 → (n + 1) % 2 ^ 64 ≡ m + 1
one_more_fits n m e f = ap (λ (i : ℕ). (i + 1) % 2 ^ 64) e ∙ mod-eq_of_lt f

pub add_allowed : (j : JobData) (v : View) (s r : ℕ) (m : MicroStep) (slots id word : ℕ) → RunsOnWords j → StandsAt j v s r m → AddsOne m → word ≡ word_at j r m → Added slots id s r j v m word
add_allowed j v s r (Signal x) slots id word g a kind e = at_own (Added slots id s r) s r j v (Signal x) word a e
    (λ t b homes at fits. (
      Holds (stepped k s),
      keeps,
      tt,
      move_kept k h s a.count r (Signal x) a.drives a.here a.more a.next a.reaction slots id (λ n. (n + 1) % 2 ^ 64) (λ z. refl)
          changed (λ counts c. c.are_told.exact) t b at,
      (refl, (b.0, agrees k h s a.count r (Signal x) a.drives a.here a.more a.next a.reaction slots id t b.0 b.1 at, tt)),
    ))
  where
    k : Knowledge
    k = a.knowledge

    h : RunsOnWords k.job
    h = own_job a g

    inside : x < 2 * length k.job.program.pairs
    inside = h.there s a.count (Signal x) a.next

    changed : (counts : List ℕ) → Agree k counts
        → set (table_of (told k.job counts)) (suc x) ((get_or (table_of (told k.job counts)) (suc x) 0 + 1) % 2 ^ 64)
        ≡ table_of (done_in k.job (told k.job counts) s r (Signal x))
    changed counts c = let z : Core = told k.job counts in let sh : IsShaped k.job z = shaped k.job h counts c.are_told in
        ap (set (table_of z) (suc x)) (one_more_fits (get_or (table_of z) (suc x) 0) (get_or z.semaphores x 0) (semaphore_get k.job z sh x inside) ((room k.job h counts c.are_told).semaphores x))
        ∙ semaphore_set k.job z sh x (get_or z.semaphores x 0 + 1) inside
add_allowed j v s r (Advance m) slots id word g a kind e = at_own (Added slots id s r) s r j v (Advance m) word a e
    (λ t b homes at fits. (
      Holds (stepped k s),
      keeps,
      tt,
      move_kept k h s a.count r (Advance m) a.drives a.here a.more a.next a.reaction slots id (λ n. (n + 1) % 2 ^ 64) (λ z. refl)
          changed (λ counts c. c.are_told.exact) t b at,
      (refl, (b.0, agrees k h s a.count r (Advance m) a.drives a.here a.more a.next a.reaction slots id t b.0 b.1 at, tt)),
    ))
  where
    k : Knowledge
    k = a.knowledge

    h : RunsOnWords k.job
    h = own_job a g

    inside : m < k.job.media
    inside = h.there s a.count (Advance m) a.next

    changed : (counts : List ℕ) → Agree k counts
        → set (table_of (told k.job counts)) (turn_word k.job m)
        ((get_or (table_of (told k.job counts)) (turn_word k.job m) 0 + 1) % 2 ^ 64) ≡ table_of (done_in k.job (told k.job counts) s r (Advance m))
    changed counts c = let z : Core = told k.job counts in let sh : IsShaped k.job z = shaped k.job h counts c.are_told in
        ap (set (table_of z) (turn_word k.job m))
        (one_more_fits (get_or (table_of z) (turn_word k.job m) 0) (get_or z.turns m 0) (turn_get k.job z sh m inside)
        ((room k.job h counts c.are_told).turns m))
        ∙ turn_set k.job z sh m (get_or z.turns m 0 + 1) inside
add_allowed j v s r (Take x) slots id word g a kind e = absurd kind
add_allowed j v s r (See x) slots id word g a kind e = absurd kind
add_allowed j v s r (Lower x) slots id word g a kind e = absurd kind
add_allowed j v s r (Await m i n exact) slots id word g a kind e = absurd kind
add_allowed j v s r (Load x then) slots id word g a kind e = absurd kind
add_allowed j v s r (Store x what) slots id word g a kind e = absurd kind

-- what the counter's step takes away
one_less_fits : (n m : ℕ) → n ≡ m → 1 ≤ m → m < 2 ^ 64 → (n + (2 ^ 64 - 1)) % 2 ^ 64 ≡ m - 1
one_less_fits n m e some few = ap (λ (i : ℕ). (i + (2 ^ 64 - 1)) % 2 ^ 64) e ∙ omega (arith, some, few)

-- a take from a semaphore that was seen: the signal is there, whatever the other sequences have made
pub lower_allowed : (j : JobData) (v : View) (s r : ℕ) (m : MicroStep) (slots id word : ℕ) → RunsOnWords j → StandsAt j v s r m → IsLower m → word ≡ word_at j r m → Lowered slots id s r j v m word
lower_allowed j v s r m slots id word g a kind e =
    subst (λ i. StandsAt j v s r i → word ≡ word_at j r i → Lowered slots id s r j v i word) (sym kind.1)
    (λ b q. at_own (Lowered slots id s r) s r j v M word b q (kept b)) a e
  where
    x : ℕ
    x = kind.0

    M : MicroStep
    M = Lower x

    kept : (b : StandsAt j v s r M) → Lowered slots id s r b.knowledge.job (Holds b.knowledge) M (word_at b.knowledge.job r M)
    kept b t c homes at fits = (
      Holds (stepped k s),
      keeps,
      tt,
      move_kept k h s b.count r M b.drives b.here b.more b.next b.reaction slots id (λ n. (n + (2 ^ 64 - 1)) % 2 ^ 64) (λ z. refl) changed (λ counts d. d.are_told.exact) t c at,
      (refl, (c.0, agrees k h s b.count r M b.drives b.here b.more b.next b.reaction slots id t c.0 c.1 at, tt)),
    )
      where
        k : Knowledge
        k = b.knowledge

        h : RunsOnWords k.job
        h = own_job b g

        inside : x < 2 * length k.job.program.pairs
        inside = h.there s b.count M b.next

        changed : (counts : List ℕ) → Agree k counts
            → set (table_of (told k.job counts)) (suc x) ((get_or (table_of (told k.job counts)) (suc x) 0 + (2 ^ 64 - 1)) % 2 ^ 64)
            ≡ table_of (done_in k.job (told k.job counts) s r M)
        changed counts d = let z : Core = told k.job counts in let sh : IsShaped k.job z = shaped k.job h counts d.are_told in
            let few : get_or z.semaphores x 0 + 1 < 2 ^ 64 = (room k.job h counts d.are_told).semaphores x in
            let some : 1 ≤ get_or z.semaphores x 0 = finds_signal k.job h counts d.are_told s b.count r x (d.agree s b.count b.drives) b.here b.more b.next b.reaction in
            ap (set (table_of z) (suc x)) (one_less_fits (get_or (table_of z) (suc x) 0) (get_or z.semaphores x 0) (semaphore_get k.job z sh x inside) some (omega (arith, few)))
            ∙ semaphore_set k.job z sh x (get_or z.semaphores x 0 - 1) inside

pub load_allowed : (j : JobData) (v : View) (s r : ℕ) (m : MicroStep) (slots id word : ℕ) → RunsOnWords j → StandsAt j v s r m → IsLoad m → word ≡ word_at j r m → Loaded slots id s r j v m word
load_allowed j v s r m slots id word g a kind e =
    subst (λ i. StandsAt j v s r i → word ≡ word_at j r i → Loaded slots id s r j v i word) (sym kind.2)
    (λ b q. at_own (Loaded slots id s r) s r j v M word b q (kept b)) a e
  where
    M : MicroStep
    M = Load kind.0 kind.1

    kept : (b : StandsAt j v s r M) → Loaded slots id s r b.knowledge.job (Holds b.knowledge) M (word_at b.knowledge.job r M)
    kept b t c homes at fits = (
      Holds (stepped b.knowledge s),
      keeps,
      tt,
      move_kept b.knowledge (own_job b g) s b.count r M b.drives b.here b.more b.next b.reaction slots id (λ n. n) (λ z. refl)
          (λ counts d. set-get_or (table_of (told b.knowledge.job counts)) (word_at b.knowledge.job r M) 0) (λ counts d. d.are_told.exact) t c at,
      (refl, finds b.knowledge (own_job b g) s b.count r M b.drives b.here b.more b.next b.reaction slots id t c.0 c.1 at),
    )

pub store_allowed : (j : JobData) (v : View) (s r : ℕ) (m : MicroStep) (value : ℤ) (slots id word : ℕ) → RunsOnWords j → StandsAt j v s r m
    → Stores v s r m value → IsExact value → word ≡ word_at j r m → Stored slots id s r value j v m word
store_allowed j v s r m value slots id word g a kind exact e = at_own (Stored slots id s r value) s r j v m word a e
    (λ t b homes at fits. (
      Holds (stepped k s),
      keeps,
      tt,
      move_kept k h s a.count r m a.drives a.here a.more a.next a.reaction slots id (λ _. word_of value) on changed exacts t b at,
      (refl, (b.0, agrees k h s a.count r m a.drives a.here a.more a.next a.reaction slots id t b.0 b.1 at, tt)),
    ))
  where
    k : Knowledge
    k = a.knowledge

    h : RunsOnWords k.job
    h = own_job a g

    w : Stores (Holds k) s r m value
    w = subst (λ u. Stores u s r m value) a.holds kind

    M : MicroStep
    M = Store w.0 w.1

    there : IsHere k.job w.0
    there = subst (IsThere k.job) w.2 (h.there s a.count m a.next)

    on : (z : Core) → enabled_in z r m ≡ true
    on z = subst (λ i. enabled_in z r i ≡ true) (sym w.2) refl

    changed : (counts : List ℕ) → Agree k counts → set (table_of (told k.job counts)) (word_at k.job r m) (word_of value) ≡ table_of (done_in k.job (told k.job counts) s r m)
    changed counts c = let z : Core = told k.job counts in
        subst (λ i. set (table_of z) (word_at k.job r i) (word_of value) ≡ table_of (done_in k.job z s r i)) (sym w.2)
        (ap (λ (x : ℤ). set (table_of z) (element_word k.job w.0 r) (word_of x)) (sym (w.3 counts c))
        ∙ element_set k.job z (shaped k.job h counts c.are_told) w.0 r there (emit_by k.job.graph k.job.sensors w.1 r (own k.job z s)))

    exacts : (counts : List ℕ) → Agree k counts → AreExact (done_in k.job (told k.job counts) s r m).elements
    exacts counts c = let z : Core = told k.job counts in
        subst (λ i. AreExact (done_in k.job z s r i).elements) (sym w.2)
        (exact_set z.elements (home_of k.job.program w.0) (slot_of k.job.program w.0 r) (emit_by k.job.graph k.job.sensors w.1 r (own k.job z s)) c.are_told.exact
        (subst IsExact (sym (w.3 counts c)) exact))
