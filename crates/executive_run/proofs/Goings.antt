-- One micro-step more of a sequence, and what tries answer.
use Rattle.std.proofs.Common.{
  ◌≡◌,
  ◌≢◌,
  ℕ,
  suc,
  zero,
  ◌+◌,
  ◌*◌,
  ◌/◌,
  ◌%◌,
  ◌<◌,
  ◌≤◌,
  inl,
  inr,
  Bool,
  true,
  false,
  cond,
  List,
  [],
  ◌∷◌,
  length,
  get_or,
  set,
  min,
  refl,
  sym,
  subst,
  ap,
  ◌∙◌,
  arith,
  below_more,
  Option,
  Some,
  None,
}
use Rattle.std.proofs.Math.Nat.{lt_of_mul-lt-mul_right, mul-le-mul_right, suc-mul}
use Rattle.std.proofs.lemmas.Bool.{cases_lt}
use Rattle.std.proofs.lemmas.List.{get_or-set_other, length-set}
use Rattle.std.proofs.lemmas.Nat.{div-add-mod'}
use Rattle.executive_program.specs.declared.steps.MicroStep.{MicroStep}
use Rattle.semaphore_core.specs.Job.{JobData}
use Rattle.semaphore_core.specs.Core.{Core, full, next, is_enabled, enabled_in, reaction, AreReached}
use Rattle.semaphore_core.specs.Laws.{one_more}
use Rattle.semaphore_core.specs.Told.{told}
use Rattle.word_table.specs.Driver.{FabricData, DriverData, Drives, IsFinished}
use Rattle.word_table.specs.declared.answer.MicroAnswer.{MicroAnswer}
use Rattle.word_table.specs.declared.answer.MicroAnswer.TheVariants.{Stepped, NotYet}
use Rattle.word_table.specs.Answers.{AnswersAlone, DrivesEvery, answer_in, answer_by}
use Rattle.executive_run.specs.Going.{left_from, steps_left, GoesOn, GoesTo, IsHalted, IsStuck}

-- two numbers that leave the same when they are divided by g are at least g apart
apart : (g n s : ℕ) → n % g ≡ s % g → n < s → n + g ≤ s
apart g n s same l =
    let from : n / g * g + n % g ≡ n = div-add-mod' n g in
    let to : s / g * g + s % g ≡ s = div-add-mod' s g in
    let below : n / g < s / g = lt_of_mul-lt-mul_right g (omega arith) in
    let past : suc (n / g) * g ≤ s / g * g = mul-le-mul_right g (omega arith) in
    omega (arith, suc-mul (n / g) g)

-- one more of a count that is not full: one micro-step fewer is left
pub left-one_more : (j : JobData) (k : ℕ) (counts : List ℕ) (i : ℕ) → i < length counts → get_or counts i 0 < full j (k + i)
    → left_from j k (set counts i (get_or counts i 0 + 1)) + 1 ≡ left_from j k counts
left-one_more j k [] i l m = absurd (omega arith)
left-one_more j k (n ∷ ns) zero l m = let f : n < full j k = let P : ℕ → Type 0 = λ x. n < full j x in subst P (let e : k + 0 ≡ k = omega arith in e) m in omega (arith, f)
left-one_more j k (n ∷ ns) (suc i) l m =
    let here : get_or ns i 0 < full j (suc k + i) = let P : ℕ → Type 0 = λ x. get_or ns i 0 < full j x in subst P (let e : k + suc i ≡ suc k + i = omega arith in e) m in
    let rest = left-one_more j (suc k) ns i (let f : i < length ns = omega arith in f) here in
    omega (arith, rest)

-- where nothing went
pub stays : (d : DriverData) → GoesOn d d 0
stays d = record { fabric = refl; group = refl; many = refl; idle = λ e. refl; no_more = omega arith; fewer = λ l. absurd (omega arith) }

-- the driver of the one group drives every sequence
pub one_drives : (d : DriverData) (f : FabricData) (seq : ℕ) → d.fabric ≡ f → f.groups ≡ 1 → seq % f.groups ≡ d.group → DrivesEvery d
one_drives d f seq of one mine s l = ap (λ (w : FabricData). s % w.groups) of ∙ ap (λ (n : ℕ). s % n) one ∙ (let z : s % 1 ≡ seq % 1 = omega arith in z) ∙ ap (λ (n : ℕ). seq % n) (sym one) ∙ mine

-- a sequence that is no driver's next has no micro-step enabled
pub not_stepped : (j : JobData) (z : Core) (s : ℕ) (answer : MicroAnswer) → answer ≡ answer_in j z s → answer ≢ Stepped → is_enabled j z s ≡ false
not_stepped j z s answer e off = by_next (next j z s) refl
  where
    by_step : (m : MicroStep) (b : Bool) → enabled_in z (reaction j z s) m ≡ b → next j z s ≡ Some m → b ≡ false
    by_step m false at is = refl
    by_step m true at is = absurd (off (e ∙ (ap (answer_by j z s) is ∙ ap (λ (b : Bool). cond b Stepped NotYet) at)))

    by_next : (o : Option MicroStep) → next j z s ≡ o → is_enabled j z s ≡ false
    by_next None is = rw is refl
    by_next (Some m) is = rw is (by_step m (enabled_in z (reaction j z s) m) refl is)

-- one step more
pub goes_more : (first old new : DriverData) (steps more s : ℕ) → GoesOn first old steps → new.fabric ≡ old.fabric → new.group ≡ old.group
    → s < length old.counts → get_or old.counts s 0 < full old.fabric.job s → new.counts ≡ one_more old.fabric.job old.counts s → 0 < more → GoesOn first new more
goes_more first old new steps more s goes f g there below counts some = record {
  fabric = f ∙ goes.fabric;
  group = g ∙ goes.group;
  many = ap length counts ∙ (length-set old.counts s (get_or old.counts s 0 + 1) ∙ goes.many);
  idle = λ none. absurd (omega (arith, none, some));
  no_more = omega (arith, one, goes.no_more);
  fewer = λ l. omega (arith, one, goes.no_more);
}
  where
    at : get_or old.counts s 0 < full old.fabric.job (0 + s)
    at = let P : ℕ → Type 0 = λ x. get_or old.counts s 0 < full old.fabric.job x in subst P (let e : s ≡ 0 + s = omega arith in e) below

    one : steps_left new + 1 ≡ steps_left old
    one = ap (λ (c : List ℕ). left_from new.fabric.job 0 c + 1) counts
        ∙ (ap (λ (x : FabricData). left_from x.job 0 (set old.counts s (get_or old.counts s 0 + 1)) + 1) f ∙ left-one_more old.fabric.job 0 old.counts s there at)

-- the counts of the other sequences stay
pub others_stay : (old new : DriverData) (s t : ℕ) → new.counts ≡ one_more old.fabric.job old.counts s → t ≢ s → get_or new.counts t 0 ≡ get_or old.counts t 0
others_stay old new s t counts apart = ap (λ (c : List ℕ). get_or c t 0) counts ∙ get_or-set_other old.counts s t (get_or old.counts s 0 + 1) 0 apart

less : (n m k x y z : ℕ) → 0 < k → k ≡ min (n + m) 18446744073709551615 → (0 < n → y < x) → y ≤ x → (0 < m → z < y) → z ≤ y → z < x
less zero m k x y z l e f g h i = let w : z < y = h (omega (arith, e, l)) in omega arith
less (suc n) m k x y z l e f g h i = let w : y < x = f (omega arith) in omega arith

-- one stretch after another
pub goes_then : (a b c : DriverData) (n m k : ℕ) → GoesOn a b n → GoesOn b c m → k ≡ min (n + m) 18446744073709551615 → GoesOn a c k
goes_then a b c n m k p q e = record {
  fabric = q.fabric ∙ p.fabric;
  group = q.group ∙ p.group;
  many = q.many ∙ p.many;
  idle = λ z. q.idle (omega (arith, e, z)) ∙ p.idle (omega (arith, e, z));
  no_more = omega (arith, p.no_more, q.no_more);
  fewer = λ l. less n m k (steps_left a) (steps_left b) (steps_left c) l e p.fewer p.no_more q.fewer q.no_more;
}

-- a sequence whose try made no step, of a driver of all sequences, is not enabled
pub halted : (old new : DriverData) (s : ℕ) (answer : MicroAnswer) → AnswersAlone old new s answer → answer ≢ Stepped → new.fabric ≡ old.fabric → new.counts ≡ old.counts → IsHalted new s
halted old new s answer alone off f counts =
    let P : FabricData → Type 0 = λ x. is_enabled x.job (told x.job old.counts) s ≡ false in
    let Q : List ℕ → Type 0 = λ c. is_enabled new.fabric.job (told new.fabric.job c) s ≡ false in
    let R : FabricData → Type 0 = λ x. AreReached x.job new.counts in
    record {
      reached = subst R (sym f) alone.is_reached;
      disabled = subst Q (sym counts) (subst P (sym f) (not_stepped old.fabric.job (told old.fabric.job old.counts) s answer alone.is off));
    }

-- the same of a driver whose counts are the same
pub halted_as : (old new : DriverData) (s : ℕ) → IsHalted old s → new.fabric ≡ old.fabric → new.counts ≡ old.counts → IsHalted new s
halted_as old new s h f counts =
    let P : FabricData → Type 0 = λ x. is_enabled x.job (told x.job old.counts) s ≡ false in
    let Q : List ℕ → Type 0 = λ c. is_enabled new.fabric.job (told new.fabric.job c) s ≡ false in
    let R : FabricData → Type 0 = λ x. AreReached x.job old.counts in
    let S : List ℕ → Type 0 = λ c. AreReached new.fabric.job c in
    record {
      reached = subst S (sym counts) (subst R (sym f) h.reached);
      disabled = subst Q (sym counts) (subst P (sym f) h.disabled);
    }

-- each sequence below this one that the driver drives has made all its micro-steps
abbrev pub FinishedBelow : DriverData → ℕ → Type 0
FinishedBelow d n = (s : ℕ) → s < n → Drives d s → get_or d.counts s 0 ≡ full d.fabric.job s

-- some sequence has not made all its micro-steps
pub record IsShort (d : DriverData) : Type 0 where
  pub seq : ℕ
  pub there : seq < length d.fabric.job.program.seqs
  pub more : get_or d.counts seq 0 < full d.fabric.job seq

-- one sequence more is finished
pub finished_more : (old new : DriverData) (n : ℕ) → new.fabric ≡ old.fabric → new.group ≡ old.group
    → ((s : ℕ) → s ≢ n → get_or new.counts s 0 ≡ get_or old.counts s 0) → FinishedBelow old n → (Drives new n → get_or new.counts n 0 ≡ full new.fabric.job n)
    → FinishedBelow new (n + 1)
finished_more old new n f g others below here =
    below_more (λ s. Drives new s → get_or new.counts s 0 ≡ full new.fabric.job s) n
    (λ s less drives.
    others s (λ e. absurd (omega (arith, less, e)))
    ∙ (below s less (record { there = subst (λ (x : FabricData). s < length x.job.program.seqs) f drives.there; grouped = subst (λ (x : FabricData). s % x.groups ≡ old.group) f (drives.grouped ∙ g) })
    ∙ ap (λ (x : FabricData). full x.job s) (sym f)))
    here

-- of a driver whose counts stay, or of one sequence more
pub short_more : (old new : DriverData) (n w v k : ℕ) → k ≡ min (w + v) 18446744073709551615 → 0 < k → new.fabric ≡ old.fabric → new.counts ≡ old.counts
    → (0 < w → IsShort old) → n < length new.fabric.job.program.seqs → (0 < v → get_or new.counts n 0 < full new.fabric.job n) → IsShort new
short_more old new n zero v k e l f counts was there now = record { seq = n; there = there; more = now (omega (arith, e, l)) }
short_more old new n (suc w) v k e l f counts was there now =
    let short = was (omega arith) in record {
      seq = short.seq;
      there = subst (λ (x : FabricData). short.seq < length x.job.program.seqs) (sym f) short.there;
      more = subst (λ (c : List ℕ). get_or c short.seq 0 < full new.fabric.job short.seq) (sym counts)
          (subst (λ (x : FabricData). get_or old.counts short.seq 0 < full x.job short.seq) (sym f) short.more);
    }

-- no other sequence of the driver stands before the next one of its group
pub finished_up_to : (d : DriverData) (n m : ℕ) → n % d.fabric.groups ≡ d.group → m ≤ n + d.fabric.groups → FinishedBelow d (n + 1) → FinishedBelow d m
finished_up_to d n m own near below s l drives =
    elim (cases_lt s (n + 1)) [
      | inl less ↦ below s less drives
      | inr more ↦ absurd (let far : n + d.fabric.groups ≤ s = apart d.fabric.groups n s (own ∙ sym drives.grouped) (omega arith) in omega arith)
    ]

-- how far a turn of a driver came: its sequences below n went as far as they go
pub record HasTurnedBelow (first d : DriverData) (steps waiting n : ℕ) : Type 0 where
  pub goes : GoesOn first d steps
  pub finished : waiting ≡ 0 → FinishedBelow d n
  pub halted : d.fabric.groups ≡ 1 → steps ≡ 0 → (s : ℕ) → s < n → IsHalted d s
  pub short : steps ≡ 0 → 0 < waiting → IsShort d

-- before its first sequence
pub turn_begins : (d : DriverData) (n : ℕ) → n ≡ d.group → d.group < d.fabric.groups → HasTurnedBelow d d 0 0 n
turn_begins d n first few = record {
  goes = stays d;
  finished = λ none s l drives. absurd (let own = drives.grouped in omega arith);
  halted = λ one none s l. absurd (omega arith);
  short = λ none some. absurd (omega arith);
}

-- one of its sequences more
pub turned_more : (f : FabricData) (first old new : DriverData) (steps more all waits wait waiting n m : ℕ) → new.fabric ≡ f
    → HasTurnedBelow first old steps waits n → GoesOn old new more → ((s : ℕ) → s ≢ n → get_or new.counts s 0 ≡ get_or old.counts s 0)
    → GoesTo new n wait → (f.groups ≡ 1 → IsHalted new n)
    → all ≡ min (steps + more) 18446744073709551615 → waiting ≡ min (waits + wait) 18446744073709551615
    → n < length f.job.program.seqs → n % f.groups ≡ old.group → m ≤ n + f.groups
    → HasTurnedBelow first new all waiting m
turned_more f first old new steps more all waits wait waiting n m of p goes others to alone made left there own near = record {
  goes = goes_then first old new steps more all p.goes goes made;
  finished = λ none.
      finished_up_to new n m (ap (λ g. n % g) groups ∙ (own ∙ sym goes.group)) (omega (arith, near, groups))
      (finished_more old new n goes.fabric goes.group others (p.finished (omega (arith, none, left))) (λ drives. to.finished (omega (arith, none, left))));
  halted = λ one none s l.
      below_more (λ s. IsHalted new s) n
      (λ s l. halted_as old new s (p.halted (ap (λ (x : FabricData). x.groups) (sym goes.fabric) ∙ one) (omega (arith, made, none)) s l) goes.fabric (goes.idle (omega (arith, made, none))))
      (alone (sym groups ∙ one)) s (omega (arith, groups, near, one, l));
  short = λ none some.
      short_more old new n waits wait waiting left some goes.fabric (goes.idle (omega (arith, made, none))) (p.short (omega (arith, made, none)))
      (omega (arith, there, ap (λ (x : FabricData). length x.job.program.seqs) of)) to.more;
}
  where
    groups : new.fabric.groups ≡ f.groups
    groups = ap (λ (x : FabricData). x.groups) of

-- all sequences of the driver
pub finished_all : (d : DriverData) (n : ℕ) → length d.fabric.job.program.seqs ≤ n → FinishedBelow d n → IsFinished d
finished_all d n all below s drives = below s (omega (arith, all, drives.there)) drives

-- no step was made by a turn of a driver of all sequences
pub stuck : (d : DriverData) (n : ℕ) → length d.fabric.job.program.seqs ≤ n → ((s : ℕ) → s < n → IsHalted d s) → IsShort d → IsStuck d
stuck d n all halts short = record {
  reached = (halts short.seq (omega (arith, all, short.there))).reached;
  disabled = λ s l. (halts s (omega (arith, all, l))).disabled;
  seq = short.seq;
  there = short.there;
  more = short.more;
}
