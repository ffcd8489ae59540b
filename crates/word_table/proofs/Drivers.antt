-- A driver stays one with each of its steps.
use Rattle.std.proofs.Common.{
  ◌≡◌,
  ℕ,
  ◌+◌,
  ◌%◌,
  ◌<◌,
  ◌^◌,
  ◌⊎◌,
  inl,
  inr,
  ⊎_elim,
  Bool,
  true,
  false,
  cond,
  List,
  length,
  get_or,
  set,
  Some,
  refl,
  sym,
  ap,
  subst,
  arith,
  ◌∙◌,
  length-set,
  get_or-set_same,
  get_or-set_other,
}
use Rattle.std.proofs.lemmas.Bool.{cases_eq}
use Rattle.std.proofs.lemmas.Option.{same_Some}
use Rattle.atomic_table.specs.Seated.{TableId}
use Rattle.executive_program.specs.Sites.{step_at, reaction_at}
use Rattle.executive_program.specs.declared.steps.MicroStep.{MicroStep}
use Rattle.executive_program.specs.declared.steps.MicroStep.TheVariants.{Take, See, Lower, Signal, Await, Advance, Load, Store}
use Rattle.executive_program.specs.Steps.{steps}
use Rattle.executive_program.specs.declared.steps.Place.{Place}
use Rattle.executive_program.specs.declared.steps.OnLoad.{OnLoad}
use Rattle.executive_program.specs.declared.steps.OnStore.{OnStore}
use Rattle.word_rule.specs.Held.{AreReady}
use Rattle.word_rule.specs.Job.{JobData}
use Rattle.word_rule.specs.Core.{Core, full, enabled_in, AreReached}
use Rattle.word_rule.specs.Laws.{one_more}
use Rattle.word_rule.specs.Told.{told}
use Rattle.word_rule.specs.Agrees.{caller}
use Rattle.word_rule.specs.declared.view.Count.{Count}
use Rattle.word_rule.specs.declared.next.Next.{Next}
use Rattle.word_rule.specs.declared.view.Knowledge.{Knowledge}
use Rattle.word_rule.specs.declared.view.View.{View}
use Rattle.word_rule.specs.declared.view.View.TheVariants.{Spent, Holds}
use Rattle.word_rule.specs.Table.{SeatData}
use Rattle.word_rule.specs.Views.{count_in, raised, stepped, after}
use Rattle.word_rule.specs.Rule.{AreTold, Agree, InTold}
use Rattle.word_rule.specs.Given.{RunsOnWords, enables, IsTake, Waits, AddsOne, IsLower}
use Rattle.word_rule.specs.Words.{word_at}
use Rattle.word_rule.proofs.Views.{raised-same, raised-other}
use Rattle.word_rule.proofs.Further.{shaped, goes}
use Rattle.word_table.specs.declared.driver_parts.DriverParts.{DriverParts}
use Rattle.word_table.specs.declared.fabric_parts.FabricParts.{FabricParts}
use Rattle.word_table.specs.Answers.{is_recorded, next_look, Steps}
use Rattle.word_table.specs.Driver.{InSome}
use Rattle.word_table.specs.Parts.{HasOwn, Reaches, IsDriver, AreFabricParts, IsOf, SameDriver, CanMake, CountsOneMore, last_look, driver_view}
use Rattle.word_table.proofs.Own.{IsQuiet, after_quiet}

-- which sequence it is, and its count, after one more micro-step of s
pub which : (xs : List Count) (s n t m : ℕ) → count_in xs s ≡ Some n → count_in (raised xs s) t ≡ Some m → ((t ≡ s) × (m ≡ n + 1)) ⊎ ((t ≡ s → ⊥) × (count_in xs t ≡ Some m))
which xs s n t m mine c = ⊎_elim
    (λ q. inl (q, same_Some m (n + 1) (sym c ∙ ap (count_in (raised xs s)) q ∙ raised-same xs s n mine)))
    (λ q. inr (q, sym (raised-other xs s t q) ∙ c)) (cases_eq t s)

-- the same sequences and counts: some reached counts agree still
reaches_still : (j : JobData) (k l : Knowledge) → Reaches j k → l.driven ≡ k.driven → Reaches j l
reaches_still j k l r e = record { counts = r.counts; reached = r.reached; agree = λ s n c. r.agree s n (subst (λ xs. count_in xs s ≡ Some n) e c) }

-- and so after a micro-step of s that is enabled in what they tell
pub reaches_on : (j : JobData) → RunsOnWords j → (k l : Knowledge) (counts : List ℕ) → AreTold j counts → ((t n : ℕ) → count_in k.driven t ≡ Some n → get_or counts t 0 ≡ n)
    → (s n r : ℕ) (m : MicroStep) → count_in k.driven s ≡ Some n → s < length j.program.seqs → n < full j s → step_at (steps j.program s) n ≡ Some m → reaction_at (steps j.program s) n ≡ r
    → enabled_in (told j counts) r m ≡ true → l.driven ≡ raised k.driven s → Reaches j l
reaches_on j g k l counts c agree s n r m mine here more next in_reaction on driven = record {
  counts = one_more j counts s;
  reached = (goes j g counts c s n r m (agree s n mine) here more next in_reaction on).reached;
  agree = λ t i e. ⊎_elim
      (λ q. (λ w. get_or (set counts s (get_or counts s 0 + 1)) (q.0 w) 0) ∙ get_or-set_same {A = ℕ} counts s (get_or counts s 0 + 1) 0 inside ∙ ap (λ (a : ℕ). a + 1) (agree s n mine) ∙ sym q.1)
      (λ q. get_or-set_other {A = ℕ} counts s t (get_or counts s 0 + 1) 0 q.0 ∙ agree t i q.1)
      (which k.driven s n t i mine (subst (λ xs. count_in xs t ≡ Some i) driven e));
}
  where
    inside : s < length counts
    inside = let a = (shaped j g counts c).counts in omega (arith, a, here)

-- the same sequences, counts and values, whatever else the seat knows now
pub unmoved : (j : JobData) (t : TableId) (k l : Knowledge) (d : DriverParts) (seat : SeatData) → IsDriver j t k d → seat.table
    ≡ d.seat.table → seat.view ≡ Holds l → l.job ≡ k.job → l.driven ≡ k.driven → IsDriver j t l (record d { seat = seat })
unmoved j t k l d seat i of_table holds job driven = record {
  of_table = of_table ∙ i.of_table;
  of_job = i.of_job;
  holds = holds;
  job = job ∙ i.job;
  counts_there = i.counts_there;
  registers_there = i.registers_there;
  rooms_there = i.rooms_there;
  there = λ s n c. i.there s n (was s n c);
  within = λ s n c. i.within s n (was s n c);
  counted = λ s n c. i.counted s n (was s n c);
  only = λ s n c. i.only s n (was s n c);
  all = λ s q w. let r = i.all s q w in (r.0, subst (λ xs. count_in xs s ≡ Some r.0) (sym driven) r.1);
  reaches = reaches_still j k l i.reaches driven;
  ready = i.ready;
  laid = i.laid;
  in_prologue = i.in_prologue;
  in_turn = i.in_turn;
  own = let o = i.own in record {
    cells_there = o.cells_there;
    rows_there = o.rows_there;
    own_registers = λ s n c. o.own_registers s n (was s n c);
    own_cells = λ s n v q x c. o.own_cells s n v q x (was s n c);
    own_rows = λ s n v a p x c. o.own_rows s n v a p x (was s n c);
  };
}
  where
    was : (s n : ℕ) → count_in l.driven s ≡ Some n → count_in k.driven s ≡ Some n
    was s n c = subst (λ xs. count_in xs s ≡ Some n) driven c

-- one micro-step more of s
pub moved_on : (j : JobData) (t : TableId) (k l : Knowledge) (d e : DriverParts) (s n : ℕ) → IsDriver j t k d → SameDriver d e → e.seat.view ≡ Holds l → l.job ≡ k.job → l.driven ≡ raised k.driven s
    → count_in k.driven s ≡ Some n → n < full j s → CountsOneMore d e s → length e.own.registers ≡ length d.own.registers → e.own.rooms ≡ d.own.rooms
    → Reaches j l → AreReady j e.own.kept → (e.own.kept.lens ≡ d.own.kept.lens) × (e.own.kept.desks ≡ d.own.kept.desks) → HasOwn j l e.own.registers e.own.kept.cells e.own.kept.rows → IsDriver j t l e
moved_on j t k l d e s n i same holds job driven mine more counts registers rooms reaches ready places own = record {
  of_table = same.table ∙ i.of_table;
  of_job = same.job ∙ i.of_job;
  holds = holds;
  job = job ∙ i.job;
  counts_there = ap (length {A = ℕ}) counts ∙ length-set d.counts.items s (get_or d.counts.items s 0 + 1) ∙ i.counts_there;
  registers_there = registers ∙ i.registers_there;
  rooms_there = ap (length {A = ℕ}) rooms ∙ i.rooms_there;
  there = λ h m c. ⊎_elim (λ q. subst (λ (a : ℕ). a < length j.program.seqs) (sym q.0) (i.there s n mine)) (λ q. i.there h m q.1) (at h m c);
  within = λ h m c. ⊎_elim (λ q. let b = q.1 in let f = ap (full j) q.0 in omega (arith, b, more, f)) (λ q. i.within h m q.1) (at h m c);
  counted = λ h m c. ap (λ xs. get_or xs h 0) counts ∙ ⊎_elim
      (λ q. (λ w. get_or (set d.counts.items s (get_or d.counts.items s 0 + 1)) (q.0 w) 0)
      ∙ get_or-set_same {A = ℕ} d.counts.items s (get_or d.counts.items s 0 + 1) 0 inside ∙ ap (λ (a : ℕ). a + 1) (i.counted s n mine) ∙ sym q.1)
      (λ q. get_or-set_other {A = ℕ} d.counts.items s h (get_or d.counts.items s 0 + 1) 0 q.0 ∙ i.counted h m q.1) (at h m c);
  only = λ h m c. ap (λ (a : ℕ). h % a) same.groups ∙ ⊎_elim (λ q. ap (λ (a : ℕ). a % d.groups) q.0 ∙ i.only s n mine) (λ q. i.only h m q.1) (at h m c) ∙ sym same.group;
  all = λ h q w. let r = i.all h q (ap (λ (m : ℕ). h % m) (sym same.groups) ∙ w ∙ same.group) in ⊎_elim
      (λ c. (n + 1, subst (λ xs. count_in xs h ≡ Some (n + 1)) (sym driven) (ap (count_in (raised k.driven s)) c ∙ raised-same k.driven s n mine)))
      (λ c. (r.0, subst (λ xs. count_in xs h ≡ Some r.0) (sym driven) (raised-other k.driven s h c ∙ r.1))) (cases_eq h s);
  reaches = reaches;
  ready = ready;
  laid = λ v q. rw (places.0, places.1) (i.laid v (ap (λ (m : ℕ). caller j v % m) (sym same.groups) ∙ q ∙ same.group));
  in_prologue = rw rooms i.in_prologue;
  in_turn = rw rooms i.in_turn;
  own = own;
}
  where
    inside : s < length d.counts.items
    inside = let a = i.there s n mine in let b = i.counts_there in omega (arith, a, b)

    at : (h m : ℕ) → count_in l.driven h ≡ Some m → ((h ≡ s) × (m ≡ n + 1)) ⊎ ((h ≡ s → ⊥) × (count_in k.driven h ≡ Some m))
    at h m e = which k.driven s n h m mine (subst (λ xs. count_in xs h ≡ Some m) driven e)

-- what some reached counts tell that agree with the driver's
pub some_at : (d : DriverParts) (j : JobData) → d.job.now ≡ j → (P : Core → Type 0) (counts : List ℕ) → AreReached j counts → length counts ≡ length j.program.seqs
    → ((s : ℕ) → s < length j.program.seqs → s % d.groups ≡ d.group → get_or counts s 0 ≡ get_or d.counts.items s 0) → P (told j counts) → InSome (driver_view d) P
some_at d j e P counts = subst (λ (i : JobData). AreReached i counts → length counts ≡ length i.program.seqs
    → ((s : ℕ) → s < length i.program.seqs → s % d.groups ≡ d.group → get_or counts s 0 ≡ get_or d.counts.items s 0) → P (told i counts)
    → InSome (driver_view d) P) e
    (λ r l a p. (counts, r, record { many = l; agree = λ s q. a s q.there q.grouped }, p))

waits_quietly : (m : MicroStep) → Waits m → IsQuiet m
waits_quietly (See x) w = tt
waits_quietly (Await m i n exact) w = tt
waits_quietly (Take x) w = absurd w
waits_quietly (Lower x) w = absurd w
waits_quietly (Signal x) w = absurd w
waits_quietly (Advance m) w = absurd w
waits_quietly (Load x then) w = absurd w
waits_quietly (Store x what) w = absurd w

pub looks_quietly : (m : MicroStep) → IsTake m ⊎ Waits m → IsQuiet m
looks_quietly m (inl t) = subst IsQuiet (sym t.1) tt
looks_quietly m (inr w) = waits_quietly m w

-- a micro-step that looks at no word: it is always enabled, and no look is recorded
pub record IsFree (m : MicroStep) : Type 0 where
  pub always : (z : Core) (r : ℕ) → enabled_in z r m ≡ true
  pub enabled : (r n : ℕ) → enables r m n ≡ true
  pub unrecorded : is_recorded m ≡ false

pub adds_freely : (m : MicroStep) → AddsOne m → IsFree m × IsQuiet m
adds_freely (Signal x) w = (record { always = λ z r. refl; enabled = λ r n. refl; unrecorded = refl }, tt)
adds_freely (Advance m) w = (record { always = λ z r. refl; enabled = λ r n. refl; unrecorded = refl }, tt)
adds_freely (Take x) w = absurd w
adds_freely (See x) w = absurd w
adds_freely (Lower x) w = absurd w
adds_freely (Await m i n exact) w = absurd w
adds_freely (Load x then) w = absurd w
adds_freely (Store x what) w = absurd w

pub lowers_freely : (m : MicroStep) → IsLower m → IsFree m × IsQuiet m
lowers_freely m (x, e) = subst (λ (i : MicroStep). IsFree i × IsQuiet i) (sym e) (record { always = λ z r. refl; enabled = λ r n. refl; unrecorded = refl }, tt)

pub loads_freely : (x : Place) (then : OnLoad) (m : MicroStep) → m ≡ Load x then → IsFree m
loads_freely x then m e = subst IsFree (sym e) (record { always = λ z r. refl; enabled = λ r n. refl; unrecorded = refl })

pub stores_freely : (x : Place) (what : OnStore) (m : MicroStep) → m ≡ Store x what → IsFree m
stores_freely x what m e = subst IsFree (sym e) (record { always = λ z r. refl; enabled = λ r n. refl; unrecorded = refl })

-- the last look stays
pub same_look : (v : View) (s : ℕ) → last_look (after (λ k. stepped k s) v) ≡ last_look v
same_look Spent s = refl
same_look (Holds k) s = refl

module _ (f : FabricParts) (d : DriverParts) (next : Next) (is : AreFabricParts f) (c : CanMake f d next) where
  abbrev pub J : JobData
  J = f.job.now

  abbrev pub K : Knowledge
  K = c.knowledge

  pub here : next.seq < length J.program.seqs
  here = c.driver.there next.seq c.count c.drives

  -- the sequence of the next micro-step is counted, and its count is below the end of its type
  pub can_count : (next.seq < length d.counts.items) × (get_or d.counts.items next.seq 0 + 1 < 2 ^ 64)
  can_count = let a = here in let b = c.driver.counts_there in let n = c.driver.counted next.seq c.count c.drives in let o = c.more in
      let w = is.runs.few next.seq in (omega (arith, a, b), omega (arith, n, o, w))

  -- counts that agree with the seat's view
  pub agreed : (counts : List ℕ) → Agree K counts → AreTold J counts
  agreed counts a = subst (λ (i : JobData). AreTold i counts) c.driver.job a.are_told

  pub own_told : (P : JobData → List ℕ → Type 0) → InTold d.seat.view (λ z. Unit {0})
      → ((counts : List ℕ) → AreTold J counts → ((s n : ℕ) → count_in K.driven s ≡ Some n → get_or counts s 0 ≡ n) → P J counts)
      → (counts : List ℕ) × P J counts
  own_told P w use_it = let h : InTold (Holds K) (λ z. Unit {0}) = subst (λ u. InTold u (λ z. Unit {0})) c.driver.holds w in (h.0, use_it h.0 (agreed h.0 h.1) h.1.agree)

  -- they agree with the driver's own counts
  pub own_counts : (counts : List ℕ) → ((s n : ℕ) → count_in K.driven s ≡ Some n → get_or counts s 0 ≡ n) → (s : ℕ) → s
      < length J.program.seqs → s % d.groups ≡ d.group → get_or counts s 0 ≡ get_or d.counts.items s 0
  own_counts counts agree s l q = let r = c.driver.all s l q in agree s r.0 r.1 ∙ sym (c.driver.counted s r.0 r.1)

  pub in_some : (P : Core → Type 0) (counts : List ℕ) → AreTold J counts → ((s n : ℕ) → count_in K.driven s ≡ Some n → get_or counts s 0 ≡ n) → P (told J counts) → InSome (driver_view d) P
  in_some P counts t agree p = some_at d J c.driver.of_job P counts t.reached (shaped J is.runs counts t).counts (own_counts counts agree) p

  -- the private part after a micro-step that changes none of it
  pub quiet_own : (l : Knowledge) → l.driven ≡ raised K.driven next.seq → IsQuiet next.step → HasOwn J l d.own.registers d.own.kept.cells d.own.kept.rows
  quiet_own l driven q = after_quiet J is.runs.formed is.runs.values K d.own.registers d.own.kept.cells d.own.kept.rows c.driver.own
      next.seq c.count next.reaction c.drives here c.more c.in_reaction l driven next.step c.next_step q

  pub reaches_next : (counts : List ℕ) → AreTold J counts → ((s n : ℕ) → count_in K.driven s ≡ Some n → get_or counts s 0 ≡ n)
      → enabled_in (told J counts) next.reaction next.step ≡ true → (l : Knowledge) → l.driven ≡ raised K.driven next.seq → Reaches J l
  reaches_next counts t agree on l driven = reaches_on J is.runs K l counts t agree next.seq c.count next.reaction next.step c.drives here c.more c.next_step c.in_reaction on driven

  -- after a micro-step that looks at no word
  module _ (e : DriverParts) (same : SameDriver d e) (seat : e.seat.view ≡ after (λ k. stepped k next.seq) d.seat.view)
      (counts : CountsOneMore d e next.seq) (free : IsFree next.step) (told_by : InTold d.seat.view (λ z. Unit {0})) where
    abbrev pub L : Knowledge
    L = stepped K next.seq

    abbrev pub T : InTold (Holds K) (λ z. Unit {0})
    T = subst (λ u. InTold u (λ z. Unit {0})) c.driver.holds told_by

    pub now_holds : e.seat.view ≡ Holds (stepped c.knowledge next.seq)
    now_holds = seat ∙ ap (λ (v : View). after (λ k. stepped k next.seq) v) c.driver.holds

    -- where the private part is what it is to be
    pub free_driver : length e.own.registers ≡ length d.own.registers → e.own.rooms ≡ d.own.rooms → AreReady f.job.now e.own.kept
        → (e.own.kept.lens ≡ d.own.kept.lens) × (e.own.kept.desks ≡ d.own.kept.desks)
        → HasOwn f.job.now (stepped c.knowledge next.seq) e.own.registers e.own.kept.cells e.own.kept.rows → IsOf f e
    free_driver registers rooms ready places own = (
      L,
      moved_on J f.table.table K L d e next.seq c.count c.driver same now_holds refl refl c.drives c.more counts registers rooms
          (reaches_next T.0 (agreed T.0 T.1) T.1.agree (free.always (told J T.0) next.reaction) L refl) ready places own,
    )

    pub quiet_driver : IsQuiet next.step → e.own ≡ d.own → IsOf f e
    quiet_driver q own = free_driver (ap (λ o. length o.registers) own) (ap (λ o. o.rooms) own) (rw own c.driver.ready)
        (ap (λ o. o.kept.lens) own, ap (λ o. o.kept.desks) own) (rw own (quiet_own L refl q))

    pub free_steps : Steps (driver_view d) (driver_view e) next.seq next.reaction next.step
    free_steps = record {
      enabled = in_some (λ z. enabled_in z next.reaction next.step ≡ true) T.0 (agreed T.0 T.1) T.1.agree (free.always (told J T.0) next.reaction);
      counts = counts;
      found = 0;
      on = free.enabled next.reaction 0;
      look = ap last_look seat ∙ same_look d.seat.view next.seq
          ∙ ap (λ (b : Bool). cond b (next_look (last_look d.seat.view) (word_at d.job.now next.reaction next.step) 0)
          (last_look d.seat.view)) (sym free.unrecorded);
    }
