-- Looks, loads and stores of a driver.
use Rattle.std.proofs.Common.{◌≡◌, ℕ, ◌+◌, ◌%◌, ◌<◌, ◌⊎◌, inl, inr, Bool, true, false, cond, List, length, get_or, Some, refl, sym, ap, subst, arith, ◌∙◌, ℤ, ◌*◌}
use Rattle.std.specs.Prelude.{nat_eq, nat_le}
use Rattle.std.specs.Int.{w64, cast_signed}
use Rattle.std.proofs.lemmas.Bool.{lt-ltb}
use Rattle.std.proofs.lemmas.List.{length-set}
use Rattle.executive_program.specs.Sites.{step_at, reaction_at}
use Rattle.executive_program.specs.System.{turn_reached}
use Rattle.executive_program.specs.declared.steps.Place.{Place}
use Rattle.executive_program.specs.declared.steps.OnLoad.{OnLoad}
use Rattle.executive_program.specs.declared.steps.OnLoad.TheVariants.{Gather, Carry as CarryIn, Compute as ComputeIn}
use Rattle.executive_program.specs.declared.steps.OnStore.{OnStore}
use Rattle.executive_program.specs.declared.steps.OnStore.TheVariants.{Give, Carry as CarryOut, Compute as ComputeOut}
use Rattle.executive_program.specs.declared.steps.MicroStep.{MicroStep}
use Rattle.executive_program.specs.declared.steps.MicroStep.TheVariants.{Take, See, Lower, Signal, Await, Advance, Load, Store}
use Rattle.executive_program.specs.Steps.{steps}
use Rattle.word_rule.specs.Job.{JobData, reactions}
use Rattle.word_rule.specs.Core.{Core, full, own, element_of, enabled_in}
use Rattle.word_rule.specs.Registers.{emit_by}
use Rattle.word_rule.specs.Parts.{own_at, absorbed, left, with_load, with_store, value_stored}
use Rattle.word_rule.specs.Held.{NeedsReaction, LoadIsLaid, StoreIsLaid}
use Rattle.word_rule.specs.Rooms.{Fits}
use Rattle.word_rule.specs.Told.{told}
use Rattle.word_rule.proofs.Ready.{absorb_ready, after_ready}
use Rattle.word_rule.proofs.CoreStanding.{fits_at, needs_at, next_at}
use Rattle.word_rule.specs.Agrees.{caller, LoadsHere, StoresHere}
use Rattle.word_rule.specs.declared.next.Next.{Next}
use Rattle.word_rule.specs.declared.view.Knowledge.{Knowledge}
use Rattle.word_rule.specs.declared.view.View.{View}
use Rattle.word_rule.specs.declared.view.View.TheVariants.{Holds}
use Rattle.word_rule.specs.Words.{table_of, word_at}
use Rattle.word_rule.specs.Views.{stepped, looked, after}
use Rattle.word_rule.specs.Rule.{AreTold, Agree, Finds, FindsBy, InTold, look_of}
use Rattle.word_rule.specs.Given.{IsShaped, IsThere, StandsAt, Stores, enables, IsTake, Waits}
use Rattle.word_rule.specs.Steps.{CanStep, looked_at}
use Rattle.word_rule.proofs.Shapes.{element_get, semaphore_get, turn_get}
use Rattle.word_rule.proofs.Allowed.{look_job, look_on, look_off}
use Rattle.word_rule.proofs.Further.{shaped}
use Rattle.word_table.specs.declared.driver_parts.DriverParts.{DriverParts}
use Rattle.word_table.specs.declared.fabric_parts.FabricParts.{FabricParts}
use Rattle.word_table.specs.Answers.{is_recorded, next_look, Steps, Misses}
use Rattle.word_table.specs.Parts.{AreFabricParts, IsOf, SameDriver, CanMake, CountsOneMore, Looked, last_look, driver_view}
use Rattle.word_table.proofs.Own.{after_load, after_store, emits, loads_here, stores_here}
use Rattle.word_table.proofs.Drivers.{here, agreed, in_some, reaches_next, quiet_own, unmoved, moved_on, looks_quietly, loads_freely, stores_freely, free_driver}

module _ (f : FabricParts) (d : DriverParts) (next : Next) (is : AreFabricParts f) (c : CanMake f d next) where
  abbrev S : ℕ
  S = next.seq

  abbrev R : ℕ
  R = next.reaction

  abbrev Jo : JobData
  Jo = f.job.now

  is_next : next_at Jo S c.count ≡ Some next.step
  is_next = let l = c.more in rw (lt-ltb c.count (full Jo S) l) c.next_step

  -- there are registers enough
  pub room : Fits Jo.graph (get_or d.own.rooms next.seq 0) (Some next.step)
  room = fits_at Jo S c.count next.step is_next Jo.graph (get_or d.own.rooms S 0) (c.driver.in_prologue S) (c.driver.in_turn S)

  -- a load or a store is made within the reactions
  pub needs : NeedsReaction next.step next.reaction (reactions f.job.now)
  needs = subst (λ (k : ℕ). NeedsReaction next.step k (reactions Jo)) c.in_reaction (needs_at Jo S c.count next.step is_next (is.runs.bare S))

  pub there : next.seq < length f.job.now.program.seqs
  there = here f d next is c

  has_registers : S < length d.own.registers
  has_registers = let a = there in let b = c.driver.registers_there in omega (arith, a, b)

  pub has_room : next.seq < length d.own.rooms
  has_room = let a = there in let b = c.driver.rooms_there in omega (arith, a, b)

  inside : IsThere Jo next.step
  inside = is.runs.there S c.count next.step c.next_step

  grouped : (v : ℕ) → caller Jo v ≡ S → caller Jo v % d.groups ≡ d.group
  grouped v e = ap (λ (s : ℕ). s % d.groups) e ∙ c.driver.only S c.count c.drives

  -- what the sequence computes is laid out
  pub load_laid : (x : Place) (then : OnLoad) → next.step ≡ Load x then → LoadIsLaid f.job.now d.own.kept.lens d.own.kept.desks then
  load_laid x then e = by then (loads_here Jo is.runs.formed is.runs.values S c.count x then (c.next_step ∙ ap (λ (i : MicroStep). Some i) e))
    where
      by : (then : OnLoad) → LoadsHere Jo.program Jo.media S then → LoadIsLaid Jo d.own.kept.lens d.own.kept.desks then
      by CarryIn h = tt
      by (Gather r) h = tt
      by (ComputeIn v r more) h = c.driver.laid v (grouped v h)

  pub store_laid : (x : Place) (what : OnStore) → next.step ≡ Store x what → StoreIsLaid f.job.now d.own.kept.lens d.own.kept.desks what
  store_laid x what e = by what (stores_here Jo is.runs.formed is.runs.values S c.count x what (c.next_step ∙ ap (λ (i : MicroStep). Some i) e))
    where
      by : (what : OnStore) → StoresHere Jo.program Jo.media S what → StoreIsLaid Jo d.own.kept.lens d.own.kept.desks what
      by CarryOut h = tt
      by (Give r more) h = tt
      by (ComputeOut v more) h = c.driver.laid v (grouped v h)

  -- where the seat stands
  pub can_step : CanStep f.table d.seat next
  can_step = record {
    seated = c.driver.of_table;
    stands = subst (λ (j : JobData). StandsAt j d.seat.view S R next.step) (sym is.key) (record {
      knowledge = c.knowledge;
      count = c.count;
      holds = c.driver.holds;
      job = c.driver.job;
      drives = c.drives;
      here = subst (λ (j : JobData). S < length j.program.seqs) (sym c.driver.job) there;
      more = subst (λ (j : JobData). c.count < full j S) (sym c.driver.job) c.more;
      next = subst (λ (j : JobData). step_at (steps j.program S) c.count ≡ Some next.step) (sym c.driver.job) c.next_step;
      reaction = subst (λ (j : JobData). reaction_at (steps j.program S) c.count ≡ R) (sym c.driver.job) c.in_reaction;
    });
    word_is = c.word_is ∙ ap (λ (j : JobData). word_at j R next.step) (sym is.key);
  }

  -- what is stored
  pub stores : (x : Place) (what : OnStore) → next.step ≡ Store x what → (value : ℤ) → value
      ≡ value_stored f.job.now d.own next.seq next.reaction what → Stores d.seat.view next.seq next.reaction next.step value
  stores x what e value v = subst (λ u. Stores u S R next.step value) (sym c.driver.holds) (x, what, e, λ counts a. all counts a)
    where
      all : (counts : List ℕ) → Agree c.knowledge counts → emit_by c.knowledge.job.graph c.knowledge.job.sensors what R (own c.knowledge.job (told c.knowledge.job counts) S) ≡ value
      all counts a = subst (λ (i : JobData). AreTold i counts → emit_by i.graph i.sensors what R (own i (told i counts) S) ≡ value) (sym c.driver.job)
          (λ t. emits Jo is.runs.formed is.runs.values c.knowledge d.own.registers d.own.kept.cells d.own.kept.rows c.driver.own S c.count
          R c.drives there c.more c.in_reaction (stepped c.knowledge S) refl x what
          (c.next_step ∙ ap (λ (i : MicroStep). Some i) e) counts (shaped Jo is.runs counts t).counts (a.agree S c.count c.drives) ∙ sym v) a.are_told

  -- what was found at the word
  pub has : (found : ℕ) → FindsBy d.seat.view next.word found → Finds c.knowledge next.word found
  has found finds = subst (λ u. FindsBy u next.word found) c.driver.holds finds

  pub finds_told : (found : ℕ) → FindsBy d.seat.view next.word found → InTold d.seat.view (λ z. Unit {0})
  finds_told found finds = let h = has found finds in subst (λ u. InTold u (λ z. Unit {0})) (sym c.driver.holds) (h.counts, h.agree, tt)

  its_counts : (found : ℕ) (finds : FindsBy d.seat.view next.word found) → AreTold Jo (has found finds).counts
  its_counts found finds = agreed f d next is c (has found finds).counts (has found finds).agree

  stood : (found : ℕ) (finds : FindsBy d.seat.view next.word found) → found ≡ get_or (table_of (told Jo (has found finds).counts)) (word_at Jo R next.step) 0
  stood found finds = (has found finds).is ∙ (λ i. get_or (table_of (told (c.driver.job i) (has found finds).counts)) (c.word_is i) 0)

  -- of a load
  module _ (x : Place) (then : OnLoad) (e : next.step ≡ Load x then) (found : ℕ) (finds : FindsBy d.seat.view next.word found) where
    found_is : cast_signed w64 found ≡ element_of Jo (told Jo (has found finds).counts) x R
    found_is = ap (cast_signed w64) (stood found finds ∙ ap (λ (m : MicroStep). get_or (table_of (told Jo (has found finds).counts)) (word_at Jo R m) 0) e
        ∙ element_get Jo (told Jo (has found finds).counts) (shaped Jo is.runs (has found finds).counts (its_counts found finds)) x R
        (subst (IsThere Jo) e inside)) ∙ (its_counts found finds).exact _ _

  module _ (v : DriverParts) (same : SameDriver d v) (seat : v.seat.view ≡ after (λ k. stepped k next.seq) d.seat.view) (counts : CountsOneMore d v next.seq) where
    pub loaded_driver : (x : Place) (then : OnLoad) → next.step ≡ Load x then → (found : ℕ) → FindsBy d.seat.view next.word found → (value : ℤ) → value ≡ cast_signed w64 found
        → v.own ≡ with_load f.job.now d.own next.seq next.reaction then value → IsOf f v
    loaded_driver x then e found finds value q b =
        free_driver f d next is c v same seat counts (loads_freely x then next.step e) (finds_told found finds)
        (ap (λ o. length o.registers) b ∙ length-set d.own.registers S (absorbed Jo then R (own_at d.own S) value).registers) (ap (λ o. o.rooms) b)
        (rw b (absorb_ready Jo d.own.kept then R (own_at d.own S) value c.driver.ready)) (ap (λ o. o.kept.lens) b, ap (λ o. o.kept.desks) b)
        (rw b (after_load Jo is.runs.formed is.runs.values c.knowledge d.own.registers d.own.kept.cells d.own.kept.rows c.driver.own S
        c.count R c.drives there c.more c.in_reaction (stepped c.knowledge S) refl
        is.runs (has found finds).counts (its_counts found finds) ((has found finds).agree.agree S c.count c.drives) x then (c.next_step ∙ ap (λ (i : MicroStep). Some i) e) has_registers value
        (sym (found_is x then e found finds) ∙ sym q)))

    pub stored_driver : (x : Place) (what : OnStore) → next.step ≡ Store x what → InTold d.seat.view (λ z. Unit {0})
        → v.own ≡ with_store f.job.now d.own next.seq next.reaction what → IsOf f v
    stored_driver x what e told_by b =
        free_driver f d next is c v same seat counts (stores_freely x what next.step e) told_by
        (ap (λ o. length o.registers) b ∙ length-set d.own.registers S (left Jo what R (own_at d.own S)).registers) (ap (λ o. o.rooms) b)
        (rw b (after_ready Jo d.own.kept what R (own_at d.own S) c.driver.ready)) (ap (λ o. o.kept.lens) b, ap (λ o. o.kept.desks) b)
        (rw b (after_store Jo is.runs.formed is.runs.values c.knowledge d.own.registers d.own.kept.cells d.own.kept.rows c.driver.own S
        c.count R c.drives there c.more c.in_reaction (stepped c.knowledge S) refl
        x what (c.next_step ∙ ap (λ (i : MicroStep). Some i) e) has_registers))

pub true_false : ◌≡◌ {A = Bool} true false → ⊥
true_false h = cc

-- the test of the word is the test of the state
tests : (j : JobData) (z : Core) (r : ℕ) (m : MicroStep) → IsTake m ⊎ Waits m → IsShaped j z → IsThere j m → enables r m (get_or (table_of z) (word_at j r m) 0) ≡ enabled_in z r m
tests j z r (Take x) k h t = ap (λ (n : ℕ). nat_eq n 1) (semaphore_get j z h x t)
tests j z r (See x) k h t = ap (λ (n : ℕ). nat_le 1 n) (semaphore_get j z h x t)
tests j z r (Await m i n exact) k h t = ap (λ (w : ℕ). turn_reached exact w (r * n + i)) (turn_get j z h m t)
tests j z r (Lower x) k h t = refl
tests j z r (Signal x) k h t = refl
tests j z r (Advance m) k h t = refl
tests j z r (Load x then) k h t = refl
tests j z r (Store x what) k h t = refl

recorded : (m : MicroStep) → IsTake m ⊎ Waits m → is_recorded m ≡ true
recorded (Take x) k = refl
recorded (See x) k = refl
recorded (Await m i n exact) k = refl
recorded (Lower x) (inl k) = absurd cc
recorded (Lower x) (inr k) = absurd k
recorded (Signal x) (inl k) = absurd cc
recorded (Signal x) (inr k) = absurd k
recorded (Advance m) (inl k) = absurd cc
recorded (Advance m) (inr k) = absurd k
recorded (Load x then) (inl k) = absurd cc
recorded (Load x then) (inr k) = absurd k
recorded (Store x what) (inl k) = absurd cc
recorded (Store x what) (inr k) = absurd k

-- A look of a driver.
module _ (f : FabricParts) (d : DriverParts) (next : Next) (is : AreFabricParts f) (c : CanMake f d next) (kind : IsTake next.step ⊎ Waits next.step) where
  abbrev E : ℕ → Bool
  E = enables next.reaction next.step

  abbrev Seen : ℕ → Knowledge
  Seen found = look_of next.seq E next.word found c.knowledge

  -- counts in which it stood there, and what they tell of the micro-step
  test_is : (found : ℕ) (finds : FindsBy d.seat.view next.word found) → enabled_in (told f.job.now (has f d next is c found finds).counts) next.reaction next.step ≡ E found
  test_is found finds = let h = has f d next is c found finds in let t = its_counts f d next is c found finds in
      sym (ap E (stood f d next is c found finds) ∙ tests f.job.now (told f.job.now h.counts) next.reaction next.step kind (shaped f.job.now is.runs h.counts t) (inside f d next is c))

  holds_now : (seat : View) (found : ℕ) → seat ≡ after (look_of next.seq E next.word found) d.seat.view → seat ≡ Holds (look_of next.seq E next.word found c.knowledge)
  holds_now seat found e = e ∙ ap (λ (v : View). after (look_of next.seq E next.word found) v) c.driver.holds

  -- the last look of the seat
  look_is : (seat : View) (found : ℕ) → seat ≡ after (look_of next.seq E next.word found) d.seat.view → last_look seat ≡ next_look (last_look d.seat.view) next.word found
  look_is seat found e = ap last_look (holds_now seat found e) ∙ by (E found) ∙ ap (λ (v : View). next_look (last_look v) next.word found) (sym c.driver.holds)
    where
      by : (b : Bool) → last_look (Holds (looked (cond b (stepped c.knowledge next.seq) c.knowledge) next.word found)) ≡ next_look (last_look (Holds c.knowledge)) next.word found
      by true = refl
      by false = refl

  -- at the word that the micro-step needs
  look_at_word : (seat : View) (found : ℕ) → seat ≡ after (look_of next.seq E next.word found) d.seat.view → last_look seat
      ≡ next_look (last_look d.seat.view) (word_at d.job.now next.reaction next.step) found
  look_at_word seat found e = look_is seat found e
      ∙ ap (λ (w : ℕ). next_look (last_look d.seat.view) w found) (c.word_is ∙ ap (λ (j : JobData). word_at j next.reaction next.step) (sym c.driver.of_job))

  -- where it enables the micro-step, that is made
  module _ (e : DriverParts) (same : SameDriver d e) (l : Looked d e next true) where
    on : enables next.reaction next.step l.found ≡ true
    on = sym l.is

    view_is : e.seat.view ≡ after (look_of next.seq E next.word l.found) d.seat.view
    view_is = ap (λ s. s.view) l.seat

    pub made_driver : e.own ≡ d.own → IsOf f e
    made_driver own = let h = has f d next is c l.found l.finds in let t = its_counts f d next is c l.found l.finds in let q = looks_quietly next.step kind in (
      Seen l.found,
      moved_on f.job.now f.table.table c.knowledge (Seen l.found) d e next.seq c.count c.driver same (holds_now e.seat.view l.found view_is)
          (look_job c.knowledge next.seq E next.word l.found) (look_on c.knowledge next.seq E next.word l.found on) c.drives c.more (l.made refl)
          (ap (λ o. length o.registers) own) (ap (λ o. o.rooms) own)
          (reaches_next f d next is c h.counts t h.agree.agree (test_is l.found l.finds ∙ on) (Seen l.found) (look_on c.knowledge next.seq E next.word l.found on))
          (rw own c.driver.ready) (ap (λ o. o.kept.lens) own, ap (λ o. o.kept.desks) own)
          (rw own (quiet_own f d next is c (Seen l.found) (look_on c.knowledge next.seq E next.word l.found on) q)),
    )

    pub made_steps : Steps (driver_view d) (driver_view e) next.seq next.reaction next.step
    made_steps = let h = has f d next is c l.found l.finds in let t = its_counts f d next is c l.found l.finds in record {
      enabled = in_some f d next is c (λ z. enabled_in z next.reaction next.step ≡ true) h.counts t h.agree.agree (test_is l.found l.finds ∙ on);
      counts = l.made refl;
      found = l.found;
      on = on;
      look = look_at_word e.seat.view l.found view_is
          ∙ ap (λ (b : Bool). cond b (next_look (last_look d.seat.view) (word_at d.job.now next.reaction next.step) l.found)
          (last_look d.seat.view)) (sym (recorded next.step kind));
    }

  -- and else only the look is recorded
  module _ (e : DriverParts) (l : Looked d e next false) where
    off : enables next.reaction next.step l.found ≡ false
    off = sym l.is

    pub missed_driver : IsOf f e
    missed_driver = subst (IsOf f) (sym (l.missed refl)) (
      Seen l.found,
      unmoved f.job.now f.table.table c.knowledge (Seen l.found) d (looked_at d.seat next l.found) c.driver refl (holds_now (looked_at d.seat next l.found).view l.found refl)
          (look_job c.knowledge next.seq E next.word l.found) (look_off c.knowledge next.seq E next.word l.found off),
    )

    pub missed : Misses (driver_view d) (driver_view e) next.reaction next.step
    missed = let h = has f d next is c l.found l.finds in let t = its_counts f d next is c l.found l.finds in record {
      found = l.found;
      off = off;
      stood = in_some f d next is c (λ z. (l.found ≡ get_or (table_of z) (word_at d.job.now next.reaction next.step) 0) × (enabled_in z next.reaction next.step ≡ false)) h.counts t h.agree.agree (
        (stood f d next is c l.found l.finds
            ∙ ap (λ (j : JobData). get_or (table_of (told f.job.now h.counts)) (word_at j next.reaction next.step) 0)
            (sym c.driver.of_job)),
        test_is l.found l.finds ∙ off,
      );
      driver = ap driver_view (l.missed refl) ∙ ap (λ k. record (driver_view d) { look = k }) (look_at_word (looked_at d.seat next l.found).view l.found refl);
    }
