-- What a driver has is told, and a driver of every sequence knows all counts.
use Rattle.std.proofs.Common.{◌≡◌, ℕ, ◌%◌, ◌<◌, Bool, true, false, cond, List, length, get_or, Some, None, refl, sym, ap, subst, arith, ◌∙◌}
use Rattle.std.proofs.lemmas.Bool.{lt-ltb, le-ltb}
use Rattle.executive_program.specs.declared.steps.MicroStep.{MicroStep}
use Rattle.atomic_table.specs.Seated.{TableId}
use Rattle.word_rule.specs.Job.{JobData}
use Rattle.word_rule.specs.Core.{Core, full, next, enabled_in, AreReached}
use Rattle.word_rule.specs.Told.{told}
use Rattle.word_rule.specs.Agrees.{caller}
use Rattle.word_rule.specs.declared.view.Knowledge.{Knowledge}
use Rattle.word_rule.specs.Given.{RunsOnWords}
use Rattle.word_rule.specs.Words.{word_at, table_of}
use Rattle.word_rule.proofs.Ending.{same_lists}
use Rattle.word_table.specs.declared.answer.MicroAnswer.{MicroAnswer}
use Rattle.word_table.specs.declared.answer.MicroAnswer.TheVariants.{Stepped, NotYet, Finished}
use Rattle.word_table.specs.declared.driver_parts.DriverParts.{DriverParts}
use Rattle.word_table.specs.declared.fabric_parts.FabricParts.{FabricParts}
use Rattle.word_table.specs.Answers.{Answers, AnswersAlone, DrivesEvery, HasNext, answer_by, answer_in}
use Rattle.word_table.specs.Driver.{FabricData, DriverData, Drives, AgreeWith, InSome, IsTold}
use Rattle.word_table.specs.Parts.{IsDriver, AreDriverParts, AreFabricParts, IsOf, Reaches, driver_view, fabric_view}
use Rattle.word_table.proofs.Own.{told_is, IsOwnOf}

-- the registers, cells and rows of a driver
pub is_told : (d : DriverParts) → AreDriverParts d → RunsOnWords d.job.now → IsTold (driver_view d)
is_told d (k, i) g counts a = record {
  registers = λ s q. let r = i.all s q.there q.grouped in own.same_registers s r.0 r.1;
  cells = λ v n x is e q. let r = i.all (caller d.job.now v) q.there q.grouped in own.same_cells (caller d.job.now v) r.0 v n x r.1 is e refl;
  rows = λ v b n x is e q. let r = i.all (caller d.job.now v) q.there q.grouped in own.same_rows (caller d.job.now v) r.0 v b n x r.1 is e refl;
}
  where
    own : IsOwnOf d.job.now k d.own.registers d.own.kept.cells d.own.kept.rows (told d.job.now counts)
    own = told_is d.job.now g.formed g.values k d.own.registers d.own.kept.cells d.own.kept.rows i.there i.own counts a.many
        (λ s n c. a.agree s (record { there = i.there s n c; grouped = i.only s n c }) ∙ i.counted s n c)

-- a driver of a fabric is one of its own job
pub own_driver : (f : FabricParts) (d : DriverParts) → IsOf f d → AreDriverParts d
own_driver f d (k, i) = (k, subst (λ (j : JobData). IsDriver j d.seat.table k d) (sym i.of_job) (subst (λ (t : TableId). IsDriver f.job.now t k d) (sym i.of_table) i))

pub of_views : (f : FabricParts) (d : DriverParts) → (driver_view d).fabric ≡ fabric_view f → AreDriverParts d → IsOf f d
of_views f d e (k, i) = (
  k,
  subst (λ (t : TableId). IsDriver f.job.now t k d) (ap (λ (w : FabricData). w.table) e)
      (subst (λ (j : JobData). IsDriver j d.seat.table k d) (ap (λ (w : FabricData). w.job) e) i),
)

pub told_of : (f : FabricParts) (d : DriverParts) → AreFabricParts f → IsOf f d → IsTold (driver_view d)
told_of f d is o = is_told d (own_driver f d o) (subst RunsOnWords (sym o.1.of_job) is.runs)

-- A driver that drives every sequence.
module _ (d : DriverData) (many : length d.counts ≡ length d.fabric.job.program.seqs) (all : (s : ℕ) → s < length d.fabric.job.program.seqs → Drives d s) where
  abbrev J : JobData
  J = d.fabric.job

  -- what agrees with its counts are its counts
  same : (counts : List ℕ) → AgreeWith d counts → counts ≡ d.counts
  same counts a = same_lists counts d.counts (a.many ∙ sym many) (λ s l. a.agree s (all s (let q = a.many in omega (arith, l, q))))

  known : (P : Core → Type 0) → InSome d P → P (told d.fabric.job d.counts)
  known P (counts, r, a, p) = subst (λ (c : List ℕ). P (told J c)) (same counts a) p

  abbrev Z : Core
  Z = told J d.counts

  -- the next micro-step, in what its counts tell
  next_is : (s r : ℕ) (m : MicroStep) → s < length J.program.seqs → HasNext d s r m → next J Z s ≡ Some m
  next_is s r m l h = let o = h.more in rw (lt-ltb s (length J.program.seqs) l, lt-ltb (get_or d.counts s 0) (full J s) o) h.next

  step_answer : (s r : ℕ) (m : MicroStep) (b : Bool) → s < length J.program.seqs → HasNext d s r m → enabled_in Z r m ≡ b → cond b Stepped NotYet ≡ answer_in J Z s
  step_answer s r m b l h e = ap (λ (c : Bool). cond c Stepped NotYet) (sym (ap (λ (k : ℕ). enabled_in Z k m) h.in_reaction ∙ e)) ∙ ap (answer_by J Z s) (sym (next_is s r m l h))

  pub alone : (new : DriverData) (s : ℕ) (answer : MicroAnswer) → s < length d.fabric.job.program.seqs → AreReached d.fabric.job d.counts
      → AreReached d.fabric.job new.counts → Answers d new s answer → AnswersAlone d new s answer
  alone new s Finished l was now (e, q) = record {
    was_reached = was;
    is_reached = now;
    is = ap (answer_by J Z s) (sym done);
  }
    where
      done : next J Z s ≡ None
      done = rw (lt-ltb s (length J.program.seqs) l, le-ltb (get_or d.counts s 0) (full J s) (omega (arith, e))) refl
  alone new s Stepped l was now (r, m, h, st) = record { was_reached = was; is_reached = now; is = step_answer s r m true l h (known (λ z. enabled_in z r m ≡ true) st.enabled) }
  alone new s NotYet l was now (r, m, h, st) =
      record {
        was_reached = was;
        is_reached = now;
        is =
            step_answer s r m false l h (known (λ z. (st.found ≡ get_or (table_of z) (word_at J r m) 0) × (enabled_in z r m ≡ false)) st.stood).1;
      }

-- its counts are reached
pub counts_reached : (j : JobData) → RunsOnWords j → (d : DriverParts) (k : Knowledge) → IsDriver j d.seat.table k d
    → ((s : ℕ) → s < length j.program.seqs → s % d.groups ≡ d.group) → AreReached j d.counts.items
counts_reached j g d k i all = subst (AreReached j) same r.reached
  where
    r : Reaches j k
    r = i.reaches

    many : length r.counts ≡ length j.program.seqs
    many = sym (ap (length {A = ℕ}) r.reached.1) ∙ (g.shaped r.reached.0).counts

    same : r.counts ≡ d.counts.items
    same = same_lists r.counts d.counts.items (many ∙ sym i.counts_there)
        (λ s l. let c = i.all s (let q = many in omega (arith, l, q)) (all s (let q = many in omega (arith, l, q))) in r.agree s c.0 c.1 ∙ sym (i.counted s c.0 c.1))

-- A driver of every sequence of a fabric.
pub alone_answers : (f : FabricParts) (d e : DriverParts) (s : ℕ) (answer : MicroAnswer) → AreFabricParts f → IsOf f d → IsOf f e
    → DrivesEvery (driver_view d) → e.groups ≡ d.groups → e.group ≡ d.group → s < length f.job.now.program.seqs
    → Answers (driver_view d) (driver_view e) s answer → AnswersAlone (driver_view d) (driver_view e) s answer
alone_answers f d e s answer is od oe every gs g l a = alone (driver_view d) many (λ t q. record { there = q; grouped = every t q }) e' s answer there was now a
  where
    e' : DriverData
    e' = driver_view e

    job : d.job.now ≡ f.job.now
    job = od.1.of_job

    many : length d.counts.items ≡ length d.job.now.program.seqs
    many = od.1.counts_there ∙ ap (λ (j : JobData). length j.program.seqs) (sym job)

    there : s < length d.job.now.program.seqs
    there = subst (λ (j : JobData). s < length j.program.seqs) (sym job) l

    of_fabric : (t : ℕ) → t < length f.job.now.program.seqs → t % d.groups ≡ d.group
    of_fabric t q = every t (subst (λ (j : JobData). t < length j.program.seqs) (sym job) q)

    of_new : (t : ℕ) → t < length f.job.now.program.seqs → t % e.groups ≡ e.group
    of_new t q = ap (λ (n : ℕ). t % n) gs ∙ of_fabric t q ∙ sym g

    was : AreReached d.job.now d.counts.items
    was = subst (λ (j : JobData). AreReached j d.counts.items) (sym job)
        (counts_reached f.job.now is.runs d od.0 (subst (λ (t : TableId). IsDriver f.job.now t od.0 d) (sym od.1.of_table) od.1) of_fabric)

    now : AreReached d.job.now e.counts.items
    now = subst (λ (j : JobData). AreReached j e.counts.items) (sym job)
        (counts_reached f.job.now is.runs e oe.0 (subst (λ (t : TableId). IsDriver f.job.now t oe.0 e) (sym oe.1.of_table) oe.1) of_new)
