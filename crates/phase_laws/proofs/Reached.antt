-- What holds in reached counts and what they tell.
use Rattle.std.proofs.Common.{◌≡◌, ℕ, ◌<◌, ◌≤◌, ◌⊎◌, inl, inr, List, [], length, Option, Some, None, refl, sym, ap, subst, arith, ◌∙◌}
use Rattle.std.specs.Prelude.{slice_index_or}
use Rattle.std.proofs.lemmas.Bool.{cases_lt, le-ltb}
use Rattle.std.proofs.lemmas.Option.{none-some}
use Rattle.executive_program.specs.System as theory
use Rattle.executive_program.specs.System.{Micro}
use Rattle.executive_program.specs.InterleavingLaws as laws_of_theory
use Rattle.executive_program.specs.declared.steps.MicroStep.{MicroStep}
use Rattle.executive_program.specs.declared.steps.MicroStep.TheVariants.{Take, See, Lower, Signal, Await, Advance, Load, Store}
use Rattle.semaphore_core.specs.Registers.{Own}
use Rattle.semaphore_core.specs.Job.{JobData, system}
use Rattle.semaphore_core.specs.Core.{next, full, AreReached}
use Rattle.semaphore_core.specs.Told.{told, stored_value, own_after}
use Rattle.phase_laws.specs.Agrees.{IsFormed, Agrees, Matches, caller}
use Rattle.phase_laws.specs.Discipline.{discipline}
use Rattle.phase_laws.specs.Values.{IsSupplied}
use Rattle.phase_laws.specs.Reached.{count_of, Finds, ReachedLaws, ReachedHaveLaws, OwnPartsAgree}
use Rattle.phase_laws.proofs.AgreeSteps.{AtSame}
use Rattle.phase_laws.proofs.AgreeRuns.{runs_agree, next_same, element_is}
use Rattle.phase_laws.proofs.AgreeTold.{told_agrees}
use Rattle.phase_laws.proofs.AgreeLaws.{counts_are, theory_laws}
use Rattle.phase_laws.proofs.Bounded.{told_bounded}
use Rattle.phase_laws.proofs.Within.{all_within}
use Rattle.std.proofs.lemmas.List.{get_or_past}
use Rattle.phase_laws.proofs.Programs.{are_disciplined}
use Rattle.phase_laws.proofs.OwnValues.{compute_their_values}

-- What a sequence has of its own depends on its own count alone.
pub own_parts_agree : OwnPartsAgree
own_parts_agree j f c d s c_many d_many e = record {
  registers = registers (cases_lt s (length j.program.seqs));
  cells = λ v k x is n here. (told_agrees j f c c_many).cells v k x is n ∙ ap (λ (o : Own). slice_index_or o.cells k []) (own_same v here) ∙ sym ((told_agrees j f d d_many).cells v k x is n);
  rows = λ v a k x is q here. (told_agrees j f c c_many).rows v a k x is q
      ∙ ap (λ (o : Own). slice_index_or (slice_index_or o.rows k []) a []) (own_same v here) ∙ sym ((told_agrees j f d d_many).rows v a k x is q);
}
  where
    own_at : (t : ℕ) → t ≡ s → own_after j t (slice_index_or c t 0) ≡ own_after j t (slice_index_or d t 0)
    own_at t q = ap (own_after j t) (subst (λ (u : ℕ). slice_index_or c u 0 ≡ slice_index_or d u 0) (sym q) e)

    own_same : (v : ℕ) → caller j v ≡ s → own_after j (caller j v) (slice_index_or c (caller j v) 0) ≡ own_after j (caller j v) (slice_index_or d (caller j v) 0)
    own_same v q = own_at (caller j v) q

    registers : (s < length j.program.seqs) ⊎ (length j.program.seqs ≤ s) → slice_index_or (told j c).registers s [] ≡ slice_index_or (told j d).registers s []
    registers (inl l) = (told_agrees j f c c_many).registers s l ∙ ap (λ (o : Own). o.registers) (own_at s refl) ∙ sym ((told_agrees j f d d_many).registers s l)
    registers (inr l) = past (told j c).registers (told_agrees j f c c_many).registers_there ∙ sym (past (told j d).registers (told_agrees j f d d_many).registers_there)
      where
        past : {A : Type 0} (xs : List (List A)) → length xs ≡ length j.program.seqs → slice_index_or xs s [] ≡ []
        past xs n = get_or_past xs s [] (omega arith)

module _ (j : JobData) (h : IsSupplied j) where
  formed : IsFormed j
  formed = record { seqs = h.seqs; formed = (h.order, h.formed); valid = h.valid; opened = h.opened }

  laws : laws_of_theory.HasLaws (system j) (stored_value j) (own_after j)
  laws = let d = are_disciplined j h.seqs h.order h.formed in
      theory_laws j (discipline j.program h.order) (record { synchronized = d.0; ordered = d.1; values = compute_their_values j h })

  module _ (counts : List ℕ) (r : AreReached j counts) where
    abbrev c : ℕ → ℕ
    c = count_of j counts

    many : length counts ≡ length j.program.seqs
    many = sym (ap (λ (l : List ℕ). length l) r.1) ∙ (runs_agree j formed r.0).counts_there

    reached : laws_of_theory.IsReached (system j) c
    reached = (r.0, counts_are j formed laws r.0 ∙ (λ i s. slice_index_or (r.1 i) s 0))

    agrees : Agrees j (told j counts) (theory.told (system j) (stored_value j) (own_after j) c)
    agrees = told_agrees j formed counts many

    -- what the theory finds is what the core finds
    found : (s : ℕ) → s < length j.program.seqs → (m : MicroStep) (u : Micro) → Matches j.program j.media s m u
        → laws_of_theory.Finds (system j) (stored_value j) (own_after j) c s u → Finds j counts s m
    found s there (Lower x) u k f = subst (λ (n : ℕ). 1 ≤ n) (sym (agrees.semaphores x k.0)) (subst (λ (v : Micro). laws_of_theory.Finds (system j) (stored_value j) (own_after j) c s v) k.1 f)
    found s there (Load x then) u k f = record {
      element = k.1;
      access = k.2;
      lies = k.3;
      is = element_is j formed (told j counts) (theory.told (system j) (stored_value j) (own_after j) c) agrees s there x k.1 k.2 k.3
          ∙ subst (λ (v : Micro). laws_of_theory.Finds (system j) (stored_value j) (own_after j) c s v) k.4 f;
    }
    found s there (Store x what) u k f = record {
      element = k.1;
      access = k.2;
      lies = k.3;
      is = subst (λ (v : Micro). laws_of_theory.Finds (system j) (stored_value j) (own_after j) c s v) k.4 f;
    }
    found s there (Take x) u k f = tt
    found s there (See x) u k f = tt
    found s there (Signal x) u k f = tt
    found s there (Await m i n exact) u k f = tt
    found s there (Advance m) u k f = tt

    there_is : (s : ℕ) (m : MicroStep) → next j (told j counts) s ≡ Some m → s < length j.program.seqs
    there_is s m e = by (cases_lt s (length j.program.seqs))
      where
        by : (s < length j.program.seqs) ⊎ (length j.program.seqs ≤ s) → s < length j.program.seqs
        by (inl l) = l
        by (inr l) = absurd (none-some m (let q = e in rw (le-ltb s (length j.program.seqs) l) at q))

    finds : (s : ℕ) (m : MicroStep) → next j (told j counts) s ≡ Some m → Finds j counts s m
    finds s m e = by (theory.next (system j) c s) refl
        (subst (λ (o : Option MicroStep). AtSame j.program j.media s o (theory.next (system j) c s)) e (next_same j formed s (told j counts)))
      where
        by : (o : Option Micro) → theory.next (system j) c s ≡ o → AtSame j.program j.media s (Some m) o → Finds j counts s m
        by None q k = absurd k
        by (Some u) q k = found s (there_is s m e) m u k (laws.finds c s u reached q)

    reached_laws : ReachedLaws j counts
    reached_laws = record {
      within = record { many = many; within = λ s. subst (λ (l : List ℕ). slice_index_or l s 0 ≤ full j s) r.1 (all_within j r.0 s) };
      bounded = told_bounded j counts many;
      fresh = laws.reached_fresh c reached;
      finds = finds;
    }

pub reached_have_laws : ReachedHaveLaws
reached_have_laws j h counts r = reached_laws j h counts r
