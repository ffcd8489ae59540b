-- In every run no count is above its full count.
use Rattle.std.proofs.Common.{◌≡◌, ℕ, ◌+◌, ◌<◌, ◌≤◌, ◌⊎◌, inl, inr, Bool, true, false, cond, List, [], ◌∷◌, length, sym, ap, subst, arith, ◌∙◌}
use Rattle.std.specs.Prelude.{slice_index_or, replicate}
use Rattle.std.proofs.lemmas.Bool.{cases_eq, cases_lt, cases_Bool, lt-ltb, le-ltb}
use Rattle.std.proofs.lemmas.List.{get_or-set_same, get_or-set_other, get_or-replicate, get_or_past, length-replicate, length-set}
use Rattle.semaphore_core.specs.Job.{JobData}
use Rattle.semaphore_core.specs.Core.{Core, opening, count, counted, full, next, is_enabled, done_by, step, run_from, run}
use Rattle.phase_laws.proofs.AgreeLaws.{step_counts}

module _ (j : JobData) where
  abbrev Within : Core → Type 0
  Within z = (length z.counts ≡ length j.program.seqs) × ((s : ℕ) → count z s ≤ full j s)

  -- a sequence that is enabled is there, and not at its end
  pending : (z : Core) (s : ℕ) → is_enabled j z s ≡ true → (s < length j.program.seqs) × (count z s < full j s)
  pending z s e = by (cases_lt s (length j.program.seqs)) (cases_lt (count z s) (full j s))
    where
      by : (s < length j.program.seqs) ⊎ (length j.program.seqs ≤ s) → (count z s < full j s) ⊎ (full j s ≤ count z s) → (s < length j.program.seqs) × (count z s < full j s)
      by (inl h) (inl l) = (h, l)
      by (inl h) (inr l) = absurd (let q = e in let f : false ≡ true = rw (lt-ltb s (length j.program.seqs) h, le-ltb (count z s) (full j s) l) at q in cc)
      by (inr h) l = absurd (let q = e in let f : false ≡ true = rw (le-ltb s (length j.program.seqs) h) at q in cc)

  counts_within : (z : Core) (s : ℕ) → Within z → is_enabled j z s ≡ true → (t : ℕ) → slice_index_or (counted z s) t 0 ≤ full j t
  counts_within z s w e t = by (cases_eq t s)
    where
      by : (t ≡ s) ⊎ (t ≡ s → ⊥) → slice_index_or (counted z s) t 0 ≤ full j t
      by (inl q) = subst (λ (u : ℕ). slice_index_or (counted z s) u 0 ≤ full j u) (sym q)
          (let p = pending z s e in let n = w.0 in let m = get_or-set_same z.counts s (count z s + 1) 0 (omega arith) in omega arith)
      by (inr q) = let m = get_or-set_other z.counts s t (count z s + 1) 0 q in let n = w.1 t in omega arith

  step_within : (z : Core) (s : ℕ) → Within z → Within (step j z s)
  step_within z s w = by (cases_Bool (is_enabled j z s))
    where
      by : (is_enabled j z s ≡ true) ⊎ (is_enabled j z s ≡ false) → Within (step j z s)
      by (inl e) = let c = step_counts j z s e in (
        ap (λ (l : List ℕ). length l) c ∙ length-set z.counts s (count z s + 1) ∙ w.0,
        λ t. subst (λ (l : List ℕ). slice_index_or l t 0 ≤ full j t) (sym c) (counts_within z s w e t),
      )
      by (inr e) = subst Within (sym (ap (λ (b : Bool). cond b (done_by j z s (next j z s)) z) e)) w

  run_within : (list : List ℕ) (z : Core) → Within z → Within (run_from j z list)
  run_within [] z w = w
  run_within (s ∷ list) z w = run_within list (step j z s) (step_within z s w)

  none_made : (s : ℕ) → count (opening j) s ≤ full j s
  none_made s = by (cases_lt s (length j.program.seqs))
    where
      by : (s < length j.program.seqs) ⊎ (length j.program.seqs ≤ s) → count (opening j) s ≤ full j s
      by (inl l) = let e : count (opening j) s ≡ 0 = get_or-replicate (length j.program.seqs) s 0 0 l in omega arith
      by (inr l) = let e : count (opening j) s
          ≡ 0 = get_or_past (replicate (length j.program.seqs) 0) s 0
          (subst (λ (k : ℕ). k ≤ s) (sym (length-replicate (length j.program.seqs) 0)) l) in omega arith

  pub all_within : (list : List ℕ) (s : ℕ) → count (run j list) s ≤ full j s
  all_within list s = (run_within list (opening j) (length-replicate (length j.program.seqs) 0, none_made)).1 s
