-- From reached counts, one more step that is enabled gives reached counts, which tell that step.
use Rattle.std.proofs.Common.{◌≡◌, ℕ, true, cond, List, [], ◌∷◌, ◌++◌, Option, Some, None, refl, sym, ap, subst, ◌∙◌, ℤ}
use Rattle.std.proofs.lemmas.Bool.{false≢true}
use Rattle.interleavings.specs.Precedence.{one_more}
use Rattle.interleavings.specs.System.{System, State, Micro, take, see, sub, signal, await, advance, load, store, told, run, run_from, opening, step, enabled, enabled_by, next, done_by}
use Rattle.interleavings.specs.Laws.{IsReached, HasNext}

module _ {P : Type 0} (w : System P) (stored : ℕ → ℕ → ℤ) (owned : ℕ → ℕ → P) (tells : (list : List ℕ) → run w list ≡ told w stored owned (run w list).counts) where
  run_more : (z : State P) (list : List ℕ) (s : ℕ) → run_from w z (list ++ s ∷ []) ≡ step w (run_from w z list) s
  run_more z [] s = refl
  run_more z (x ∷ xs) s = run_more (step w z x) xs s

  counts_more : (z : State P) (s : ℕ) (m : Option Micro) → enabled_by w z s m ≡ true → (cond (enabled_by w z s m) (done_by w z s m) z).counts ≡ one_more z.counts s
  counts_more z s None h = absurd (false≢true h)
  counts_more z s (Some (take x)) h = rw h refl
  counts_more z s (Some (see x)) h = rw h refl
  counts_more z s (Some (sub x)) h = refl
  counts_more z s (Some (signal x)) h = refl
  counts_more z s (Some (await m i b)) h = rw h refl
  counts_more z s (Some (advance m i)) h = refl
  counts_more z s (Some (load x i)) h = refl
  counts_more z s (Some (store x i)) h = refl

  from_run : (list : List ℕ) (s : ℕ) → enabled w (told w stored owned (run w list).counts) s ≡ true → HasNext w stored owned (run w list).counts s
  from_run list s h =
      let c : ℕ → ℕ = (run w list).counts in
      let a : run w (list ++ s ∷ []) ≡ step w (told w stored owned c) s = run_more (opening w) list s ∙ ap (λ (z : State P). step w z s) (tells list) in
      let b : (run w (list ++ s ∷ [])).counts ≡ one_more c s = ap (λ (z : State P). z.counts) a ∙ counts_more (told w stored owned c) s (next w c s) h in
      let d : told w stored owned (one_more c s) ≡ step w (told w stored owned c) s = ap (told w stored owned) (sym b) ∙ sym (tells (list ++ s ∷ [])) ∙ a in
      record { reached = (list ++ s ∷ [], b); tells = d }

  pub goes_on : (c : ℕ → ℕ) (s : ℕ) → IsReached w c → enabled w (told w stored owned c) s ≡ true → HasNext w stored owned c s
  goes_on c s r h = subst (λ (k : ℕ → ℕ). enabled w (told w stored owned k) s ≡ true → HasNext w stored owned k s) r.1 (from_run r.0 s) h
