-- The test of offsets is true exactly if they fit.
use Rattle.std.proofs.Common.{◌≡◌, ℕ, zero, suc, ◌+◌, ◌*◌, Bool, true, ◌&&◌, List, [], ◌∷◌, Some, refl, sym, ap, subst, arith, ◌∙◌}
use Rattle.std.specs.Prelude.{slice_get, nat_le}
use Rattle.std.specs.List.{list_all}
use Rattle.std.proofs.lemmas.Bool.{and_parts, leb-true, le-leb}
use Rattle.std.proofs.lemmas.Option.{same_Some}
use Rattle.self_timed.specs.declared.Vertex.{Vertex}
use Rattle.self_timed.specs.Acts.{Act}
use Rattle.self_timed.proofs.Lists.{all_at}
use Rattle.rates.specs.declared.table.Arc.{Arc}
use Rattle.rates.specs.Arcs.{arcs}
use Rattle.rates.specs.Rates.{Sustains, is_sustained, is_sustained_from}

pub both : (a b : Bool) → a ≡ true → b ≡ true → (a && b) ≡ true
both a b e f = ap (λ (c : Bool). c && b) e ∙ f

pub all_pass : {A : Type 0} (p : A → Bool) (xs : List A) → ((r : ℕ) (x : A) → slice_get xs r ≡ Some x → p x ≡ true) → list_all p xs ≡ true
all_pass p [] h = refl
all_pass p (x ∷ xs) h = both (p x) (list_all p xs) (h 0 x refl) (all_pass p xs (λ r y e. h (suc r) y e))

module _ (depth : ℕ) (vertices : List Vertex) (xs : List Act) (long : ℕ → ℕ) (ticks reactions : ℕ) (offset : ℕ → ℕ) where
  abbrev room : ℕ → Arc → Bool
  room i a = nat_le (offset a.act + reactions * long i) (offset i + a.lag * ticks)

  record Right (i : ℕ) (x : Act) : Type 0 where
    fits : nat_le (reactions * long i) (offset i) ≡ true
    follows : list_all (room i) (arcs depth vertices xs i x) ≡ true

  at : (n : ℕ) (ys : List Act) → is_sustained_from depth vertices xs long ticks reactions offset n ys ≡ true → (i : ℕ) (x : Act) → slice_get ys i ≡ Some x → (j : ℕ) → j ≡ n + i → Right j x
  at n [] h i x e j q = absurd cc
  at n (y ∷ ys) h zero x e j q =
      let here : j ≡ n = omega arith in
      let a = and_parts (nat_le (reactions * long n) (offset n)) _ h in
      let b = and_parts (list_all (room n) (arcs depth vertices xs n y)) _ a.1 in
      record {
        fits = ap (λ (m : ℕ). nat_le (reactions * long m) (offset m)) here ∙ a.0;
        follows = ap (λ (m : ℕ). list_all (room m) (arcs depth vertices xs m x)) here ∙ ap (λ (z : Act). list_all (room n) (arcs depth vertices xs n z)) (sym (same_Some y x e)) ∙ b.0;
      }
  at n (y ∷ ys) h (suc i) x e j q =
      let a = and_parts (nat_le (reactions * long n) (offset n)) _ h in
      let b = and_parts (list_all (room n) (arcs depth vertices xs n y)) _ a.1 in
      at (suc n) ys b.1 i x e j (omega arith)

  pub tested : is_sustained depth vertices xs long ticks reactions offset ≡ true → Sustains depth vertices xs long ticks reactions offset
  tested h = record {
    fits = λ i x e. leb-true (reactions * long i) (offset i) (at 0 xs h i x e i (omega arith)).fits;
    follows = λ i x e r a q. leb-true (offset a.act + reactions * long i) (offset i + a.lag * ticks) (all_at (room i) (arcs depth vertices xs i x) (at 0 xs h i x e i (omega arith)).follows r a q);
  }

  from : (n : ℕ) (ys : List Act) → ((i : ℕ) (x : Act) → slice_get ys i ≡ Some x → Right (n + i) x) → is_sustained_from depth vertices xs long ticks reactions offset n ys ≡ true
  from n [] h = refl
  from n (y ∷ ys) h = both _ _ (ap (λ (m : ℕ). nat_le (reactions * long m) (offset m)) same ∙ (h 0 y refl).fits)
      (both _ _ (ap (λ (m : ℕ). list_all (room m) (arcs depth vertices xs m y)) same ∙ (h 0 y refl).follows)
      (from (suc n) ys (λ i x e. let q : n + suc i ≡ suc n + i = omega arith in subst (λ (m : ℕ). Right m x) q (h (suc i) x e))))
    where
      same : n ≡ n + 0
      same = omega arith

  pub passes : Sustains depth vertices xs long ticks reactions offset → is_sustained depth vertices xs long ticks reactions offset ≡ true
  passes s = from 0 xs (λ i x e. let q : i ≡ 0 + i = omega arith in subst (λ (m : ℕ). Right m x) q (record {
    fits = le-leb (reactions * long i) (offset i) (s.fits i x e);
    follows = all_pass (room i) (arcs depth vertices xs i x) (λ r a m. le-leb (offset a.act + reactions * long i) (offset i + a.lag * ticks) (s.follows i x e r a m));
  }))
