-- What is told entry by entry is told act by act.
use Rattle.std.proofs.Common.{◌≡◌, ℕ, zero, suc, ◌+◌, ◌<◌, List, [], ◌∷◌, ◌++◌, take, length, Option, Some, refl, sym, ap, ap₂, arith, ◌∙◌, append_assoc, length-append}
use Rattle.std.specs.Prelude.{slice_get}
use Rattle.std.specs.List.{count_by}
use Rattle.self_timed.specs.Graph.{Graph}
use Rattle.self_timed.specs.declared.Schedule.{Schedule}
use Rattle.self_timed.specs.Acts.{Act, carry, run, acts}
use Rattle.self_timed.specs.Dates.{with_act}
use Rattle.self_timed.specs.Entries.{entry_at, entry_of, is_transfer}
use Rattle.self_timed.specs.declared.dates.Span.{Span}
use Rattle.self_timed.specs.Laid.{entry_after, next_after}
use Rattle.self_timed.specs.Told.{reaction_at, span_at}
use Rattle.dates_text.specs.Listing.{Dated, dated, dated_from, dated_in}
use Rattle.dates_text.specs.Printed.{dated_by, dates_up_to}
use Rattle.dates_text.proofs.Counting.{count_carry, count_more, count_run}

seam : {A : Type 0} (pre : List A) (x : A) (ys : List A) → slice_get (pre ++ x ∷ ys) (length pre) ≡ Some x
seam [] x ys = refl
seam (y ∷ pre) x ys = seam pre x ys

taken : {A : Type 0} (pre ys : List A) → take (length pre) (pre ++ ys) ≡ pre
taken [] [] = refl
taken [] (y ∷ ys) = refl
taken (x ∷ pre) ys = ap (λ l. x ∷ l) (taken pre ys)

module _ (g : Graph) (s : Schedule) (reactions : List (List Span)) (when : ℕ → ℕ → Act → Span) where
  abbrev pub Agree : ℕ → Type 0
  Agree k = (i : ℕ) (x : Act) → slice_get (acts s) i ≡ Some x → span_at reactions k (entry_of g.vertices (acts s) i) ≡ when k i x

  entry_is : (pre : List Act) (x : Act) (ys : List Act) (next : ℕ) → acts s ≡ pre ++ x ∷ ys → next
      ≡ length g.vertices + count_by is_transfer pre → entry_of g.vertices (acts s) (length pre) ≡ entry_after next x
  entry_is pre x ys next e c =
      ap (λ (xs : List Act). entry_of g.vertices xs (length pre)) e
      ∙ ap (λ (o : Option Act). with_act o (entry_at (length g.vertices) (count_by is_transfer (take (length pre) (pre ++ x ∷ ys))))) (seam pre x ys)
      ∙ ap (λ (xs : List Act). entry_at (length g.vertices) (count_by is_transfer xs) x) (taken pre (x ∷ ys))
      ∙ by x
    where
      by : (x : Act) → entry_at (length g.vertices) (count_by is_transfer pre) x ≡ entry_after next x
      by (run d) = refl
      by (carry t) = sym c

  next_is : (pre : List Act) (x : Act) (next : ℕ) → next ≡ length g.vertices + count_by is_transfer pre → next_after next x ≡ length g.vertices + count_by is_transfer (pre ++ x ∷ [])
  next_is pre (run d) next c = let z = count_more pre (run d ∷ []) in let r = count_run d [] in omega arith
  next_is pre (carry t) next c = let z = count_more pre (carry t ∷ []) in let r = count_carry t [] in omega arith

  same_from : (k : ℕ) → Agree k → (pre ys : List Act) (next : ℕ) → acts s ≡ pre ++ ys → next ≡ length g.vertices + count_by is_transfer pre
      → dated_by k (reaction_at reactions k) next ys ≡ dated_from when k (length pre) ys
  same_from k agree pre [] next e c = refl
  same_from k agree pre (x ∷ ys) next e c =
      let long : length (pre ++ x ∷ []) ≡ suc (length pre) = (let z = length-append pre (x ∷ []) in omega arith) in
      let here : slice_get (acts s) (length pre) ≡ Some x = ap (λ (xs : List Act). slice_get xs (length pre)) e ∙ seam pre x ys in
      let entry = entry_is pre x ys next e c in
      ap₂ (λ (w : Span) (l : List Dated). dated k w x ∷ l)
      (ap (λ (n : ℕ). span_at reactions k n) (sym entry) ∙ agree (length pre) x here)
      (same_from k agree (pre ++ x ∷ []) ys (next_after next x) (e ∙ sym (append_assoc pre (x ∷ []) ys)) (next_is pre x next c) ∙ ap (λ (n : ℕ). dated_from when k n ys) long)

  pub told_is : (n : ℕ) → ((k : ℕ) → k < n → Agree k) → dates_up_to reactions (length g.vertices) (acts s) n ≡ dated_in when n (acts s)
  told_is zero agree = refl
  told_is (suc k) agree =
      let none : length g.vertices ≡ length g.vertices + 0 = omega arith in
      ap₂ (λ (xs ys : List Dated). xs ++ ys) (told_is k (λ j l. agree j (omega arith))) (same_from k (agree k (omega arith)) [] (acts s) (length g.vertices) refl none)
