-- The lines of a report that are left, name by name.
use Rattle.std.proofs.Common.{◌≡◌, ℕ, suc, ◌+◌, ◌<◌, ◌≤◌, List, [], ◌∷◌, ◌++◌, length, drop, get_or, Option, Some, None, refl, sym, ap, arith, ◌∙◌, drop-cons}
use Rattle.std.proofs.lemmas.List.{append-nil, drop_all}
use Rattle.syn_base.specs.Bytes.{Bytes}
use Rattle.timing_chart.specs.Chart.{line_text, text_of}
use Rattle.lower_bound.specs.declared.loads.Load.{Load}
use Rattle.lower_bound.specs.declared.alone.Alone.{Alone}
use Rattle.report_text.specs.Text.{alone_line, alone_lines, load_line, load_lines}

-- the first of what is left, whatever stands where there is none
module _ {A : Type 0} where
  pub first_left : (xs : List A) (i : ℕ) (x : A) → i < length xs → drop i xs ≡ get_or xs i x ∷ drop (i + 1) xs
  first_left xs i x h =
      let one : suc i ≡ i + 1 = omega arith in
      drop-cons xs i x h ∙ (λ j. get_or xs i x ∷ drop (one j) xs)

  pub begins : (xs : List A) (i : ℕ) (x : A) → i < length xs → x ≡ get_or xs i x → drop i xs ≡ x ∷ drop (i + 1) xs
  begins xs i x h is = first_left xs i x h ∙ (λ j. sym is j ∷ drop (i + 1) xs)

no_loads : (word : Bytes) (names : List Bytes) → load_lines word names [] ≡ []
no_loads word [] = refl
no_loads word (n ∷ ns) = refl

no_times : (names : List Bytes) → alone_lines names [] ≡ []
no_times [] = refl
no_times (n ∷ ns) = refl

module _ (word : Bytes) (ls : List Load) (i : ℕ) where
  -- a line more
  pub load_here : (left rest : List Bytes) (n : Bytes) (l : Load) → left ≡ n ∷ rest → i < length ls
      → text_of (load_lines word left (drop i ls)) ≡ line_text (load_line word n (get_or ls i l)) ++ text_of (load_lines word rest (drop (i + 1) ls))
  load_here left rest n l e h = λ j. text_of (load_lines word (e j) (first_left ls i l h j))

  -- no line more
  pub load_past : (left rest : List Bytes) → length ls ≤ i → text_of (load_lines word left (drop i ls)) ≡ text_of (load_lines word rest (drop (i + 1) ls))
  load_past left rest h =
      (λ j. text_of (load_lines word left (drop_all i ls h j)))
      ∙ ap text_of (no_loads word left ∙ sym (no_loads word rest))
      ∙ (λ j. text_of (load_lines word rest (sym (drop_all (i + 1) ls (omega arith)) j)))

module _ (xs : List (Option Alone)) (i : ℕ) where
  both : (n : Bytes) (rest : List Bytes) (x : Option Alone) (later : List (Option Alone))
      → text_of (alone_lines (n ∷ rest) (x ∷ later)) ≡ text_of (alone_lines (n ∷ []) (x ∷ [])) ++ text_of (alone_lines rest later)
  both n rest None later = refl
  both n rest (Some x) later = ap (λ (l : Bytes). l ++ text_of (alone_lines rest later)) (sym (append-nil (line_text (alone_line n x))))

  -- a line more, where there is one
  pub alone_here : (left rest : List Bytes) (n : Bytes) (x : Option Alone) → left ≡ n ∷ rest → i < length xs
      → text_of (alone_lines left (drop i xs)) ≡ text_of (alone_lines (n ∷ []) (get_or xs i x ∷ [])) ++ text_of (alone_lines rest (drop (i + 1) xs))
  alone_here left rest n x e h = (λ j. text_of (alone_lines (e j) (first_left xs i x h j))) ∙ both n rest (get_or xs i x) (drop (i + 1) xs)

  pub alone_past : (left rest : List Bytes) → length xs ≤ i → text_of (alone_lines left (drop i xs)) ≡ text_of (alone_lines rest (drop (i + 1) xs))
  alone_past left rest h =
      (λ j. text_of (alone_lines left (drop_all i xs h j)))
      ∙ ap text_of (no_times left ∙ sym (no_times rest))
      ∙ (λ j. text_of (alone_lines rest (sym (drop_all (i + 1) xs (omega arith)) j)))
