-- One vector of a reaction is replaced, element by element; and a cell among the cells.
use Rattle.std.proofs.Common.{
  ◌≡◌,
  ℕ,
  ◌+◌,
  ◌-◌,
  ◌<◌,
  ◌≤◌,
  ⊎_elim,
  List,
  [],
  ◌∷◌,
  ◌++◌,
  map,
  take,
  drop,
  length,
  get_or,
  Option,
  Some,
  refl,
  sym,
  ap,
  subst,
  arith,
  ◌∙◌,
  ℤ,
  pos,
  Vec,
  Global,
  append_assoc,
}
use Rattle.std.specs.Prelude.{slice_set}
use Rattle.std.specs.Vec.{with_items}
use Rattle.std.proofs.lemmas.Bool.{cases_lt}
use Rattle.std.proofs.lemmas.List.{set-set, set-get_or, set-append_right, drop_more, take_more, get_or-set_same, get_or_past, length-take-le, map-set, with_items_is, take_all}
use Rattle.syn_base.specs.Rows.{with_element}
use Rattle.operation_desks.specs.Operation.{cell_at, with_cell, HasCell}
use Rattle.semaphore_core.specs.Rows.{with_vector}
use Rattle.semaphore_core.proofs.Viewing.{read_map}
use Rattle.syn_base.specs.Vectors.{Vector, Values}

-- the first j elements of z, and the rest of what was there
abbrev pub half_put : Vector → Vector → ℕ → Vector
half_put z old j = take j z ++ drop j old

half_more : (z old : Vector) (j : ℕ) (v : ℤ) → j < length z → j < length old → v ≡ get_or z j (pos 0) → slice_set (half_put z old j) j v ≡ half_put z old (j + 1)
half_more z old j v h g e = set-append_right (take j z) (drop j old) j j v (length-take-le j z (omega arith)) (omega arith)
    ∙ ap (λ (n : ℕ). take j z ++ slice_set (drop j old) n v) zero_is ∙ ap (λ (l : List ℤ). take j z ++ slice_set l 0 v) (drop_more old j (pos 0) g)
    ∙ sym (append_assoc (take j z) (v ∷ []) (drop (j + 1) old)) ∙ ap (λ (x : ℤ). (take j z ++ x ∷ []) ++ drop (j + 1) old) e
    ∙ ap (λ (l : List ℤ). l ++ drop (j + 1) old) (sym (take_more z j (pos 0) h))
  where
    zero_is : j - j ≡ 0
    zero_is = omega arith

module _ (rows : List Values) (k a : ℕ) (z : Vector) where
  abbrev row : Values
  row = get_or rows k []

  abbrev old : Vector
  old = get_or (get_or rows k []) a []

  pub none_put : rows ≡ with_vector rows k a (half_put z (get_or (get_or rows k []) a []) 0)
  none_put = sym (ap (λ (v : Vector). with_vector rows k a v) whole ∙ ap (slice_set rows k) (set-get_or row a []) ∙ set-get_or rows k [])
    where
      drop-zero : (xs : List ℤ) → drop 0 xs ≡ xs
      drop-zero [] = refl
      drop-zero (x ∷ xs) = refl

      take-zero : (xs : List ℤ) → take 0 xs ≡ []
      take-zero [] = refl
      take-zero (x ∷ xs) = refl

      whole : half_put z old 0 ≡ old
      whole = ap (λ (l : List ℤ). l ++ drop 0 old) (take-zero z) ∙ drop-zero old

  pub all_put : length z ≡ length old → half_put z (get_or (get_or rows k []) a []) (length z) ≡ z
  all_put e = ap (λ (l : List ℤ). l ++ drop (length z) old) (take_all (length z) z (omega arith)) ∙ ap (λ (l : List ℤ). z ++ l) (drop-past (length z) old (omega arith)) ∙ append-nil z
    where
      drop-past : (n : ℕ) (xs : List ℤ) → length xs ≤ n → drop n xs ≡ []
      drop-past Prim.Native.Nat.zero [] h = refl
      drop-past (Prim.Native.Nat.suc n) [] h = refl
      drop-past Prim.Native.Nat.zero (x ∷ xs) h = absurd (omega arith)
      drop-past (Prim.Native.Nat.suc n) (x ∷ xs) h = drop-past n xs (omega arith)

      append-nil : (l : List ℤ) → l ++ [] ≡ l
      append-nil [] = refl
      append-nil (x ∷ xs) = ap (λ (r : List ℤ). x ∷ r) (append-nil xs)

  -- one more element
  pub one_put : (j : ℕ) (v : ℤ) → k < length rows → j < length z → length z ≡ length old → v ≡ get_or z j (pos 0)
      → with_element (with_vector rows k a (half_put z (get_or (get_or rows k []) a []) j)) k a j v ≡ with_vector rows k a (half_put z (get_or (get_or rows k []) a []) (j + 1))
  one_put j v there h e f = ap (λ (r : Values). slice_set (with_vector rows k a (half_put z old j)) k
      (slice_set r a (slice_set (get_or r a []) j v))) (get_or-set_same rows k (slice_set row a (half_put z old j)) [] there)
      ∙ set-set rows k (slice_set row a (half_put z old j)) _
      ∙ ap (slice_set rows k) (ap (λ (w : Vector). slice_set (slice_set row a (half_put z old j)) a (slice_set w j v)) (get_or-set_same row a (half_put z old j) [] inside)
      ∙ set-set row a (half_put z old j) (slice_set (half_put z old j) j v) ∙ ap (slice_set row a) (half_more z old j v h (omega arith) f))
    where
      inside : a < length row
      inside = ⊎_elim (λ l. l) (λ l. let p = ap (λ (w : Vector). length w) (get_or_past row a [] l) in absurd (omega arith)) (cases_lt a (length row))

abbrev pub cells_of : List (Vec ℤ Global) → Values
cells_of cells = map (λ (c : Vec ℤ Global). c.items) cells

-- a cell that was lent has its new value
pub cell_set : (cells : List (Vec ℤ Global)) (d : ℕ) (cell : Vec ℤ Global) (lent new : List ℤ) (o : Option ℕ) (kept : Vector → Vector) → d
    < length cells → cell ≡ get_or cells d cell → lent ≡ cell.items → length new ≡ cell.len → o ≡ Some d → new ≡ kept lent
    → cells_of (slice_set cells d (with_items cell new)) ≡ with_cell (cells_of cells) o (kept (cell_at (cells_of cells) o))
cell_set cells d cell lent new o kept h c l n e q = map-set (λ (v : Vec ℤ Global). v.items) cells d (with_items cell new)
    ∙ ap (λ (v : Vector). slice_set (cells_of cells) d v) (with_items_is cell new n ∙ q ∙ ap kept (l ∙ sym (read_map (λ (v : Vec ℤ Global). v.items) cells d cell [] h c)))
    ∙ ap (λ (p : Option ℕ). with_cell (cells_of cells) p (kept (cell_at (cells_of cells) p))) (sym e)

pub cell_there : (cells : Values) (o : Option ℕ) (n d : ℕ) → HasCell cells o n → o ≡ Some d → d < length cells
cell_there cells o n d h e = (subst (λ (p : Option ℕ). HasCell cells p n) e h).0
