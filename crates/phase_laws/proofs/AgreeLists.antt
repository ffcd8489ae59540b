-- Entries of lists, and of lists of lists, after one was written.
use Rattle.std.proofs.Common.{◌≡◌, ℕ, zero, suc, ◌<◌, ◌≤◌, ◌⊎◌, List, [], ◌∷◌, length, map, refl, sym, ap, inl, inr, arith, ◌∙◌}
use Rattle.std.specs.Prelude.{slice_index_or, slice_set}
use Rattle.std.proofs.lemmas.Bool.{cases_eq, cases_lt, eq-eqb, ne_eqb}
use Rattle.std.proofs.lemmas.List.{length-set, get_or-set_same, get_or-set_other, set_past, map-set, set-get_or, length-map}
use Rattle.executive_program.specs.System.{put}

-- what a function gives after one of its values was put
module _ {A : Type 0} (f : ℕ → A) (i : ℕ) (a : A) where
  pub put_here : (j : ℕ) → j ≡ i → put f i a j ≡ a
  put_here j e = rw (eq-eqb j i e) refl

  pub put_there : (j : ℕ) → (j ≡ i → ⊥) → put f i a j ≡ f j
  put_there j e = rw (ne_eqb j i e) refl

-- a list and a function that are the same at a place are so after the same was written
pub set_put : {A : Type 0} (xs : List A) (f : ℕ → A) (i j : ℕ) (a b d : A) → i < length xs → a ≡ b → slice_index_or xs j d ≡ f j → slice_index_or (slice_set xs i a) j d ≡ put f i b j
set_put xs f i j a b d l e h = by (cases_eq j i)
  where
    by : (j ≡ i) ⊎ (j ≡ i → ⊥) → slice_index_or (slice_set xs i a) j d ≡ put f i b j
    by (inl k) = ap (λ (n : ℕ). slice_index_or (slice_set xs i a) n d) k ∙ get_or-set_same xs i a d l ∙ e ∙ sym (put_here f i b j k)
    by (inr k) = get_or-set_other xs i j a d k ∙ h ∙ sym (put_there f i b j k)

-- and so are two lists of one length
pub set_same : {A : Type 0} (xs ys : List A) (i j : ℕ) (a b d : A) → length xs ≡ length ys → a ≡ b → slice_index_or xs j d
    ≡ slice_index_or ys j d → slice_index_or (slice_set xs i a) j d ≡ slice_index_or (slice_set ys i b) j d
set_same {A = A} xs ys i j a b d n e h = by (cases_eq j i) (cases_lt i (length xs))
  where
    by : (j ≡ i) ⊎ (j ≡ i → ⊥) → (i < length xs) ⊎ (length xs ≤ i) → slice_index_or (slice_set xs i a) j d ≡ slice_index_or (slice_set ys i b) j d
    by (inr k) l = get_or-set_other xs i j a d k ∙ h ∙ sym (get_or-set_other ys i j b d k)
    by (inl k) (inl l) = ap (λ (n : ℕ). slice_index_or (slice_set xs i a) n d) k ∙ get_or-set_same xs i a d l ∙ e
        ∙ sym (get_or-set_same ys i b d (omega arith)) ∙ ap (λ (n : ℕ). slice_index_or (slice_set ys i b) n d) (sym k)
    by (inl k) (inr l) = ap (λ (zs : List A). slice_index_or zs j d) (set_past xs i a l) ∙ h ∙ sym (ap (λ (zs : List A). slice_index_or zs j d) (set_past ys i b (omega arith)))

-- an entry of a list in a list was written
abbrev pub set_in : {A : Type 0} → List (List A) → ℕ → ℕ → A → List (List A)
set_in xs h k v = slice_set xs h (slice_set (slice_index_or xs h []) k v)

abbrev pub get_in : {A : Type 0} → List (List A) → ℕ → ℕ → A → A
get_in xs h k d = slice_index_or (slice_index_or xs h []) k d

module _ {A : Type 0} where
  -- the length of an entry is the entry of the lengths
  pub length_at : (xs : List (List A)) (k : ℕ) → length (slice_index_or xs k []) ≡ slice_index_or (map length xs) k 0
  length_at [] k = refl
  length_at (x ∷ xs) zero = refl
  length_at (x ∷ xs) (suc k) = length_at xs k

  -- lengths stay
  pub set_in_lens : (xs : List (List A)) (h k : ℕ) (v : A) → map length (set_in xs h k v) ≡ map length xs
  set_in_lens xs h k v = map-set (λ (x : List A). length x) xs h (slice_set (slice_index_or xs h []) k v)
      ∙ ap (slice_set (map length xs) h) (length-set (slice_index_or xs h []) k v ∙ length_at xs h) ∙ set-get_or (map length xs) h 0

  -- lists of lists whose lengths are the same, in all and one by one
  pub same_length : (xs ys : List (List A)) → map length xs ≡ map length ys → length xs ≡ length ys
  same_length xs ys e = sym (length-map xs (λ (x : List A). length x)) ∙ ap (λ (l : List ℕ). length l) e ∙ length-map ys (λ (x : List A). length x)

  pub same_lengths : (xs ys : List (List A)) (h : ℕ) → map length xs ≡ map length ys → length (slice_index_or xs h []) ≡ length (slice_index_or ys h [])
  same_lengths xs ys h e = length_at xs h ∙ ap (λ (l : List ℕ). slice_index_or l h 0) e ∙ sym (length_at ys h)

  -- the entry that was written, and every other one
  pub get_in_here : (xs : List (List A)) (h k : ℕ) (v d : A) → h < length xs → k < length (slice_index_or xs h []) → get_in (set_in xs h k v) h k d ≡ v
  get_in_here xs h k v d l m = ap (λ (x : List A). slice_index_or x k d) (get_or-set_same xs h (slice_set (slice_index_or xs h []) k v) [] l) ∙ get_or-set_same (slice_index_or xs h []) k v d m

  pub get_in_there : (xs : List (List A)) (h k i n : ℕ) (v d : A) → ((i ≡ h) × (n ≡ k) → ⊥) → get_in (set_in xs h k v) i n d ≡ get_in xs i n d
  get_in_there xs h k i n v d o = by (cases_eq i h) (cases_eq n k) (cases_lt h (length xs))
    where
      by : (i ≡ h) ⊎ (i ≡ h → ⊥) → (n ≡ k) ⊎ (n ≡ k → ⊥) → (h < length xs) ⊎ (length xs ≤ h) → get_in (set_in xs h k v) i n d ≡ get_in xs i n d
      by (inl a) (inl b) l = absurd (o (a, b))
      by (inl a) (inr b) (inl l) = ap (λ (q : ℕ). get_in (set_in xs h k v) q n d) a ∙ ap (λ (x : List A). slice_index_or x n d) (get_or-set_same xs h (slice_set (slice_index_or xs h []) k v) [] l)
          ∙ get_or-set_other (slice_index_or xs h []) k n v d b ∙ ap (λ (q : ℕ). get_in xs q n d) (sym a)
      by (inl a) (inr b) (inr l) = ap (λ (x : List (List A)). get_in x i n d) (set_past xs h (slice_set (slice_index_or xs h []) k v) l)
      by (inr a) b l = ap (λ (x : List A). slice_index_or x n d) (get_or-set_other xs h i (slice_set (slice_index_or xs h []) k v) [] a)

  -- written alike in two lists of lists of the same lengths
  pub set_in_same : (xs ys : List (List A)) (h k i n : ℕ) (v w d : A) → map length xs ≡ map length ys → v ≡ w → get_in xs i n d
      ≡ get_in ys i n d → get_in (set_in xs h k v) i n d ≡ get_in (set_in ys h k w) i n d
  set_in_same xs ys h k i n v w d e q r = by (cases_eq i h) (cases_eq n k) (cases_lt h (length xs)) (cases_lt k (length (slice_index_or xs h [])))
    where
      long : length xs ≡ length ys
      long = same_length xs ys e

      inner : length (slice_index_or xs h []) ≡ length (slice_index_or ys h [])
      inner = same_lengths xs ys h e

      unset : (zs : List (List A)) (v : A) → length (slice_index_or zs h []) ≤ k → set_in zs h k v ≡ zs
      unset zs v m = ap (slice_set zs h) (set_past (slice_index_or zs h []) k v m) ∙ set-get_or zs h []

      by : (i ≡ h) ⊎ (i ≡ h → ⊥) → (n ≡ k) ⊎ (n ≡ k → ⊥) → (h < length xs) ⊎ (length xs ≤ h) → (k < length (slice_index_or xs h []))
          ⊎ (length (slice_index_or xs h []) ≤ k) → get_in (set_in xs h k v) i n d ≡ get_in (set_in ys h k w) i n d
      by (inr a) b l m = get_in_there xs h k i n v d (λ z. a z.0) ∙ r ∙ sym (get_in_there ys h k i n w d (λ z. a z.0))
      by (inl a) (inr b) l m = get_in_there xs h k i n v d (λ z. b z.1) ∙ r ∙ sym (get_in_there ys h k i n w d (λ z. b z.1))
      by (inl a) (inl b) (inr l) m = let z = long in
          ap (λ (x : List (List A)). get_in x i n d) (set_past xs h _ l) ∙ r ∙ sym (ap (λ (x : List (List A)). get_in x i n d) (set_past ys h _ (omega arith)))
      by (inl a) (inl b) (inl l) (inr m) = let z = inner in ap (λ (x : List (List A)). get_in x i n d) (unset xs v m) ∙ r ∙ sym (ap (λ (x : List (List A)). get_in x i n d) (unset ys w (omega arith)))
      by (inl a) (inl b) (inl l) (inl m) = let y = long in let z = inner in
          (λ t. get_in (set_in xs h k v) (a t) (b t) d) ∙ get_in_here xs h k v d l m ∙ q
          ∙ sym (get_in_here ys h k w d (omega arith) (omega arith)) ∙ (λ t. get_in (set_in ys h k w) (sym a t) (sym b t) d)
