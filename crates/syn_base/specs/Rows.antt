-- Rows of vectors, cut from flat rows.
use Rattle.std.specs.Prelude.{
  ◌≡◌,
  ℕ,
  ◌<◌,
  ℤ,
  pos,
  List,
  [],
  ◌∷◌,
  length,
  map,
  take,
  drop,
  slice_index_or,
  slice_set,
  sum,
}

-- The vectors of each reaction, which have these lengths.
pub record Reactions : Type 0 where
  pub lens : List ℕ
  pub reactions : List (List (List ℤ))

-- A flat row cut into vectors of these lengths.
abbrev pub cut : List ℕ → List ℤ → List (List ℤ)
cut [] row = []
cut (len ∷ lens) row = take len row ∷ cut lens (drop len row)

-- Each of these flat rows, cut so.
abbrev pub cut_all : List ℕ → List (List ℤ) → List (List (List ℤ))
cut_all lens rows = map (cut lens) rows

-- Vector v of reaction k, each counted from 0, and the empty vector if there is none.
abbrev pub vector_of : List (List (List ℤ)) → ℕ → ℕ → List ℤ
vector_of reactions k v = slice_index_or (slice_index_or reactions k []) v []

-- Element j of vector v of reaction k, each counted from 0; 0 if there is no such element.
abbrev pub element : List (List (List ℤ)) → ℕ → ℕ → ℕ → ℤ
element reactions k v j = slice_index_or (vector_of reactions k v) j (pos 0)

-- The vectors with element j of vector v changed to x.
abbrev pub with_value : List (List ℤ) → ℕ → ℕ → ℤ → List (List ℤ)
with_value row v j x = slice_set row v (slice_set (slice_index_or row v []) j x)

-- The reactions with element j of vector v of reaction k changed to x.
abbrev pub with_element : List (List (List ℤ)) → ℕ → ℕ → ℕ → ℤ → List (List (List ℤ))
with_element reactions k v j x = slice_set reactions k (with_value (slice_index_or reactions k []) v j x)

-- Where each vector begins in a flat row.
abbrev pub StartsAre : List ℕ → List ℕ → Type 0
StartsAre lens starts = (length starts ≡ length lens) ×
    ((v : ℕ) → v < length lens → slice_index_or starts v 0 ≡ sum (take v lens))

-- Each flat row has this length.
abbrev pub AreLong : ℕ → List (List ℤ) → Type 0
AreLong width rows = (k : ℕ) → k < length rows → length (slice_index_or rows k []) ≡ width

-- Each reaction has vectors of these lengths.
abbrev pub AreCut : Reactions → Type 0
AreCut r = (k : ℕ) → k < length r.reactions → map length (slice_index_or r.reactions k []) ≡ r.lens
