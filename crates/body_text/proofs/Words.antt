-- A word is found by its place in the table.
use Rattle.std.proofs.Common.{
  ◌≡◌,
  ◌↔◌,
  ℕ,
  zero,
  suc,
  ◌+◌,
  ◌<◌,
  Bool,
  true,
  false,
  not,
  ◌&&◌,
  cond,
  List,
  [],
  ◌∷◌,
  ◌++◌,
  map,
  length,
  take,
  get_or,
  Some,
  None,
  slice_get,
  refl,
  sym,
  ap,
  ◌∙◌,
  append_assoc,
  append-nil,
  arith,
  add-one,
}
use Rattle.std.proofs.lemmas.List.{length-map, length-take-le}
use Rattle.std.specs.List.{list_any}
use Rattle.std.specs.Str.{bytes_eq}
use Rattle.text_lines.proofs.FirstNamed as first
use Rattle.text_lines.proofs.FirstNamed.{first_named}
use Rattle.body_text.specs.declared.word.Word.{Word}
use Rattle.syn_base.specs.Bytes.{Bytes}
use Rattle.body_text.specs.Words.{text_of, words, found_in}

-- the first that has the name
as_first : (ws : List Word) (p : Bytes) → found_in ws p ≡ first_named text_of ws p
as_first [] p = refl
as_first (w ∷ ws) p = ap (cond (bytes_eq p (text_of w)) (Some w)) (as_first ws p)

-- where one place alone has the name, the word there is the first that has it
pub found_at : (ws : List Word) (p : Bytes) (names : List Bytes) (place : ℕ) → names ≡ map text_of ws → ((i : ℕ) → (Some place ≡ Some i) ↔ (slice_get names i ≡ Some p))
    → slice_get ws place ≡ found_in ws p
found_at ws p names place are found = first.found_at text_of ws p names place are found ∙ sym (as_first ws p)

-- where no place has the name, no word has it
pub not_found : (ws : List Word) (p : Bytes) (names : List Bytes) → names ≡ map text_of ws → ((i : ℕ) → (None ≡ Some i) ↔ (slice_get names i ≡ Some p)) → found_in ws p ≡ None
not_found ws p names are found = as_first ws p ∙ first.not_found text_of ws p names are found

-- each word that is left differs from all that are done and from those that are left before it
abbrev all_new : List Word → List Word → Bool
all_new done [] = true
all_new done (w ∷ ws) = not (list_any (bytes_eq (text_of w)) (map text_of done)) && all_new (done ++ w ∷ []) ws

both : (a b : Bool) → (not a && b) ≡ true → (a ≡ false) × (b ≡ true)
both true b h = absurd (cc)
both false b h = (refl, h)

new_after : (done ws : List Word) (i : ℕ) (d : Word) → all_new done ws ≡ true → i < length ws → list_any (bytes_eq (text_of (get_or ws i d))) (map text_of (done ++ take i ws)) ≡ false
new_after done [] i d new lt = absurd (omega arith)
new_after done (w ∷ ws) zero d new lt =
    rw (append-nil done) (both (list_any (bytes_eq (text_of w)) (map text_of done)) (all_new (done ++ w ∷ []) ws) new).0
new_after done (w ∷ ws) (suc i) d new lt =
    let rest : all_new (done ++ w ∷ []) ws ≡ true = (both (list_any (bytes_eq (text_of w)) (map text_of done)) (all_new (done ++ w ∷ []) ws) new).1 in
    let here = new_after (done ++ w ∷ []) ws i d rest (omega arith) in
    rw (append_assoc done (w ∷ []) (take i ws)) at here

-- no word stands twice
pub new_word : (i : ℕ) (d : Word) → i < length words → list_any (bytes_eq (text_of (get_or words i d))) (map text_of (take i words)) ≡ false
new_word i d lt = new_after [] words i d refl lt

pub word_more : (ws : List Word) (i : ℕ) (d : Word) → i < length ws → map text_of (take (i + 1) ws) ≡ map text_of (take i ws) ++ text_of (get_or ws i d) ∷ []
word_more ws i d lt = rw add-one (by_place ws i lt)
  where
    by_place : (vs : List Word) (j : ℕ) → j < length vs → map text_of (take (suc j) vs) ≡ map text_of (take j vs) ++ text_of (get_or vs j d) ∷ []
    by_place [] j lt' = absurd (omega arith)
    by_place (v ∷ vs) zero lt' = refl
    by_place (v ∷ vs) (suc j) lt' = ap (λ ts. text_of v ∷ ts) (by_place vs j (omega arith))

pub words_so_far : (ws : List Word) (i : ℕ) → i < length ws → length (map text_of (take i ws)) ≡ i
words_so_far ws i lt = length-map (take i ws) text_of ∙ length-take-le i ws (omega arith)
