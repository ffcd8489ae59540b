-- What the line of a reference that is accepted has found.
use Rattle.std.proofs.Common.{◌≡◌, ℕ, ◌+◌, ◌==◌, ◌&&◌, ◌||◌, not, Bool, true, false, cond, List, [], ◌∷◌, ◌++◌, length, map, Option, Some, None, Ok, refl, ap, ◌∙◌, codes}
use Rattle.std.specs.Str.{bytes_eq}
use Rattle.syn_base.specs.Name.{is_name}
use Rattle.syn_base.specs.declared.limits.LimitKind.TheVariants as limits
use Rattle.algo_text.specs.declared.definition.Reference.{Reference}
use Rattle.syn_base.specs.Bytes.{Bytes}
use Rattle.algo_text.specs.Among.{is_among}
use Rattle.algo_text.specs.declared.part.Part.TheVariants.{References}
use Rattle.algo_text.specs.Parts.{admits}
use Rattle.algo_text.specs.Words.{period_of}
use Rattle.algo_text.specs.Blocks.{Block, reference_of, with_reference, plain_line, marked_line, reference_line}
use Rattle.text_lines.specs.Refusals.{is_above}
use Rattle.algo_text.proofs.Checks.{found, held, neither, not_false, passed, read, same_ok}
use Rattle.text_lines.specs.Text.{word}

-- the mark that a line has in a text of this version
abbrev pub IsMark : ℕ → List Bytes → Option ℕ → Type 0
IsMark version ws None = Unit {0}
IsMark version ws (Some n) = ((version == 3) ≡ true) × (period_of (word ws 4) ≡ Some n)

pub record ReferenceRead (version : ℕ) (b : Block) (n : ℕ) (ws : List Bytes) (after : Block) : Type 0 where
  pub every : Option ℕ
  pub mark : IsMark version ws every
  pub at : admits b.part References ≡ true
  pub named : is_name (word ws 1) ≡ true
  pub known : is_name (word ws 2) ≡ true
  pub few : is_above limits.References (length b.references + 1) ≡ false
  pub free : is_among (word ws 1) (map (λ r. r.name) b.references) ≡ false
  pub after_is : record b { part = References; references = b.references ++ record { name = word ws 1; def = word ws 2; every = every; line = n } ∷ [] } ≡ after

-- its names
record NamesRead (n : ℕ) (ws : List Bytes) (r : Reference) : Type 0 where
  named : is_name (word ws 1) ≡ true
  known : is_name (word ws 2) ≡ true
  is : record { name = word ws 1; def = word ws 2; every = None; line = n } ≡ r

names_read : (n : ℕ) (ws : List Bytes) (r : Reference) → reference_of n ws ≡ Ok r → NamesRead n ws r
names_read n ws r h =
    let named = held (is_name (word ws 1)) _ _ r h in
    let known = held (is_name (word ws 2)) _ _ r named.1 in
    record { named = named.0; known = known.0; is = same_ok _ r known.1 }

module _ (version : ℕ) (b : Block) (n : ℕ) (ws : List Bytes) (after : Block) where
  with_mark : (every : Option ℕ) → IsMark version ws every → admits b.part References ≡ true → is_name (word ws 1) ≡ true → is_name (word ws 2) ≡ true
      → with_reference b (record { name = word ws 1; def = word ws 2; every = every; line = n }) ≡ Ok after → ReferenceRead version b n ws after
  with_mark every mark at named known h =
      let few = passed (is_above limits.References (length b.references + 1)) _ _ after h in
      let free = passed (is_among (word ws 1) (map (λ r. r.name) b.references)) _ _ after few.1 in
      record { every = every; mark = mark; at = at; named = named; known = known; few = few.0; free = free.0; after_is = same_ok _ after free.1 }

  plain_read : plain_line b n ws ≡ Ok after → ReferenceRead version b n ws after
  plain_read h =
      let form = passed (not (length ws == 3) || not (admits b.part References)) _ _ after h in
      let at : admits b.part References ≡ true = not_false (admits b.part References) (neither (not (length ws == 3)) (not (admits b.part References)) form.0).1 in
      let reference = read (reference_of n ws) (with_reference b) after form.1 in
      let names : NamesRead n ws reference.0 = names_read n ws reference.0 reference.1 in
      with_mark None tt at names.named names.known (ap (with_reference b) names.is ∙ reference.2)

  marked_read : (version == 3) ≡ true → marked_line b n ws ≡ Ok after → ReferenceRead version b n ws after
  marked_read third h =
      let form = passed (not (bytes_eq (word ws 3) (codes "every")) || not (admits b.part References)) _ _ after h in
      let at : admits b.part References ≡ true = not_false (admits b.part References) (neither (not (bytes_eq (word ws 3) (codes "every"))) (not (admits b.part References)) form.0).1 in
      let reference = read (reference_of n ws) _ after form.1 in
      let names : NamesRead n ws reference.0 = names_read n ws reference.0 reference.1 in
      let period = found (period_of (word ws 4)) _ _ after reference.2 in
      with_mark (Some period.0) (third, period.1) at names.named names.known (ap (λ (r : Reference). with_reference b (record r { every = Some period.0 })) names.is ∙ period.2)

  pub reference_read : reference_line version b n ws ≡ Ok after → ReferenceRead version b n ws after
  reference_read h = by (version == 3) (length ws == 5) refl h
    where
      by : (third five : Bool) → (version == 3) ≡ third → cond (third && five) (marked_line b n ws) (plain_line b n ws) ≡ Ok after → ReferenceRead version b n ws after
      by true true is g = marked_read is g
      by true false is g = plain_read g
      by false five is g = plain_read g
