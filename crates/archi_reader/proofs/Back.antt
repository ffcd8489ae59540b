-- The lines of operators and media are read as they were printed.
use Rattle.std.proofs.Common.{
  ◌≡◌,
  ℕ,
  ◌+◌,
  ◌≤◌,
  ◌<◌,
  Bool,
  true,
  false,
  ◌&&◌,
  ◌||◌,
  if◌then◌else◌,
  List,
  [],
  ◌∷◌,
  ◌++◌,
  length,
  map,
  Option,
  Some,
  Result,
  Ok,
  nat_le,
  refl,
  sym,
  ap,
  subst,
  ◌∙◌,
  arith,
  append_assoc,
  append-nil,
  cond,
}
use Rattle.std.specs.Prelude.{codes}
use Rattle.std.specs.List.{list_any, list_all, count_by}
use Rattle.std.specs.Str.{bytes_eq}
use Rattle.std.proofs.lemmas.Bool.{and_parts, and_from, eqb-true, le-ltb, leb-true, or_parts}
use Rattle.std.proofs.lemmas.List.{length_push, map-append}
use Rattle.std.proofs.lemmas.List.Folds.{list_all-append, list_any-append}
use Rattle.std.proofs.lemmas.List.Sums.{sum_by-cons}
use Rattle.syn_base.specs.Name.{is_name}
use Rattle.syn_base.specs.Integer.{integer_of}
use Rattle.syn_base.specs.Limits.{bound_of}
use Rattle.syn_base.specs.declared.limits.LimitKind.TheVariants.{Operators, Media}
use Rattle.archi_defs.specs.declared.Medium.{Medium}
use Rattle.archi_defs.specs.declared.MediumKind.{MediumKind}
use Rattle.archi_defs.specs.declared.MediumKind.TheVariants.{Multipoint, PointToPoint}
use Rattle.archi_defs.specs.Archi.{are_distinct, occurs_once}
use Rattle.archi_defs.specs.Refusals.{ArchiRefusal}
use Rattle.syn_base.specs.Bytes.{Bytes}
use Rattle.archi_defs.specs.Text.{Reading, start, up_to, is_taken, next_line}
use Rattle.archi_reader.specs.Canonical.{joined, kind_word, operator_words, medium_words}
use Rattle.text_lines.specs.Refusals.{with_some, is_above}
use Rattle.archi_reader.proofs.Sound.{count_with}
use Rattle.archi_reader.proofs.Tables.{bytes_eq_self}
use Rattle.archi_reader.proofs.Splits.{is_word, are_words}
use Rattle.archi_reader.proofs.Spelled.{name_word, number_word, number_back, described_back}
use Rattle.archi_reader.proofs.After.{after, then_line}
use Rattle.text_lines.specs.Text.{count_text}

none_step : (b : Bool) (n m : ℕ) (later : Bool) → n ≡ cond b 1 0 + m → n ≡ 0 → (m ≡ 0 → later ≡ false) → (b || later) ≡ false
none_step true n m later is none h = absurd (omega (arith, is, none))
none_step false n m later is none h = h (omega (arith, is, none))

none_counted : (p : Bytes → Bool) (xs : List Bytes) → count_by p xs ≡ 0 → list_any p xs ≡ false
none_counted p [] h = refl
none_counted p (x ∷ xs) h =
    none_step (p x) (count_by p (x ∷ xs)) (count_by p xs) (list_any p xs) (sum_by-cons (λ y. cond (p y) 1 0) x xs) h (λ none. none_counted p xs none)

-- of names that occur once each, none stands before itself
pub fresh_at : (xs ys : List Bytes) (w : Bytes) → are_distinct (xs ++ w ∷ ys) ≡ true → list_any (bytes_eq w) xs ≡ false
fresh_at xs ys w distinct =
    let all = xs ++ w ∷ ys in
    let parts = and_parts (list_all (occurs_once all) xs) (list_all (occurs_once all) (w ∷ ys)) (sym (list_all-append (occurs_once all) xs (w ∷ ys)) ∙ distinct) in
    let own = and_parts (occurs_once all w) (list_all (occurs_once all) ys) parts.1 in
    let once = eqb-true (count_by (bytes_eq w) all) 1 own.0 in
    let with_own : count_by (bytes_eq w) all ≡ 1 + count_by (bytes_eq w) (xs ++ ys) =
    count_with (bytes_eq w) xs ys w ∙ ap (λ (b : Bool). cond b 1 0 + count_by (bytes_eq w) (xs ++ ys)) (bytes_eq_self w) in
    let none = none_counted (bytes_eq w) (xs ++ ys) (omega (arith, once, with_own)) in
    (or_parts (list_any (bytes_eq w) xs) (list_any (bytes_eq w) ys) (sym (list_any-append (bytes_eq w) xs ys) ∙ none)).0

-- the tests of a line that passes them all
operator_steps : (named taken many : Bool) (a b c x : Result Reading ArchiRefusal) → named ≡ true → taken ≡ false → many ≡ false
    → (if named then (if taken then a else if many then b else x) else c) ≡ x
operator_steps named taken many a b c x e f g = rw (e, f, g) refl

operator_read : (r : Reading) (n version : ℕ) (name : Bytes) → r.version ≡ Some version → is_name name ≡ true → is_taken r name ≡ false → length r.operators < 16
    → next_line r n (joined (operator_words name)) ≡ Ok (record r { operators = r.operators ++ name ∷ [] })
operator_read r n version name versioned named new few =
    described_back r n version (codes "operator") (name ∷ []) (and_from (is_word name) true (name_word name named) refl) versioned
    ∙ operator_steps (is_name name) (is_taken r name) (is_above Operators (length r.operators + 1)) _ _ _ _ named new (le-ltb (bound_of Operators) (length r.operators + 1) (omega (arith, few)))

medium_steps : (named : Bool) (f p : Option ℕ) (fixed per : ℕ) (taken many : Bool) (a b c d e : Result Reading ArchiRefusal) (go : ℕ → ℕ → Result Reading ArchiRefusal)
    → named ≡ true → f ≡ Some fixed → p ≡ Some per → taken ≡ false → many ≡ false
    → (if named then with_some f d (λ x. with_some p e (λ y. if taken then a else if many then b else go x y)) else c) ≡ go fixed per
medium_steps named f p fixed per taken many a b c d e go h i j k l = rw (h, i, j, k, l) refl

abbrev pub bare : Medium → Medium
bare m = record m { stands = [] }

abbrev pub has_ticks : Medium → Bool
has_ticks m = nat_le m.fixed 1000000 && nat_le m.per 1000000

pub medium_plain : (name kind : Bytes) (fixed per : ℕ) → is_word name ≡ true → is_word kind ≡ true → is_word (count_text fixed) ≡ true → is_word (count_text per) ≡ true
    → are_words (codes "medium" ∷ name ∷ kind ∷ count_text fixed ∷ count_text per ∷ []) ≡ true
medium_plain name kind fixed per a b c d =
    and_from (is_word name) _ a (and_from (is_word kind) _ b (and_from (is_word (count_text fixed)) _ c (and_from (is_word (count_text per)) true d refl)))

medium_read : (kind : MediumKind) (r : Reading) (n version : ℕ) (name : Bytes) (fixed per : ℕ) → r.version ≡ Some version → is_name name
    ≡ true → nat_le fixed 1000000 ≡ true → nat_le per 1000000 ≡ true
    → is_taken r name ≡ false → length r.media < 16
    → next_line r n (joined (codes "medium" ∷ name ∷ kind_word kind ∷ count_text fixed ∷ count_text per ∷ []))
    ≡ Ok (record r { media = r.media ++ record { name = name; kind = kind; fixed = fixed; per = per; stands = [] } ∷ []; lines = r.lines ++ n ∷ [] })
medium_read Multipoint r n version name fixed per versioned named f p new few =
    let low = leb-true fixed 1000000 f in
    let low_per = leb-true per 1000000 p in
    described_back r n version (codes "medium") (name ∷ kind_word Multipoint ∷ count_text fixed ∷ count_text per ∷ [])
    (medium_plain name (kind_word Multipoint) fixed per (name_word name named) refl (number_word fixed (omega (arith, low))) (number_word per (omega (arith, low_per)))) versioned
    ∙ medium_steps (is_name name) (up_to 1000000 (integer_of (count_text fixed))) (up_to 1000000 (integer_of (count_text per))) fixed per
    (is_taken r name) (is_above Media (length r.media + 1)) _ _ _ _ _ _
    named (number_back 1000000 fixed f (omega (arith, low))) (number_back 1000000 per p (omega (arith, low_per))) new (le-ltb (bound_of Media) (length r.media + 1) (omega (arith, few)))
medium_read PointToPoint r n version name fixed per versioned named f p new few =
    let low = leb-true fixed 1000000 f in
    let low_per = leb-true per 1000000 p in
    described_back r n version (codes "medium") (name ∷ kind_word PointToPoint ∷ count_text fixed ∷ count_text per ∷ [])
    (medium_plain name (kind_word PointToPoint) fixed per (name_word name named) refl (number_word fixed (omega (arith, low))) (number_word per (omega (arith, low_per)))) versioned
    ∙ medium_steps (is_name name) (up_to 1000000 (integer_of (count_text fixed))) (up_to 1000000 (integer_of (count_text per))) fixed per
    (is_taken r name) (is_above Media (length r.media + 1)) _ _ _ _ _ _
    named (number_back 1000000 fixed f (omega (arith, low))) (number_back 1000000 per p (omega (arith, low_per))) new (le-ltb (bound_of Media) (length r.media + 1) (omega (arith, few)))

-- what the first lines say: the version, and the depth where there is one
pub record Opening : Type 0 where
  pub version : ℕ
  pub depth : Option ℕ

-- the reading after the first lines and this many operators
abbrev pub at_operators : Opening → List Bytes → Reading
at_operators opening operators = record start { version = Some opening.version; depth = opening.depth; operators = operators }

pub operators_back : (opening : Opening) (operators done more : List Bytes) (n : ℕ) → are_distinct (done ++ (operators ++ more)) ≡ true
    → list_all is_name operators ≡ true → length done + length operators ≤ 16
    → after (at_operators opening done) n (map operator_words operators) ≡ Ok (at_operators opening (done ++ operators))
operators_back opening [] done more n distinct named few = ap (λ (l : List Bytes). Ok (at_operators opening l)) (sym (append-nil done))
operators_back opening (w ∷ operators) done more n distinct named few =
    let both = and_parts (is_name w) (list_all is_name operators) named in
    let new : is_taken (at_operators opening done) w ≡ false = ap (list_any (bytes_eq w)) (append-nil done) ∙ fresh_at done (operators ++ more) w distinct in
    then_line (operator_words w) (map operator_words operators) (at_operators opening done) (at_operators opening (done ++ w ∷ [])) n
    (operator_read (at_operators opening done) n opening.version w refl both.0 new (omega (arith, few)))
    ∙ operators_back opening operators (done ++ w ∷ []) more (n + 1) (subst (λ (l : List Bytes). are_distinct l ≡ true) (sym (append_assoc done (w ∷ []) (operators ++ more))) distinct) both.1
    (let long = length_push done w in omega (arith, few, long))
    ∙ ap (λ (l : List Bytes). Ok (at_operators opening l)) (append_assoc done (w ∷ []) operators)

-- the reading after this many media, at which nothing stands yet
abbrev pub at_media : Opening → List Bytes → List Medium → List ℕ → Reading
at_media opening operators media lines = record start { version = Some opening.version; depth = opening.depth; operators = operators; media = media; lines = lines }

abbrev media_names : List Medium → List Bytes
media_names media = map (λ m. m.name) media

pub media_back : (opening : Opening) (media done : List Medium) (operators : List Bytes) (lines : List ℕ) (n : ℕ)
    → are_distinct ((operators ++ media_names done) ++ media_names media) ≡ true → list_all is_name (media_names media) ≡ true → list_all has_ticks media ≡ true → length done + length media ≤ 16
    → (all : List ℕ) × (after (at_media opening operators done lines) n (map medium_words media) ≡ Ok (at_media opening operators (done ++ map bare media) all))
media_back opening [] done operators lines n distinct named ticks few = (lines, ap (λ (l : List Medium). Ok (at_media opening operators l lines)) (sym (append-nil done)))
media_back opening (m ∷ media) done operators lines n distinct named ticks few =
    let names = and_parts (is_name m.name) (list_all is_name (media_names media)) named in
    let low = and_parts (has_ticks m) (list_all has_ticks media) ticks in
    let each = and_parts (nat_le m.fixed 1000000) (nat_le m.per 1000000) low.0 in
    let new : is_taken (at_media opening operators done lines) m.name ≡ false = fresh_at (operators ++ media_names done) (media_names media) m.name distinct in
    let same : (operators ++ media_names done) ++ m.name ∷ media_names media ≡ (operators ++ media_names (done ++ bare m ∷ [])) ++ media_names media =
    sym (append_assoc (operators ++ media_names done) (m.name ∷ []) (media_names media))
    ∙ ap (λ (l : List Bytes). l ++ media_names media)
    (append_assoc operators (media_names done) (m.name ∷ [])
    ∙ ap (λ (l : List Bytes). operators ++ l) (sym (map-append (λ (x : Medium). x.name) done (bare m ∷ [])))) in
    let long = length_push done (bare m) in
    let more = media_back opening media (done ++ bare m ∷ []) operators (lines ++ n ∷ []) (n + 1)
    (subst (λ (l : List Bytes). are_distinct l ≡ true) same distinct) names.1 low.1 (omega (arith, few, long)) in (
      more.0,
      then_line (medium_words m) (map medium_words media) (at_media opening operators done lines) (at_media opening operators (done ++ bare m ∷ []) (lines ++ n ∷ [])) n
          (medium_read m.kind (at_media opening operators done lines) n opening.version m.name m.fixed m.per refl names.0 each.0 each.1 new (omega (arith, few)))
          ∙ more.1 ∙ ap (λ (l : List Medium). Ok (at_media opening operators l more.0)) (append_assoc done (bare m ∷ []) (map bare media)),
    )
