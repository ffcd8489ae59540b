-- The lines of connections are read as they were printed.
use Rattle.std.proofs.Common.{
  ◌≡◌,
  ℕ,
  suc,
  ◌+◌,
  ◌≤◌,
  ◌<◌,
  Bool,
  true,
  false,
  ◌&&◌,
  ◌||◌,
  ◌==◌,
  if◌then◌else◌,
  List,
  [],
  ◌∷◌,
  ◌++◌,
  length,
  map,
  take,
  drop,
  Option,
  Some,
  position,
  Result,
  Ok,
  nat_le,
  nat_lt,
  refl,
  sym,
  ap,
  ap₂,
  subst,
  ◌∙◌,
  arith,
  append_assoc,
  append-nil,
  drop-cons,
}
use Rattle.std.specs.Prelude.{codes, slice_index_or, slice_set}
use Rattle.std.specs.List.{list_any, list_all, flat_map}
use Rattle.std.specs.Str.{bytes_eq}
use Rattle.std.proofs.lemmas.Bool.{and_parts, and_from, or_parts, le-ltb, leb-true, ltb-true, ne_eqb}
use Rattle.std.proofs.lemmas.List.{length-map, length-take, map-append, take-append-drop}
use Rattle.std.proofs.lemmas.List.Folds.{list_any-append}
use Rattle.std.proofs.lemmas.List.Sums.{sum_by-cons, AllPass-from_list_all}
use Rattle.std.proofs.lemmas.List.Concat.{flat_map-cons}
use Rattle.syn_base.specs.Name.{is_name}
use Rattle.syn_base.specs.Limits.{bound_of}
use Rattle.syn_base.specs.declared.limits.LimitKind.TheVariants.{Connections}
use Rattle.archi_defs.specs.declared.Medium.{Medium}
use Rattle.archi_defs.specs.Archi.{are_distinct, ascends_from, connections_in, operator_name}
use Rattle.archi_defs.specs.Refusals.{ArchiRefusal}
use Rattle.syn_base.specs.Bytes.{Bytes}
use Rattle.archi_defs.specs.Text.{Reading, start, place_of, medium_names, connected, no_medium, with_stand, next_line}
use Rattle.archi_reader.specs.Canonical.{joined, connect_words, connections_of}
use Rattle.text_lines.specs.Refusals.{with_some, is_above}
use Rattle.archi_reader.proofs.Tables.{bytes_eq_self}
use Rattle.archi_reader.proofs.Places.{first_or, position_cons}
use Rattle.archi_reader.proofs.Splits.{is_word}
use Rattle.archi_reader.proofs.Spelled.{name_word, described_back}
use Rattle.archi_reader.proofs.After.{after, then_line, then_lines}
use Rattle.archi_reader.proofs.Back.{fresh_at, bare, Opening}

-- the first that passes stands after those that fail
place_first : (p : Bytes → Bool) (xs ys : List Bytes) (w : Bytes) → list_any p xs ≡ false → p w ≡ true → position p (xs ++ w ∷ ys) ≡ Some (length xs)
place_first p [] ys w none is = position_cons p w ys ∙ ap (λ b. first_or b (position p ys)) is
place_first p (x ∷ xs) ys w none is =
    let parts = or_parts (p x) (list_any p xs) none in
    position_cons p x (xs ++ w ∷ ys) ∙ ap₂ first_or parts.0 (place_first p xs ys w parts.1 is)

-- each operator is found by its name
pub record AreFound (operators : List Bytes) : Type 0 where
  pub place : (o : ℕ) → o < length operators → place_of (operator_name operators o) operators ≡ Some o
  pub named : (o : ℕ) → o < length operators → is_name (operator_name operators o) ≡ true

pub are_found : (operators more : List Bytes) → are_distinct (operators ++ more) ≡ true → list_all is_name operators ≡ true → AreFound operators
are_found operators more distinct named = record {
  place = at;
  named = λ o below. AllPass-from_list_all is_name operators named o [] below;
}
  where
    at : (o : ℕ) → o < length operators → place_of (operator_name operators o) operators ≡ Some o
    at o below =
        let w = operator_name operators o in
        let cut : operators ≡ take o operators ++ w ∷ drop (suc o) operators =
        sym (take-append-drop o operators) ∙ ap (λ l. take o operators ++ l) (drop-cons operators o [] below) in
        let whole : operators ++ more ≡ take o operators ++ w ∷ (drop (suc o) operators ++ more) =
        ap (λ l. l ++ more) cut ∙ append_assoc (take o operators) (w ∷ drop (suc o) operators) more in
        let new = fresh_at (take o operators) (drop (suc o) operators ++ more) w (subst (λ l. are_distinct l ≡ true) whole distinct) in
        let long : length (take o operators) ≡ o = omega (arith, below, length-take o operators) in
        ap (place_of w) cut ∙ place_first (bytes_eq w) (take o operators) (drop (suc o) operators) w new (bytes_eq_self w) ∙ ap (λ k. Some k) long

-- an operator above those that stand there stands last
above_least : (k o : ℕ) (front os : List ℕ) → ascends_from k (front ++ o ∷ os) ≡ true → k ≤ o
above_least k o [] os h = leb-true k o (and_parts (nat_le k o) (ascends_from (o + 1) os) h).0
above_least k o (p ∷ front) os h =
    let both = and_parts (nat_le k p) (ascends_from (p + 1) (front ++ o ∷ os)) h in
    omega (arith, leb-true k p both.0, above_least (p + 1) o front os both.1)

stands_last : (k o : ℕ) (front os : List ℕ) → ascends_from k (front ++ o ∷ os) ≡ true → (with_stand o front ≡ front ++ o ∷ []) × (list_any (λ p. p == o) front ≡ false)
stands_last k o [] os h = (refl, refl)
stands_last k o (p ∷ front) os h =
    let both = and_parts (nat_le k p) (ascends_from (p + 1) (front ++ o ∷ os)) h in
    let above = above_least (p + 1) o front os both.1 in
    let rest = stands_last (p + 1) o front os both.1 in (
      ap (λ b. if b then o ∷ p ∷ front else p ∷ with_stand o front) (le-ltb o p (omega (arith, above))) ∙ ap (λ l. p ∷ l) rest.0,
      ap₂ ◌||◌ (ne_eqb p o (λ e. omega (arith, e, above))) rest.1,
    )

read_seam : (done rest : List Medium) (m : Medium) → slice_index_or (done ++ m ∷ rest) (length done) no_medium ≡ m
read_seam [] rest m = refl
read_seam (x ∷ done) rest m = read_seam done rest m

set_seam : (done rest : List Medium) (m new : Medium) → slice_set (done ++ m ∷ rest) (length done) new ≡ done ++ new ∷ rest
set_seam [] rest m new = refl
set_seam (x ∷ done) rest m new = ap (λ l. x ∷ l) (set_seam done rest m new)

-- the reading after this many connections
abbrev pub at_connections : Opening → List Bytes → List Medium → List ℕ → ℕ → Reading
at_connections opening operators media lines connections =
    record start { version = Some opening.version; depth = opening.depth; operators = operators; media = media; lines = lines; connections = connections }

pub connect_steps : (a b : Bool) (f g : Option ℕ) (m o : ℕ) (c d e h x : Result Reading ArchiRefusal) (go : ℕ → ℕ → Result Reading ArchiRefusal)
    → a ≡ true → b ≡ true → f ≡ Some m → g ≡ Some o → go m o ≡ x
    → (if a then (if b then with_some f e (λ i. with_some g h (λ k. go i k)) else d) else c) ≡ x
connect_steps a b f g m o c d e h x go p q r s is = rw (p, q, r, s) is

connect_read : (r s : Reading) (n version m o : ℕ) (medium operator : Bytes) → r.version ≡ Some version → is_name medium ≡ true → is_name operator ≡ true
    → place_of medium (medium_names r) ≡ Some m → place_of operator r.operators ≡ Some o → connected r n operator m o ≡ Ok s
    → next_line r n (joined (codes "connect" ∷ medium ∷ operator ∷ [])) ≡ Ok s
connect_read r s n version m o medium operator versioned a b at found is =
    described_back r n version (codes "connect") (medium ∷ operator ∷ []) (and_from (is_word medium) _ (name_word medium a) (and_from (is_word operator) true (name_word operator b) refl)) versioned
    ∙ connect_steps (is_name medium) (is_name operator) (place_of medium (medium_names r)) (place_of operator r.operators) m o _ _ _ _ _ _ a b at found is

connected_steps : (twice many : Bool) (a b x : Result Reading ArchiRefusal) → twice ≡ false → many ≡ false → (if twice then a else if many then b else x) ≡ x
connected_steps twice many a b x e f = rw (e, f) refl

-- one connection, at the medium after these
one_connection : (opening : Opening) (operators : List Bytes) (done rest : List Medium) (m : Medium) (lines : List ℕ) (c n o : ℕ) (w : Bytes)
    → with_stand o m.stands ≡ m.stands ++ o ∷ [] → list_any (λ p. p == o) m.stands ≡ false → c < 64
    → connected (at_connections opening operators (done ++ m ∷ rest) lines c) n w (length done) o
    ≡ Ok (at_connections opening operators (done ++ record m { stands = m.stands ++ o ∷ [] } ∷ rest) lines (c + 1))
one_connection opening operators done rest m lines c n o w last new few =
    let seam = read_seam done rest m in
    connected_steps (list_any (λ p. p == o) (slice_index_or (done ++ m ∷ rest) (length done) no_medium).stands) (is_above Connections (c + 1)) _ _ _
    (ap (λ (x : Medium). list_any (λ p. p == o) x.stands) seam ∙ new) (le-ltb (bound_of Connections) (c + 1) (omega (arith, few)))
    ∙ ap (λ (x : Medium). Ok (at_connections opening operators (slice_set (done ++ m ∷ rest) (length done) (record x { stands = with_stand o x.stands })) lines (c + 1))) seam
    ∙ ap (λ (l : List Medium). Ok (at_connections opening operators l lines (c + 1))) (set_seam done rest m (record m { stands = with_stand o m.stands }))
    ∙ ap (λ (l : List ℕ). Ok (at_connections opening operators (done ++ record m { stands = l } ∷ rest) lines (c + 1))) last

abbrev pub media_names : List Medium → List Bytes
media_names media = map (λ m. m.name) media

medium_found : (done rest : List Medium) (m : Medium) → list_any (bytes_eq m.name) (media_names done) ≡ false → place_of m.name (media_names (done ++ m ∷ rest)) ≡ Some (length done)
medium_found done rest m new =
    let long : length (media_names done) ≡ length done = search length-map in
    ap (place_of m.name) (map-append (λ (x : Medium). x.name) done (m ∷ rest))
    ∙ place_first (bytes_eq m.name) (media_names done) (media_names rest) m.name new (bytes_eq_self m.name) ∙ ap (λ k. Some k) long

module _ (opening : Opening) (operators : List Bytes) (lines : List ℕ) (found : AreFound operators) where
  stands_back : (os front : List ℕ) (done rest : List Medium) (m : Medium) (c n : ℕ)
      → list_any (bytes_eq m.name) (media_names done) ≡ false → is_name m.name ≡ true
      → list_all (λ o. nat_lt o (length operators)) os ≡ true → ascends_from 0 (front ++ os) ≡ true → c + length os ≤ 64
      → after (at_connections opening operators (done ++ record m { stands = front } ∷ rest) lines c) n (map (connect_words operators m.name) os)
      ≡ Ok (at_connections opening operators (done ++ record m { stands = front ++ os } ∷ rest) lines (c + length os))
  stands_back [] front done rest m c n new named known ascends few =
      ap₂ (λ (l : List ℕ) (k : ℕ). Ok (at_connections opening operators (done ++ record m { stands = l } ∷ rest) lines k)) (sym (append-nil front)) (let e : c ≡ c + 0 = omega arith in e)
  stands_back (o ∷ os) front done rest m c n new named known ascends few =
      let both = and_parts (nat_lt o (length operators)) (list_all (λ p. nat_lt p (length operators)) os) known in
      let below = ltb-true o (length operators) both.0 in
      let last = stands_last 0 o front os ascends in
      let x : Medium = record m { stands = front } in
      let y : Medium = record m { stands = front ++ o ∷ [] } in
      let count : c + 1 + length os ≡ c + suc (length os) = omega arith in
      then_line (connect_words operators m.name o) (map (connect_words operators m.name) os)
      (at_connections opening operators (done ++ x ∷ rest) lines c) (at_connections opening operators (done ++ y ∷ rest) lines (c + 1)) n
      (connect_read (at_connections opening operators (done ++ x ∷ rest) lines c) _ n opening.version (length done) o m.name (operator_name operators o) refl named (found.named o below)
      (medium_found done rest x new) (found.place o below) (one_connection opening operators done rest x lines c n o (operator_name operators o) last.0 last.1 (omega (arith, few))))
      ∙ stands_back os (front ++ o ∷ []) done rest m (c + 1) (n + 1) new named both.1 (subst (λ l. ascends_from 0 l ≡ true) (sym (append_assoc front (o ∷ []) os)) ascends) (omega (arith, few))
      ∙ ap₂ (λ (l : List ℕ) (k : ℕ). Ok (at_connections opening operators (done ++ record m { stands = l } ∷ rest) lines k)) (append_assoc front (o ∷ []) os) count

  -- ascending operators stand at the medium
  abbrev pub stands_right : Medium → Bool
  stands_right m = ascends_from 0 m.stands && list_all (λ o. nat_lt o (length operators)) m.stands

  pub connections_back : (media done : List Medium) (c n : ℕ)
      → are_distinct ((operators ++ media_names done) ++ media_names media) ≡ true → list_all is_name (media_names media) ≡ true → list_all stands_right media ≡ true → c + connections_in media ≤ 64
      → after (at_connections opening operators (done ++ map bare media) lines c) n (flat_map (connections_of operators) media)
      ≡ Ok (at_connections opening operators (done ++ media) lines (c + connections_in media))
  connections_back [] done c n distinct named right few = ap (λ (k : ℕ). Ok (at_connections opening operators (done ++ []) lines k)) (let e : c ≡ c + 0 = omega arith in e)
  connections_back (m ∷ media) done c n distinct named right few =
      let names = and_parts (is_name m.name) (list_all is_name (media_names media)) named in
      let rights = and_parts (stands_right m) (list_all stands_right media) right in
      let own = and_parts (ascends_from 0 m.stands) (list_all (λ o. nat_lt o (length operators)) m.stands) rights.0 in
      let new = or_parts (list_any (bytes_eq m.name) operators) (list_any (bytes_eq m.name) (media_names done))
      (sym (list_any-append (bytes_eq m.name) operators (media_names done)) ∙ fresh_at (operators ++ media_names done) (media_names media) m.name distinct) in
      let all : connections_in (m ∷ media) ≡ length m.stands + connections_in media = sum_by-cons (λ x. length x.stands) m media in
      let same : (operators ++ media_names done) ++ m.name ∷ media_names media ≡ (operators ++ media_names (done ++ m ∷ [])) ++ media_names media =
      sym (append_assoc (operators ++ media_names done) (m.name ∷ []) (media_names media))
      ∙ ap (λ (l : List Bytes). l ++ media_names media)
      (append_assoc operators (media_names done) (m.name ∷ [])
      ∙ ap (λ (l : List Bytes). operators ++ l) (sym (map-append (λ (x : Medium). x.name) done (m ∷ [])))) in
      let count : c + length m.stands + connections_in media ≡ c + connections_in (m ∷ media) = omega (arith, all) in
      let r = at_connections opening operators (done ++ bare m ∷ map bare media) lines c in
      let s = at_connections opening operators (done ++ m ∷ map bare media) lines (c + length m.stands) in
      ap (after r n) (flat_map-cons (connections_of operators) m media)
      ∙ then_lines (connections_of operators m) (flat_map (connections_of operators) media) r s n
      (stands_back m.stands [] done (map bare media) m c n new.1 names.0 own.1 own.0 (omega (arith, few, all)))
      ∙ ap (λ (l : List Medium). after (at_connections opening operators l lines (c + length m.stands))
      (n + length (connections_of operators m)) (flat_map (connections_of operators) media)) (sym (append_assoc done (m ∷ []) (map bare media)))
      ∙ connections_back media (done ++ m ∷ []) (c + length m.stands) (n + length (connections_of operators m))
      (subst (λ (l : List Bytes). are_distinct l ≡ true) same distinct) names.1 rights.1 (omega (arith, few, all))
      ∙ ap₂ (λ (l : List Medium) (k : ℕ). Ok (at_connections opening operators l lines k)) (append_assoc done (m ∷ []) media) count
