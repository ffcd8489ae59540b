-- The canonical text of what was read is read as the same.
use Rattle.std.proofs.Common.{
  ◌≡◌,
  ℕ,
  suc,
  ◌+◌,
  ◌≤◌,
  Bool,
  not,
  true,
  false,
  ◌&&◌,
  ◌==◌,
  if◌then◌else◌,
  List,
  [],
  ◌∷◌,
  ◌++◌,
  length,
  map,
  Option,
  Some,
  None,
  position,
  Result,
  Ok,
  Err,
  nat_le,
  nat_lt,
  refl,
  sym,
  ap,
  ap₂,
  subst,
  ◌∙◌,
  arith,
  append-nil,
  length-append,
  inl,
  inr,
}
use Rattle.std.specs.Prelude.{codes}
use Rattle.std.specs.List.{list_all, flat_map}
use Rattle.std.proofs.lemmas.Bool.{and_parts, and_from, ltb-true, leb-true}
use Rattle.std.proofs.lemmas.List.{length-map}
use Rattle.std.proofs.lemmas.List.Folds.{list_all-append}
use Rattle.std.proofs.lemmas.List.Sums.{sum_by-cons}
use Rattle.std.proofs.lemmas.List.Concat.{flat_map-cons}
use Rattle.text_lines.specs.Text.{lines_of, count_text}
use Rattle.syn_base.specs.Name.{is_name}
use Rattle.archi_defs.specs.declared.Medium.{Medium}
use Rattle.archi_defs.specs.declared.MediumKind.{MediumKind}
use Rattle.archi_defs.specs.declared.MediumKind.TheVariants.{Multipoint, PointToPoint}
use Rattle.archi_defs.specs.Archi.{ascends_from, is_depth, connections_in, operator_name}
use Rattle.archi_defs.specs.declared.text.DurationLine.{DurationLine}
use Rattle.archi_defs.specs.Refusals.{ArchiRefusal}
use Rattle.archi_defs.specs.declared.fault.ArchiCause.TheVariants.{BadLine, BadNumber}
use Rattle.syn_base.specs.Bytes.{Bytes}
use Rattle.archi_defs.specs.Text.{Described, Reading, start, next_line, rest_of, description_of, whole_of, whole, has_stands, all_joined, apart, medium_names, described, depth_or_one}
use Rattle.text_lines.specs.Refusals.{and_then, refused, with_some}
use Rattle.archi_reader.specs.Views.{IsSound, is_begun}
use Rattle.archi_reader.specs.Canonical.{
  Words,
  joined,
  text_of,
  kind_word,
  version_words,
  depth_words,
  depth_lines,
  opening_lines,
  operator_words,
  medium_words,
  connect_words,
  connections_of,
  duration_words,
  canonical_lines,
  canonical_text,
}
use Rattle.archi_reader.proofs.Endings.{told, media_told, whole_fine}
use Rattle.archi_reader.proofs.Following.{sound_next}
use Rattle.archi_reader.proofs.Splits.{is_word, are_words, text_back}
use Rattle.archi_reader.proofs.Spelled.{name_word, number_word, depth_back, described_back}
use Rattle.archi_reader.proofs.After.{after, rest_after, then_line, after_append}
use Rattle.archi_reader.proofs.Back.{Opening, at_operators, at_media, operators_back, media_back, medium_plain, bare, has_ticks}
use Rattle.archi_reader.proofs.Connecting.{AreFound, are_found, at_connections, connections_back, media_names}
use Rattle.archi_reader.proofs.Listed.{at_durations, durations_back, is_spelled}
use Rattle.archi_reader.proofs.Counted.{IsSpelled, IsVersion, said, weight, follows_next}

-- the reading of a text that was not refused, at its end
record Ends (r : Reading) (count : ℕ) (d : Described) : Type 0 where
  pub last : Reading
  pub sound : IsSound last
  pub spelled : IsSpelled last
  pub counted : weight last ≤ weight r + count
  pub number_of_end : ℕ
  pub whole_is : whole last number_of_end ≡ Ok d

ends : (lines : List Bytes) (r : Reading) (n : ℕ) (d : Described) → IsSound r → IsSpelled r → rest_of r n lines ≡ Ok d → Ends r (length lines) d
ends [] r n d sound spelled h = record { last = r; sound = sound; spelled = spelled; counted = omega arith; number_of_end = n; whole_is = h }
ends (line ∷ lines) r n d sound spelled h = by (next_line r n line) refl h (λ t a b k. ends lines t (n + 1) d a b k)
  where
    by : (read : Result Reading ArchiRefusal) → next_line r n line ≡ read → and_then read (λ t. rest_of t (n + 1) lines) ≡ Ok d
        → ((t : Reading) → IsSound t → IsSpelled t → rest_of t (n + 1) lines ≡ Ok d → Ends t (length lines) d) → Ends r (suc (length lines)) d
    by (Ok t) e k go =
        let f = follows_next r t n line spelled e in
        let rest = go t (sound_next r t n line sound e) f.spelled k in
        record { last = rest.last; sound = rest.sound; spelled = rest.spelled; counted = omega (arith, rest.counted, f.counted); number_of_end = rest.number_of_end; whole_is = rest.whole_is }
    by (Err x) e k go = absurd (cc)

-- what a whole that is not refused says
record IsWhole (r : Reading) (d : Described) : Type 0 where
  pub version : r.version ≡ Some d.version
  pub some : (length r.operators == 0) ≡ false
  pub right : position (λ m. not (has_stands m)) r.media ≡ None
  pub reached : apart r ≡ None
  pub is : described r d.version ≡ d

passed : (b : Bool) (e : ArchiRefusal) (go : Result Described ArchiRefusal) (d : Described) → (if b then Err e else go) ≡ Ok d → (b ≡ false) × (go ≡ Ok d)
passed true e go d h = cc
passed false e go d h = (refl, h)

told_none : (o : Option ℕ) (media : List Medium) (lines : List ℕ) (go : Result Described ArchiRefusal) (d : Described) → told o media lines go ≡ Ok d → (o ≡ None) × (go ≡ Ok d)
told_none None media lines go d h = (refl, h)
told_none (Some k) media lines go d h = cc

joined_none : (r : Reading) (version : ℕ) (o : Option ℕ) (d : Described) → all_joined r version o ≡ Ok d → (o ≡ None) × (described r version ≡ d)
joined_none r version None d h = (refl, cc)
joined_none r version (Some o) d h = cc

whole_is_of : (r : Reading) (version : ℕ) (d : Described) → r.version ≡ Some version → whole_of r version ≡ Ok d → IsWhole r d
whole_is_of r version d v h =
    let b = passed (length r.operators == 0) _ _ d h in
    let right = told_none (position (λ m. not (has_stands m)) r.media) r.media r.lines (all_joined r version (apart r)) d (sym (media_told r.media r.lines (all_joined r version (apart r))) ∙ b.1) in
    let c = joined_none r version (apart r) d right.1 in
    let same : version ≡ d.version = ap (λ (x : Described). x.version) c.1 in
    record {
      version = v ∙ ap (λ (k : ℕ). Some k) same;
      some = b.0;
      right = right.0;
      reached = c.0;
      is = ap (described r) (sym same) ∙ c.1;
    }

is_whole : (r : Reading) (n : ℕ) (d : Described) → whole r n ≡ Ok d → IsWhole r d
is_whole r n d h = by r.version refl h
  where
    by : (o : Option ℕ) → r.version ≡ o → with_some o (refused n BadLine) (whole_of r) ≡ Ok d → IsWhole r d
    by None e k = cc
    by (Some version) e k = whole_is_of r version d e k

-- lines after others
chained : (lines more : List Words) (r s : Reading) (t : Result Reading ArchiRefusal) (n : ℕ) → after r n lines ≡ Ok s → after s (n + length lines) more ≡ t → after r n (lines ++ more) ≡ t
chained lines more r s t n first second = after_append lines more r n ∙ ap (λ read. and_then read (λ u. after u (n + length lines) more)) first ∙ second

all_both : {X : Type 0} (test : X → Bool) (xs ys : List X) → list_all test xs ≡ true → list_all test ys ≡ true → list_all test (xs ++ ys) ≡ true
all_both test xs ys a b = list_all-append test xs ys ∙ and_from (list_all test xs) (list_all test ys) a b

-- the lines of operators, media, connections and durations have words alone
operators_plain : (operators : List Bytes) → list_all is_name operators ≡ true → list_all are_words (map operator_words operators) ≡ true
operators_plain [] h = refl
operators_plain (w ∷ operators) h =
    let both = and_parts (is_name w) (list_all is_name operators) h in
    and_from (are_words (operator_words w)) _ (and_from (is_word w) true (name_word w both.0) refl) (operators_plain operators both.1)

kind_plain : (kind : MediumKind) → is_word (kind_word kind) ≡ true
kind_plain PointToPoint = refl
kind_plain Multipoint = refl

media_plain : (media : List Medium) → list_all is_name (media_names media) ≡ true → list_all has_ticks media ≡ true → list_all are_words (map medium_words media) ≡ true
media_plain [] h t = refl
media_plain (m ∷ media) h t =
    let both = and_parts (is_name m.name) (list_all is_name (media_names media)) h in
    let ticks = and_parts (has_ticks m) (list_all has_ticks media) t in
    let each = and_parts (nat_le m.fixed 1000000) (nat_le m.per 1000000) ticks.0 in
    let low = leb-true m.fixed 1000000 each.0 in
    let low_per = leb-true m.per 1000000 each.1 in
    and_from (are_words (medium_words m)) _
    (medium_plain m.name (kind_word m.kind) m.fixed m.per (name_word m.name both.0) (kind_plain m.kind) (number_word m.fixed (omega (arith, low))) (number_word m.per (omega (arith, low_per))))
    (media_plain media both.1 ticks.1)

module _ (operators : List Bytes) (found : AreFound operators) where
  stands_plain : (name : Bytes) (os : List ℕ) → is_name name ≡ true → list_all (λ o. nat_lt o (length operators)) os ≡ true → list_all are_words (map (connect_words operators name) os) ≡ true
  stands_plain name [] named h = refl
  stands_plain name (o ∷ os) named h =
      let both = and_parts (nat_lt o (length operators)) (list_all (λ p. nat_lt p (length operators)) os) h in
      let own = name_word (operator_name operators o) (found.named o (ltb-true o (length operators) both.0)) in
      and_from (are_words (connect_words operators name o)) _
      (and_from (is_word name) _ (name_word name named) (and_from (is_word (operator_name operators o)) true own refl)) (stands_plain name os named both.1)

  connections_plain : (media : List Medium) → list_all is_name (media_names media) ≡ true → list_all (λ m. ascends_from 0 m.stands && list_all (λ o. nat_lt o (length operators)) m.stands) media ≡ true
      → list_all are_words (flat_map (connections_of operators) media) ≡ true
  connections_plain [] h right = refl
  connections_plain (m ∷ media) h right =
      let both = and_parts (is_name m.name) (list_all is_name (media_names media)) h in
      let rights = and_parts (ascends_from 0 m.stands && list_all (λ o. nat_lt o (length operators)) m.stands) _ right in
      let own = and_parts (ascends_from 0 m.stands) (list_all (λ o. nat_lt o (length operators)) m.stands) rights.0 in
      ap (list_all are_words) (flat_map-cons (connections_of operators) m media)
      ∙ all_both are_words (connections_of operators m) (flat_map (connections_of operators) media) (stands_plain m.name m.stands both.0 own.1) (connections_plain media both.1 rights.1)

  durations_plain : (durations : List DurationLine) → list_all (is_spelled (length operators)) durations ≡ true → list_all are_words (map (duration_words operators) durations) ≡ true
  durations_plain [] h = refl
  durations_plain (d ∷ durations) h =
      let both = and_parts (is_spelled (length operators) d) (list_all (is_spelled (length operators)) durations) h in
      let ticks = and_parts (is_name d.def && nat_lt d.operator (length operators)) (nat_le d.ticks 1000000000) both.0 in
      let parts = and_parts (is_name d.def) (nat_lt d.operator (length operators)) ticks.0 in
      let low = leb-true d.ticks 1000000000 ticks.1 in
      let own = name_word (operator_name operators d.operator) (found.named d.operator (ltb-true d.operator (length operators) parts.1)) in
      and_from (are_words (duration_words operators d)) _
      (and_from (is_word d.def) _ (name_word d.def parts.0)
      (and_from (is_word (operator_name operators d.operator)) _ own
      (and_from (is_word (count_text d.ticks)) true (number_word d.ticks (omega (arith, low))) refl)))
      (durations_plain durations both.1)

-- the two parts of what begun media are
begun_ticks : (n : ℕ) (media : List Medium) → list_all (is_begun n) media ≡ true → list_all has_ticks media ≡ true
begun_ticks n [] h = refl
begun_ticks n (m ∷ media) h =
    let both = and_parts (is_begun n m) (list_all (is_begun n) media) h in
    let a = and_parts _ (nat_le m.per 1000000) both.0 in
    let b = and_parts (ascends_from 0 m.stands && list_all (λ o. nat_lt o n) m.stands) (nat_le m.fixed 1000000) a.0 in
    and_from (has_ticks m) _ (and_from _ _ b.1 a.1) (begun_ticks n media both.1)

begun_stands : (n : ℕ) (media : List Medium) → list_all (is_begun n) media ≡ true → list_all (λ m. ascends_from 0 m.stands && list_all (λ o. nat_lt o n) m.stands) media ≡ true
begun_stands n [] h = refl
begun_stands n (m ∷ media) h =
    let both = and_parts (is_begun n m) (list_all (is_begun n) media) h in
    let a = and_parts _ (nat_le m.per 1000000) both.0 in
    let b = and_parts (ascends_from 0 m.stands && list_all (λ o. nat_lt o n) m.stands) (nat_le m.fixed 1000000) a.0 in
    and_from _ _ b.0 (begun_stands n media both.1)

-- a text of version 1 has no depth
abbrev one_or : ℕ → ℕ → Option ℕ
one_or version depth = if version == 1 then None else Some depth

-- the lines of the version and of the depth are read as they were printed
opening_back : (version depth : ℕ) (o : Option ℕ) → IsVersion (Some version) o → depth_or_one o ≡ depth → is_depth depth ≡ true
    → (after start 1 (opening_lines version depth) ≡ Ok (at_operators (record { version = version; depth = one_or version depth }) []))
    × (list_all are_words (opening_lines version depth) ≡ true)
    × (depth_or_one (one_or version depth) ≡ depth)
opening_back version depth o (inl e) is deep =
    subst (λ (v : ℕ). (after start 1 (opening_lines v depth) ≡ Ok (at_operators (record { version = v; depth = one_or v depth }) []))
    × (list_all are_words (opening_lines v depth) ≡ true) × (depth_or_one (one_or v depth) ≡ depth))
    (sym e.0) (refl, refl, ap depth_or_one (sym e.1) ∙ is)
opening_back version depth o (inr e) is deep =
    subst (λ (v : ℕ). (after start 1 (opening_lines v depth) ≡ Ok (at_operators (record { version = v; depth = one_or v depth }) []))
    × (list_all are_words (opening_lines v depth) ≡ true) × (depth_or_one (one_or v depth) ≡ depth))
    (sym e) (read, plain, refl)
  where
    small : depth ≤ 4
    small = leb-true depth 4 (and_parts (nat_le 1 depth) (nat_le depth 4) deep).1

    own : is_word (count_text depth) ≡ true
    own = number_word depth (omega (arith, small))

    words : are_words (depth_words depth) ≡ true
    words = and_from (is_word (count_text depth)) true own refl

    plain : list_all are_words (opening_lines 2 depth) ≡ true
    plain = and_from (are_words (depth_words depth)) true words refl

    first : Reading
    first = at_operators (record { version = 2; depth = None }) []

    both : next_line first 2 (joined (depth_words depth)) ≡ Ok (at_operators (record { version = 2; depth = Some depth }) [])
    both =
        described_back first 2 2 (codes "depth") (count_text depth ∷ []) words refl
        ∙ ap (λ (x : Option ℕ). with_some x (refused 2 (BadNumber (count_text depth)))
        (λ (k : ℕ). Ok (at_operators (record { version = 2; depth = Some k }) []))) (depth_back depth deep (omega (arith, small)))

    read : after start 1 (opening_lines 2 depth) ≡ Ok (at_operators (record { version = 2; depth = Some depth }) [])
    read =
        then_line (version_words 2) (depth_words depth ∷ []) start first 1 refl
        ∙ then_line (depth_words depth) [] first (at_operators (record { version = 2; depth = Some depth }) []) 2 both

module _ (version : ℕ) (t : Reading) (sound : IsSound t) (spelled : IsSpelled t) (versioned : t.version ≡ Some version) where
  names : (list_all is_name t.operators ≡ true) × (list_all is_name (media_names t.media) ≡ true)
  names = and_parts (list_all is_name t.operators) (list_all is_name (media_names t.media)) (sym (list_all-append is_name t.operators (media_names t.media)) ∙ spelled.names)

  found : AreFound t.operators
  found = are_found t.operators (medium_names t) sound.distinct names.0

  abbrev depth : ℕ
  depth = depth_or_one t.depth

  abbrev opening : Opening
  opening = record { version = version; depth = one_or version depth }

  first : (after start 1 (opening_lines version depth) ≡ Ok (at_operators opening [])) × (list_all are_words (opening_lines version depth) ≡ true) × (depth_or_one (one_or version depth) ≡ depth)
  first = opening_back version depth t.depth (subst (λ (o : Option ℕ). IsVersion o t.depth) versioned spelled.version) refl sound.depth

  abbrev all_lines : List Words
  all_lines = canonical_lines version (record { operators = t.operators; media = t.media; depth = depth }) t.durations

  abbrev to_operators : List Words
  to_operators = opening_lines version depth ++ map operator_words t.operators

  abbrev to_media : List Words
  to_media = to_operators ++ map medium_words t.media

  abbrev to_connections : List Words
  to_connections = to_media ++ flat_map (connections_of t.operators) t.media

  operator_lines : after start 1 to_operators ≡ Ok (at_operators opening t.operators)
  operator_lines =
      chained (opening_lines version depth) (map operator_words t.operators) start (at_operators opening []) _ 1 first.0
      (operators_back opening t.operators [] (medium_names t) _ sound.distinct names.0 (omega (arith, sound.operators)))

  media_lines : (n : ℕ) → (all : List ℕ) × (after (at_operators opening t.operators) n (map medium_words t.media) ≡ Ok (at_media opening t.operators (map bare t.media) all))
  media_lines n =
      media_back opening t.media [] t.operators [] n (rw append-nil sound.distinct) names.1 (begun_ticks (length t.operators) t.media sound.begun) (omega (arith, sound.media))

  read_lines : (all : List ℕ) × (after start 1 all_lines ≡ Ok (at_durations opening t.operators t.media all (0 + connections_in t.media) t.durations))
  read_lines =
      let m = media_lines (1 + length to_operators) in (
        m.0,
        chained to_connections (map (duration_words t.operators) t.durations) start (at_connections opening t.operators t.media m.0 (0 + connections_in t.media)) _ 1
            (chained to_media (flat_map (connections_of t.operators) t.media) start (at_media opening t.operators (map bare t.media) m.0) _ 1
            (chained to_operators (map medium_words t.media) start (at_operators opening t.operators) _ 1 operator_lines m.1)
            (connections_back opening t.operators m.0 found t.media [] 0 _ (rw append-nil sound.distinct) names.1
            (begun_stands (length t.operators) t.media sound.begun) (omega (arith, sound.stands, sound.connections))))
            (durations_back opening t.operators t.media m.0 (0 + connections_in t.media) found t.durations [] _ spelled.new spelled.durations),
      )

  lines_plain : list_all are_words all_lines ≡ true
  lines_plain =
      all_both are_words to_connections (map (duration_words t.operators) t.durations)
      (all_both are_words to_media (flat_map (connections_of t.operators) t.media)
      (all_both are_words to_operators (map medium_words t.media)
      (all_both are_words (opening_lines version depth) (map operator_words t.operators) first.1 (operators_plain t.operators names.0))
      (media_plain t.media names.1 (begun_ticks (length t.operators) t.media sound.begun)))
      (connections_plain t.operators found t.media names.1 (begun_stands (length t.operators) t.media sound.begun)))
      (durations_plain t.operators found t.durations spelled.durations)

  back : (d : Described) (n : ℕ) → whole t n ≡ Ok d → d.version ≡ version → description_of (text_of all_lines) ≡ Ok d
  back d n h same =
      let w = is_whole t n d h in
      let r = read_lines in
      let s = at_durations opening t.operators t.media r.0 (0 + connections_in t.media) t.durations in
      ap (rest_of start 1) (text_back all_lines lines_plain)
      ∙ rest_after all_lines start 1
      ∙ ap (λ read. and_then read (λ u. whole u (1 + length all_lines))) r.1
      ∙ whole_fine s (1 + length all_lines) version refl w.some w.right w.reached
      ∙ ap (λ (k : ℕ). Ok (record { version = version; archi = record { operators = t.operators; media = t.media; depth = k }; durations = t.durations })) first.2
      ∙ ap (λ (v : ℕ). Ok (described t v)) (sym same)
      ∙ ap (λ x. Ok x) w.is

connections_count : (operators : List Bytes) (media : List Medium) → length (flat_map (connections_of operators) media) ≡ connections_in media
connections_count operators [] = refl
connections_count operators (m ∷ media) =
    let own : length (connections_of operators m) ≡ length m.stands = search length-map in
    ap length (flat_map-cons (connections_of operators) m media) ∙ length-append (connections_of operators m) (flat_map (connections_of operators) media)
    ∙ ap₂ ◌+◌ own (connections_count operators media) ∙ sym (sum_by-cons (λ x. length x.stands) m media)

canonical_count : (version : ℕ) (t : Reading) → t.version ≡ Some version → connections_in t.media ≡ t.connections
    → length (canonical_lines version (record { operators = t.operators; media = t.media; depth = depth_or_one t.depth }) t.durations) ≤ weight t + length (depth_lines version (depth_or_one t.depth))
canonical_count version t versioned stands =
    let o = opening_lines version (depth_or_one t.depth) in
    let a = map operator_words t.operators in
    let b = map medium_words t.media in
    let c = flat_map (connections_of t.operators) t.media in
    let d = map (duration_words t.operators) t.durations in
    let first : length a ≡ length t.operators = search length-map in
    let second : length b ≡ length t.media = search length-map in
    let fourth : length d ≡ length t.durations = search length-map in
    let one : said t.version ≡ 1 = ap said versioned in
    omega (
      arith,
      length-append (((o ++ a) ++ b) ++ c) d,
      length-append ((o ++ a) ++ b) c,
      length-append (o ++ a) b,
      length-append o a,
      first,
      second,
      connections_count t.operators t.media,
      fourth,
      one,
      stands,
    )

start_sound : IsSound start
start_sound = record { operators = omega arith; media = omega arith; lines = refl; stands = refl; connections = omega arith; begun = refl; depth = refl; distinct = refl }

start_spelled : IsSpelled start
start_spelled = record { names = refl; durations = refl; new = tt; version = refl }

-- The canonical text of what a text describes is read as the same.
pub canonical_back : (text : Bytes) (d : Described) → description_of text ≡ Ok d → description_of (canonical_text d) ≡ Ok d
canonical_back text d h =
    let e = ends (lines_of text) start 1 d start_sound start_spelled h in
    let w = is_whole e.last e.number_of_end d e.whole_is in
    subst (λ (x : Described). description_of (canonical_text x) ≡ Ok d) w.is (back d.version e.last e.sound e.spelled w.version d e.number_of_end e.whole_is refl)

-- It has no more lines, but for that of the depth.
pub canonical_lines_few : (text : Bytes) (d : Described) → description_of text ≡ Ok d
    → length (lines_of (canonical_text d)) ≤ length (lines_of text) + length (depth_lines d.version d.archi.depth)
canonical_lines_few text d h =
    let e = ends (lines_of text) start 1 d start_sound start_spelled h in
    let w = is_whole e.last e.number_of_end d e.whole_is in
    let lines = all_lines d.version e.last e.sound e.spelled w.version in
    let long : length (map joined lines) ≡ length lines = search length-map in
    let few : length (lines_of (text_of lines)) ≤ length (lines_of text) + length (depth_lines d.version (depth_or_one e.last.depth)) =
    omega (arith, ap length (text_back lines (lines_plain d.version e.last e.sound e.spelled w.version)), long, canonical_count d.version e.last w.version e.sound.stands, e.counted) in
    subst (λ (x : Described). length (lines_of (canonical_text x)) ≤ length (lines_of text) + length (depth_lines x.version x.archi.depth)) w.is few
