-- What each line keeps.
use Rattle.std.proofs.Common.{
  ◌≡◌,
  ℕ,
  ◌+◌,
  Bool,
  not,
  true,
  false,
  cond,
  ◌||◌,
  ◌==◌,
  if◌then◌else◌,
  List,
  [],
  ◌∷◌,
  ◌++◌,
  length,
  Option,
  Some,
  None,
  Result,
  Ok,
  Err,
  ℤ,
  pos,
  negsuc,
  nat_le,
  nat_lt,
  refl,
  sym,
  ap,
  ap₂,
  subst,
  ◌∙◌,
  arith,
  append_assoc,
  append-nil,
}
use Rattle.std.specs.Prelude.{codes, is_some}
use Rattle.std.specs.List.{list_any, list_all, count_by}
use Rattle.std.specs.Str.{bytes_eq}
use Rattle.std.proofs.lemmas.Bool.{and_parts, and_from, eqb-true, ltb-true, ltb-false, lt-ltb, or_parts, eq-eqb}
use Rattle.std.proofs.lemmas.List.{length_push, map-append}
use Rattle.std.proofs.lemmas.List.Folds.{list_all-append}
use Rattle.std.proofs.lemmas.List.Sums.{sum_by-append, sum_by-cons, sum_by_push}
use Rattle.syn_base.specs.Name.{is_name}
use Rattle.syn_base.specs.Integer.{integer_of}
use Rattle.syn_base.specs.Limits.{bound_of}
use Rattle.syn_base.specs.declared.integer.NumFault.{NumFault}
use Rattle.syn_base.specs.declared.limits.LimitKind.TheVariants.{Operators, Media}
use Rattle.archi_defs.specs.declared.Medium.{Medium}
use Rattle.archi_defs.specs.Archi.{ascends_from, are_distinct, is_depth, occurs_once}
use Rattle.archi_defs.specs.Refusals.{ArchiRefusal}
use Rattle.archi_defs.specs.declared.fault.ArchiCause.TheVariants.{BadName}
use Rattle.syn_base.specs.Bytes.{Bytes}
use Rattle.archi_defs.specs.Text.{Reading, kind_of, up_to, all_names, medium_names, is_taken, depth_of, version_of, operator_line, medium_line, version_line, depth_line}
use Rattle.text_lines.specs.Refusals.{refused, with_some, is_above}
use Rattle.archi_reader.specs.Views.{IsSound, is_begun}
use Rattle.archi_reader.proofs.Tables.{bytes_eq_sym, bytes_eq_self}
use Rattle.text_lines.specs.Text.{word}

-- what holds of a reading that is not refused
abbrev pub Holds : (Reading → Type 0) → Result Reading ArchiRefusal → Type 0
Holds P (Ok s) = P s
Holds P (Err e) = Unit {0}

pub record Keeps (P : Reading → Type 0) (read : Result Reading ArchiRefusal) : Type 0 where
  pub holds : Holds P read

pub keeps_if : {P : Reading → Type 0} (b : Bool) (e : ArchiRefusal) (go : Result Reading ArchiRefusal) → (b ≡ false → Keeps P go) → Keeps P (if b then Err e else go)
keeps_if true e go h = record { holds = tt }
keeps_if false e go h = h refl

pub keeps_names : {P : Reading → Type 0} (n : ℕ) (w : Bytes) (ws : List Bytes) (go : Result Reading ArchiRefusal) → (is_name w ≡ true → Keeps P (all_names n ws go)) → Keeps P (all_names n (w ∷ ws) go)
keeps_names {P} n w ws go h = by (is_name w) h
  where
    by : (b : Bool) → (b ≡ true → Keeps P (all_names n ws go)) → Keeps P (if b then all_names n ws go else refused n (BadName w))
    by true k = k refl
    by false k = record { holds = tt }

pub keeps_some : {P : Reading → Type 0} {A : Type 0} (o : Option A) (e : ArchiRefusal) (go : A → Result Reading ArchiRefusal)
    → ((x : A) → o ≡ Some x → Keeps P (go x)) → Keeps P (with_some o (Err e) go)
keeps_some None e go h = record { holds = tt }
keeps_some (Some x) e go h = h x refl

pub when_some : (b : Bool) (m n : ℕ) → (if b then Some m else None) ≡ Some n → (b ≡ true) × (m ≡ n)
when_some true m n h = (refl, cc)
when_some false m n h = cc

-- a number that was read is within its bounds
pub within : (most : ℕ) (r : Result ℤ NumFault) (n : ℕ) → up_to most r ≡ Some n → nat_le n most ≡ true
within most (Ok (pos m)) n h = let w = when_some (nat_le m most) m n h in subst (λ (k : ℕ). nat_le k most ≡ true) w.1 w.0
within most (Ok (negsuc m)) n h = cc
within most (Err e) n h = cc

-- how often a name occurs among these and one more
pub count_with : (p : Bytes → Bool) (xs ys : List Bytes) (w : Bytes) → count_by p (xs ++ w ∷ ys) ≡ cond (p w) 1 0 + count_by p (xs ++ ys)
count_with p xs ys w =
    let one : Bytes → ℕ = λ x. cond (p x) 1 0 in
    let a = sum_by-append one xs (w ∷ ys) in
    let b = sum_by-cons one w ys in
    let d = sum_by-append one xs ys in
    omega (arith, a, b, d)

count_none : (p : Bytes → Bool) (xs : List Bytes) → list_any p xs ≡ false → count_by p xs ≡ 0
count_none p [] h = refl
count_none p (x ∷ xs) h =
    let both = or_parts (p x) (list_any p xs) h in
    sum_by-cons (λ y. cond (p y) 1 0) x xs ∙ ap (λ (b : Bool). cond b 1 0 + count_by p xs) both.0 ∙ omega (arith, count_none p xs both.1)

pub all_with : (p : Bytes → Bool) (xs ys : List Bytes) (w : Bytes) → p w ≡ true → list_all p (xs ++ ys) ≡ true → list_all p (xs ++ w ∷ ys) ≡ true
all_with p [] ys w here h = and_from (p w) (list_all p ys) here h
all_with p (x ∷ xs) ys w here h =
    let both = and_parts (p x) (list_all p (xs ++ ys)) h in
    and_from (p x) (list_all p (xs ++ w ∷ ys)) both.0 (all_with p xs ys w here both.1)

-- each that passes one test, and not another, passes a third
all_but : (p q test : Bytes → Bool) → ((v : Bytes) → q v ≡ true → test v ≡ false → p v ≡ true)
    → (zs : List Bytes) → list_all q zs ≡ true → list_any test zs ≡ false → list_all p zs ≡ true
all_but p q test each [] h none = refl
all_but p q test each (z ∷ zs) h none =
    let both = and_parts (q z) (list_all q zs) h in
    let out = or_parts (test z) (list_any test zs) none in
    and_from (p z) (list_all p zs) (each z both.0 out.0) (all_but p q test each zs both.1 out.1)

-- a name that is none of those that occur once each
pub distinct_with : (xs ys : List Bytes) (w : Bytes) → list_any (bytes_eq w) (xs ++ ys) ≡ false → are_distinct (xs ++ ys) ≡ true → are_distinct (xs ++ w ∷ ys) ≡ true
distinct_with xs ys w fresh distinct =
    all_with (occurs_once (xs ++ w ∷ ys)) xs ys w own
    (all_but (occurs_once (xs ++ w ∷ ys)) (occurs_once (xs ++ ys)) (bytes_eq w) other (xs ++ ys) distinct fresh)
  where
    own : occurs_once (xs ++ w ∷ ys) w ≡ true
    own =
        let count : count_by (bytes_eq w) (xs ++ w ∷ ys) ≡ 1 =
        count_with (bytes_eq w) xs ys w ∙ ap₂ (λ (b : Bool) (n : ℕ). cond b 1 0 + n) (bytes_eq_self w) (count_none (bytes_eq w) (xs ++ ys) fresh) in
        eq-eqb _ 1 count

    other : (v : Bytes) → occurs_once (xs ++ ys) v ≡ true → bytes_eq w v ≡ false → occurs_once (xs ++ w ∷ ys) v ≡ true
    other v once apart =
        let before = eqb-true (count_by (bytes_eq v) (xs ++ ys)) 1 once in
        let count : count_by (bytes_eq v) (xs ++ w ∷ ys) ≡ 1 =
        count_with (bytes_eq v) xs ys w ∙ ap₂ (λ (b : Bool) (n : ℕ). cond b 1 0 + n) (bytes_eq_sym v w ∙ apart) before in
        eq-eqb _ 1 count

-- the version line
pub sound_version : (r : Reading) (n : ℕ) (ws : List Bytes) → IsSound r → Keeps IsSound (version_line r n ws)
sound_version r n ws h = keeps_if (not (length ws == 2) || not (bytes_eq (word ws 0) (codes "architecture"))) _ _ (λ a. keeps_some (version_of (word ws 1)) _ _ (λ version v. record {
  holds = record { operators = h.operators; media = h.media; lines = h.lines; stands = h.stands; connections = h.connections; begun = h.begun; depth = h.depth; distinct = h.distinct };
}))

-- a depth that was read is one
pub deep : (r : Result ℤ NumFault) (n : ℕ) → depth_of r ≡ Some n → is_depth n ≡ true
deep (Ok (pos m)) n h = let w = when_some (is_depth m) m n h in subst (λ (k : ℕ). is_depth k ≡ true) w.1 w.0
deep (Ok (negsuc m)) n h = cc
deep (Err e) n h = cc

-- the line of the depth
pub sound_depth : (r : Reading) (n version : ℕ) (ws : List Bytes) → IsSound r → Keeps IsSound (depth_line r n version ws)
sound_depth r n version ws h = keeps_if (not (length ws == 2) || (version == 1) || is_some r.depth) _ _ (λ a. keeps_some (depth_of (integer_of (word ws 1))) _ _ (λ depth d. record {
  holds = record {
    operators = h.operators;
    media = h.media;
    lines = h.lines;
    stands = h.stands;
    connections = h.connections;
    begun = h.begun;
    depth = deep (integer_of (word ws 1)) depth d;
    distinct = h.distinct;
  };
}))

-- this many operators, and more
begun_more : (n : ℕ) (m : Medium) → is_begun n m ≡ true → is_begun (n + 1) m ≡ true
begun_more n m h =
    let a = and_parts _ (nat_le m.per 1000000) h in
    let b = and_parts _ (nat_le m.fixed 1000000) a.0 in
    let c = and_parts (ascends_from 0 m.stands) (list_all (λ o. nat_lt o n) m.stands) b.0 in
    and_from _ _ (and_from _ _ (and_from _ _ c.0 (below_more n m.stands c.1)) b.1) a.1
  where
    below_more : (k : ℕ) (os : List ℕ) → list_all (λ o. nat_lt o k) os ≡ true → list_all (λ o. nat_lt o (k + 1)) os ≡ true
    below_more k [] e = refl
    below_more k (o ∷ os) e =
        let both = and_parts (nat_lt o k) (list_all (λ p. nat_lt p k) os) e in
        let low = ltb-true o k both.0 in
        and_from _ _ (lt-ltb o (k + 1) (omega (arith, low))) (below_more k os both.1)

all_begun_more : (n : ℕ) (media : List Medium) → list_all (is_begun n) media ≡ true → list_all (is_begun (n + 1)) media ≡ true
all_begun_more n [] h = refl
all_begun_more n (m ∷ media) h =
    let both = and_parts (is_begun n m) (list_all (is_begun n) media) h in
    and_from _ _ (begun_more n m both.0) (all_begun_more n media both.1)

pub sound_operator : (r : Reading) (n : ℕ) (ws : List Bytes) → IsSound r → Keeps IsSound (operator_line r n ws)
sound_operator r n ws h =
    keeps_if (not (length ws == 2)) _ _
    (λ a. keeps_names n (word ws 1) [] _
    (λ b. keeps_if (is_taken r (word ws 1)) _ _
    (λ fresh. keeps_if (is_above Operators (length r.operators + 1)) _ _ (λ few. record { holds = sound fresh few }))))
  where
    sound : is_taken r (word ws 1) ≡ false → is_above Operators (length r.operators + 1) ≡ false → IsSound (record r { operators = r.operators ++ word ws 1 ∷ [] })
    sound fresh few =
        let room = ltb-false (bound_of Operators) (length r.operators + 1) few in
        let more : length (r.operators ++ word ws 1 ∷ []) ≡ length r.operators + 1 = length_push r.operators (word ws 1) in
        record {
          operators = omega (arith, more, room);
          media = h.media;
          lines = h.lines;
          stands = h.stands;
          connections = h.connections;
          begun = subst (λ (k : ℕ). list_all (is_begun k) r.media ≡ true) (sym more) (all_begun_more (length r.operators) r.media h.begun);
          depth = h.depth;
          distinct = subst (λ (l : List Bytes). are_distinct l ≡ true) (sym (append_assoc r.operators (word ws 1 ∷ []) (medium_names r)))
              (distinct_with r.operators (medium_names r) (word ws 1) fresh h.distinct);
        }

-- this many fixed ticks and ticks for each element
abbrev medium_of : List Bytes → ℕ → ℕ → Medium
medium_of ws fixed per = record { name = word ws 1; kind = kind_of (word ws 2); fixed = fixed; per = per; stands = [] }

pub sound_medium : (r : Reading) (n : ℕ) (ws : List Bytes) → IsSound r → Keeps IsSound (medium_line r n ws)
sound_medium r n ws h =
    keeps_if (not (length ws == 5) || not (bytes_eq (word ws 2) (codes "p2p") || bytes_eq (word ws 2) (codes "multi"))) _ _
    (λ a. keeps_names n (word ws 1) [] _
    (λ b. keeps_some (up_to 1000000 (integer_of (word ws 3))) _ _ (λ fixed f. keeps_some (up_to 1000000 (integer_of (word ws 4))) _ _ (λ per p.
    keeps_if (is_taken r (word ws 1)) _ _ (λ fresh. keeps_if (is_above Media (length r.media + 1)) _ _ (λ few. record {
      holds = sound fixed per (within 1000000 (integer_of (word ws 3)) fixed f) (within 1000000 (integer_of (word ws 4)) per p) fresh few;
    }))))))
  where
    sound : (fixed per : ℕ) → nat_le fixed 1000000 ≡ true → nat_le per 1000000 ≡ true → is_taken r (word ws 1) ≡ false → is_above Media (length r.media + 1) ≡ false
        → IsSound (record r { media = r.media ++ medium_of ws fixed per ∷ []; lines = r.lines ++ n ∷ [] })
    sound fixed per f p fresh few =
        let m = medium_of ws fixed per in
        let room = ltb-false (bound_of Media) (length r.media + 1) few in
        let more : length (r.media ++ m ∷ []) ≡ length r.media + 1 = length_push r.media m in
        let below : is_begun (length r.operators) m ≡ true = and_from _ _ f p in
        let fresh_of : list_any (bytes_eq (word ws 1)) ((r.operators ++ medium_names r) ++ []) ≡ false = rw append-nil fresh in
        let before : are_distinct ((r.operators ++ medium_names r) ++ []) ≡ true = rw append-nil h.distinct in
        record {
          operators = h.operators;
          media = omega (arith, more, room);
          lines = length_push r.lines n ∙ ap (λ (k : ℕ). k + 1) h.lines ∙ sym more;
          stands = sum_by_push (λ x. length x.stands) r.media m ∙ omega (arith, h.stands);
          connections = h.connections;
          begun = list_all-append (is_begun (length r.operators)) r.media (m ∷ []) ∙ and_from _ _ h.begun (and_from _ true below refl);
          depth = h.depth;
          distinct = subst (λ (l : List Bytes). are_distinct l ≡ true)
              (append_assoc r.operators (medium_names r) (word ws 1 ∷ []) ∙ ap (λ (l : List Bytes). r.operators ++ l) (sym (map-append (λ (x : Medium). x.name) r.media (m ∷ []))))
              (distinct_with (r.operators ++ medium_names r) [] (word ws 1) fresh_of before);
        }
