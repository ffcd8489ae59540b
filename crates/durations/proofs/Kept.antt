-- What each line of a text keeps of the durations, and so what they are in every text that is accepted.
use Rattle.std.proofs.Common.{
  ◌≡◌,
  ℕ,
  ◌+◌,
  ◌≤◌,
  ◌<◌,
  Bool,
  not,
  true,
  false,
  cond,
  ◌||◌,
  ◌&&◌,
  ◌==◌,
  if◌then◌else◌,
  List,
  [],
  ◌∷◌,
  ◌++◌,
  length,
  Option,
  Some,
  None,
  Result,
  Ok,
  Err,
  ℤ,
  pos,
  negsuc,
  position,
  nat_le,
  nat_lt,
  refl,
  subst,
  arith,
}
use Rattle.std.specs.Prelude.{codes, is_some, slice_index_or}
use Rattle.std.specs.List.{list_any, position_or_len}
use Rattle.std.specs.Str.{bytes_eq}
use Rattle.std.proofs.lemmas.Bool.{leb-true, ltb-true}
use Rattle.std.proofs.lemmas.List.{length_push}
use Rattle.std.proofs.lemmas.List.Elements.{All-nil, All-push}
use Rattle.syn_base.specs.Name.{is_name}
use Rattle.syn_base.specs.Integer.{integer_of}
use Rattle.syn_base.specs.declared.integer.NumFault.{NumFault}
use Rattle.syn_base.specs.declared.limits.LimitKind.TheVariants.{Operators, Media, Connections}
use Rattle.text_lines.specs.Text.{lines_of, words_of, code_of, foreign_place, word, begins}
use Rattle.archi_defs.specs.declared.Medium.{Medium}
use Rattle.archi_defs.specs.Refusals.{ArchiRefusal}
use Rattle.archi_defs.specs.declared.fault.ArchiCause.TheVariants.{BadLine, BadName}
use Rattle.syn_base.specs.Bytes.{Bytes}
use Rattle.archi_defs.specs.Text.{
  Described,
  Reading,
  start,
  version_of,
  depth_of,
  depth_line,
  all_names,
  up_to,
  place_of,
  is_taken,
  medium_names,
  no_medium,
  version_line,
  operator_line,
  medium_line,
  connected,
  connect_line,
  duration_line,
  described_line,
  line_by,
  next_line,
  has_stands,
  media_are_right,
  all_joined,
  apart,
  whole_of,
  whole,
  rest_of,
  description_of,
}
use Rattle.text_lines.specs.Refusals.{refused, with_some, and_then, is_above}
use Rattle.durations.specs.Lines.{IsDuration, AreDurations}

record IsKept (r : Reading) : Type 0 where
  pub kept : AreDurations (length r.operators) r.durations

abbrev Holds : Result Reading ArchiRefusal → Type 0
Holds (Ok s) = IsKept s
Holds (Err e) = Unit {0}

-- what was read is kept, where nothing was refused
record Keeps (read : Result Reading ArchiRefusal) : Type 0 where
  pub holds : Holds read

keeps_if : (b : Bool) (e : ArchiRefusal) (go : Result Reading ArchiRefusal) → Keeps go → Keeps (if b then Err e else go)
keeps_if true e go h = record { holds = tt }
keeps_if false e go h = h

keeps_names : (n : ℕ) (ws : List Bytes) (go : Result Reading ArchiRefusal) → Keeps go → Keeps (all_names n ws go)
keeps_names n [] go h = h
keeps_names n (w ∷ ws) go h = by (is_name w) (keeps_names n ws go h)
  where
    by : (b : Bool) → Keeps (all_names n ws go) → Keeps (if b then all_names n ws go else refused n (BadName w))
    by true k = k
    by false k = record { holds = tt }

keeps_some : {A : Type 0} (o : Option A) (e : ArchiRefusal) (go : A → Result Reading ArchiRefusal) → ((x : A) → o ≡ Some x → Keeps (go x)) → Keeps (with_some o (Err e) go)
keeps_some None e go h = record { holds = tt }
keeps_some (Some x) e go h = h x refl

either : (b : Bool) (x y : Result Reading ArchiRefusal) → Keeps x → Keeps y → Keeps (if b then x else y)
either true x y h k = h
either false x y h k = k

when_some : (b : Bool) (m n : ℕ) → (if b then Some m else None) ≡ Some n → (b ≡ true) × (m ≡ n)
when_some true m n h = (refl, cc)
when_some false m n h = cc

-- a place that was found is one
place_below : {X : Type 0} (p : X → Bool) (xs : List X) (k : ℕ) → position p xs ≡ Some k → k < length xs
place_below p xs k h =
    let w = when_some (nat_lt (position_or_len p xs) (length xs)) (position_or_len p xs) k h in
    let below = ltb-true (position_or_len p xs) (length xs) w.0 in
    omega (arith, below, w.1)

-- a number that was read is within its bounds
within : (most : ℕ) (r : Result ℤ NumFault) (n : ℕ) → up_to most r ≡ Some n → n ≤ most
within most (Ok (pos m)) n h = let w = when_some (nat_le m most) m n h in let low = leb-true m most w.0 in omega (arith, low, w.1)
within most (Ok (negsuc m)) n h = cc
within most (Err e) n h = cc

kept_version : (r : Reading) (n : ℕ) (ws : List Bytes) → IsKept r → Keeps (version_line r n ws)
kept_version r n ws h =
    keeps_if (not (length ws == 2) || not (bytes_eq (word ws 0) (codes "architecture"))) _ _ (keeps_some (version_of (word ws 1)) _ _ (λ version v. record { holds = record { kept = h.kept } }))

kept_depth : (r : Reading) (n version : ℕ) (ws : List Bytes) → IsKept r → Keeps (depth_line r n version ws)
kept_depth r n version ws h =
    keeps_if (not (length ws == 2) || (version == 1) || is_some r.depth) _ _ (keeps_some (depth_of (integer_of (word ws 1))) _ _ (λ depth e. record { holds = record { kept = h.kept } }))

kept_operator : (r : Reading) (n : ℕ) (ws : List Bytes) → IsKept r → Keeps (operator_line r n ws)
kept_operator r n ws h =
    keeps_if (not (length ws == 2)) _ _ (keeps_names n (word ws 1 ∷ []) _ (keeps_if (is_taken r (word ws 1)) _ _ (keeps_if (is_above Operators (length r.operators + 1)) _ _ (record {
      holds = record {
        kept = λ k d l.
            let more : length (r.operators ++ word ws 1 ∷ []) ≡ length r.operators + 1 = length_push r.operators (word ws 1) in
            let before = h.kept k d l in
            (omega (arith, more, before.0), before.1);
      };
    }))))

kept_medium : (r : Reading) (n : ℕ) (ws : List Bytes) → IsKept r → Keeps (medium_line r n ws)
kept_medium r n ws h =
    keeps_if (not (length ws == 5) || not (bytes_eq (word ws 2) (codes "p2p") || bytes_eq (word ws 2) (codes "multi"))) _ _ (keeps_names n (word ws 1 ∷ []) _
    (keeps_some (up_to 1000000 (integer_of (word ws 3))) _ _ (λ fixed f. keeps_some (up_to 1000000 (integer_of (word ws 4))) _ _ (λ per p.
    keeps_if (is_taken r (word ws 1)) _ _ (keeps_if (is_above Media (length r.media + 1)) _ _ (record { holds = record { kept = h.kept } }))))))

kept_connected : (r : Reading) (n : ℕ) (w : Bytes) (m o : ℕ) → IsKept r → Keeps (connected r n w m o)
kept_connected r n w m o h =
    keeps_if (list_any (λ p. p == o) (slice_index_or r.media m no_medium).stands) _ _ (keeps_if (is_above Connections (r.connections + 1)) _ _ (record { holds = record { kept = h.kept } }))

kept_connect : (r : Reading) (n : ℕ) (ws : List Bytes) → IsKept r → Keeps (connect_line r n ws)
kept_connect r n ws h =
    keeps_if (not (length ws == 3)) _ _ (keeps_names n (word ws 1 ∷ word ws 2 ∷ []) _
    (keeps_some (place_of (word ws 1) (medium_names r)) _ _ (λ m found. keeps_some (place_of (word ws 2) r.operators) _ _ (λ o known. kept_connected r n (word ws 2) m o h))))

kept_duration : (r : Reading) (n : ℕ) (ws : List Bytes) → IsKept r → Keeps (duration_line r n ws)
kept_duration r n ws h =
    keeps_if (not (length ws == 4)) _ _ (keeps_names n (word ws 1 ∷ word ws 2 ∷ []) _
    (keeps_some (up_to 1000000000 (integer_of (word ws 3))) _ _ (λ ticks low. keeps_some (place_of (word ws 2) r.operators) _ _ (λ o known.
    keeps_if (list_any (λ d. bytes_eq d.def (word ws 1) && (d.operator == o)) r.durations) _ _ (record {
      holds = record {
        kept = All-push (IsDuration (length r.operators)) r.durations (record { def = word ws 1; operator = o; ticks = ticks }) h.kept
            (place_below (bytes_eq (word ws 2)) r.operators o known, within 1000000000 (integer_of (word ws 3)) ticks low);
      };
    })))))

kept_described : (r : Reading) (n version : ℕ) (ws : List Bytes) → IsKept r → Keeps (described_line r n version ws)
kept_described r n version ws h =
    either (begins ws (codes "operator")) _ _ (kept_operator r n ws h)
    (either (begins ws (codes "medium")) _ _ (kept_medium r n ws h)
    (either (begins ws (codes "connect")) _ _ (kept_connect r n ws h)
    (either (begins ws (codes "duration")) _ _ (kept_duration r n ws h)
    (either (begins ws (codes "depth")) _ _ (kept_depth r n version ws h) (record { holds = tt })))))

by_version : (o : Option ℕ) (first : Result Reading ArchiRefusal) (later : ℕ → Result Reading ArchiRefusal) → Keeps first → ((version : ℕ) → Keeps (later version)) → Keeps (with_some o first later)
by_version None first later h k = h
by_version (Some version) first later h k = k version

kept_line : (r : Reading) (n : ℕ) (line : Bytes) (foreign : Option ℕ) → IsKept r → Keeps (line_by r n line foreign)
kept_line r n line (Some place) h = record { holds = tt }
kept_line r n line None h =
    either (length (words_of (code_of line)) == 0) _ _ (record { holds = h })
    (by_version r.version _ _ (kept_version r n (words_of (code_of line)) h) (λ version. kept_described r n version (words_of (code_of line)) h))

kept_next : (r new : Reading) (n : ℕ) (line : Bytes) → IsKept r → next_line r n line ≡ Ok new → IsKept new
kept_next r new n line h is = let kept : Keeps (next_line r n line) = kept_line r n line (foreign_place line) h in subst Holds is kept.holds

passed : {A : Type 0} (t : Bool) (e : ArchiRefusal) (x : Result A ArchiRefusal) (a : A) → cond t (Err e) x ≡ Ok a → x ≡ Ok a
passed true e x a h = cc
passed false e x a h = h

held : {A : Type 0} (t : Bool) (e : ArchiRefusal) (x : Result A ArchiRefusal) (a : A) → cond t x (Err e) ≡ Ok a → x ≡ Ok a
held true e x a h = h
held false e x a h = cc

read : {A B : Type 0} (o : Result A ArchiRefusal) (go : A → Result B ArchiRefusal) (b : B) → and_then o go ≡ Ok b → (x : A) × (o ≡ Ok x) × (go x ≡ Ok b)
read (Ok x) go b h = (x, refl, h)
read (Err e) go b h = cc

right : (media : List Medium) (lines : List ℕ) (go : Result Described ArchiRefusal) (d : Described) → media_are_right media lines go ≡ Ok d → go ≡ Ok d
right [] lines go d h = h
right (m ∷ media) lines go d h = right media _ go d (held (has_stands m) _ _ d h)

abbrev done : Described → Result Described ArchiRefusal
done d = Ok d

same : (x y : Described) → done x ≡ Ok y → x ≡ y
same x y e = cc

joined : (r : Reading) (version : ℕ) (o : Option ℕ) (d : Described) → IsKept r → all_joined r version o ≡ Ok d → AreDurations (length d.archi.operators) d.durations
joined r version None d h is = subst (λ (e : Described). AreDurations (length e.archi.operators) e.durations) (same _ d is) h.kept
joined r version (Some o) d h is = cc

kept_whole : (r : Reading) (n : ℕ) (d : Described) → IsKept r → whole r n ≡ Ok d → AreDurations (length d.archi.operators) d.durations
kept_whole r n d h = by r.version
  where
    by : (o : Option ℕ) → with_some o (refused n BadLine) (whole_of r) ≡ Ok d → AreDurations (length d.archi.operators) d.durations
    by None is = cc
    by (Some version) is = joined r version (apart r) d h (right r.media r.lines _ d (passed (length r.operators == 0) _ _ d is))

kept_rest : (lines : List Bytes) (r : Reading) (n : ℕ) (d : Described) → IsKept r → rest_of r n lines ≡ Ok d → AreDurations (length d.archi.operators) d.durations
kept_rest [] r n d h is = kept_whole r n d h is
kept_rest (line ∷ lines) r n d h is =
    let one = read (next_line r n line) (λ after. rest_of after (n + 1) lines) d is in
    kept_rest lines one.0 (n + 1) d (kept_next r one.0 n line h one.1) one.2

pub accepted : (text : Bytes) (d : Described) → description_of text ≡ Ok d → AreDurations (length d.archi.operators) d.durations
accepted text d is = kept_rest (lines_of text) start 1 d (record { kept = All-nil (IsDuration 0) }) is
