-- The lines of durations are read as they were printed.
use Rattle.std.proofs.Common.{
  ◌≡◌,
  ℕ,
  ◌+◌,
  Bool,
  true,
  false,
  ◌&&◌,
  if◌then◌else◌,
  List,
  [],
  ◌∷◌,
  ◌++◌,
  length,
  map,
  Some,
  Result,
  Ok,
  nat_le,
  nat_lt,
  refl,
  sym,
  ap,
  subst,
  ◌∙◌,
  arith,
  append_assoc,
  append-nil,
}
use Rattle.std.specs.Prelude.{codes}
use Rattle.std.specs.List.{list_all}
use Rattle.std.proofs.lemmas.Bool.{and_parts, and_from, leb-true, ltb-true}
use Rattle.syn_base.specs.Name.{is_name}
use Rattle.syn_base.specs.Integer.{integer_of}
use Rattle.archi_defs.specs.declared.Medium.{Medium}
use Rattle.archi_defs.specs.Archi.{operator_name}
use Rattle.archi_defs.specs.declared.text.DurationLine.{DurationLine}
use Rattle.archi_defs.specs.Refusals.{ArchiRefusal}
use Rattle.syn_base.specs.Bytes.{Bytes}
use Rattle.archi_defs.specs.Text.{Reading, start, up_to, place_of, next_line}
use Rattle.archi_reader.specs.Durations.{is_given}
use Rattle.archi_reader.specs.Canonical.{joined, duration_words}
use Rattle.archi_reader.proofs.Splits.{is_word}
use Rattle.archi_reader.proofs.Spelled.{name_word, number_word, number_back, described_back}
use Rattle.archi_reader.proofs.After.{after, then_line}
use Rattle.archi_reader.proofs.Back.{Opening}
use Rattle.archi_reader.proofs.Connecting.{AreFound, connect_steps}
use Rattle.text_lines.specs.Text.{count_text}

-- each of these was not given before
abbrev pub AreNew : List DurationLine → List DurationLine → Type 0
AreNew done [] = Unit {0}
AreNew done (d ∷ ds) = (is_given done d.def d.operator ≡ false) × AreNew (done ++ d ∷ []) ds

-- a duration that some line says, where there are this many operators
abbrev pub is_spelled : ℕ → DurationLine → Bool
is_spelled operators d = is_name d.def && nat_lt d.operator operators && nat_le d.ticks 1000000000

once : (twice : Bool) (a x : Result Reading ArchiRefusal) → twice ≡ false → (if twice then a else x) ≡ x
once twice a x e = rw e refl

duration_read : (r : Reading) (n version ticks o : ℕ) (def operator : Bytes) → r.version ≡ Some version → is_name def ≡ true → is_name operator ≡ true → nat_le ticks 1000000000 ≡ true
    → place_of operator r.operators ≡ Some o → is_given r.durations def o ≡ false
    → next_line r n (joined (codes "duration" ∷ def ∷ operator ∷ count_text ticks ∷ [])) ≡ Ok (record r { durations = r.durations ++ record { def = def; operator = o; ticks = ticks } ∷ [] })
duration_read r n version ticks o def operator versioned a b low found new =
    let small = leb-true ticks 1000000000 low in
    described_back r n version (codes "duration") (def ∷ operator ∷ count_text ticks ∷ [])
    (and_from (is_word def) _ (name_word def a)
    (and_from (is_word operator) _ (name_word operator b)
    (and_from (is_word (count_text ticks)) true (number_word ticks (omega (arith, small))) refl))) versioned
    ∙ connect_steps (is_name def) (is_name operator) (up_to 1000000000 (integer_of (count_text ticks))) (place_of operator r.operators) ticks o _ _ _ _ _ _ a b
    (number_back 1000000000 ticks low (omega (arith, small))) found
    (once (is_given r.durations def o) _ _ new)

-- the reading after this many durations
abbrev pub at_durations : Opening → List Bytes → List Medium → List ℕ → ℕ → List DurationLine → Reading
at_durations opening operators media lines connections durations =
    record start { version = Some opening.version; depth = opening.depth; operators = operators; media = media; lines = lines; connections = connections; durations = durations }

pub durations_back : (opening : Opening) (operators : List Bytes) (media : List Medium) (lines : List ℕ) (c : ℕ) → AreFound operators → (durations done : List DurationLine) (n : ℕ)
    → AreNew done durations → list_all (is_spelled (length operators)) durations ≡ true
    → after (at_durations opening operators media lines c done) n (map (duration_words operators) durations) ≡ Ok (at_durations opening operators media lines c (done ++ durations))
durations_back opening operators media lines c found [] done n new spelled = ap (λ (l : List DurationLine). Ok (at_durations opening operators media lines c l)) (sym (append-nil done))
durations_back opening operators media lines c found (d ∷ durations) done n new spelled =
    let both = and_parts (is_spelled (length operators) d) (list_all (is_spelled (length operators)) durations) spelled in
    let ticks = and_parts (is_name d.def && nat_lt d.operator (length operators)) (nat_le d.ticks 1000000000) both.0 in
    let parts = and_parts (is_name d.def) (nat_lt d.operator (length operators)) ticks.0 in
    let below = ltb-true d.operator (length operators) parts.1 in
    then_line (duration_words operators d) (map (duration_words operators) durations) (at_durations opening operators media lines c done)
    (at_durations opening operators media lines c (done ++ d ∷ [])) n
    (duration_read (at_durations opening operators media lines c done) n opening.version d.ticks d.operator d.def
    (operator_name operators d.operator) refl parts.0 (found.named d.operator below) ticks.1 (found.place d.operator below) new.0)
    ∙ durations_back opening operators media lines c found durations (done ++ d ∷ []) (n + 1) new.1 both.1
    ∙ ap (λ (l : List DurationLine). Ok (at_durations opening operators media lines c l)) (append_assoc done (d ∷ []) durations)

-- one more at the end
pub new_push : (durations done : List DurationLine) (d : DurationLine) → AreNew done durations → is_given (done ++ durations) d.def d.operator ≡ false → AreNew done (durations ++ d ∷ [])
new_push [] done d new h = (subst (λ (l : List DurationLine). is_given l d.def d.operator ≡ false) (append-nil done) h, tt)
new_push (e ∷ durations) done d new h =
    (new.0, new_push durations (done ++ e ∷ []) d new.1 (subst (λ (l : List DurationLine). is_given l d.def d.operator ≡ false) (sym (append_assoc done (e ∷ []) durations)) h))
