-- Durations that are found by hash are those of the lines.
use Rattle.std.proofs.Common.{◌≡◌, ℕ, ◌<◌, Bool, true, false, cond, ◌&&◌, ◌||◌, ◌==◌, List, [], ◌∷◌, map, Option, Some, None, refl, sym, ap, ap₂, subst, ◌∙◌}
use Rattle.std.specs.Prelude.{is_some, if◌then◌else◌}
use Rattle.std.specs.Map.{lookup}
use Rattle.std.specs.Str.{bytes_eq}
use Rattle.std.proofs.lemmas.Bool.{eq-eqb}
use Rattle.std.proofs.lemmas.List.Elements.{All-head, All-tail}
use Rattle.std.proofs.lemmas.Slice.Eq.{bytes_eq-Decides}
use Rattle.indexmap.specs.IndexMap.{insert_entry}
use Rattle.archi_defs.specs.declared.text.DurationLine.{DurationLine}
use Rattle.syn_base.specs.Bytes.{Bytes}
use Rattle.durations.specs.Lines.{ticks_of, is_given, IsDuration, AreDurations}
use Rattle.durations.specs.Given.{first_of, ticks_at}

and_true : (b : Bool) → (b && true) ≡ b
and_true true = refl
and_true false = refl

and_false : (b : Bool) → (b && false) ≡ false
and_false true = refl
and_false false = refl

differ : true ≡ false → ⊥
differ h = cc

same : (v w : Bytes) → bytes_eq v w ≡ true → v ≡ w
same v w h = (bytes_eq-Decides v w).0 h

alike : (w : Bytes) → bytes_eq w w ≡ true
alike w = (bytes_eq-Decides w w).1 refl

turned : (v w : Bytes) → bytes_eq v w ≡ bytes_eq w v
turned v w = by (bytes_eq v w) (bytes_eq w v) refl refl
  where
    by : (x y : Bool) → bytes_eq v w ≡ x → bytes_eq w v ≡ y → bytes_eq v w ≡ bytes_eq w v
    by true y h k = subst (λ (u : Bytes). bytes_eq v u ≡ bytes_eq u v) (same v w h) refl
    by false true h k = subst (λ (u : Bytes). bytes_eq u w ≡ bytes_eq w u) (same w v k) refl
    by false false h k = h ∙ sym k

module _ {K : Type 0} (now : K → Bytes) where
  abbrev pub view : List (K × ℕ) → List (Bytes × ℕ)
  view es = map (λ e. (now e.0, e.1)) es

  pub lookup_view : (es : List (K × ℕ)) (def : Bytes) → lookup (λ k. bytes_eq def (now k)) es ≡ ticks_at (view es) def
  lookup_view [] def = refl
  lookup_view (e ∷ es) def = ap (λ (rest : Option ℕ). cond (bytes_eq def (now e.0)) (Some e.1) rest) (lookup_view es def)

  abbrev with_entry : List (K × ℕ) → K → ℕ → List (K × ℕ)
  with_entry es k v = insert_entry (λ x y. bytes_eq (now x) (now y)) es k v

  inserted : (es : List (K × ℕ)) (k : K) (v : ℕ) (w : Bytes) → ticks_at (view (with_entry es k v)) w ≡ cond (bytes_eq w (now k)) (Some v) (ticks_at (view es) w)
  inserted [] k v w = refl
  inserted (e ∷ es) k v w = by (bytes_eq (now k) (now e.0)) refl (inserted es k v w)
    where
      apart : (b c : Bool) → bytes_eq w (now e.0) ≡ b → bytes_eq w (now k) ≡ c → bytes_eq (now k) (now e.0) ≡ false
          → cond b (Some e.1) (cond c (Some v) (ticks_at (view es) w)) ≡ cond c (Some v) (cond b (Some e.1) (ticks_at (view es) w))
      apart true true h k' n =
          let a = same w (now e.0) h in
          let b = same w (now k) k' in
          absurd (let e1 : bytes_eq (now k) (now e.0) ≡ true = (bytes_eq-Decides (now k) (now e.0)).1 (sym b ∙ a) in cc)
      apart true false h k' n = refl
      apart false c h k' n = refl

      by : (t : Bool) → bytes_eq (now k) (now e.0) ≡ t → ticks_at (view (with_entry es k v)) w ≡ cond (bytes_eq w (now k)) (Some v) (ticks_at (view es) w)
          → ticks_at (view (cond t ((e.0, v) ∷ es) (e ∷ with_entry es k v))) w ≡ cond (bytes_eq w (now k)) (Some v) (cond (bytes_eq w (now e.0)) (Some e.1) (ticks_at (view es) w))
      by true h ih =
          ap (λ (n : Bytes). cond (bytes_eq w n) (Some v) (ticks_at (view es) w)) (sym (same (now k) (now e.0) h))
          ∙ twice (bytes_eq w (now k)) (bytes_eq w (now e.0)) (ap (bytes_eq w) (same (now k) (now e.0) h))
        where
          twice : (b c : Bool) → b ≡ c → cond b (Some v) (ticks_at (view es) w) ≡ cond b (Some v) (cond c (Some e.1) (ticks_at (view es) w))
          twice true c g = refl
          twice false true g = absurd (cc)
          twice false false g = refl
      by false h ih =
          ap (λ (rest : Option ℕ). cond (bytes_eq w (now e.0)) (Some e.1) rest) ih
          ∙ apart (bytes_eq w (now e.0)) (bytes_eq w (now k)) refl refl h

  -- one definition more, where it has no ticks
  pub added : (es : List (K × ℕ)) (k : K) (v : ℕ) → ticks_at (view es) (now k) ≡ None → (w : Bytes)
      → ticks_at (view (with_entry es k v)) w ≡ first_of (ticks_at (view es) w) (if bytes_eq (now k) w then Some v else None)
  added es k v none w = inserted es k v w ∙ ap (λ (b : Bool). cond b (Some v) (ticks_at (view es) w)) (turned w (now k)) ∙ by (bytes_eq (now k) w) refl
    where
      by : (t : Bool) → bytes_eq (now k) w ≡ t → cond t (Some v) (ticks_at (view es) w) ≡ first_of (ticks_at (view es) w) (cond t (Some v) None)
      by true h = ap (λ (o : Option ℕ). first_of o (Some v)) (sym (subst (λ (u : Bytes). ticks_at (view es) u ≡ None) (same (now k) w h) none))
      by false h = without (ticks_at (view es) w)
        where
          without : (o : Option ℕ) → o ≡ first_of o None
          without (Some t) = refl
          without None = refl

-- nothing is added where the definition has ticks
pub kept : (found : List (Bytes × ℕ)) (def : Bytes) (v : ℕ) → is_some (ticks_at found def) ≡ true → (w : Bytes)
    → ticks_at found w ≡ first_of (ticks_at found w) (if bytes_eq def w then Some v else None)
kept found def v some w = by (ticks_at found w) (bytes_eq def w) refl refl
  where
    by : (o : Option ℕ) (t : Bool) → ticks_at found w ≡ o → bytes_eq def w ≡ t → o ≡ first_of o (cond t (Some v) None)
    by (Some x) t h k = refl
    by None false h k = refl
    by None true h k = absurd (let e : is_some (ticks_at found w) ≡ true = subst (λ (u : Bytes). is_some (ticks_at found u) ≡ true) (same def w k) some in cc)

pub given_at : (operators : ℕ) (lines : List DurationLine) (def : Bytes) → AreDurations operators lines → is_given lines def ≡ true
    → (o : ℕ) × (o < operators) × (is_some (ticks_of lines def o) ≡ true)
given_at operators [] def known h = absurd (cc)
given_at operators (d ∷ lines) def known h = by (bytes_eq d.def def) refl h (λ e. given_at operators lines def (All-tail (IsDuration operators) d lines known) e)
  where
    by : (b : Bool) → bytes_eq d.def def ≡ b → (b || is_given lines def) ≡ true
        → (is_given lines def ≡ true → (o : ℕ) × (o < operators) × (is_some (ticks_of lines def o) ≡ true))
        → (o : ℕ) × (o < operators) × (is_some (ticks_of (d ∷ lines) def o) ≡ true)
    by true e g rest =
        let low = All-head (IsDuration operators) d lines known in
        let here : (bytes_eq d.def def && (d.operator == d.operator)) ≡ true = ap₂ ◌&&◌ e (eq-eqb d.operator d.operator refl) in
        (d.operator, low.0, ap (λ (b : Bool). is_some (cond b (Some d.ticks) (ticks_of lines def d.operator))) here)
    by false e g rest =
        let r = rest g in
        (r.0, r.1, ap (λ (b : Bool). is_some (cond (b && (d.operator == r.0)) (Some d.ticks) (ticks_of lines def r.0))) e ∙ r.2)

-- a definition without ticks on any operator is not given
pub not_given : (operators : ℕ) (lines : List DurationLine) (def : Bytes) → AreDurations operators lines
    → ((o : ℕ) → o < operators → ticks_of lines def o ≡ None) → is_given lines def ≡ false
not_given operators lines def known none = by (is_given lines def) refl
  where
    by : (b : Bool) → is_given lines def ≡ b → is_given lines def ≡ false
    by false h = h
    by true h = let r = given_at operators lines def known h in absurd (let e = none r.0 r.1 in let f = r.2 in cc)

-- one with ticks is given
pub given_of : (lines : List DurationLine) (def : Bytes) (o : ℕ) → is_some (ticks_of lines def o) ≡ true → is_given lines def ≡ true
given_of [] def o h = absurd (cc)
given_of (d ∷ lines) def o h = by (bytes_eq d.def def) (d.operator == o) h (given_of lines def o)
  where
    by : (b c : Bool) → is_some (cond (b && c) (Some d.ticks) (ticks_of lines def o)) ≡ true → (is_some (ticks_of lines def o) ≡ true → is_given lines def ≡ true) → (b || is_given lines def) ≡ true
    by true c h rest = refl
    by false c h rest = rest h
