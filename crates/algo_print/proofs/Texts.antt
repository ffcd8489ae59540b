-- Texts that are put together from lists of lines.
use Rattle.std.proofs.Common.{◌≡◌, ℕ, ℤ, pos, suc, ◌+◌, ◌<◌, List, [], ◌∷◌, ◌++◌, length, map, drop, get_or, Result, Ok, Err, refl, arith, ap, ap₂, sym, ◌∙◌, append_assoc, add-one, drop-cons}
use Rattle.std.specs.Fmt.{signed_decimal}
use Rattle.std.specs.Prelude.{OnOk}
use Rattle.syn_base.specs.Bytes.{Bytes}
use Rattle.algo_text.specs.declared.definition.Def.{Def}
use Rattle.algo_print.specs.Canonical.{line_of, spaced, text_of, body_lines, definition_lines}

abbrev Lines : Type 0
Lines = List (List Bytes)

pub text_joined : (ls ms : Lines) → text_of (ls ++ ms) ≡ text_of ls ++ text_of ms
text_joined [] ms = refl
text_joined (l ∷ ls) ms = ap (λ (t : Bytes). line_of l ++ t) (text_joined ls ms) ∙ sym (append_assoc (line_of l) (text_of ls) (text_of ms))

-- a text grew by some bytes and then by more
both_bytes : (old x y head tail : Bytes) → x ≡ old ++ head → y ≡ x ++ tail → y ≡ old ++ (head ++ tail)
both_bytes old x y head tail first second = second ∙ ap (λ (t : Bytes). t ++ tail) first ∙ append_assoc old head tail

pub lines_then : (old x y : Bytes) (ls ms : Lines) → x ≡ old ++ text_of ls → y ≡ x ++ text_of ms → y ≡ old ++ text_of (ls ++ ms)
lines_then old x y ls ms first second = both_bytes old x y (text_of ls) (text_of ms) first second ∙ ap (λ (t : Bytes). old ++ t) (sym (text_joined ls ms))

on_ok : {A E : Type 0} (r : Result A E) (P Q : Type 0) → (P → Q) → OnOk r P → OnOk r Q
on_ok (Ok x) P Q f h = f h
on_ok (Err e) P Q f h = h

-- the same where the last part may want memory
pub bytes_last : {A E : Type 0} (r : Result A E) (old x y : Bytes) (head tail : Bytes) → x ≡ old ++ head → OnOk r (y ≡ x ++ tail) → OnOk r (y ≡ old ++ (head ++ tail))
bytes_last r old x y head tail first second = on_ok r _ _ (both_bytes old x y head tail first) second

pub lines_last : {A E : Type 0} (r : Result A E) (old x y : Bytes) (ls ms : Lines) → x ≡ old ++ text_of ls → OnOk r (y ≡ x ++ text_of ms) → OnOk r (y ≡ old ++ text_of (ls ++ ms))
lines_last r old x y ls ms first second = on_ok r _ _ (lines_then old x y ls ms first) second

left_from : (defs : List Def) (i : ℕ) (d : Def) → i < length defs → d ≡ get_or defs i d → drop i defs ≡ d ∷ drop (i + 1) defs
left_from defs i d inside is = let one : suc i ≡ i + 1 = omega arith in drop-cons defs i d inside ∙ ap₂ (λ (e : Def) (k : ℕ). e ∷ drop k defs) (sym is) one

-- one definition more
pub next_definition : (version : ℕ) (defs : List Def) (i : ℕ) (d : Def) (name text new whole : Bytes) → name ≡ d.name → i < length defs → d ≡ get_or defs i d
    → new ≡ text ++ text_of (body_lines version name d.body) → text ++ text_of (definition_lines version (drop i defs)) ≡ whole
    → new ++ text_of (definition_lines version (drop (i + 1) defs)) ≡ whole
next_definition version defs i d name text new whole named inside is grown before =
    ap (λ (t : Bytes). t ++ text_of (definition_lines version (drop (i + 1) defs))) (grown ∙ ap (λ (n : Bytes). text ++ text_of (body_lines version n d.body)) named)
    ∙ append_assoc text (text_of (body_lines version d.name d.body)) (text_of (definition_lines version (drop (i + 1) defs)))
    ∙ ap (λ (t : Bytes). text ++ t) (sym (text_joined (body_lines version d.name d.body) (definition_lines version (drop (i + 1) defs))))
    ∙ ap (λ (ds : List Def). text ++ text_of (definition_lines version ds)) (sym (left_from defs i d inside is))
    ∙ before

-- one number more
pub next_number : (values : List ℤ) (i : ℕ) (v : ℤ) (text new whole : Bytes) → i < length values → v ≡ get_or values i (pos 0)
    → new ≡ text ++ (32 ∷ signed_decimal v) → text ++ spaced (map signed_decimal (drop i values)) ≡ whole
    → new ++ spaced (map signed_decimal (drop (i + 1) values)) ≡ whole
next_number values i v text new whole inside is grown before =
    let here : drop i values ≡ get_or values i (pos 0) ∷ drop (i + 1) values = rw (add-one, drop-cons values i (pos 0)) refl in
    ap (λ (t : Bytes). t ++ spaced (map signed_decimal (drop (i + 1) values))) grown
    ∙ append_assoc text (32 ∷ signed_decimal v) (spaced (map signed_decimal (drop (i + 1) values)))
    ∙ ap (λ (w : ℤ). text ++ spaced (map signed_decimal (w ∷ drop (i + 1) values))) is
    ∙ ap (λ (vs : List ℤ). text ++ spaced (map signed_decimal vs)) (sym here)
    ∙ before
