use Rattle.std.proofs.Common.{◌≡◌, ℕ, ◌<◌, ◌==◌, Bool, not, false, List, [], length, Some, None, position, ap, ap₂, sym, subst, ◌∙◌, arith}
use Rattle.std.specs.Prelude.{slice_index_or}
use Rattle.std.specs.List.{range_with_len}
use Rattle.std.proofs.lemmas.Bool.{eqb-false}
use Rattle.archi_defs.specs.declared.Medium.{Medium}
use Rattle.archi_defs.specs.Archi.{reached_within}
use Rattle.archi_defs.specs.declared.fault.ArchiCause.TheVariants.{BadMedium, Disconnected}
use Rattle.syn_base.specs.Bytes.{Bytes}
use Rattle.archi_defs.specs.Text.{apart, has_stands, no_medium}
use Rattle.text_lines.specs.Refusals.{refused}
use Rattle.archi_reader.specs.Views.{reading}
use Rattle.archi_reader.proofs.Endings.{whole_wrong, whole_apart, whole_fine, valid, read_at}
use Rattle.text_lines.proofs.Refusals.{stopped}
use Rattle.archi_reader.proofs.reader.Reader.check_whole.Goals as goal

abbrev is_wrong : Medium → Bool
is_wrong m = not (has_stands m)

pub returns-in-Some-wrong_medium-clause-told : goal.returns-in-Some-wrong_medium-clause-told
returns-in-Some-wrong_medium-clause-told c =
    let r = reading c.args.self.now in
    let k = c.in-Some-wrong_medium.wrong in
    let some : (length r.operators == 0) ≡ false = ap (λ (l : List Bytes). length l == 0) (sym c.as_slice-operators.ensures.value) ∙ sym c.is_empty.ensures ∙ c.if-is_empty.false in
    let at : position is_wrong r.media ≡ Some k = ap (λ (l : List Medium). position is_wrong l) (sym c.as_slice-media.ensures.value) ∙ sym c.wrong_medium.ensures.place ∙ c.in-Some-wrong_medium.is in
    let below : k < length r.media = subst (λ (l : List Medium). k < length l) c.as_slice-media.ensures.value c.in-Some-wrong_medium.ensures.within in
    let line : slice_index_or r.lines k 0 ≡ c.index.result.now = read_at r.lines k c.index.result.now 0 (omega (arith, below, c.requires.lines)) c.index.ensures in
    let medium : slice_index_or r.media k no_medium ≡ slice_index_or c.as_slice-media.result.now k c.index-media-wrong.result =
    ap (λ (l : List Medium). slice_index_or l k no_medium) (sym c.as_slice-media.ensures.value)
    ∙ read_at c.as_slice-media.result.now k c.index-media-wrong.result no_medium c.in-Some-wrong_medium.ensures.within c.index-media-wrong.is ∙ c.index-media-wrong.is in
    stopped c.bad_medium.result _ _ c.bad_medium.ensures
    (whole_wrong r c.args.number c.in-Some.version k c.in-Some.is some at ∙ ap₂ (λ (l : ℕ) (m : Medium). refused l (BadMedium m.name)) line medium)

pub returns-in-Some-apart-clause-told : goal.returns-in-Some-apart-clause-told
returns-in-Some-apart-clause-told c =
    let r = reading c.args.self.now in
    let o = c.in-Some-apart.other in
    let some : (length r.operators == 0) ≡ false = ap (λ (l : List Bytes). length l == 0) (sym c.as_slice-operators.ensures.value) ∙ sym c.is_empty.ensures ∙ c.if-is_empty.false in
    let right : position is_wrong r.media ≡ None = ap (λ (l : List Medium). position is_wrong l) (sym c.as_slice-media.ensures.value)
    ∙ sym c.wrong_medium.ensures.place ∙ c.in_default-wrong_medium.is in
    let at : apart r ≡ Some o =
    ap₂ (λ (os : List Bytes) (ms : List Medium). position (λ p. not (reached_within ms (length os) p)) (range_with_len 0 (length os)))
    (sym c.as_slice-operators.ensures.value) (sym c.as_slice-media.ensures.value)
    ∙ sym c.apart.ensures.place ∙ c.in-Some-apart.is in
    let first = read_at c.as_slice-operators.result.now 0 c.index-operators-0.result []
    (omega (arith, eqb-false (length c.as_slice-operators.result.now) 0 (sym c.is_empty.ensures ∙ c.if-is_empty.false))) c.index-operators-0.is in
    let other = read_at c.as_slice-operators.result.now o c.index-operators-other.result [] c.in-Some-apart.ensures.within c.index-operators-other.is in
    stopped c.disconnected.result _ _ c.disconnected.ensures
    (whole_apart r c.args.number c.in-Some.version o c.in-Some.is some right at
    ∙ ap (λ (l : List Bytes). refused 0 (Disconnected (slice_index_or l 0 []) (slice_index_or l o []))) (sym c.as_slice-operators.ensures.value)
    ∙ ap₂ (λ (x y : Bytes). refused 0 (Disconnected x y)) first other)

pub returns-clause-told : goal.returns-clause-told
returns-clause-told c =
    let r = reading c.args.self.now in
    let some : (length r.operators == 0) ≡ false = ap (λ (l : List Bytes). length l == 0) (sym c.as_slice-operators.ensures.value) ∙ sym c.is_empty.ensures ∙ c.if-is_empty.false in
    let right : position is_wrong r.media ≡ None = ap (λ (l : List Medium). position is_wrong l) (sym c.as_slice-media.ensures.value)
    ∙ sym c.wrong_medium.ensures.place ∙ c.in_default-wrong_medium.is in
    let joined : apart r ≡ None =
    ap₂ (λ (os : List Bytes) (ms : List Medium). position (λ p. not (reached_within ms (length os) p)) (range_with_len 0 (length os)))
    (sym c.as_slice-operators.ensures.value) (sym c.as_slice-media.ensures.value)
    ∙ sym c.apart.ensures.place ∙ c.in_default-apart.is in
    whole_fine r c.args.number c.in-Some.version c.in-Some.is some right joined

pub returns-clause-valid : goal.returns-clause-valid
returns-clause-valid c =
    let r = reading c.args.self.now in
    let some : (length r.operators == 0) ≡ false = ap (λ (l : List Bytes). length l == 0) (sym c.as_slice-operators.ensures.value) ∙ sym c.is_empty.ensures ∙ c.if-is_empty.false in
    let right : position is_wrong r.media ≡ None = ap (λ (l : List Medium). position is_wrong l) (sym c.as_slice-media.ensures.value)
    ∙ sym c.wrong_medium.ensures.place ∙ c.in_default-wrong_medium.is in
    let joined : apart r ≡ None =
    ap₂ (λ (os : List Bytes) (ms : List Medium). position (λ p. not (reached_within ms (length os) p)) (range_with_len 0 (length os)))
    (sym c.as_slice-operators.ensures.value) (sym c.as_slice-media.ensures.value)
    ∙ sym c.apart.ensures.place ∙ c.in_default-apart.is in
    valid r c.requires some right joined
