-- On which references each depends.
use Rattle.std.proofs.Common.{◌≡◌, ℕ, suc, ◌+◌, ◌<◌, Bool, true, false, ◌||◌, ◌&&◌, List, [], ◌∷◌, ◌++◌, length, map, drop, get_or, refl, sym, ◌∙◌, subst, ap, add-one, drop-cons}
use Rattle.std.specs.Prelude.{Option, Some, None, slice_get, if◌then◌else◌}
use Rattle.std.specs.List.{list_any, range_with_len}
use Rattle.std.specs.Str.{bytes_eq}
use Rattle.std.proofs.lemmas.Option.{slice_get-get_or}
use Rattle.syn_base.specs.Bytes.{Bytes}
use Rattle.algo_rules.specs.declared.Def.{Def}
use Rattle.algo_rules.specs.declared.Edge.{Edge}
use Rattle.algo_rules.specs.declared.Reference.{Reference}
use Rattle.algo_rules.specs.ReferenceLinks.{Links, reaches_itself}
use Rattle.algo_rules.specs.Links.{definition}
use Rattle.algo_rules.specs.Graphs.{is_delay, leads_to, names_of, place, same_owner, source_of, sources}
use Rattle.body_check.specs.Cycles.{flagged}

module _ (ds : List Def) (rs : List Reference) where
  abbrev pub is_delayed : Bytes → Reference → Bool
  is_delayed w r = bytes_eq w r.name && is_delay (definition ds r.def)

  delay_is : (w : Bytes) (k p : ℕ) (r : Reference) (d : Def) → r ≡ get_or rs k r → p < length ds → definition ds (get_or rs k r).def ≡ slice_get ds p
      → (bytes_eq w r.name && is_delay (Some (get_or ds p d))) ≡ is_delayed w (get_or rs k r)
  delay_is w k p r d at lt found =
      let e : definition ds r.def ≡ Some (get_or ds p d) = ap (λ (r : Reference). definition ds r.def) at ∙ found ∙ slice_get-get_or ds p d lt in
      ap (λ (o : Option Def). bytes_eq w r.name && is_delay o) (sym e) ∙ ap (λ (r : Reference). is_delayed w r) at

  any_next : (w : Bytes) (k : ℕ) (r : Reference) → k < length rs → list_any (is_delayed w) (drop k rs) ≡ (is_delayed w (get_or rs k r) || list_any (is_delayed w) (drop (k + 1) rs))
  any_next w k r lt = rw add-one (ap (λ (rs : List Reference). list_any (is_delayed w) rs) (drop-cons rs k r lt))

  pub delay_found : (w : Bytes) (k p : ℕ) (r : Reference) (d : Def) (b : Bool) → r ≡ get_or rs k r → p < length ds → definition ds (get_or rs k r).def ≡ slice_get ds p
      → b ≡ (bytes_eq w r.name && is_delay (Some (get_or ds p d))) → k < length rs → list_any (is_delayed w) (drop k rs) ≡ (b || list_any (is_delayed w) (drop (k + 1) rs))
  delay_found w k p r d b at lt found test low =
      any_next w k r low ∙ ap (λ (b : Bool). b || list_any (is_delayed w) (drop (k + 1) rs)) (sym (test ∙ delay_is w k p r d at lt found))

  pub delay_here : (w : Bytes) (k p : ℕ) (r : Reference) (d : Def) (b : Bool) → r ≡ get_or rs k r → p < length ds → definition ds (get_or rs k r).def ≡ slice_get ds p
      → b ≡ (bytes_eq w r.name && is_delay (Some (get_or ds p d))) → k < length rs → b ≡ true → list_any (is_delayed w) (drop k rs) ≡ true
  delay_here w k p r d b at lt found test low t = delay_found w k p r d b at lt found test low ∙ ap (λ (b : Bool). b || list_any (is_delayed w) (drop (k + 1) rs)) t

  pub delay_later : (w : Bytes) (k p : ℕ) (r : Reference) (d : Def) (b : Bool) → r ≡ get_or rs k r → p < length ds → definition ds (get_or rs k r).def ≡ slice_get ds p
      → b ≡ (bytes_eq w r.name && is_delay (Some (get_or ds p d))) → k < length rs → b ≡ false → list_any (is_delayed w) (drop (k + 1) rs) ≡ list_any (is_delayed w) (drop k rs)
  delay_later w k p r d b at lt found test low f = sym (delay_found w k p r d b at lt found test low ∙ ap (λ (b : Bool). b || list_any (is_delayed w) (drop (k + 1) rs)) f)

  source_is : (o : Option Bytes) (v w : Bytes) (b : Bool) → o ≡ Some w → v ≡ w → b ≡ list_any (is_delayed v) rs → source_of ds rs o ≡ (if b then [] else place rs w ∷ [])
  source_is o v w b e f h =
      ap (λ (o : Option Bytes). source_of ds rs o) e ∙ ap (λ (b : Bool). if b then [] else place rs w ∷ []) (sym (h ∙ ap (λ (v : Bytes). list_any (is_delayed v) rs) f))

  pub no_source : (o : Option Bytes) (v w : Bytes) (b : Bool) → o ≡ Some w → v ≡ w → b ≡ list_any (is_delayed v) rs → b ≡ true → source_of ds rs o ≡ []
  no_source o v w b e f h t = source_is o v w b e f h ∙ ap (λ (b : Bool). if b then [] else place rs w ∷ []) t

  pub a_source : (o : Option Bytes) (v u w : Bytes) (b : Bool) (k : ℕ) → o ≡ Some w → v ≡ w → b ≡ list_any (is_delayed v) rs → b ≡ false → k ≡ place rs u → u ≡ w → source_of ds rs o ≡ k ∷ []
  a_source o v u w b k e f h t at g =
      source_is o v w b e f h ∙ ap (λ (b : Bool). if b then [] else place rs w ∷ []) t ∙ ap (λ (k : ℕ). k ∷ []) (sym (at ∙ ap (λ (u : Bytes). place rs u) g))

  owned : (w : Bytes) (o : Option Bytes) → leads_to ds rs w o ≡ same_owner (Some w) o
  owned w None = refl
  owned w (Some r) = refl

  pub sources_next : (w : Bytes) (es : List Edge) (k : ℕ) (e : Edge) (b : Bool) → e ≡ get_or es k e → k < length es → b ≡ same_owner (Some w) e.to.owner
      → sources ds rs (drop k es) w ≡ (if b then source_of ds rs e.from.owner else []) ++ sources ds rs (drop (k + 1) es) w
  sources_next w es k e b at lt h =
      let a : drop k es ≡ e ∷ drop (k + 1) es = rw add-one (drop-cons es k e lt ∙ ap (λ (x : Edge). x ∷ drop (suc k) es) (sym at)) in
      ap (λ (es : List Edge). sources ds rs es w) a
      ∙ ap (λ (b : Bool). (if b then source_of ds rs e.from.owner else []) ++ sources ds rs (drop (k + 1) es) w) (owned w e.to.owner ∙ sym h)

  pub names_are : (links : Links) (i : ℕ) (us : List Reference) → flagged (map (reaches_itself links) (range_with_len i (length us))) us ≡ names_of ds rs links i us
  names_are links i [] = refl
  names_are links i (r ∷ us) = by (names_are links (i + 1) us) (reaches_itself links i)
    where
      by : flagged (map (reaches_itself links) (range_with_len (i + 1) (length us))) us ≡ names_of ds rs links (i + 1) us
          → (b : Bool) → (if b then r.name
          ∷ flagged (map (reaches_itself links) (range_with_len (i + 1) (length us))) us else flagged
          (map (reaches_itself links) (range_with_len (i + 1) (length us))) us)
          ≡ (if b then r.name ∷ names_of ds rs links (suc i) us else names_of ds rs links (suc i) us)
      by ih b =
          let Q : ℕ → Type 0 = λ k. flagged (map (reaches_itself links) (range_with_len (i + 1) (length us))) us ≡ names_of ds rs links k us in
          ap (λ (ns : List Bytes). if b then r.name ∷ ns else ns) (subst Q (add-one i) ih)
