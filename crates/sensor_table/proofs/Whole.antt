-- `records` gives all the records of a text, and no other list has them all.
use Rattle.std.proofs.Common.{◌≡◌, ◌∙◌, ◌<◌, ◌+◌, ◌⊎◌, ℕ, zero, suc, List, [], ◌∷◌, length, Bool, true, false, Option, Some, None, inl, inr, refl, sym, ap, ap₂, subst, arith}
use Rattle.std.specs.Prelude.{if◌then◌else◌}
use Rattle.csv.specs.Machine.{next_record, Read, ends_at_end, is_end, step, fields_after, field_after}
use Rattle.csv.specs.Reading.{Reached, AreRecords, records_from, records_next}
use Rattle.csv.specs.declared.parser.Config.{Config}
use Rattle.csv.specs.declared.parser.State.{State}
use Rattle.csv.specs.declared.parser.State.TheVariants as st

same_some : {X : Type 0} (x y : X) → Some x ≡ Some y → x ≡ y
same_some x y e = cc

abbrev Shorter : List ℕ → Read → Type 0
Shorter xs p = (length p.2 < length xs) ⊎ ((p.1 ≡ st.StartRecord) × (p.2 ≡ []))

chosen : {X : Type 0} (b : Bool) (x y z : X) → (if b then x else y) ≡ z → ((b ≡ true) × (x ≡ z)) ⊎ ((b ≡ false) × (y ≡ z))
chosen true x y z e = inl (refl, e)
chosen false x y z e = inr (refl, e)

at_end : (b : Bool) (r p : Read) → r.1 ≡ st.StartRecord → r.2 ≡ [] → (if b then Some r else None) ≡ Some p → (p.1 ≡ st.StartRecord) × (p.2 ≡ [])
at_end true r p s e h = let q : r ≡ p = same_some r p h in (sym (ap (λ (x : Read). x.1) q) ∙ s, sym (ap (λ (x : Read). x.2) q) ∙ e)
at_end false r p s e h = absurd (cc)

shorter : (cfg : Config) (s : State) (fields : List (List ℕ)) (field xs : List ℕ) (p : Read) → next_record cfg s fields field xs ≡ Some p → Shorter xs p
unfolding next_record
shorter cfg s fields field [] p e = inr (at_end (ends_at_end s) _ p refl refl e)
shorter cfg s fields field (c ∷ rest) p e =
    elim (chosen (is_end (step cfg s c).1) _ _ _ e) [
      | inl h ↦ let q : (fields_after (step cfg s c).1 fields field, (step cfg s c).0, rest) ≡ p = same_some _ _ h.1 in
          let l : length rest ≡ length p.2 = ap (λ (x : Read). length x.2) q in inl (omega arith)
      | inr h ↦ elim (shorter cfg (step cfg s c).0 (fields_after (step cfg s c).1 fields field) (field_after (step cfg s c).1 c field) rest p h.1) [
        | inl l ↦ inl (omega arith)
        | inr k ↦ inr k
      ]
    ]

none_left : (cfg : Config) → next_record cfg st.StartRecord [] [] [] ≡ None
unfolding next_record
none_left cfg = refl

no_records : (cfg : Config) (n : ℕ) → records_from cfg n st.StartRecord [] ≡ []
unfolding records_from
no_records cfg zero = refl
no_records cfg (suc n) = rw (none_left cfg) refl

one_more : (cfg : Config) (s : State) (xs : List ℕ) (p : Read) (rows : List (List (List ℕ)))
    → next_record cfg s [] [] xs ≡ Some p → AreRecords cfg p.1 p.2 rows → AreRecords cfg s xs (p.0 ∷ rows)
unfolding Reached
one_more cfg s xs p rows e a = (a.0, a.1, (p, e, refl, a.2), a.3)

-- none is left where none is read
pub no_more : (cfg : Config) (s : State) (xs : List ℕ) → next_record cfg s [] [] xs ≡ None → AreRecords cfg s xs []
unfolding Reached
no_more cfg s xs e = (s, xs, (refl, refl), e)

at_start : (cfg : Config) (n : ℕ) → AreRecords cfg st.StartRecord [] (records_from cfg n st.StartRecord [])
at_start cfg n = rw (no_records cfg n) (no_more cfg st.StartRecord [] (none_left cfg))

at_both : (cfg : Config) (n : ℕ) (s : State) (xs : List ℕ) → s ≡ st.StartRecord → xs ≡ [] → AreRecords cfg s xs (records_from cfg n s xs)
at_both cfg n s xs e f = subst (λ (q : State). AreRecords cfg q xs (records_from cfg n q xs)) (sym e)
    (subst (λ (x : List ℕ). AreRecords cfg st.StartRecord x (records_from cfg n st.StartRecord x)) (sym f) (at_start cfg n))

are_step : (cfg : Config) (n : ℕ) (s : State) (xs : List ℕ) (o : Option Read)
    → ((s' : State) (xs' : List ℕ) → length xs' < n → AreRecords cfg s' xs' (records_from cfg n s' xs'))
    → next_record cfg s [] [] xs ≡ o → length xs < suc n → AreRecords cfg s xs (records_next (records_from cfg n) o)
are_step cfg n s xs None ih e h = no_more cfg s xs e
are_step cfg n s xs (Some p) ih e h = one_more cfg s xs p _ e (elim (shorter cfg s [] [] xs p e) [
  | inl l ↦ ih p.1 p.2 (omega arith)
  | inr k ↦ at_both cfg n p.1 p.2 k.0 k.1
])

are_from : (cfg : Config) (n : ℕ) (s : State) (xs : List ℕ) → length xs < n → AreRecords cfg s xs (records_from cfg n s xs)
unfolding records_from
are_from cfg zero s xs h = absurd (omega arith)
are_from cfg (suc n) s xs h = are_step cfg n s xs (next_record cfg s [] [] xs) (are_from cfg n) refl h

-- the records from a state are those of the text from there
pub are_all : (cfg : Config) (s : State) (xs : List ℕ) → AreRecords cfg s xs (records_from cfg (length xs + 1) s xs)
are_all cfg s xs = are_from cfg (length xs + 1) s xs (omega arith)

more_than_none : (cfg : Config) (s : State) (xs : List ℕ) (r : List (List ℕ)) (rs : List (List (List ℕ))) → AreRecords cfg s xs [] → AreRecords cfg s xs (r ∷ rs) → ⊥
unfolding Reached
more_than_none cfg s xs r rs a b =
    let none : next_record cfg s [] [] xs ≡ None = ap (λ (q : State). next_record cfg q [] [] xs) a.2.0 ∙ ap (λ (z : List ℕ). next_record cfg a.0 [] [] z) a.2.1 ∙ a.3 in
    let bad : None ≡ Some b.2.0 = sym none ∙ b.2.1 in cc

-- a text has one list of records
pub one_list : (cfg : Config) (s : State) (xs : List ℕ) (rows others : List (List (List ℕ))) → AreRecords cfg s xs rows → AreRecords cfg s xs others → rows ≡ others
unfolding Reached
one_list cfg s xs [] [] a b = refl
one_list cfg s xs [] (r ∷ rs) a b = absurd (more_than_none cfg s xs r rs a b)
one_list cfg s xs (r ∷ rs) [] a b = absurd (more_than_none cfg s xs r rs b a)
one_list cfg s xs (r ∷ rs) (q ∷ qs) a b =
    let same : a.2.0 ≡ b.2.0 = same_some _ _ (sym a.2.1 ∙ b.2.1) in
    let first : r ≡ q = a.2.2 ∙ ap (λ (p : Read). p.0) same ∙ sym b.2.2 in
    let rest : Reached cfg b.2.0.1 b.2.0.2 rs a.0 a.1 = subst (λ (p : Read). Reached cfg p.1 p.2 rs a.0 a.1) same a.2.3 in
    ap₂ (λ (x : List (List ℕ)) (l : List (List (List ℕ))). x ∷ l) first (one_list cfg b.2.0.1 b.2.0.2 rs qs (a.0, a.1, rest, a.3) (b.0, b.1, b.2.3, b.3))
