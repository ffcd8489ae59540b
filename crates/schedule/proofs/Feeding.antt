-- What the table of a window tells of the acts so far.
use Rattle.std.proofs.Common.{◌≡◌, ℕ, ◌+◌, ◌<◌, ◌≤◌, Bool, true, false, cond, ◌&&◌, ◌||◌, not, List, [], ◌∷◌, ◌++◌, length, min, Option, Some, None, refl, sym, ap, arith, ◌∙◌, inl, inr}
use Rattle.std.specs.Prelude.{slice_index_or, slice_set, nat_le, nat_lt, is_none, is_some}
use Rattle.std.specs.List.{list_any, list_all}
use Rattle.std.proofs.lemmas.Bool.{false≢true, and_parts, or_cases, le-leb, leb-true, leb-false, ltb-true}
use Rattle.std.proofs.lemmas.List.{get_or-set_same, get_or-set_other, length-set}
use Rattle.std.proofs.lemmas.List.Folds.{list_any-append}
use Rattle.std.proofs.Math.Bool.{and-true, and-false, or-false}
use Rattle.durations.specs.declared.Vertex.{Vertex}
use Rattle.schedule.specs.Acts.{Act, carry, run, start_of, end_of, Copy, copy, same_copy, read_by, made_by}
use Rattle.schedule.specs.Windows.{covers, place, since, is_by, lesser_date, noted, noted_all, held_by, is_made, are_fed, fed_after, is_fresh, brings_new, is_in_time}
use Rattle.schedule.specs.declared.window.Window.{Window}
use Rattle.schedule.proofs.Copies.{copy_is, copies_same, same_bool}

record Covered (first : ℕ) (c : Copy) : Type 0 where
  pub from : first ≤ c.source.vertex
  pub to : c.source.vertex < first + 16
  pub port : c.source.port < 64
  pub operator : c.operator < 16

covered : (first : ℕ) (c : Copy) → covers first c ≡ true → Covered first c
covered first c h =
    let a = and_parts (nat_le first c.source.vertex && nat_lt c.source.vertex (first + 16) && nat_lt c.source.port 64) (nat_lt c.operator 16) h in
    let b = and_parts (nat_le first c.source.vertex && nat_lt c.source.vertex (first + 16)) (nat_lt c.source.port 64) a.0 in
    let d = and_parts (nat_le first c.source.vertex) (nat_lt c.source.vertex (first + 16)) b.0 in
    record { from = leb-true first c.source.vertex d.0; to = ltb-true c.source.vertex (first + 16) d.1; port = ltb-true c.source.port 64 b.1; operator = ltb-true c.operator 16 a.1 }

-- a place in the table is that of one copy
apart : (first : ℕ) (c k : Copy) → covers first c ≡ true → covers first k ≡ true → place first c ≡ place first k → same_copy c k ≡ true
apart first c k h j e =
    let a = covered first c h in
    let b = covered first k j in
    let af = a.from in let at = a.to in let ap' = a.port in let ao = a.operator in
    let bf = b.from in let bt = b.to in let bp = b.port in let bo = b.operator in
    copies_same c k (omega arith) (omega arith) (omega arith)

within : (first : ℕ) (c : Copy) → covers first c ≡ true → place first c < 16384
within first c h =
    let a = covered first c h in
    let af = a.from in let at = a.to in let ap' = a.port in let ao = a.operator in
    omega arith

-- the lesser of two dates, one of which may not be there
lesser_by : (o : Option ℕ) (e date : ℕ) → is_by (Some (lesser_date o e)) date ≡ (is_by o date || nat_le e date)
lesser_by None e date = refl
lesser_by (Some s) e date = same_bool (nat_le (min s e) date) (nat_le s date || nat_le e date) there back
  where
    there : nat_le (min s e) date ≡ true → (nat_le s date || nat_le e date) ≡ true
    there h = let l = leb-true (min s e) date h in by (nat_le s date) refl l
      where
        by : (b : Bool) → nat_le s date ≡ b → min s e ≤ date → (b || nat_le e date) ≡ true
        by true r l = refl
        by false r l = let m = leb-false s date r in le-leb e date (omega arith)

    back : (nat_le s date || nat_le e date) ≡ true → nat_le (min s e) date ≡ true
    back h = le-leb (min s e) date (elim (or_cases (nat_le s date) (nat_le e date) h) [
      | inl r ↦ (let m = leb-true s date r in omega arith)
      | inr r ↦ (let m = leb-true e date r in omega arith)
    ])

-- one more copy: a test on its entry that joins what was there with what comes, as `is_by` and `is_some` do
module _ (first : ℕ) (held : List (Option ℕ)) (size : length held ≡ 16384) (e : ℕ) (test : Option ℕ → Bool) (comes : Bool)
    (joins : (o : Option ℕ) → test (Some (lesser_date o e)) ≡ (test o || comes)) where
  noted_by : (k c : Copy) → covers first c ≡ true → test (since first (noted first held e k) c) ≡ (test (since first held c) || (comes && same_copy c k))
  noted_by k c h = by (covers first k) refl
    where
      other : same_copy c k ≡ false → test (since first held c) ≡ (test (since first held c) || (comes && same_copy c k))
      other s = sym (or-false (test (since first held c))) ∙ ap (λ (b : Bool). test (since first held c) || b) (sym (and-false comes) ∙ ap (λ (b : Bool). comes && b) (sym s))

      here : covers first k ≡ true → (s : Bool) → same_copy c k ≡ s
          → test (slice_index_or (slice_set held (place first k) (Some (lesser_date (since first held k) e))) (place first c) None) ≡ (test (since first held c) || (comes && same_copy c k))
      here j true s =
          let same = copy_is c k s in
          let inside = within first k j in
          ap (λ (d : Copy). test (slice_index_or (slice_set held (place first k) (Some (lesser_date (since first held k) e))) (place first d) None)) same
          ∙ ap test (get_or-set_same held (place first k) (Some (lesser_date (since first held k) e)) None (omega arith))
          ∙ joins (since first held k)
          ∙ (λ i. test (since first held (sym same i)) || sym (and-true comes) i)
          ∙ ap (λ (b : Bool). test (since first held c) || (comes && b)) (sym s)
      here j false s =
          ap test (get_or-set_other held (place first k) (place first c) (Some (lesser_date (since first held k) e)) None (λ q. false≢true (sym s ∙ apart first c k h j q)))
          ∙ other s

      by : (b : Bool) → covers first k ≡ b
          → test (slice_index_or (cond b (slice_set held (place first k) (Some (lesser_date (since first held k) e))) held)
          (place first c) None) ≡ (test (since first held c) || (comes && same_copy c k))
      by true j = here j (same_copy c k) refl
      by false j = other (unlike (same_copy c k) refl)
        where
          unlike : (s : Bool) → same_copy c k ≡ s → same_copy c k ≡ false
          unlike true s = absurd (false≢true (sym j ∙ ap (covers first) (sym (copy_is c k s)) ∙ h))
          unlike false s = s

noted_size : (first : ℕ) (held : List (Option ℕ)) (e : ℕ) (k : Copy) → length (noted first held e k) ≡ length held
noted_size first held e k = by (covers first k)
  where
    by : (b : Bool) → length (cond b (slice_set held (place first k) (Some (lesser_date (since first held k) e))) held) ≡ length held
    by true = length-set held (place first k) (Some (lesser_date (since first held k) e))
    by false = refl

pub noted_all_size : (first : ℕ) (held : List (Option ℕ)) (e : ℕ) (ks : List Copy) → length (noted_all first held e ks) ≡ length held
noted_all_size first held e [] = refl
noted_all_size first held e (k ∷ ks) = noted_all_size first (noted first held e k) e ks ∙ noted_size first held e k

noted_all_by : (first : ℕ) (held : List (Option ℕ)) → length held ≡ 16384 → (e : ℕ) (test : Option ℕ → Bool) (comes : Bool)
    → ((o : Option ℕ) → test (Some (lesser_date o e)) ≡ (test o || comes)) → (ks : List Copy) (c : Copy) → covers first c ≡ true
    → test (since first (noted_all first held e ks) c) ≡ (test (since first held c) || (comes && list_any (same_copy c) ks))
noted_all_by first held size e test comes joins [] c h = sym (or-false (test (since first held c))) ∙ ap (λ (b : Bool). test (since first held c) || b) (sym (and-false comes))
noted_all_by first held size e test comes joins (k ∷ ks) c h =
    noted_all_by first (noted first held e k) (noted_size first held e k ∙ size) e test comes joins ks c h
    ∙ ap (λ (b : Bool). b || (comes && list_any (same_copy c) ks)) (noted_by first held size e test comes joins k c h)
    ∙ joined (test (since first held c)) comes (same_copy c k) (list_any (same_copy c) ks)
  where
    joined : (a b s r : Bool) → ((a || (b && s)) || (b && r)) ≡ (a || (b && (s || r)))
    joined true b s r = refl
    joined false true s r = refl
    joined false false s r = refl

module _ (vertices : List Vertex) (first : ℕ) where
  -- of the copies that it covers, the table tells whether they are held by a date
  pub record Told (held : List (Option ℕ)) (before : List Act) : Type 0 where
    pub size : length held ≡ 16384
    pub by_date : (c : Copy) (date : ℕ) → covers first c ≡ true → is_by (since first held c) date ≡ held_by vertices before date c
    pub made : (c : Copy) → covers first c ≡ true → is_some (since first held c) ≡ is_made vertices before c

  told_more : (held : List (Option ℕ)) (before : List Act) (x : Act) → Told held before → Told (noted_all first held (end_of x) (made_by vertices x)) (before ++ x ∷ [])
  told_more held before x t = record {
    size = noted_all_size first held (end_of x) (made_by vertices x) ∙ t.size;
    by_date = λ c date h.
        noted_all_by first held t.size (end_of x) (λ o. is_by o date) (nat_le (end_of x) date) (λ o. lesser_by o (end_of x) date) (made_by vertices x) c h
        ∙ (λ i. t.by_date c date h i || sym (or-false (nat_le (end_of x) date && list_any (same_copy c) (made_by vertices x))) i)
        ∙ sym (list_any-append (λ y. nat_le (end_of y) date && list_any (same_copy c) (made_by vertices y)) before (x ∷ []));
    made = λ c h.
        noted_all_by first held t.size (end_of x) is_some true (λ o. some_joins o) (made_by vertices x) c h
        ∙ (λ i. t.made c h i || sym (or-false (list_any (same_copy c) (made_by vertices x))) i)
        ∙ sym (list_any-append (λ y. list_any (same_copy c) (made_by vertices y)) before (x ∷ []));
  }
    where
      some_joins : (o : Option ℕ) → true ≡ (is_some o || true)
      some_joins None = refl
      some_joins (Some n) = refl

  window : List (Option ℕ) → Window
  window held = record { first = first; held = held }

  none_is : (o : Option ℕ) → is_none o ≡ not (is_some o)
  none_is None = refl
  none_is (Some n) = refl

  unless_covered : (b : Bool) (x y : Bool) → (b ≡ true → x ≡ y) → (not b || x) ≡ (not b || y)
  unless_covered true x y h = h refl
  unless_covered false x y h = refl

  all_same : (f k : Copy → Bool) → ((c : Copy) → f c ≡ k c) → (cs : List Copy) → list_all f cs ≡ list_all k cs
  all_same f k h [] = refl
  all_same f k h (c ∷ cs) = λ i. h c i && all_same f k h cs i

  fresh_same : (held : List (Option ℕ)) (before : List Act) → Told held before → (x : Act) → brings_new vertices (record { first = first; held = held }) x ≡ is_fresh vertices first before x
  fresh_same held before t (run d) = refl
  fresh_same held before t (carry c) =
      unless_covered (covers first (copy c.to c.source)) (is_none (since first held (copy c.to c.source))) (not (is_made vertices before (copy c.to c.source)))
      (λ h. none_is (since first held (copy c.to c.source)) ∙ ap not (t.made (copy c.to c.source) h))

  -- so the check by the table is that of the acts
  pub fed_same : (held : List (Option ℕ)) (before xs : List Act) → Told held before → are_fed vertices (record { first = first; held = held }) xs ≡ fed_after vertices first before xs
  fed_same held before [] t = refl
  fed_same held before (x ∷ xs) t =
      let now = all_same (is_in_time (record { first = first; held = held }) (start_of x)) (λ c. not (covers first c) || held_by vertices before (start_of x) c)
      (λ c. unless_covered (covers first c) (is_by (since first held c) (start_of x)) (held_by vertices before (start_of x) c) (t.by_date c (start_of x))) (read_by vertices x) in
      let rest = fed_same (noted_all first held (end_of x) (made_by vertices x)) (before ++ x ∷ []) xs (told_more held before x t) in
      λ i. (fresh_same held before t x i && now i) && rest i
