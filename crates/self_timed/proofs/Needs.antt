-- What must precede an act, one by one: an act before it in the same reaction, or one of an earlier reaction.
use Rattle.std.proofs.Common.{◌≡◌, ℕ, zero, suc, ◌+◌, ◌<◌, ◌≤◌, ◌⊎◌, Bool, true, false, cond, List, [], ◌∷◌, ◌++◌, map, take, Option, Some, None, refl, sym, ap, inl, inr, arith, ◌∙◌}
use Rattle.std.specs.Prelude.{slice_get, nat_le, ◌-◌, max}
use Rattle.std.proofs.lemmas.Bool.{leb-true}
use Rattle.std.proofs.lemmas.Option.{same_Some}
use Rattle.sequence_build_laws.specs.declared.Vertex.{Vertex}
use Rattle.sequence_build_laws.specs.Acts.{Act}
use Rattle.sequence_build_laws.specs.Tight.{same_line, reads_from}
use Rattle.sequence_build_laws.specs.MicroSteps.{first_of}
use Rattle.sequence_build_laws.specs.Serial.{numbers_where}
use Rattle.sequence_build_laws.proofs.Lists.{from_append, from_map, get_take, from_numbers}
use Rattle.self_timed.specs.Dates.{Event, event, last_where, latest_of, has_reader, in_line, brought, emptied, needs}
use Rattle.syn_base.specs.Numbers.{greatest}

pub record FromLast {A : Type 0} (p : A → Bool) (n : ℕ) (xs : List A) (q : ℕ) : Type 0 where
  pub at : ℕ
  pub it : A
  pub stands : slice_get xs at ≡ Some it
  pub passes : p it ≡ true
  pub is : q ≡ n + at

pub from_last : {A : Type 0} (p : A → Bool) (n : ℕ) (xs : List A) (q : ℕ) → last_where p n xs ≡ Some q → FromLast p n xs q
from_last p n [] q e = absurd cc
from_last p n (x ∷ xs) q e = by (last_where p (suc n) xs) refl (p x) refl e (λ h. from_last p (suc n) xs q h)
  where
    by : (o : Option ℕ) → last_where p (suc n) xs ≡ o → (b : Bool) → p x ≡ b → first_of o (cond b (Some n) None) ≡ Some q
        → (last_where p (suc n) xs ≡ Some q → FromLast p (suc n) xs q) → FromLast p n (x ∷ xs) q
    by (Some r) h b t e f = let l = f (h ∙ e) in record { at = suc l.at; it = l.it; stands = l.stands; passes = l.passes; is = (let z = l.is in omega arith) }
    by None h true t e f = record { at = 0; it = x; stands = refl; passes = t; is = (let z = same_Some n q e in omega arith) }
    by None h false t e f = absurd cc

module _ (depth : ℕ) (deep : 1 ≤ depth) (vertices : List Vertex) (xs : List Act) where
  -- an act before it in this reaction
  pub record Now (k i : ℕ) (x : Act) (e : Event) : Type 0 where
    pub reaction : e.reaction ≡ k
    pub less : e.act < i
    pub it : Act
    pub stands : slice_get xs e.act ≡ Some it
    pub how : (same_line x it ≡ true) ⊎ (reads_from vertices x it ≡ true)

  -- an act of an earlier reaction
  pub record Past (k : ℕ) (e : Event) : Type 0 where
    pub less : e.reaction < k
    pub it : Act
    pub stands : slice_get xs e.act ≡ Some it

  event_is : (k i : ℕ) (r : ℕ) (e : Event) → slice_get (event k i ∷ []) r ≡ Some e → (e.reaction ≡ k) × (e.act ≡ i)
  event_is k i zero e h = let z = same_Some (event k i) e h in (ap (λ (y : Event). y.reaction) (sym z), ap (λ (y : Event). y.act) (sym z))
  event_is k i (suc r) e h = absurd cc

  there : (i j : ℕ) (it : Act) → i ≡ j → slice_get xs j ≡ Some it → slice_get xs i ≡ Some it
  there i j it e h = ap (slice_get xs) e ∙ h

  of_line : (k i : ℕ) (x : Act) (r : ℕ) (e : Event) (o l : Option ℕ) → last_where (same_line x) 0 (take i xs) ≡ o
      → last_where (same_line x) 0 xs ≡ l → slice_get (latest_of k o l) r ≡ Some e → Now k i x e ⊎ Past k e
  of_line k i x r e (Some j) l h q m =
      let f = from_last (same_line x) 0 (take i xs) j h in
      let t = get_take xs i f.at f.it f.stands in
      let z = event_is k j r e m in
      let y = f.is in
      let w = z.1 in
      let less = t.0 in
      inl (record { reaction = z.0; less = omega arith; it = f.it; stands = there e.act f.at f.it (omega arith) t.1; how = inl f.passes })
  of_line zero i x r e None l h q m = absurd cc
  of_line (suc k) i x r e None None h q m = absurd cc
  of_line (suc k) i x r e None (Some j) h q m =
      let f = from_last (same_line x) 0 xs j q in
      let z = event_is k j r e m in
      let y = f.is in
      let w = z.1 in
      let v = z.0 in
      inr (record { less = omega arith; it = f.it; stands = there e.act f.at f.it (omega arith) f.stands })

  of_brought : (k i : ℕ) (x : Act) (r : ℕ) (e : Event) → slice_get (brought vertices xs k i x) r ≡ Some e → Now k i x e
  of_brought k i x r e m =
      let f = from_map (event k) (numbers_where (reads_from vertices x) 0 (take i xs)) r e m in
      let n = from_numbers (reads_from vertices x) 0 (take i xs) r f.it f.stands in
      let t = get_take xs i n.at n.it n.stands in
      let y = n.is in
      let less = t.0 in
      let act : e.act ≡ f.it = ap (λ (w : Event). w.act) (sym f.is) in
      record { reaction = ap (λ (w : Event). w.reaction) (sym f.is); less = omega arith; it = n.it; stands = there e.act n.at n.it (omega arith) t.1; how = inr n.passes }

  of_emptied : (k : ℕ) (x : Act) (r : ℕ) (e : Event) → slice_get (emptied depth vertices xs k x) r ≡ Some e → Past k e
  of_emptied k x r e m = by (nat_le depth k) refl m
    where
      js : List ℕ
      js = numbers_where (has_reader vertices x) 0 xs

      by : (b : Bool) → nat_le depth k ≡ b → slice_get (cond b (map (event (k - depth)) (numbers_where (has_reader vertices x) 0 xs)) []) r ≡ Some e → Past k e
      by false h m = absurd cc
      by true h m =
          let f = from_map (event (k - depth)) (numbers_where (has_reader vertices x) 0 xs) r e m in
          let n = from_numbers (has_reader vertices x) 0 xs r f.it f.stands in
          let y = n.is in
          let l = leb-true depth k h in
          let act : e.act ≡ f.it = ap (λ (w : Event). w.act) (sym f.is) in
          let reaction : e.reaction ≡ k - depth = ap (λ (w : Event). w.reaction) (sym f.is) in
          record { less = omega arith; it = n.it; stands = there e.act n.at n.it (omega arith) n.stands }

  pub needs_are : (k i : ℕ) (x : Act) (r : ℕ) (e : Event) → slice_get (needs depth vertices xs k i x) r ≡ Some e → Now k i x e ⊎ Past k e
  needs_are k i x r e m = elim (from_append (in_line xs k i x) (brought vertices xs k i x ++ emptied depth vertices xs k x) r e m) [
    | inl h ↦ of_line k i x r e (last_where (same_line x) 0 (take i xs)) (last_where (same_line x) 0 xs) refl refl h
    | inr h ↦ elim (from_append (brought vertices xs k i x) (emptied depth vertices xs k x) h.at e h.stands) [
      | inl b ↦ inl (of_brought k i x h.at e b)
      | inr b ↦ inr (of_emptied k x b.at e b.stands)
    ]
  ]

-- the greatest of no more than a bound
pub greatest_below : (f : Event → ℕ) (es : List Event) (bound : ℕ) → ((r : ℕ) (e : Event) → slice_get es r ≡ Some e → f e ≤ bound) → greatest (map f es) ≤ bound
greatest_below f [] bound h = omega arith
greatest_below f (e ∷ es) bound h = let x = h 0 e refl in let y = greatest_below f es bound (λ r d m. h (suc r) d m) in omega arith

-- the greatest of the same
pub greatest_same : (f g : Event → ℕ) (es : List Event) → ((r : ℕ) (e : Event) → slice_get es r ≡ Some e → f e ≡ g e) → greatest (map f es) ≡ greatest (map g es)
greatest_same f g [] h = refl
greatest_same f g (e ∷ es) h = let x = h 0 e refl in let y = greatest_same f g es (λ r d m. h (suc r) d m) in λ j. max (x j) (y j)
