-- Acts on one operator, or over one medium, end one after another.
use Rattle.std.proofs.Common.{◌≡◌, ℕ, zero, suc, ◌+◌, ◌<◌, ◌≤◌, Bool, true, cond, List, [], ◌∷◌, ◌++◌, map, take, Option, Some, None, refl, sym, ap, inl, inr, arith, ◌∙◌, eq-eqb}
use Rattle.std.specs.Prelude.{slice_get}
use Rattle.std.proofs.lemmas.Bool.{false≢true, eqb-true, cases_eq}
use Rattle.std.proofs.lemmas.Option.{same_Some}
use Rattle.sequence_build_laws.specs.declared.Vertex.{Vertex}
use Rattle.sequence_build_laws.specs.Acts.{Act, carry, run}
use Rattle.sequence_build_laws.specs.Tight.{same_line}
use Rattle.sequence_build_laws.specs.MicroSteps.{first_of}
use Rattle.sequence_build_laws.proofs.Lists.{get_before, get_take, take_get}
use Rattle.self_timed.specs.Dates.{Event, event, last_where, latest_of, in_line, brought, emptied, needs, start_by, AreDates}
use Rattle.self_timed.proofs.Needs.{from_last}
use Rattle.self_timed.proofs.Ranks.{by_act}
use Rattle.syn_base.specs.Numbers.{greatest}

pub greatest_above : (f : Event → ℕ) (es : List Event) (r : ℕ) (e : Event) → slice_get es r ≡ Some e → f e ≤ greatest (map f es)
greatest_above f [] r e h = absurd cc
greatest_above f (d ∷ es) zero e h = let z = ap f (same_Some d e h) in omega arith
greatest_above f (d ∷ es) (suc r) e h = let z = greatest_above f es r e h in omega arith

-- the last that passes is no earlier than one that passes
pub last_there : {A : Type 0} (p : A → Bool) (n : ℕ) (xs : List A) (j : ℕ) (y : A) → slice_get xs j ≡ Some y → p y ≡ true → (q : ℕ) × (last_where p n xs ≡ Some q) × (n + j ≤ q)
last_there p n [] j y e t = absurd cc
last_there p n (x ∷ xs) (suc j) y e t = let r = last_there p (suc n) xs j y e t in let l = r.2 in (r.0, ap (λ (o : Option ℕ). first_of o (cond (p x) (Some n) None)) r.1, omega arith)
last_there p n (x ∷ xs) zero y e t = by (last_where p (suc n) xs) refl
  where
    by : (o : Option ℕ) → last_where p (suc n) xs ≡ o → (q : ℕ) × (first_of (last_where p (suc n) xs) (cond (p x) (Some n) None) ≡ Some q) × (n + 0 ≤ q)
    by (Some q) h = let f = from_last p (suc n) xs q h in let z = f.is in (q, ap (λ (o : Option ℕ). first_of o (cond (p x) (Some n) None)) h, omega arith)
    by None h = (n, ap (λ (o : Option ℕ). first_of o (cond (p x) (Some n) None)) h ∙ ap (λ (b : Bool). cond b (Some n) None) (ap p (same_Some x y e) ∙ t), omega arith)

-- on one line with the same act
pub same_both : (x y z : Act) → same_line x y ≡ true → same_line x z ≡ true → same_line y z ≡ true
same_both (carry t) (carry u) (carry v) h k = eq-eqb v.medium u.medium (eqb-true v.medium t.medium k ∙ sym (eqb-true u.medium t.medium h))
same_both (run t) (run u) (run v) h k = eq-eqb v.operator u.operator (eqb-true v.operator t.operator k ∙ sym (eqb-true u.operator t.operator h))
same_both (carry t) (carry u) (run v) h k = absurd (false≢true k)
same_both (carry t) (run u) z h k = absurd (false≢true h)
same_both (run t) (carry u) z h k = absurd (false≢true h)
same_both (run t) (run u) (carry v) h k = absurd (false≢true k)

module _ (depth : ℕ) (vertices : List Vertex) (xs : List Act) (lasts ends : ℕ → ℕ → ℕ) (are : AreDates depth vertices xs lasts ends) where
  abbrev start : ℕ → ℕ → Act → ℕ
  start k i x = start_by depth vertices xs ends k i x

  -- the one before it in line has ended when it starts
  behind : (k i : ℕ) (x : Act) (e : Event) → slice_get (in_line xs k i x) 0 ≡ Some e → ends e.reaction e.act ≤ start k i x
  behind k i x e h = greatest_above (λ d. ends d.reaction d.act) (needs depth vertices xs k i x) 0 e (get_before (in_line xs k i x) (brought vertices xs k i x ++ emptied depth vertices xs k x) 0 e h)

  behind_last : (k i q : ℕ) (x : Act) → last_where (same_line x) 0 (take i xs) ≡ Some q → ends k q ≤ start k i x
  behind_last k i q x h = behind k i x (event k q) (ap (λ (o : Option ℕ). slice_get (latest_of k o (last_where (same_line x) 0 xs)) 0) h)

  behind_past : (k i q : ℕ) (x : Act) → last_where (same_line x) 0 (take i xs) ≡ None → last_where (same_line x) 0 xs ≡ Some q → ends k q ≤ start (suc k) i x
  behind_past k i q x h l = behind (suc k) i x (event k q) ((λ j. slice_get (latest_of (suc k) (h j) (l j)) 0))

  ended : (k i : ℕ) (x : Act) → slice_get xs i ≡ Some x → start k i x ≤ ends k i
  ended k i x e = let z = are k i x e in omega arith

  -- the one before it in line
  record Behind (i : ℕ) (x : Act) (q : ℕ) : Type 0 where
    less : q < i
    it : Act
    stands : slice_get xs q ≡ Some it
    same : same_line x it ≡ true

  is_behind : (i : ℕ) (x : Act) (q : ℕ) → last_where (same_line x) 0 (take i xs) ≡ Some q → Behind i x q
  is_behind i x q h =
      let f = from_last (same_line x) 0 (take i xs) q h in
      let t = get_take xs i f.at f.it f.stands in
      let is = f.is in
      let at : f.at ≡ q = omega arith in
      record { less = (let l = t.0 in omega arith); it = f.it; stands = ap (slice_get xs) (sym at) ∙ t.1; same = f.passes }

  pub inside : (k i : ℕ) (x : Act) → slice_get xs i ≡ Some x → (j : ℕ) (y : Act) → slice_get xs j ≡ Some y → same_line x y ≡ true → j < i → ends k j ≤ start k i x
  inside k = by_act (λ i. (x : Act) → slice_get xs i ≡ Some x → (j : ℕ) (y : Act) → slice_get xs j ≡ Some y → same_line x y ≡ true → j < i → ends k j ≤ start k i x) step
    where
      step : (i : ℕ) → ((h : ℕ) → h < i → (x : Act) → slice_get xs h ≡ Some x → (j : ℕ) (y : Act) → slice_get xs j ≡ Some y → same_line x y ≡ true → j < h → ends k j ≤ start k h x)
          → (x : Act) → slice_get xs i ≡ Some x → (j : ℕ) (y : Act) → slice_get xs j ≡ Some y → same_line x y ≡ true → j < i → ends k j ≤ start k i x
      step i before x e j y d s l = by (last_there (same_line x) 0 (take i xs) j y (take_get xs i j y l d) s).0
          (last_there (same_line x) 0 (take i xs) j y (take_get xs i j y l d) s).1 (last_there (same_line x) 0 (take i xs) j y (take_get xs i j y l d) s).2
        where
          by : (q : ℕ) → last_where (same_line x) 0 (take i xs) ≡ Some q → 0 + j ≤ q → ends k j ≤ start k i x
          by q h m = elim (cases_eq j q) [
            | inl z ↦ (let a = behind_last k i q x h in let b = ap (ends k) z in omega arith)
            | inr z ↦ (let w = is_behind i x q h in let a = behind_last k i q x h in
                let b = before q w.less w.it w.stands j y d (same_both x w.it y w.same s) (omega arith) in let c = ended k q w.it w.stands in omega arith)
          ]

  pub across : (k i : ℕ) (x : Act) → slice_get xs i ≡ Some x → (j : ℕ) (y : Act) → slice_get xs j ≡ Some y → same_line x y ≡ true → ends k j ≤ start (suc k) i x
  across k = by_act (λ i. (x : Act) → slice_get xs i ≡ Some x → (j : ℕ) (y : Act) → slice_get xs j ≡ Some y → same_line x y ≡ true → ends k j ≤ start (suc k) i x) step
    where
      step : (i : ℕ) → ((h : ℕ) → h < i → (x : Act) → slice_get xs h ≡ Some x → (j : ℕ) (y : Act) → slice_get xs j ≡ Some y → same_line x y ≡ true → ends k j ≤ start (suc k) h x)
          → (x : Act) → slice_get xs i ≡ Some x → (j : ℕ) (y : Act) → slice_get xs j ≡ Some y → same_line x y ≡ true → ends k j ≤ start (suc k) i x
      step i before x e j y d s = by (last_where (same_line x) 0 (take i xs)) refl
        where
          latest : (q : ℕ) → last_where (same_line x) 0 (take i xs) ≡ None → last_where (same_line x) 0 xs ≡ Some q → 0 + j ≤ q → ends k j ≤ start (suc k) i x
          latest q n h m = elim (cases_eq j q) [
            | inl z ↦ (let a = behind_past k i q x n h in let b = ap (ends k) z in omega arith)
            | inr z ↦ (
                let f = from_last (same_line x) 0 xs q h in
                let is = f.is in
                let at : f.at ≡ q = omega arith in
                let stands = ap (slice_get xs) (sym at) ∙ f.stands in
                let a = behind_past k i q x n h in
                let b = inside k q f.it stands j y d (same_both x f.it y f.passes s) (omega arith) in
                let c = ended k q f.it stands in
                omega arith)
          ]

          by : (o : Option ℕ) → last_where (same_line x) 0 (take i xs) ≡ o → ends k j ≤ start (suc k) i x
          by (Some q) h = let w = is_behind i x q h in let a = behind_last (suc k) i q x h in
              let b = before q w.less w.it w.stands j y d (same_both x w.it y w.same s) in let c = ended (suc k) q w.it w.stands in omega arith
          by None h = let r = last_there (same_line x) 0 xs j y d s in latest r.0 h r.1 r.2
