-- The table of numbers gives each copy the number of its buffer.
use Rattle.std.proofs.Common.{
  ◌≡◌,
  ℕ,
  zero,
  suc,
  ◌+◌,
  ◌*◌,
  ◌/◌,
  ◌%◌,
  ◌<◌,
  ◌≤◌,
  ◌⊎◌,
  Bool,
  true,
  false,
  ◌&&◌,
  not,
  cond,
  nat_eq,
  List,
  [],
  ◌∷◌,
  length,
  map,
  Some,
  refl,
  sym,
  ap,
  inl,
  inr,
  arith,
  ◌∙◌,
  eq-eqb,
}
use Rattle.std.specs.Prelude.{slice_get, slice_index_or, nat_lt, nat_le}
use Rattle.std.specs.List.{position_or_len}
use Rattle.std.specs.Cmp.Derive.{both_true}
use Rattle.std.proofs.lemmas.Bool.{and_parts, eqb-true, ltb-true, cases_Bool, cases_lt, lt-ltb, le-leb}
use Rattle.std.proofs.lemmas.List.{get_or_past}
use Rattle.std.proofs.lemmas.Nat.{mul-add-lt, div-mul-add, mod-mul-add}
use Rattle.sequence_build_laws.specs.Acts.{Copy, same_copy}
use Rattle.sequence_build_laws.proofs.Copies.{copy_is, same_bool}
use Rattle.sequence_build.specs.Numbers.{covers, place, number_in, IsCovered, AreCovered}

position-map : {A B : Type 0} (p : B → Bool) (f : A → B) (xs : List A) → position_or_len p (map f xs) ≡ position_or_len (λ x. p (f x)) xs
position-map p f [] = refl
position-map p f (x ∷ xs) = ap (λ (n : ℕ). cond (not (p (f x))) (1 + n) 0) (position-map p f xs)

position-same : {A : Type 0} (p q : A → Bool) (xs : List A) → ((i : ℕ) (x : A) → slice_get xs i ≡ Some x → p x ≡ q x) → position_or_len p xs ≡ position_or_len q xs
position-same p q [] h = refl
position-same p q (x ∷ xs) h = let here = h 0 x refl in let rest = position-same p q xs (λ i y e. h (suc i) y e) in λ i. cond (not (here i)) (1 + rest i) 0

-- a table that is long enough for all places says of each the number of the first, or how many they are
pub table_is : (table places : List ℕ) (size : ℕ) → length table ≡ size
    → ((k : ℕ) → k < size → slice_index_or table k 0 ≡ position_or_len (nat_eq k) places)
    → ((k : ℕ) → size ≤ k → position_or_len (nat_eq k) places ≡ length places)
    → (k : ℕ) → slice_index_or table k (length places) ≡ position_or_len (nat_eq k) places
table_is table places size many each beyond k = elim (cases_lt k size) [
  | inl low ↦ (get_either table k (length places) (omega arith) ∙ each k low)
  | inr high ↦ (get_or_past table k (length places) (omega arith) ∙ sym (beyond k (omega arith)))
]
  where
    get_either : (xs : List ℕ) (i d : ℕ) → i < length xs → slice_index_or xs i d ≡ slice_index_or xs i 0
    get_either [] i d h = absurd (omega arith)
    get_either (x ∷ xs) zero d h = refl
    get_either (x ∷ xs) (suc i) d h = get_either xs i d (omega arith)

module _ (operations : ℕ) (few : operations ≤ 2048) where
  is_covered : (c : Copy) → IsCovered operations c → covers operations c ≡ true
  is_covered c h =
      both_true (le-leb operations 2048 few) (both_true (lt-ltb c.source.vertex operations h.vertex) (both_true (lt-ltb c.source.port 64 h.port) (lt-ltb c.operator 16 h.operator)))

  abbrev output : Copy → ℕ
  output c = c.source.port * operations + c.source.vertex

  abbrev spot : Copy → ℕ
  spot c = output c * 16 + c.operator

  place_is : (c : Copy) → IsCovered operations c → place operations c ≡ spot c
  place_is c h = ap (λ (b : Bool). cond b (spot c) 2097152) (is_covered c h)

  place_low : (c : Copy) → IsCovered operations c → place operations c < 2097152
  place_low c h =
      let e = place_is c h in let o = h.operator in
      let low : output c < operations * 64 = mul-add-lt c.source.port operations c.source.vertex 64 h.port h.vertex in omega arith

  -- a copy whose place is that of a covered one has a place of its own
  covered_too : (c : Copy) → place operations c < 2097152 → IsCovered operations c
  covered_too c h = by (cases_Bool (covers operations c))
    where
      by : (covers operations c ≡ true) ⊎ (covers operations c ≡ false) → IsCovered operations c
      by (inl t) =
          let few_parts = and_parts (nat_le operations 2048) (nat_lt c.source.vertex operations && (nat_lt c.source.port 64 && nat_lt c.operator 16)) t in
          let parts = and_parts (nat_lt c.source.vertex operations) (nat_lt c.source.port 64 && nat_lt c.operator 16) few_parts.1 in
          let both = and_parts (nat_lt c.source.port 64) (nat_lt c.operator 16) parts.1 in
          record { vertex = ltb-true c.source.vertex operations parts.0; port = ltb-true c.source.port 64 both.0; operator = ltb-true c.operator 16 both.1 }
      by (inr f) = let e : place operations c ≡ 2097152 = ap (λ (b : Bool). cond b (spot c) 2097152) f in absurd (omega arith)

  same_row : (a b o r : ℕ) → o < 16 → r < 16 → a * 16 + o ≡ b * 16 + r → (a ≡ b) × (o ≡ r)
  same_row a b o r h k e = (omega arith, omega arith)

  same_output : (p q v w : ℕ) → v < operations → w < operations → p * operations + v ≡ q * operations + w → (p ≡ q) × (v ≡ w)
  same_output p q v w h k e = (
    sym (div-mul-add p operations v h) ∙ ap (λ n. n / operations) e ∙ div-mul-add q operations w k,
    sym (mod-mul-add p operations v h) ∙ ap (λ n. n % operations) e ∙ mod-mul-add q operations w k,
  )

  same_place : (c d : Copy) → IsCovered operations d → nat_eq (place operations c) (place operations d) ≡ same_copy c d
  same_place c d k = same_bool (nat_eq (place operations c) (place operations d)) (same_copy c d)
      (λ t. let same = eqb-true (place operations c) (place operations d) t in
      let low = place_low d k in
      let h = covered_too c (omega arith) in
      let e : spot c ≡ spot d = sym (place_is c h) ∙ same ∙ place_is d k in
      let row = same_row (output c) (output d) c.operator d.operator h.operator k.operator e in
      let z = same_output c.source.port d.source.port c.source.vertex d.source.vertex h.vertex k.vertex row.0 in
      both_true (both_true (eq-eqb c.operator d.operator row.1) (eq-eqb c.source.vertex d.source.vertex z.1)) (eq-eqb c.source.port d.source.port z.0))
      (λ t. eq-eqb (place operations c) (place operations d) (ap (place operations) (copy_is c d t)))

  pub numbers_are : (copies : List Copy) (table : List ℕ) → AreCovered operations copies
      → ((k : ℕ) → slice_index_or table k (length copies) ≡ position_or_len (nat_eq k) (map (place operations) copies))
      → (c : Copy) → number_in operations table (length copies) c ≡ position_or_len (same_copy c) copies
  numbers_are copies table covered each c =
      each (place operations c) ∙ position-map (nat_eq (place operations c)) (place operations) copies
      ∙ position-same (λ d. nat_eq (place operations c) (place operations d)) (same_copy c) copies (λ i d e. same_place c d (covered i d e))
